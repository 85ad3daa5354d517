-- What a state that memory shows says of an access.
use Rattle.vm_types.specs.declared.mode.Levels as Levels
use Rattle.spaces.proofs.Names.{ℕ, ◌≡◌, ◌≤◌, ◌<◌, ◌*◌, inl, inr, List, Option, Some, None, refl, sym, ap, ◌∙◌, arith, cases_lt, none-some, Ghosts, AnyStore, IsReadySized, ReadsStore, directory_in, directory_of, Core, picture_of, ShowsPages, verdict_of}
use Rattle.spaces.proofs.Names.{IsHomeDurable, CoreShows, Access, Width, Files, State, judged, verdict, View, byte_count}
use Rattle.spaces.proofs.Pages.{views_seen}
use Rattle.sized_stores.specs.{Reading.{left_page}, Store.{disk_of, durable_in, durable_files_of, length_of, shortest_in, shortest_of, with_length, IsSizeOf}, declared.sizes.Size.{Size}}
use Rattle.{std.specs.Prelude.{slice_get}, vm_types.specs.{Files.{bytes_inside}, declared.file.FileInfo.{FileInfo}}}

pub judged_is : {M : Type 0} {m : Levels.Ghosts M} → {D E : Type 0} (old : Core D E M m) (s : State) → ShowsPages (picture_of old) s → (pid addr : ℕ) (width : Width) (kind : Access)
    → judged s pid addr width kind ≡ verdict_of (picture_of old) pid addr width kind
judged_is old s shows pid addr width kind =
    let files : s.files ≡ (picture_of old).files = λ t f. shows.files f t in
    ap (λ (f : Files). verdict f (s.views pid) addr (byte_count width) kind) files
    ∙ ap (λ (v : ℕ → Option View). verdict (picture_of old).files v addr (byte_count width) kind) (views_seen (picture_of old) s shows pid)

-- how short a file has been is no more than what it has durably
short_of : (o : Option FileInfo) (size : Option Size) (info : FileInfo) → o ≡ Some info → ((z : Size) → size ≡ Some z → z.shortest ≤ info.length) → shortest_of o size ≤ info.length
short_of o None info is each = let same : length_of o ≡ info.length = ap length_of is in omega (arith, same)
short_of o (Some z) info is each = each z refl

-- a file that is there is there durably
pub there_of : (o : Option FileInfo) (size : Option Size) (now : FileInfo) → with_length o size ≡ Some now → (info : FileInfo) × (o ≡ Some info)
there_of None size now e = absurd (none-some now e)
there_of (Some info) size now e = (info, refl)

-- A page that is cut where its file has been so short is the same by both that are the same inside the file as it is durably: it has no byte past its end.
cut_alike : (end was k : ℕ) (a b : List ℕ) → end ≤ was → (4096 * k < was → a ≡ b) → left_page end k a ≡ left_page end k b
cut_alike end was k a b short same = elim (cases_lt (4096 * k) was) [
  | inl below ↦ ap (left_page end k) (same below)
  | inr past ↦ (let none : bytes_inside end k ≡ 0 = omega (arith, short, past) in rw none refl)
]

-- each file has the length that it may have
abbrev pub AreSizes : {D : Type 0} → AnyStore D → Type 0
AreSizes store = (f : ℕ) (info : FileInfo) (size : Size) → durable_files_of store f ≡ Some info → slice_get store.sizes.items f ≡ Some size → IsSizeOf info size

-- what the store's device holds is one of the images that a stop may leave
pub homes_now : {M : Type 0} {m : Levels.Ghosts M} → {D E : Type 0} (g : Ghosts D) (old : Core D E M m) (s : State) → CoreShows g old s → AreSizes old.store → g.keeps_model (disk_of old.store)
    → IsHomeDurable g old.store (picture_of old) s
homes_now g old s shows each keeps p inside =
    let now = shows.stands keeps (g.content (disk_of old.store)) (record { kept = λ k. inr refl }) in
    let size = slice_get old.store.sizes.items p.file in
    let there = there_of (durable_files_of old.store p.file) size inside.0 inside.1 in
    let short = short_of (durable_files_of old.store p.file) size there.0 there.1 (λ z is. (each p.file there.0 z there.1 is).was) in
    cut_alike (shortest_in (directory_of old.store) p.file) there.0.length p.page _ _ short (λ below. now.same p.file p.page (there.0, shows.files p.file ∙ there.1, below))
    ∙ ap (λ end. left_page end p.page (s.durable.pages p.file p.page)) (sym (shows.shortest p.file))

pub homes : {M : Type 0} {m : Levels.Ghosts M} → {D E : Type 0} (g : Ghosts D) (old new : Core D E M m) (s : State) → CoreShows g old s → IsReadySized g new.store → ReadsStore g old.store new.store
    → g.keeps_model (disk_of new.store) → IsHomeDurable g old.store (picture_of old) s
homes g old new s shows ready reads keeps =
    let each : AreSizes old.store = λ f info size there is.
    ready.each f info size (ap (λ k. durable_in (directory_in k old.store.sizes.items) f) reads.same ∙ there) (ap (λ sizes. slice_get sizes f) reads.sizes ∙ is) in
    homes_now g old s shows each (reads.kept keeps)

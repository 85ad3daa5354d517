-- A file written out page by page.
use Rattle.std.proofs.Common.{◌≡◌, ℕ, zero, suc, ◌+◌, ◌-◌, ◌*◌, ◌<◌, ◌≤◌, List, ◌++◌, length, take, drop, min, Option, Some, None, refl, sym, ap, subst, ◌∙◌, inl, inr, ⊎_elim, arith, append_assoc, length-append, length-take}
use Rattle.std.proofs.{KnownBytes.{Appends-trans}, Math.Seq.{take-add}, lemmas.{Bool.{cases_lt}, List.{take_all, take-take, drop-take, take-append-le, drop-append-le, drop_at, length-drop}, Option.{same_Some, none-some}}}
use Rattle.{std.specs.{Io.KnownBytes.{Appends}, Option.{option_map}}, disk_model.{proofs.{Moments.{goes_on}, Pieces.{joined-none, joined-same, joined-more}}, specs.{Moments.{Touches, Nothing, LeavesNow, LeavesOnly}, Sectors.{joined}}}}
use Rattle.{disk_model.specs.{Stop.{Image}, declared.sector_disk.SectorDisk.{Ghosts}}, vm_types.specs.declared.file.FileInfo.{FileInfo}, file_store.{proofs.Pieces.{length-trimmed}, specs.Layout.{pages_of_length, bytes_inside}}}
use Rattle.file_store.specs.{Standing.{bytes_of_pages, directory_entry, standing, page_standing, standing_page as page_of_kind}, Store.{entry_of}, declared.directory.Entry.{Entry}}
use Rattle.{directories.specs.declared.entry.Entry.{Entry as PoolEntry}, pool_journal.specs.Pools.{pool_standing}}
use Rattle.pool_store.{proofs.{Entries.{entry_stood}, Homes.{entry_there, page_home}}, specs.{Files.{page_at as page_at_home, page_of}, Store.{entry_of as pool_entry_of, home_by}}}
use Rattle.stores.{proofs.{KindOpens.{in_kind}, PoolOpens.{by_head}, Said.{files_said}, Says.{head_of}}, specs.{Images.{ImageSays, StandsFor, standing_page, standing_file}, Opened.{OpensFrom}, Store.{IsReadyStore, disk_of, files_of}}}
use Rattle.stores.specs.declared.{faults.OpenFault.{OpenFault}, store.{Store.{Store}, Store.TheVariants.{Journal, Pool}}}
use Rattle.{runner.specs.Bytes.{WritesBeginning}, programs.specs.declared.showing.ShowFault.{ShowFault, TheVariants.{Open as OpenFailed}}}

-- why an image could not be opened, or another fault where it was
opened_with : OpenFault → ShowFault → OpenFault
opened_with other (OpenFailed fault) = fault
opened_with other _ = other

pub same_open : (fault other : OpenFault) → OpenFailed fault ≡ OpenFailed other → fault ≡ other
unfolding opened_with
same_open fault other is = ap (opened_with fault) is

-- so many pages of 4,096 bytes each
pub record AreWhole (count : ℕ) (pages : ℕ → List ℕ) : Type 0 where
  pub each : (k : ℕ) → k < count → length (pages k) ≡ 4096

length-joined : (count : ℕ) (pages : ℕ → List ℕ) → AreWhole count pages → (n : ℕ) → n ≤ count → length (joined pages n) ≡ 4096 * n
length-joined count pages whole zero few = ap length (joined-none pages)
length-joined count pages whole (suc n) few =
    let e : n + 1 ≡ suc n = omega arith in
    ap (λ m. length (joined pages m)) (sym e) ∙ ap length (joined-more pages n)
    ∙ (let l = length-joined count pages whole n (omega (arith, few)) in let one = whole.each n (omega (arith, few)) in simp length-append (omega (arith, l, one)))

-- page k stands behind k others
page_at : (count : ℕ) (pages : ℕ → List ℕ) → AreWhole count pages → (n k : ℕ) → n ≤ count → k < n → take 4096 (drop (4096 * k) (joined pages n)) ≡ pages k
page_at count pages whole zero k few lt = absurd (omega (arith, lt))
page_at count pages whole (suc n) k few lt =
    let e : n + 1 ≡ suc n = omega arith in
    let size = length-joined count pages whole n (omega (arith, few)) in
    let one = whole.each n (omega (arith, few)) in
    ap (λ m. take 4096 (drop (4096 * k) (joined pages m))) (sym e)
    ∙ ap (λ (s : List ℕ). take 4096 (drop (4096 * k) s)) (joined-more pages n)
    ∙ ⊎_elim
    (λ below.
    ap (take 4096) (drop-append-le (4096 * k) (joined pages n) (pages n) (omega (arith, below, size)))
    ∙ take-append-le 4096 (drop (4096 * k) (joined pages n)) (pages n) (let l = length-drop (4096 * k) (joined pages n) in omega (arith, below, size, l))
    ∙ page_at count pages whole n k (omega (arith, few)) below)
    (λ past.
    let is : k ≡ n = omega (arith, past, lt) in
    ap (take 4096) (drop_at (joined pages n) (pages n) (4096 * k) (omega (arith, is, size)))
    ∙ take_all 4096 (pages n) (omega (arith, one)) ∙ ap pages (sym is))
    (cases_lt k n)

-- the bytes of page k that lie inside the file follow those of the pages before
next_bytes : (pages : ℕ → List ℕ) (info : FileInfo) → AreWhole (pages_of_length info.length) pages → (k : ℕ) → 4096 * k < info.length
    → take (4096 * (k + 1)) (bytes_of_pages pages info) ≡ take (4096 * k) (bytes_of_pages pages info) ++ take (min 4096 (info.length - 4096 * k)) (pages k)
next_bytes pages info whole k inside =
    let bytes = bytes_of_pages pages info in
    let all = joined pages (pages_of_length info.length) in
    let rest = info.length - 4096 * k in
    let split : 4096 * (k + 1) ≡ 4096 * k + 4096 = omega arith in
    let cut : info.length ≡ 4096 * k + rest = omega (arith, inside) in
    let below : k < pages_of_length info.length = omega (arith, inside) in
    ap (λ (m : ℕ). take m bytes) split ∙ take-add (4096 * k) 4096 bytes
    ∙ ap (λ (s : List ℕ). take (4096 * k) bytes ++ s)
    (ap (λ (m : ℕ). take 4096 (drop (4096 * k) (take m all))) cut
    ∙ ap (take 4096) (drop-take (4096 * k) rest all)
    ∙ first_of rest (drop (4096 * k) all)
    ∙ ap (take (min 4096 rest)) (page_at (pages_of_length info.length) pages whole (pages_of_length info.length) k (omega arith) below))
  where
    first_of : (m : ℕ) (s : List ℕ) → take 4096 (take m s) ≡ take (min 4096 m) (take 4096 s)
    first_of m s = ⊎_elim
        (λ few. let le : m ≤ 4096 = omega (arith, few) in let is : min 4096 m ≡ m = omega (arith, few) in
        take_all 4096 (take m s) (simp length-take (omega (arith, few))) ∙ sym (take-take m 4096 s le) ∙ ap (λ (n : ℕ). take n (take 4096 s)) (sym is))
        (λ many. let is : min 4096 m ≡ 4096 = omega (arith, many) in
        take-take 4096 m s many ∙ sym (take-take 4096 4096 s (omega arith)) ∙ ap (λ (n : ℕ). take n (take 4096 s)) (sym is))
        (cases_lt m 4096)

-- all pages are all bytes
all_bytes : (pages : ℕ → List ℕ) (info : FileInfo) (k : ℕ) → pages_of_length info.length ≤ k → take (4096 * k) (bytes_of_pages pages info) ≡ bytes_of_pages pages info
all_bytes pages info k past = take_all (4096 * k) (bytes_of_pages pages info) (simp length-take (omega (arith, past)))

pub has_entry : (entry : Option Entry) (info : FileInfo) → option_map (λ e. e.info) entry ≡ Some info → (e : Entry) × (entry ≡ Some e)
has_entry None info is = absurd (none-some info is)
has_entry (Some e) info is = (e, refl)

whole_entry : (image : Image) (f count : ℕ) (e : Entry) → directory_entry image f ≡ Some e → AreWhole count (page_of_kind image f)
whole_entry image f count e is = record {
  each = λ k below. ap (λ (o : Option Entry). length (page_standing image k o)) is
      ∙ length-trimmed (bytes_inside e.info.length k) (joined (standing image (e.first + k)) 8) (omega arith);
}

-- a writer that took these bytes and then a beginning of the next ones
pub begins_more : (old mid new : Option (List ℕ)) (bytes front piece rest : List ℕ) → bytes ≡ front ++ piece ++ rest
    → Appends old mid front → WritesBeginning mid new piece → WritesBeginning old new bytes
begins_more old mid new bytes front piece rest is first more =
    let begun = more.0 in
    let left = more.2.0 in
    let e : bytes ≡ (front ++ begun) ++ (left ++ rest) = is ∙ ap (λ (s : List ℕ). front ++ s ++ rest) more.2.1 ∙ again begun left in
    (front ++ begun, Appends-trans old mid new front begun first more.1, (left ++ rest, e))
  where
    again : (b l : List ℕ) → front ++ (b ++ l) ++ rest ≡ (front ++ b) ++ (l ++ rest)
    again b l = ap (λ (s : List ℕ). s ++ rest) (sym (append_assoc front b l)) ∙ append_assoc (front ++ b) l rest

module _ {D : Type 0} (g : Ghosts D) where
  -- what was only read holds what it did
  pub same_content : (old new : D) → Touches g Nothing old new → g.content new ≡ g.content old
  same_content old new run = λ t k. (⊎_elim (λ (none : ⊥). absurd none) (λ (e : g.content new k ≡ g.content old k). e) (run.content k)) t

  -- the pages of a file of an open store are whole
  whole_pages : (store : Store D) (f : ℕ) (info : FileInfo) → IsReadyStore g store → g.keeps_model (disk_of store) → files_of store f ≡ Some info
      → AreWhole (pages_of_length info.length) (standing_page (g.sector_count (disk_of store)) (g.content (disk_of store)) f)
  whole_pages (Journal store) f info ready keeps file =
      let image = g.content store.disk in
      let entry = has_entry (entry_of store.directory f) info file in
      in_kind (λ said. AreWhole (pages_of_length info.length) (said.page f)) (g.sector_count store.disk) image (ready.1 keeps)
      (whole_entry image f (pages_of_length info.length) entry.0 (sym ((ready.0.at_rest keeps).directory f) ∙ entry.1))
  whole_pages (Pool store) f info ready keeps file =
      let m = store.journal.sizes.blocks in
      let d = store.directory.pages in
      let n = store.journal.sizes.homes in
      let image = g.content store.disk in
      let stands : ℕ → ℕ → List ℕ = pool_standing m n image in
      let entry = entry_there (pool_entry_of store.directory f) info file in
      by_head m d n (g.sector_count store.disk) ready.pool.homes image (head_of g store ready keeps) (λ (said : ImageSays). AreWhole (pages_of_length info.length) (said.page f)) (record {
        each = λ k below.
            let home = page_home n store.directory (record { file = f; page = k }) ready.is_directory (info, file, omega (arith, below)) in
            ap (λ (o : Option PoolEntry). length (page_of stands k o)) (entry_stood d stands store.directory.entries.items ready.is_directory.size (ready.at_rest keeps).said f ∙ entry.1)
            ∙ ap (λ (o : Option ℕ). length (page_at_home stands (bytes_inside entry.0.length k) o)) (ap (λ o. home_by o k) (sym entry.1) ∙ home.1)
            ∙ length-trimmed (bytes_inside entry.0.length k) (joined (stands home.0) 8) (omega arith);
      })

  -- and its bytes are those of its pages
  pub standing_bytes : (store : Store D) (f : ℕ) (info : FileInfo) (bytes : List ℕ) → IsReadyStore g store → g.keeps_model (disk_of store) → files_of store f ≡ Some info
      → standing_file (g.sector_count (disk_of store)) (g.content (disk_of store)) f ≡ Some bytes
      → bytes ≡ bytes_of_pages (standing_page (g.sector_count (disk_of store)) (g.content (disk_of store)) f) info
  standing_bytes store f info bytes ready keeps file is =
      let pages = standing_page (g.sector_count (disk_of store)) (g.content (disk_of store)) f in
      same_Some bytes (bytes_of_pages pages info) (sym is ∙ ap (option_map (bytes_of_pages pages)) (sym (files_said g store ready keeps f) ∙ file))

  -- how the bytes of a page continue those of the pages before
  pub next_piece : (store : Store D) (mid : D) (f k length : ℕ) (info : FileInfo) (bytes : List ℕ) → IsReadyStore g store → g.keeps_model (disk_of store) → files_of store f ≡ Some info → info.length ≡ length
      → standing_file (g.sector_count (disk_of store)) (g.content (disk_of store)) f ≡ Some bytes → g.sector_count mid ≡ g.sector_count (disk_of store) → Touches g Nothing (disk_of store) mid → 4096 * k < length
      → take (4096 * (k + 1)) bytes ≡ take (4096 * k) bytes ++ take (min 4096 (length - 4096 * k)) (standing_page (g.sector_count mid) (g.content mid) f k)
  next_piece store mid f k length info bytes ready keeps file size is sectors run inside =
      let pages = standing_page (g.sector_count (disk_of store)) (g.content (disk_of store)) f in
      let known = standing_bytes store f info bytes ready keeps file is in
      let moved : g.content (disk_of store) ≡ g.content mid = sym (same_content (disk_of store) mid run) in
      ap (take (4096 * (k + 1))) known ∙ next_bytes pages info (whole_pages store f info ready keeps file) k (omega (arith, size, inside))
      ∙ ap (λ (s : List ℕ). take (4096 * k) s ++ take (min 4096 (info.length - 4096 * k)) (pages k)) (sym known)
      ∙ ap (λ (image : Image). take (4096 * k) bytes ++ take (min 4096 (info.length - 4096 * k)) (standing_page (g.sector_count (disk_of store)) image f k)) moved
      ∙ ap (λ (n : ℕ). take (4096 * k) bytes ++ take (min 4096 (info.length - 4096 * k)) (standing_page n (g.content mid) f k)) (sym sectors)
      ∙ ap (λ (n : ℕ). take (4096 * k) bytes ++ take (min 4096 (n - 4096 * k)) (standing_page (g.sector_count mid) (g.content mid) f k)) size

  -- all pages were written
  pub all_pages : (store : Store D) (f k : ℕ) (info : FileInfo) (bytes : List ℕ) → IsReadyStore g store → g.keeps_model (disk_of store) → files_of store f ≡ Some info
      → standing_file (g.sector_count (disk_of store)) (g.content (disk_of store)) f ≡ Some bytes → pages_of_length info.length ≤ k → take (4096 * k) bytes ≡ bytes
  all_pages store f k info bytes ready keeps file is past =
      let known = standing_bytes store f info bytes ready keeps file is in
      ap (take (4096 * k)) known ∙ all_bytes (standing_page (g.sector_count (disk_of store)) (g.content (disk_of store)) f) info k past ∙ sym known

  -- An opened store has the files that its device stood for,
  module _ (old : D) (store : Store D) (opened : OpensFrom g old store) (keeps : g.keeps_model (disk_of store)) (files : ℕ → Option FileInfo) (pages : ℕ → ℕ → List ℕ)
      (stood : StandsFor (g.sector_count old) files pages (g.content old)) where
    stands : StandsFor (g.sector_count (disk_of store)) files pages (g.content (disk_of store))
    stands = subst (λ n. StandsFor n files pages (g.content (disk_of store))) (sym opened.size)
        (opened.now keeps (g.content (disk_of store)) (record { kept = λ k. inr refl }) files pages stood)

    pub opened_info : (f : ℕ) → files_of store f ≡ files f
    opened_info f = files_said g store opened.ready keeps f ∙ stands.facts f

    -- and what it stood for is what is read.
    pub opened_bytes : (f : ℕ) (info : FileInfo) → files_of store f ≡ Some info
        → (files f ≡ Some info) × (standing_file (g.sector_count (disk_of store)) (g.content (disk_of store)) f ≡ Some (bytes_of_pages (pages f) info))
    opened_bytes f info file =
        let now = standing_page (g.sector_count (disk_of store)) (g.content (disk_of store)) f in
        let there : files f ≡ Some info = sym (opened_info f) ∙ file in
        let each : (k : ℕ) → k < pages_of_length info.length → now k ≡ pages f k = λ k lt. stands.same f k (info, there, omega (arith, lt)) in (
          there,
          ap (option_map (bytes_of_pages now)) (stands.facts f ∙ there) ∙ ap (λ (s : List ℕ). Some (take info.length s)) (joined-same (pages_of_length info.length) now (pages f) each),
        )

  -- what is only read goes on standing for what it did
  pub still_stands : (old mid new : D) (P : Image → Type 0) → LeavesOnly g old mid P → LeavesNow g mid P → Touches g Nothing mid new → LeavesOnly g old new P
  still_stands old mid new P opened now run =
      goes_on g Nothing old mid new P opened run (λ c may. now c (record { kept = λ k. ⊎_elim (λ u. ⊎_elim (λ o. inl o) (λ none. absurd none) u) (λ e. inr e) (may.kept k) }))

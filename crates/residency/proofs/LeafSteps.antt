-- Entries over one frame changed: what stays, and where such entries stand.
use Rattle.vm_types.specs.declared.mode.Levels as Levels
use Rattle.residency.proofs.{Bits.{some_framed, resident_of, changed_once, seat_changed, for_changed, valid_zero, leaf_accessed}, Entries.{entry-of}, Granting.{behind_page, entry_for-same}, Moves.{behind_kept}, Names.{user_end, top_level, PageKey}}
use Rattle.residency.proofs.Names.{Attr, Backing, File, Object, backing_after, stands_on, ◌≡◌, ℕ, inl, inr, ◌⊎◌, ◌-◌, ◌<◌, ◌≤◌, true, false, List, [], Option, Some, None, get_or, refl, sym, ap, ◌∙◌, subst, arith, rules, ne_eqb, cases_eq}
use Rattle.residency.proofs.Names.{cases_Bool, false≢true, same_Some, IsSome, IfNone, Free, Zero, Table, Private, Cache, FrameTable, role_of, is_valid, is_dirty, is_pointer, frame_of, entry_at, index_of, SetsEntry, IsPage, IsTable}
use Rattle.residency.proofs.{Names.{IsForest, missing_of, last_table, way_forth, last_is, page_entry-missing, ends, index_of-lt, Run, attr_at, StandsOn, Home, Frame, NamesFrame, is_number, of_number}, Setting.{fit_set, set_views}}
use Rattle.residency.{proofs.{Start.{entry-dead, cases_some}, TableSteps.{sets_page, rooted_set}, Ways.{begins_table, each_page}}, specs.{LeafChanges.{ChangesEntries}, Leaves.{concerns, IsOver, IsChanged, ChangesLeaves, KeepsAllButFrames}}}
use Rattle.residency.specs.{Leaves.{AreKinds, IsPageOver, key_after}, Parts.{IsResident, IsBehind, IsFit, AsRoot, OnWay, nowhere}, Picture.{Picture, picture_of, attr_where, entry}, Seats.{InFrame, seat, is_private}, Steps.{SameBeside}}
use Rattle.{residency.specs.{Steps.{SetsPage}, declared.{kernel.Core.{Core}, leaves.Change.{Change, TheVariants.{Forget, ClearAccessed, ClearDirty}}}}, std.specs.Prelude.{is_some}}
use Rattle.vm_types.specs.declared.region.Backing.TheVariants as Backings
pub use Rattle.residency.proofs.Moves.{cases_attr}

-- where an entry was set, each way ends where it ended
pub last_set : (mode : ℕ) (old new : FrameTable) (root page number : ℕ) → IsForest old → SetsEntry old new (top_level mode) root page number → (r p : ℕ) → IsTable old r → last_table new p (top_level mode) r ≡ last_table old p (top_level mode) r
last_set mode old new root page number forest sets r p table =
    let end = ends old (top_level mode) r p forest table in
    let l = last_table old p (top_level mode) r in
    let w = way_forth old new (λ a i b. (sets.pointers a i b).0) (top_level mode) r p (top_level mode - l.0) l.1 end.way in
    let there : IsTable new l.1 = record { inside = (let e = sets.kept.frames in rw e end.table.inside); role = ap (λ rs. get_or rs l.1 Free) sets.kept.roles ∙ end.table.role } in
    last_is new (top_level mode) r p l.0 l.1 end.least w (λ h. elim (cases_Bool (is_pointer (entry_at new l.1 (index_of p l.0)))) [
      | inl t ↦ (
          let was = (sets.pointers l.1 (index_of p l.0) (frame_of (entry_at new l.1 (index_of p l.0)))).1 (record { table = there; index = index_of-lt p l.0; pointer = t; target = refl }) in
          absurd (false≢true (sym (end.stops h) ∙ was.pointer)))
      | inr f ↦ f
    ])

-- where an entry over a frame stands
module _ {mode : ℕ} (c : Picture mode) (change : Change) (n pid k : ℕ) (fit : IsFit c) (h : IsPage (top_level mode) k) (over : IsOver c change n pid k) where
  pub over_resident : (a : Attr) × (c.at pid k ≡ Some a) × IsResident c a (entry c pid k)
  over_resident = let f = some_framed change (entry c pid k) over.concerned in resident_of c (c.at pid k) (entry c pid k) (fit.granting.entries pid k h) f.0 f.1

  pub over_user : (16 ≤ k) × (k < user_end mode)
  over_user = let P : Option Attr → Type 0 = λ x. IsSome x in (fit.granting.user pid).user_pages k (subst P (sym over_resident.1) refl)

  pub over_common : role_of c.frames n ≡ Cache → is_private (entry c pid k) ≡ false
  over_common cache = elim (cases_Bool (is_private (entry c pid k))) [
    | inl own ↦ (
        let named = fit.counted.1.named pid k (InFrame (frame_of (entry c pid k))) h (rw own refl) in
        let bad : Private ≡ Cache = sym named ∙ ap (role_of c.frames) over.frame ∙ cache in (cc))
    | inr common ↦ common
  ]

  pub over_backed : (p : PageKey) (a : Attr) → 0 < n → c.place p ≡ Frame (record { 0 = n }) → c.at pid k ≡ Some a → stands_on a.backing ≡ Some p
  over_backed p a above at is =
      let res = over_resident in
      let P : ℕ → Type 0 = λ x. IsBehind c res.0.backing x in
      let there = behind_page c res.0.backing n above (subst P over.frame (res.2.behind (over_common (fit.places.cached p n at)))) in
      ap (λ (x : Attr). stands_on x.backing) (same_Some a res.0 (sym is ∙ res.1)) ∙ there.1
      ∙ ap (λ (x : PageKey). Some x) (fit.places.apart there.0 p (there.2 ∙ sym at) (λ home. (let bad : Home ≡ Frame (record { 0 = n }) = sym home ∙ there.2 in (cc))))

  pub over_own : 0 < n → role_of c.frames n ≡ Private → c.page_of n ≡ k
  over_own above role = elim (cases_Bool (is_private (entry c pid k))) [
    | inl own ↦ fit.counted.1.noted pid k (InFrame n) h (rw own (ap (λ j. Some (InFrame j)) over.frame))
    | inr common ↦ (
        let res = over_resident in
        let P : ℕ → Type 0 = λ x. IsBehind c res.0.backing x in
        let there = behind_page c res.0.backing n above (subst P over.frame (res.2.behind common)) in
        let bad : Private ≡ Cache = sym role ∙ fit.places.cached there.0 n there.2 in (cc))
  ]

-- no table is missing on the way to it
pub over_whole : {mode : ℕ} (c : Picture mode) (change : Change) (n pid r k : ℕ) → c.root pid ≡ Some r → IsOver c change n pid k → missing_of c.frames (top_level mode) r k ≡ 0
over_whole {mode} c change n pid r k root over = elim (cases_eq (missing_of c.frames (top_level mode) r k) 0) [
  | inl e ↦ e
  | inr some ↦ absurd ((some_framed change (entry c pid k) over.concerned).0 (entry-of c pid r k root ∙ page_entry-missing c.frames (top_level mode) r k some))
]

pub over_lives : {mode : ℕ} (c : Picture mode) (change : Change) (n pid k : ℕ) → c.root pid ≡ None → IsOver c change n pid k → ⊥
over_lives c change n pid k dead over = (some_framed change (entry c pid k) over.concerned).0 (entry-dead c pid k dead)

pub over_number : {mode : ℕ} (c : Picture mode) (change : Change) (n pid k : ℕ) → IsFit c → IsOver c change n pid k → (1 ≤ pid) × (pid ≤ 64)
over_number c change n pid k fit over = elim (cases_some (c.root pid)) [
  | inl dead ↦ absurd (over_lives c change n pid k dead over)
  | inr lives ↦ fit.rooted.numbers pid lives.0 lives.1
]

pub if_none : {T : Type 0} (o : Option T) (P : Type 0) → IfNone o P → is_some o ≡ false → P
if_none None P is none = is
if_none (Some x) P is none = absurd (false≢true (sym none))

number_after : (b : Backing) (n : ℕ) (p : PageKey) → stands_on (backing_after b n) ≡ Some p → (q : PageKey) × (stands_on b ≡ Some q) × (key_after q n ≡ p)
number_after Backings.Anon n p is = cc
number_after (Backings.Private q) n p is = (File q, refl, same_Some (key_after (File q) n) p is)
number_after (Backings.Shared q) n p is = (File q, refl, same_Some (key_after (File q) n) p is)
number_after (Backings.Common q) n p is = (Object q, refl, same_Some (key_after (Object q) n) p is)

-- how much further on the run's page over that page stands than the first
pub over_after : (run : Run) (first p : PageKey) (k : ℕ) → stands_on run.attr.backing ≡ Some first → IsPageOver run p k → key_after first (k - run.first) ≡ p
over_after run first p k is over = let x = number_after run.attr.backing (k - run.first) p over.is in ap (λ (q : PageKey). key_after q (k - run.first)) (same_Some first x.0 (sym is ∙ x.1)) ∙ x.2

-- a page of a process with an entry over the frame of a page of a file or an object stands on that
pub over_stands : {mode : ℕ} (c : Picture mode) (change : Change) (n pid k : ℕ) (runs : List Run) (p : PageKey) → IsFit c → 0 < n → c.place p ≡ Frame (record { 0 = n }) → ((j : ℕ) → c.at pid j ≡ attr_at runs j)
    → IsPage (top_level mode) k → IsOver c change n pid k → StandsOn (attr_at runs) p k
over_stands c change n pid k runs p fit above placed at h over =
    let res = over_resident c change n pid k fit h over in
    record { attr = res.0; mapped = sym (at k) ∙ res.1; on = over_backed c change n pid k fit h over p res.0 above placed res.1 }

pub map_of : {M : Type 0} {m : Levels.Ghosts M} → {D E : Type 0} (c : Core D E M m) (pid root : ℕ) (runs : List Run) → (picture_of c).root pid ≡ Some root → get_or c.regions.items pid [] ≡ runs
    → (page : ℕ) → (picture_of c).at pid page ≡ attr_at runs page
map_of c pid root runs live same page = ap (λ x. attr_where x (get_or c.regions.items pid []) page) live ∙ ap (λ (rs : List Run). attr_at rs page) same

-- One entry over the frame was changed.
module _ {mode : ℕ} (old new : Picture mode) (change : Change) (n pid r page number : ℕ) (fit : IsFit old) (root : old.root pid ≡ Some r) (h : IsPage (top_level mode) page) (over : IsOver old change n pid page)
    (filed : change ≡ Forget → role_of old.frames n ≡ Cache) (changed : IsChanged change (entry old pid page) number) (sets : SetsEntry old.frames new.frames (top_level mode) r page number)
    (beside : SameBeside old new) where
  one_page : SetsPage old new pid page number
  one_page = sets_page old new 0 pid r page number fit.rooted root h sets beside

  seat_here : seat number ≡ seat (entry old pid page)
  seat_here = seat_changed change (entry old pid page) number over.concerned (λ forget. over_common old change n pid page fit h over (filed forget)) changed

  dirty_here : (ch : Change) (p : PageKey) → IsChanged ch (entry old pid page) number → concerns ch (entry old pid page) ≡ true
      → is_valid number ≡ true → is_private number ≡ false → is_dirty number ≡ true → old.place p ≡ Frame (record { 0 = frame_of number }) → old.touched p ≡ true
  dirty_here Forget p none con valid common dirty at = absurd (false≢true (sym valid_zero ∙ sym (ap is_valid none) ∙ valid))
  dirty_here ClearAccessed p ch con valid common dirty at =
      fit.dirty.dirty pid page p h (leaf_accessed (entry old pid page) con).0 (sym ch.0.private ∙ common) (sym ch.1 ∙ dirty) (at ∙ ap (λ x. Frame (record { 0 = x })) ch.0.frame)
  dirty_here ClearDirty p ch con valid common dirty at = absurd (false≢true (sym ch.2 ∙ dirty))

  fit_changed : IsFit new
  fit_changed = fit_set old new pid page number 0 one_page h
      (entry_for-same old new (old.at pid page) number (behind_kept old new beside) (λ private write one. ap (λ cs. get_or cs (frame_of number) 0) sets.kept.counts ∙ one)
      (for_changed old change (old.at pid page) (entry old pid page) number over.concerned changed (fit.granting.entries pid page h)))
      (rooted_set old new 0 r page number fit.rooted sets beside) (λ p. dirty_here change p changed over.concerned) seat_here nowhere 0 fit

  changes_one : ChangesLeaves change n old new
  changes_one = record {
    beside = beside;
    frames = sets.kept.frames;
    bytes = sets.kept.bytes;
    roles = λ m. ap (λ rs. get_or rs m Free) sets.kept.roles;
    counts = λ m. ap (λ cs. get_or cs m 0) sets.kept.counts;
    views = set_views old new pid page number 0 nowhere 0 fit one_page h seat_here;
    ends = λ q x p e. last_set mode old.frames new.frames r page number fit.rooted.forest sets x p (fit.rooted.roots q x e).table;
    pointers = λ m i t. (sets.pointers m i t).0;
    entries = λ q p h'. each_page (λ x y. (entry new x y ≡ entry old x y) ⊎ (IsOver old change n x y × IsChanged change (entry old x y) (entry new x y))) q p pid page
        (inr (over, (let R : ℕ → Type 0 = λ x. IsChanged change (entry old pid page) x in subst R (sym one_page.changed) changed))) (λ other. inl (one_page.others q p h' other));
  }

  -- memory is fit, and nothing else changed, and that page has no such entry now
  pub one_changed : IsFit new × ChangesLeaves change n old new × (IsOver new change n pid page → ⊥)
  one_changed = (fit_changed, changes_one, λ now. false≢true (sym (changed_once change (entry old pid page) number changed) ∙ sym (ap (concerns change) one_page.changed) ∙ now.concerned))

-- entries changed, and others after them
changes_none : {mode : ℕ} (change : Change) (n : ℕ) (c : Picture mode) → ChangesLeaves change n c c
changes_none change n c = search (rules, inl)

-- what was clear is clear still
pub still_clear : {mode : ℕ} (change : Change) (n pid k : ℕ) (old new : Picture mode) → ChangesLeaves change n old new → IsPage (top_level mode) k → (IsOver old change n pid k → ⊥) → IsOver new change n pid k → ⊥
still_clear change n pid k old new changes h clear over = elim (changes.entries pid k h) [
  | inl same ↦ clear (record { concerned = ap (concerns change) (sym same) ∙ over.concerned; frame = ap frame_of (sym same) ∙ over.frame })
  | inr was ↦ clear was.0
]

changes_then : {mode : ℕ} (change : Change) (n : ℕ) (a b c : Picture mode) → ChangesLeaves change n a b → ChangesLeaves change n b c → ChangesLeaves change n a c
changes_then change n a b c f g = record {
  beside = grind arith;
  frames = g.frames ∙ f.frames;
  bytes = λ m used. g.bytes m (λ t. used (sym (f.roles m) ∙ t)) ∙ f.bytes m used;
  roles = λ m. g.roles m ∙ f.roles m;
  counts = λ m. g.counts m ∙ f.counts m;
  views = λ q p. g.views q p ∙ f.views q p;
  ends = λ q r p e. g.ends q r p (f.beside.root q ∙ e) ∙ f.ends q r p e;
  pointers = λ m i t points. g.pointers m i t (f.pointers m i t points);
  entries = λ q p h. elim (f.entries q p h) [
    | inl same ↦ elim (g.entries q p h) [
      | inl was ↦ inl (was ∙ same)
      | inr ch ↦ (
          let P : ℕ → Type 0 = λ x. IsChanged change x (entry c q p) in
          inr (record { concerned = ap (concerns change) (sym same) ∙ ch.0.concerned; frame = ap frame_of (sym same) ∙ ch.0.frame }, subst P same ch.1))
    ]
    | inr ch ↦ elim (g.entries q p h) [
      | inl was ↦ (let P : ℕ → Type 0 = λ x. IsChanged change (entry a q p) x in inr (ch.0, subst P (sym was) ch.1))
      | inr again ↦ absurd (false≢true (sym (changed_once change (entry a q p) (entry b q p) ch.1) ∙ again.0.concerned))
    ]
  ];
}

module _ {M : Type 0} {m : Levels.Ghosts M} {D E : Type 0} where
  frames_none : (c : Core D E M m) → KeepsAllButFrames c c
  frames_none c = record { store = refl; swap = refl; cache = refl; roots = refl; regions = refl; page_of = refl; clock = refl; refused = refl; keep = refl; looks = refl }

  frames_then : (a b c : Core D E M m) → KeepsAllButFrames a b → KeepsAllButFrames b c → KeepsAllButFrames a c
  frames_then a b c f g = grind arith

  pub entries_none : (change : Change) (n : ℕ) (c : Core D E M m) → IsFit (picture_of c) → ChangesEntries change n c c
  entries_none change n c fit = record { changes = changes_none change n (picture_of c); fit = fit; beside = frames_none c }

  pub entries_then : (change : Change) (n : ℕ) (a b c : Core D E M m) → ChangesEntries change n a b → ChangesEntries change n b c → ChangesEntries change n a c
  entries_then change n a b c f g = record {
    changes = changes_then change n (picture_of a) (picture_of b) (picture_of c) f.changes g.changes;
    fit = g.fit;
    beside = frames_then a b c f.beside g.beside;
  }

-- A page with an entry over the frame of a page of a file or an object is one that names it.
module _ {mode : ℕ} (c : Picture mode) (change : Change) (n pid r k : ℕ) (fit : IsFit c) (root : c.root pid ≡ Some r) (h : IsPage (top_level mode) k) where
  pub over_names : role_of c.frames n ≡ Cache → IsOver c change n pid k → NamesFrame mode c.frames r k n
  over_names cache over =
      let f = some_framed change (entry c pid k) over.concerned in
      let u = over_user c change n pid k fit h over in
      record {
        number = entry c pid k;
        is = of_number mode c.frames r k (entry c pid k) fit.rooted.forest (fit.rooted.roots pid r root) u.1 (sym (entry-of c pid r k root)) f.0;
        framed = f.1;
        common = over_common c change n pid k fit h over cache;
        frame = over.frame;
      }

-- and a page that names a frame is a process's, with an entry over it
pub names_over : {mode : ℕ} (c : Picture mode) (n r k : ℕ) → IsFit c → role_of c.frames 0 ≡ Zero → NamesFrame mode c.frames r k n → (pid : ℕ) × IsOver c Forget n pid k
names_over {mode = mode} c n r k fit zero_role names =
    let l = names.is in
    let table : IsTable c.frames r = begins_table c.frames (top_level mode) r k (top_level mode) l.lowest l.table l.way in
    let over : (pid : ℕ) → c.root pid ≡ Some r → IsOver c Forget n pid k = λ pid root.
    let e : entry c pid k ≡ names.number = entry-of c pid r k root ∙ is_number mode c.frames r k names.number l in
    record { concerned = rw (e, ne_eqb names.number 0 l.some, names.framed) refl; frame = ap frame_of e ∙ names.frame } in
    elim (fit.rooted.used r table) [
      | inl none ↦ (let role : role_of c.frames 0 ≡ Table = ap (role_of c.frames) (sym none) ∙ table.role in let bad : Zero ≡ Table = sym zero_role ∙ role in (cc))
      | inr used ↦ elim used [ AsRoot pid root ↦ (pid, over pid root) | OnWay pid x page root mapped below ↦ absurd (l.unlinked below.2.0 _ below.2.2) ]
    ]

pub kinds_kept : {mode : ℕ} (change : Change) (n kinds : ℕ) (old new : Picture mode) → ChangesLeaves change n old new → AreKinds old change n kinds → AreKinds new change n kinds
kinds_kept change n kinds old new changes are = λ pid r page root h over. elim (changes.entries pid page h) [
  | inl same ↦ are pid r page (sym (changes.beside.root pid) ∙ root) h (record { concerned = ap (concerns change) (sym same) ∙ over.concerned; frame = ap frame_of (sym same) ∙ over.frame })
  | inr was ↦ are pid r page (sym (changes.beside.root pid) ∙ root) h was.0
]

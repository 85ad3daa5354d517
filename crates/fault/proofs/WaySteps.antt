-- Tables taken for the way to a page and linked there: what they take of memory, what stays, and how they add up.
use Rattle.fault.proofs.Names.{top_level, Attr, Stall, ◌≡◌, ◌≢◌, ◌-◌, ◌≤◌, ℕ, zero, suc, inl, inr, Option, Some, None, get_or, sym, ap, ◌∙◌, subst, arith, Result, Ok, Err, refl, cases_eq, Free, Table, Private, Cache, FrameTable}
use Rattle.fault.proofs.Names.{role_of, bytes_of, IsFull, Role, LinksTable, IsBelowRoot, Points, Way, last_table, missing_of, ends, way_forth, Same, GivesForTables, KeepsRolesBut, Picture, entry, bytes_in, IsOwned}
use Rattle.fault.proofs.Names.{picture_of, Frees, ObtainsTable, KeepsPages, SameBeside, IsWhole, Seat, InFrame, InSlot, seat, IsFit, IsMapped, Core, gives_then, gives_same, entry-same, loose_table, fit_linked, each_view, view_seated}
use Rattle.fault.specs.{Changes.{AddsNoTable, IsTableOnWay, LinksTables, KeepsTables, KeepsBare, KeepsSlotted, KeepsRoom, KeepsSpaces}, WaysLinked.{TakesForTables}}
use Rattle.fault.proofs.Steps.{table_before, slotted_then, slotted_frees, slotted_same, tables_then, bare_then, tables_freed, bare_freed, room_freed, room_then, spaces_freed, spaces_then, full_stays, moves_none, moves_then, stall_then}
use Rattle.fault.proofs.{Names.{held_same, keeps_then, IsSome, IfOk, IsErrAnd, OnOk, Ghosts, Nothing, IsReady}, Asking.{no_new_same, no_new_then, asks_slots_if, asks_slots_same, asks_slots_then}}
use Rattle.fault.proofs.{Names.{rules, ⊎_elim, FrameNo}, Steps.{on_right, files_same}}
use Rattle.vm_types.specs.declared.mode.Levels as Levels

-- a table on the way to a page that is not the root
module _ (mode : ℕ) where
  below_root : (t : FrameTable) (root page n depth : ℕ) → depth ≤ top_level mode → Way t (top_level mode) root page depth n → n ≢ root → IsBelowRoot t (top_level mode) root page n
  below_root t root page n zero least way ne = absurd (ne way)
  below_root t root page n (suc depth) least way ne = (depth, omega (arith, least), way)

-- where roots and pointers stand, a table is on the ways that it was on
module _ {mode : ℕ} where
  pub way_stands : (old new : Picture mode) (pid page n : ℕ) → new.root pid ≡ old.root pid → ((a i b : ℕ) → Points old.frames a i b → Points new.frames a i b)
      → IsTableOnWay old pid page n → IsTableOnWay new pid page n
  way_stands old new pid page n root pointers way =
      let below : IsBelowRoot old.frames (top_level mode) way.0 page n = way.2 in
      (way.0, root ∙ way.1, (below.0, below.1, way_forth old.frames new.frames pointers (top_level mode) way.0 page (suc below.0) n below.2))

pub links_on : {mode : ℕ} (a b c : Picture mode) (pid page : ℕ) → c.root pid ≡ b.root pid → ((n i m : ℕ) → Points b.frames n i m → Points c.frames n i m)
    → LinksTables a b pid page → LinksTables b c pid page → LinksTables a c pid page
links_on a b c pid page root pointers first second n table = ⊎_elim (λ was. on_right (λ way. inr (way_stands b c pid page n root pointers way)) (first n was)) inr (second n table)

-- none came to be a table
pub links_no_table : {mode : ℕ} (old new : Picture mode) (pid page : ℕ) → AddsNoTable old new → LinksTables old new pid page
links_no_table old new pid page none n table = inl (none.tables n table)

-- frames were given up: a table that was missing still is
pub still_wanted : {mode : ℕ} (old new : Picture mode) (pid root page : ℕ) → Frees old new None → old.root pid ≡ Some root → missing_of old.frames (top_level mode) root page ≢ 0
    → IsWhole new pid page → ⊥
still_wanted old new pid root page frees lives missing whole = missing (sym (frees.missing pid root page lives) ∙ whole root (frees.pages.root pid ∙ lives))

-- where frames were given up none came to be a process's own
pub no_copy_freed : {mode : ℕ} {old new : Picture mode} {keep : Option FrameNo} → Frees old new keep → (n : ℕ) → role_of new.frames n ≡ Private → role_of old.frames n ≡ Private
no_copy_freed frees n is = ⊎_elim (λ same. sym same ∙ is) (λ freed. let bad = sym freed.0 ∙ is in (cc)) (frees.roles n)

-- a frame was obtained, taken for a table, and linked on the way to a page
module _ {mode : ℕ} {old taken new : Picture mode} {pid root page table : ℕ} (obtains : ObtainsTable old taken table) (lives : old.root pid ≡ Some root)
    (links : LinksTable taken.frames new.frames (top_level mode) root page table) (beside : SameBeside taken new) where
  abbrev found : Picture mode
  found = obtains.found

  fit : IsFit found
  fit = obtains.fit

  lives_found : found.root pid ≡ Some root
  lives_found = obtains.frees.pages.root pid ∙ lives

  lives_taken : taken.root pid ≡ Some root
  lives_taken = obtains.beside.root pid ∙ lives_found

  apart : (q r : ℕ) → taken.root q ≡ Some r → r ≢ table
  apart q r e is = loose_table found taken table fit.rooted obtains.adds obtains.beside.root q (e ∙ ap (λ x. Some x) is)

  ne_table : (q r : ℕ) → found.root q ≡ Some r → r ≢ table
  ne_table q r e = apart q r (obtains.beside.root q ∙ e)

  role_linked : (n : ℕ) → role_of new.frames n ≡ role_of taken.frames n
  role_linked n = ap (λ rs. get_or rs n Free) links.kept.roles

  entry_linked : (q p : ℕ) → entry new q p ≡ entry taken q p
  entry_linked q p = entry-same taken new q p (beside.root q) (λ r e.
      links.entries r p (apart q r e) (obtains.adds.roots r (obtains.fit.rooted.roots q r (sym (obtains.beside.root q) ∙ e))))

  -- nothing pointed to the table before it was linked
  pointer_linked : (n i m : ℕ) → Points taken.frames n i m → Points new.frames n i m
  pointer_linked n i m points = (links.pointers n i m (λ is. obtains.adds.spare.unlinked n i (let P : ℕ → Type 0 = λ x. Points taken.frames n i x in subst P is points))).0 points

  gives_linking : GivesForTables taken new None
  gives_linking = record {
    count = links.kept.frames;
    roles = λ n. inl (role_linked n);
    entries = λ q p h. Same (entry_linked q p);
    pointers = pointer_linked;
    needed = inr (record { roles = λ n data'. role_linked n; entries = λ q p h. entry_linked q p; places = λ p. beside.place p });
  }

  pub gives_linked : GivesForTables old taken None → GivesForTables old new None
  gives_linked gives = gives_then old taken new None gives gives_linking

  -- the way to the page ends at the table, which is not the root
  on_way : (n : ℕ) → n ≡ table → IsTableOnWay new pid page n
  on_way n e =
      let last = last_table new.frames page (top_level mode) root in
      let end = ends new.frames (top_level mode) root page links.forest links.stays.table in
      let P : ℕ → Type 0 = λ x. Way new.frames (top_level mode) root page (top_level mode - last.0) x in
      (root, beside.root pid ∙ lives_taken, below_root mode new.frames root page n (top_level mode - last.0) (omega arith) (subst P (links.ends ∙ sym e) end.way) (λ is. apart pid root lives_taken (sym is ∙ e)))

  pub links_linked : GivesForTables old taken None → KeepsRolesBut old taken table → LinksTables old new pid page
  links_linked gives only n is_table = elim (cases_eq n table) [
    | inl e ↦ inr (on_way n e)
    | inr ne ↦ inl (table_before old.frames new.frames n (links.kept.frames ∙ gives.count) (role_linked n ∙ only n ne) is_table)
  ]

  beside_found : SameBeside found new
  beside_found = record {
    slots = beside.slots ∙ obtains.beside.slots;
    root = λ q. beside.root q ∙ obtains.beside.root q;
    at = λ q k. beside.at q k ∙ obtains.beside.at q k;
    page_of = λ n. beside.page_of n ∙ obtains.beside.page_of n;
    place = λ p. beside.place p ∙ obtains.beside.place p;
    touched = λ p. beside.touched p ∙ obtains.beside.touched p;
    files = λ f. beside.files f ∙ obtains.beside.files f;
  }

  bytes_linked : (n : ℕ) (r : Role) → role_of found.frames n ≡ r → r ≢ Free → r ≢ Table → bytes_of new.frames n ≡ bytes_of found.frames n
  bytes_linked n r is free table' =
      let ne : n ≢ table = λ e. free (sym is ∙ ap (role_of found.frames) e ∙ obtains.adds.takes.was_free) in
      links.kept.bytes n (λ t. table' (sym is ∙ sym (obtains.adds.takes.others.roles n ne) ∙ t)) ∙ obtains.adds.takes.others.bytes n ne

  entries_linked : (q p : ℕ) → entry new q p ≡ entry found q p
  entries_linked q p = entry-same found new q p (beside_found.root q) (λ x e.
      links.entries x p (ne_table q x e) (obtains.adds.roots x (fit.rooted.roots q x e)) ∙ obtains.adds.entries x p (fit.rooted.roots q x e))

  seat_bytes : (z : Seat) → IsOwned found z → bytes_in new.frames new.slots z ≡ bytes_in found.frames found.slots z
  seat_bytes (InFrame n) is = bytes_linked n Private is (λ e. (cc)) (λ e. (cc))
  seat_bytes (InSlot k) is = ap (λ t. t.bytes k) beside_found.slots

  pub pages_linked : KeepsPages old new
  pages_linked = keeps_then old found new obtains.frees.pages (record {
    root = beside_found.root;
    at = beside_found.at;
    views = λ q p. each_view found new fit.granting beside_found.at q p (λ h. view_seated found new q p (beside_found.at q p) (ap seat (entries_linked q p))
        (λ z is. seat_bytes z (fit.counted.1.named q p z h is)));
    files = record {
      held = λ p. inl (held_same found new p (beside_found.place p) beside_found.slots (λ m at. bytes_linked m Cache (fit.places.cached p m at) (λ e. (cc)) (λ e. (cc))));
      touched = beside_found.touched;
      files = beside_found.files;
    };
  })

  pub bare_linked : KeepsBare old new
  bare_linked = bare_then old found new (bare_freed old found _ obtains.frees) (λ q p h none. entries_linked q p ∙ none)

  pub slotted_linked : KeepsSlotted (λ p. ⊥) (λ q p. ⊥) old new
  slotted_linked = slotted_then (λ p. ⊥) (λ q p. ⊥) old found new (slotted_frees (λ p. ⊥) (λ q p. ⊥) old found _ obtains.frees)
      (slotted_same (λ p. ⊥) (λ q p. ⊥) found new beside_found.place (λ q p h. entries_linked q p))

  tables_found : KeepsTables found new
  tables_found q r p e =
      let is_root = fit.rooted.roots q r e in
      let taken_same = obtains.adds.missing r p is_root in
      elim (cases_eq r root) [
        | inl is ↦ (
            let less = links.no_more p in
            let same = subst (λ (x : ℕ). missing_of taken.frames (top_level mode) x p ≡ missing_of found.frames (top_level mode) x p) is taken_same in
            subst (λ (x : ℕ). missing_of new.frames (top_level mode) x p ≤ missing_of found.frames (top_level mode) x p) (sym is) (omega (arith, less, same)))
        | inr ne ↦ (let linked_same = links.missing r p ne (ne_table q r e) (obtains.adds.roots r is_root) in omega (arith, linked_same, taken_same))
      ]

  pub tables_linked : KeepsTables old new
  tables_linked = tables_then old found new obtains.frees.pages.root (tables_freed old found _ obtains.frees) tables_found

  pub spaces_linked : KeepsSpaces old new
  spaces_linked = spaces_then old found new (spaces_freed old found _ obtains.frees) (record { root = beside_found.root; at = beside_found.at })

  pub room_linked : KeepsRoom old new
  room_linked = room_then old found new (room_freed old found _ obtains.frees)
      (record { frames = links.kept.frames ∙ obtains.adds.takes.others.frames; slots = ap (λ t. t.total) beside_found.slots })

  pub fit_after : IsMapped old pid page → IsFit new
  fit_after mapped =
      let P : Option Attr → Type 0 = λ x. IsSome x in
      fit_linked found taken new pid root page table fit obtains.zero_page lives_found (subst P (sym (obtains.frees.pages.at pid page)) mapped) obtains.adds obtains.beside links beside

  pub no_copy_linked : (n : ℕ) → role_of new.frames n ≡ Private → role_of old.frames n ≡ Private
  no_copy_linked n is =
      let there : role_of taken.frames n ≡ Private = ap (λ rs. get_or rs n Free) (sym links.kept.roles) ∙ is in
      elim (cases_eq n table) [
        | inl e ↦ (let bad : Private ≡ Table = sym there ∙ ap (role_of taken.frames) e ∙ obtains.adds.takes.kind_set in (cc))
        | inr ne ↦ no_copy_freed obtains.frees n (sym (obtains.adds.takes.others.roles n ne) ∙ there)
      ]

  pub missing_taken : missing_of taken.frames (top_level mode) root page ≡ missing_of old.frames (top_level mode) root page
  missing_taken = obtains.adds.missing root page (fit.rooted.roots pid root lives_found) ∙ obtains.frees.missing pid root page lives

module _ {M : Type 0} {m : Levels.Ghosts M} {D E : Type 0} (h : Ghosts E) where
  -- none was taken
  pub takes_none : {T : Type 0} (core : Core D E M m) (x : T) → IsFit (picture_of core) → IsReady h core.swap → TakesForTables h core core (Ok x)
  takes_none core x fit swap =
      let moves = moves_none h core fit swap in
      let files = files_same (picture_of core) in
      let gives = gives_same (picture_of core) in
      let asks = asks_slots_same h {full = IsFull core.frames} core core None Nothing refl in
      let later = no_new_same (picture_of core) None Nothing in
      search rules

  -- more were taken after some
  pub takes_then : {S T : Type 0} (a b c : Core D E M m) (x : S) (r : Result T Stall) → TakesForTables h a b (Ok x) → TakesForTables h b c r → TakesForTables h a c r
  takes_then a b c x (Ok y) first second =
      let moves = moves_then h a b c first.moves second.moves in
      let pages = keeps_then (picture_of a) (picture_of b) (picture_of c) first.pages second.pages in
      let bare = bare_then (picture_of a) (picture_of b) (picture_of c) first.bare second.bare in
      let gives = gives_then (picture_of a) (picture_of b) (picture_of c) None first.gives second.gives in
      let no_copy = λ (n : ℕ) (is : role_of c.frames n ≡ Private). first.no_copy n (second.no_copy n is) in
      let asks = asks_slots_then h (IsFull c.frames) a b c None Nothing Nothing (asks_slots_if h (IsFull c.frames) a b None Nothing (full_stays (picture_of b) (picture_of c) None second.gives) first.asks) first.asks_later (λ full. full) second.asks
      (λ n none. absurd none) in
      let later = no_new_then (picture_of a) (picture_of b) (picture_of c) None Nothing Nothing first.asks_later second.asks_later (λ n none. absurd none) in
      let refused = second.cause.0 ∙ first.cause.0 in
      let failed = second.cause.1 ∙ first.cause.1 in
      search rules
  takes_then a b c x (Err s) first second =
      let moves = moves_then h a b c first.moves second.moves in
      let pages = keeps_then (picture_of a) (picture_of b) (picture_of c) first.pages second.pages in
      let bare = bare_then (picture_of a) (picture_of b) (picture_of c) first.bare second.bare in
      let gives = gives_then (picture_of a) (picture_of b) (picture_of c) second.tried.0 first.gives second.tried.1 in
      let no_copy = λ (n : ℕ) (is : role_of c.frames n ≡ Private). first.no_copy n (second.no_copy n is) in
      let asks = asks_slots_then h (IsFull c.frames) a b c None Nothing Nothing (asks_slots_if h (IsFull c.frames) a b None Nothing (λ full. second.full) first.asks) first.asks_later (λ full. full) second.asks
      (λ n none. absurd none) in
      let later = no_new_then (picture_of a) (picture_of b) (picture_of c) None Nothing Nothing first.asks_later second.asks_later (λ n none. absurd none) in
      let cause = stall_then h a b c s first.cause.0 first.cause.1 second.cause in
      search rules

  -- whatever was returned with them
  pub takes_done : {S T : Type 0} (a b : Core D E M m) (x : S) (y : T) → TakesForTables h a b (Ok x) → TakesForTables h a b (Ok y)
  takes_done a b x y takes = search rules

  -- a stall that is handed on
  pub takes_stall : {S T : Type 0} (a b : Core D E M m) (stall : Stall) (r : Result T Stall) → IsErrAnd r (λ e. e ≡ stall) → TakesForTables h {T = S} a b (Err stall) → TakesForTables h a b r
  takes_stall a b stall (Ok y) is takes = absurd is
  takes_stall {S} {T} a b stall (Err e) is takes =
      subst (λ (s : Stall). TakesForTables h {T = T} a b (Err s)) (sym is) (search rules)

-- a stall that is handed on returns nothing
pub nothing_on : {T : Type 0} (r : Result T Stall) (stall : Stall) (X : Type 0) → IsErrAnd r (λ e. e ≡ stall) → OnOk r X
nothing_on (Ok y) stall X is = absurd is
nothing_on (Err e) stall X is = tt

pub nothing_if : {T : Type 0} (r : Result T Stall) (stall : Stall) (P : T → Type 0) → IsErrAnd r (λ e. e ≡ stall) → IfOk r P
nothing_if (Ok y) stall P is = absurd is
nothing_if (Err e) stall P is = tt

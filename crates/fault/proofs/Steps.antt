-- How the steps of a call follow one another: what stays where it was, over them.
use Rattle.fault.proofs.Names.{top_level, Stall, SwapDevice, StoreDevice, FrameNo, PageKey, ◌≡◌, ◌+◌, ℕ, inl, inr, Option, Some, None, refl, sym, ap, ◌∙◌, subst, arith, ◌≢◌, ◌⊎◌, ◌<◌, get_or, ◌*◌, ◌/◌, cases_eq, Ghosts, rules, KeepsFrames}
use Rattle.fault.proofs.Names.{Points, FrameTable, IsFull, frame_count, role_of, Free, Table, missing_of, IsPage, IsTable, last_table, Swap, IsReady, slots_of, Core, Picture, picture_of, entry, IsFit, Frees, IsStaying, KeepsRest}
use Rattle.fault.{proofs.Names.{UsesDevice, StallCause, SameBeside, ChangesFrame, GivesForTables, Spares, KeepsFiles, by_page, trees_changed, KeepsTrees, missing_of-is, row_same, ends}, specs.Changes.{KeepsTables, KeepsBare, KeepsSpaces}}
use Rattle.{fault.specs.{Changes.{KeepsRoom, KeepsSeen, Enters, Moves, KeepsSlotted, IsCalm, IsThatPage, AddsNoTable, KeepsRows, IsLinked, StandsAt}, declared.spot.Spot.{Spot}}, residency.specs.Picture.{is_swapped}}
use Rattle.vm_types.specs.declared.mode.Levels as Levels

pub spaces_then : {mode : ℕ} (a b c : Picture mode) → KeepsSpaces a b → KeepsSpaces b c → KeepsSpaces a c
spaces_then a b c p q = record { root = λ pid. q.root pid ∙ p.root pid; at = λ pid page. q.at pid page ∙ p.at pid page }

pub room_then : {mode : ℕ} (a b c : Picture mode) → KeepsRoom a b → KeepsRoom b c → KeepsRoom a c
room_then a b c p q = record { frames = q.frames ∙ p.frames; slots = q.slots ∙ p.slots }

pub seen_then : {mode : ℕ} (a b c : Picture mode) → KeepsSeen a b → KeepsSeen b c → KeepsSeen a c
seen_then a b c p q = record { views = λ x y. q.views x y ∙ p.views x y; touched = λ x. q.touched x ∙ p.touched x }

-- nothing is seen to change
pub seen_none : {mode : ℕ} (c : Picture mode) → KeepsSeen c c
seen_none c = record { views = λ q k. refl; touched = λ p. refl }

pub files_same : {mode : ℕ} (c : Picture mode) → KeepsFiles c c
files_same c = record { held = λ p. inl refl; touched = λ p. refl; files = λ f. refl }

pub tables_then : {mode : ℕ} (a b c : Picture mode) → ((pid : ℕ) → b.root pid ≡ a.root pid) → KeepsTables a b → KeepsTables b c → KeepsTables a c
tables_then a b c roots p q pid r page e = let first = p pid r page e in let second = q pid r page (roots pid ∙ e) in omega (arith, first, second)

pub bare_then : {mode : ℕ} (a b c : Picture mode) → KeepsBare a b → KeepsBare b c → KeepsBare a c
bare_then a b c p q pid page h none = q pid page h (p pid page h none)

-- where no table came to be missing or was linked
pub tables_same : {mode : ℕ} (a b : Picture mode) → ((pid r page : ℕ) → a.root pid ≡ Some r → missing_of b.frames (top_level mode) r page ≡ missing_of a.frames (top_level mode) r page) → KeepsTables a b
tables_same a b same pid r page e = let s = same pid r page e in omega (arith, s)

-- frames were given up
module _ {mode : ℕ} (old new : Picture mode) (keep : Option FrameNo) (frees : Frees old new keep) where
  pub spaces_freed : KeepsSpaces old new
  spaces_freed = record { root = frees.pages.root; at = frees.pages.at }

  pub room_freed : KeepsRoom old new
  room_freed = record { frames = frees.count; slots = frees.total }

  pub seen_freed : KeepsSeen old new
  seen_freed = record { views = frees.pages.views; touched = frees.pages.files.touched }

  pub tables_freed : KeepsTables old new
  tables_freed = tables_same old new frees.missing

  pub bare_freed : KeepsBare old new
  bare_freed pid p h none = frees.entries pid p h (inl none) ∙ none

-- what stays where a frame is kept stays where none is
stays_any : (keep : Option FrameNo) (e : ℕ) → IsStaying None e → IsStaying keep e
stays_any keep e (inl none) = inl none
stays_any keep e (inr (inl away)) = inr (inl away)
stays_any keep e (inr (inr (inl zero_page))) = inr (inr (inl zero_page))
stays_any keep e (inr (inr (inr kept))) = absurd kept

-- frames were given up, and nothing is said of the one that was kept
pub frees_any : {mode : ℕ} (old new : Picture mode) (keep : Option FrameNo) → Frees old new keep → Frees old new None
frees_any old new keep frees = search (rules, frees.entries, stays_any)

pub same_with : {mode : ℕ} (c : Picture mode) (t : FrameTable) → SameBeside c (record c { frames = t })
same_with c t = record { slots = refl; root = λ pid. refl; at = λ pid page. refl; page_of = λ n. refl; place = λ p. refl; touched = λ p. refl; files = λ f. refl }

module _ {E : Type 0} (h : Ghosts E) where
  pub device_then : (a b c : E) → UsesDevice h a b → UsesDevice h b c → UsesDevice h a c
  device_then a b c p q = record { size = q.size ∙ p.size; kept = λ k. p.kept (q.kept k); later = (let x = p.later in let y = q.later in omega (arith, x, y)) }

  pub device_none : (a : E) → UsesDevice h a a
  device_none a = record { size = refl; kept = λ k. k; later = omega arith }

module _ {M : Type 0} {m : Levels.Ghosts M} {E : Type 0} (h : Ghosts E) where
  module _ {D : Type 0} where
    pub moves_then : (a b c : Core D E M m) → Moves h a b → Moves h b c → Moves h a c
    moves_then a b c p q =
        let store = q.store ∙ p.store in
        let tables = tables_then (picture_of a) (picture_of b) (picture_of c) p.spaces.root p.tables q.tables in
        search (rules, spaces_then, room_then, device_then)

    -- a step that was refused nothing and counted no failure, and one that stalled
    pub stall_then : (a b c : Core D E M m) (stall : Stall) → b.refused.number ≡ a.refused.number → h.failures b.swap.pages.disk ≡ h.failures a.swap.pages.disk → StallCause h b c stall → StallCause h a c stall
    stall_then a b c SwapDevice refused calm cause = (cause.0 ∙ refused, (let later = cause.1 in omega (arith, calm, later)))
    stall_then a b c StoreDevice refused calm cause = absurd cause
    stall_then a b c stall refused calm cause = (cause.0 ∙ ap (λ x. x + 1) refused, cause.1 ∙ calm)

    pub moves_none : (a : Core D E M m) → IsFit (picture_of a) → IsReady h a.swap → Moves h a a
    moves_none a fit ready = search (rules, device_none)

    -- frames were given up, and nothing else was done
    pub moves_freed : (a b : Core D E M m) (keep : Option FrameNo) → IsFit (picture_of b) → IsReady h b.swap → Frees (picture_of a) (picture_of b) keep → KeepsRest a b
        → UsesDevice h a.swap.pages.disk b.swap.pages.disk → Moves h a b
    moves_freed a b keep fit ready frees rest device = let tables = tables_freed (picture_of a) (picture_of b) keep frees in search rules

    -- one page's entry was set
    pub moves_entered : (a b : Core D E M m) (pid page : ℕ) → IsReady h a.swap → Enters a b pid page → Moves h a b
    moves_entered a b pid page ready enters =
        record {
          fit = enters.fit;
          swap = subst (λ (s : Swap E). IsReady h s) (sym enters.calm.swap) ready;
          spaces = enters.spaces;
          tables = enters.tables;
          room = record { frames = enters.calm.frames.frames; slots = ap (λ s. (slots_of s).total) enters.calm.swap };
          store = enters.calm.store;
          device = subst (λ (s : Swap E). UsesDevice h a.swap.pages.disk s.pages.disk) (sym enters.calm.swap) (device_none h a.swap.pages.disk);
        }

pub on_left : {A B C : Type 0} → (A → C) → A ⊎ B → C ⊎ B
on_left f (inl a) = inl (f a)
on_left f (inr b) = inr b

pub on_right : {A B C : Type 0} → (B → A ⊎ C) → A ⊎ B → A ⊎ C
on_right f (inl a) = inl a
on_right f (inr b) = f b

pub slotted_wider : {mode : ℕ} (f g : PageKey → Type 0) (x y : ℕ → ℕ → Type 0) (old new : Picture mode) → ((p : PageKey) → f p → g p) → ((q p : ℕ) → x q p → y q p) → KeepsSlotted f x old new → KeepsSlotted g y old new
slotted_wider f g x y old new files own keeps = record {
  file_pages = λ p k at. on_left (files p) (keeps.file_pages p k at);
  copies = λ q p h away. on_left (own q p) (keeps.copies q p h away);
}

module _ {mode : ℕ} (files : PageKey → Type 0) (own : ℕ → ℕ → Type 0) where
  pub slotted_then : (a b c : Picture mode) → KeepsSlotted files own a b → KeepsSlotted files own b c → KeepsSlotted files own a c
  slotted_then a b c first second = record {
    file_pages = λ p k at. on_right (second.file_pages p k) (first.file_pages p k at);
    copies = λ q p h away. on_right (λ same. on_right (λ again. inr (again ∙ same)) (second.copies q p h (ap is_swapped same ∙ away))) (first.copies q p h away);
  }

  -- every file page and every entry is as it was
  pub slotted_same : (old new : Picture mode) → ((p : PageKey) → new.place p ≡ old.place p) → ((q p : ℕ) → IsPage (top_level mode) p → entry new q p ≡ entry old q p) → KeepsSlotted files own old new
  slotted_same old new places entries = record { file_pages = λ p k at. inr (places p ∙ at); copies = λ q p h away. inr (entries q p h) }

  -- frames were given up: nothing leaves a slot by that
  pub slotted_frees : (old new : Picture mode) (keep : Option FrameNo) → Frees old new keep → KeepsSlotted files own old new
  slotted_frees old new keep frees = record { file_pages = λ p k at. inr (frees.slotted p k.0 at); copies = λ q p h away. inr (frees.entries q p h (inr (inl away))) }

-- every file page is as it was, and every entry but one
pub slotted_but : {mode : ℕ} (files : PageKey → Type 0) (old new : Picture mode) (pid page : ℕ) → ((p : PageKey) → new.place p ≡ old.place p)
    → ((q p : ℕ) → IsPage (top_level mode) p → (q ≢ pid) ⊎ (p ≢ page) → entry new q p ≡ entry old q p) → KeepsSlotted files (IsThatPage pid page) old new
slotted_but files old new pid page places entries = record {
  file_pages = λ p k at. inr (places p ∙ at);
  copies = λ q p h away. on_right (λ other. inr (entries q p h other)) (by_page q p pid page);
}

pub slotted_calm : {M : Type 0} {m : Levels.Ghosts M} → {D E : Type 0} (files : PageKey → Type 0) (old new : Core D E M m) (pid page : ℕ) → IsCalm old new pid page → KeepsSlotted files (IsThatPage pid page) (picture_of old) (picture_of new)
slotted_calm files old new pid page calm = slotted_but files (picture_of old) (picture_of new) pid page calm.place calm.others

-- a frame that has its role was a table if it is one
pub table_before : (old new : FrameTable) (n : ℕ) → frame_count new ≡ frame_count old → role_of new n ≡ role_of old n → IsTable new n → IsTable old n
table_before old new n count role table = record { inside = subst (λ (k : ℕ). n < k) count table.inside; role = sym role ∙ table.role }

-- a frame that was given up is none
table_freed : (old new : FrameTable) (n : ℕ) (X : Type 0) → frame_count new ≡ frame_count old → (role_of new n ≡ role_of old n) ⊎ ((role_of new n ≡ Free) × X) → IsTable new n → IsTable old n
table_freed old new n X count (inl same) table = table_before old new n count same table
table_freed old new n X count (inr freed) table = absurd (let bad : Free ≡ Table = sym freed.0 ∙ table.role in (cc))

pub no_table_none : {mode : ℕ} (c : Picture mode) → AddsNoTable c c
no_table_none c = record { tables = λ n table. table; pointers = λ n i m points. points }

pub no_table_then : {mode : ℕ} (a b c : Picture mode) → AddsNoTable a b → AddsNoTable b c → AddsNoTable a c
no_table_then a b c first second = record {
  tables = λ n table. first.tables n (second.tables n table);
  pointers = λ n i m points. second.pointers n i m (first.pointers n i m points);
}

-- frames were given up
pub no_table_freed : {mode : ℕ} (old new : Picture mode) (keep : Option FrameNo) → Frees old new keep → AddsNoTable old new
no_table_freed old new keep frees = record { tables = λ n table. table_freed old.frames new.frames n _ frees.count (frees.roles n) table; pointers = frees.pointers }

pub no_table_spared : {mode : ℕ} (v k : ℕ) (old new : Picture mode) → Spares v k old new → AddsNoTable old new
no_table_spared v k old new spares = record {
  tables = λ n table. elim (cases_eq n v) [
    | inl e ↦ (
        let Q : ℕ → Type 0 = λ i. IsTable old.frames i in
        subst Q (sym e) (table_freed old.frames new.frames v _ spares.count spares.role (subst (λ (i : ℕ). IsTable new.frames i) e table)))
    | inr ne ↦ table_before old.frames new.frames n spares.count (spares.roles n ne) table
  ];
  pointers = spares.pointers;
}

-- no tree changed
pub no_table_trees : {mode : ℕ} (old new : Picture mode) → KeepsTrees old.frames new.frames (top_level mode) → AddsNoTable old new
no_table_trees old new trees = record { tables = λ n table. (trees.tables n).1 table; pointers = trees.same.forth }

-- frames kept their roles
pub no_table_kept : {mode : ℕ} {old new : Picture mode} → KeepsFrames old.frames new.frames → ((n i m : ℕ) → Points old.frames n i m → Points new.frames n i m) → AddsNoTable old new
no_table_kept {old = old} {new = new} kept pointers =
    record { tables = λ n table. table_before old.frames new.frames n kept.frames (ap (λ roles. get_or roles n Free) kept.roles) table; pointers = pointers }

-- no entry but one was set
pub no_table_calm : {M : Type 0} {m : Levels.Ghosts M} → {D E : Type 0} (old new : Core D E M m) (pid page : ℕ) → IsCalm old new pid page → AddsNoTable (picture_of old) (picture_of new)
no_table_calm old new pid page calm = no_table_kept calm.frames calm.pointers

-- Frames were taken for tables alone: where none was free, none is.
pub full_stays : {mode : ℕ} (old new : Picture mode) (tried : Option ℕ) → GivesForTables old new tried → IsFull old.frames → IsFull new.frames
full_stays old new tried gives full n inside free =
    elim (gives.roles n) [
      | inl same ↦ full n (subst (λ (k : ℕ). n < k) gives.count inside) (sym same ∙ free)
      | inr table ↦ (let bad : Table ≡ Free = sym table.0 ∙ free in (cc))
    ]

pub rows_then : {mode : ℕ} (a b c : Picture mode) → ((pid : ℕ) → b.root pid ≡ a.root pid) → KeepsRows a b → KeepsRows b c → KeepsRows a c
rows_then a b c roots p q pid r row n e is = q pid r row n (roots pid ∙ e) (p pid r row n e is)

-- every way ends where it ended
pub rows_ends : {mode : ℕ} (old new : Picture mode) → IsFit new → ((pid : ℕ) → new.root pid ≡ old.root pid)
    → ((pid r page : ℕ) → old.root pid ≡ Some r → last_table new.frames page (top_level mode) r ≡ last_table old.frames page (top_level mode) r) → KeepsRows old new
rows_ends {mode = mode} old new fit roots same pid r row n e is =
    let first : row * 512 / 512 ≡ row = omega arith in
    let end = ends new.frames (top_level mode) r (row * 512) fit.rooted.forest (fit.rooted.roots pid r (roots pid ∙ e)).table in
    record {
      table = subst (λ (x : ℕ). IsTable new.frames x) (ap (λ x. x.1) (same pid r (row * 512) e) ∙ is.last (row * 512) first) end.table;
      whole = λ p in_row. missing_of-is new.frames (top_level mode) r p ∙ ap (λ x. x.0) (same pid r p e) ∙ sym (missing_of-is old.frames (top_level mode) r p) ∙ is.whole p in_row;
      last = λ p in_row. ap (λ x. x.1) (same pid r p e) ∙ is.last p in_row;
    }

-- frames were given up
pub rows_freed : {mode : ℕ} (old new : Picture mode) (keep : Option FrameNo) → IsFit new → Frees old new keep → KeepsRows old new
rows_freed old new keep fit frees = rows_ends old new fit frees.pages.root frees.ends

-- no tree changed
pub rows_trees : {mode : ℕ} (old new : Picture mode) → IsFit old → KeepsTrees old.frames new.frames (top_level mode) → KeepsRows old new
rows_trees {mode = mode} old new fit trees pid r row n e is =
    let table = (fit.rooted.roots pid r e).table in
    row_same old.frames new.frames fit.rooted.forest trees.forest trees.same (top_level mode) r row n table ((trees.tables r).0 table) is

-- a free frame was taken that is no table, and an entry set
module _ {mode : ℕ} (found mid : Picture mode) (n : ℕ) (fit : IsFit found) (changes : ChangesFrame found mid n) (datum : role_of mid.frames n ≢ Table) where
  pub rows_changed : KeepsRows found mid
  rows_changed = rows_trees found mid fit (trees_changed found mid n fit changes datum)

-- no process came or went, and no table came to be missing
pub linked_kept : {mode : ℕ} (old new : Picture mode) (pid page : ℕ) → IsLinked old pid page → IsFit new → KeepsSpaces old new → KeepsTables old new → IsLinked new pid page
linked_kept old new pid page linked fit spaces tables = record {
  fit = fit;
  lives = λ none. linked.lives (sym (spaces.root pid) ∙ none);
  whole = λ r e. (let was = sym (spaces.root pid) ∙ e in let less = tables pid r page was in let none = linked.whole r was in omega (arith, less, none));
}

-- and its entry stands where it stood
pub stands_kept : {mode : ℕ} (old new : Picture mode) (spot : Spot) → StandsAt old spot → IsFit new → KeepsSpaces old new → KeepsTables old new → KeepsRows old new → StandsAt new spot
stands_kept old new spot at fit spaces tables rows = record {
  linked = linked_kept old new spot.pid spot.page at.linked fit spaces tables;
  root = spaces.root spot.pid ∙ at.root;
  table = rows spot.pid spot.root.0 _ spot.table.0 at.root at.table;
}

-- The fullest entry of a page set, and a frame that was taken for a page given to it: all other pages stay as they are.
use Rattle.fault.proofs.Names.{top_level, PageKey, Attr, is_past_end, FrameNo, ◌≡◌, ◌≢◌, ℕ, inl, Bool, true, false, Some, [], get_or, sym, ap, ◌∙◌, subst, inr, Option, refl, ◌⊎◌, ◌<◌, None, arith, false≢true, frame_of, is_valid, IsPage}
use Rattle.fault.proofs.Names.{missing_of, page_entry, IsForest, IsRoot, SetsEntry, files_of, Home, Frame, place_of, is_touched, slots_of, SlotTable, IsReady, ReleasesSlot, Core, seat, InFrame, InSlot, Seat, is_private, Picture, picture_of}
use Rattle.fault.proofs.Names.{entry, view, own_in, root_in, attr_where, view_of, bytes_in, IsOwned, IsFit, IsBehind, is_shared, nowhere, IsFitBut, IsRootedBut, IsEntryFor, KeepsFiles, SameBeside, SetsPage, ChangesFrame, KeepsAround, Frees}
use Rattle.fault.proofs.Names.{rules, ⊎_elim, UsesDevice, fit_touched, entry-same, entry_for-same, past_end-same, behind_kept, view_kept, fit_moved, owned_forth, fit_set, set_views, set_held, fit_filled, other_views, sets_page, rooted_set}
use Rattle.fault.proofs.Names.{release_spares, same, with_slots, views_given, held_given, missing_ends, trees_changed, entries_changed, views_changed, held_changed, fit_own, Ghosts, Private, Table, Releases, role_of, bytes_of, count_of}
use Rattle.fault.proofs.Names.{option_map}
use Rattle.fault.specs.{Leaves.{IsFullEntry}, declared.spot.Spot.{Spot}}
use Rattle.fault.specs.{Changes.{IsLinked, StandsAt, Enters, KeepsTables, KeepsViews, AddsNoTable, KeepsSpaces, KeepsRoom, KeepsOtherViews, KeepsOtherBare, KeepsSlotted, IsThatPage, KeepsRows}, FramesShown.{SetsFull, ShowsFully}}
use Rattle.fault.{specs.OwnFrames.{LeavesOthers}, proofs.Forms.{full_entry, full_dirty_sound, mapped_page, seat_over}}
use Rattle.fault.proofs.Steps.{bare_freed, tables_same, no_table_then, no_table_freed, no_table_spared, slotted_then, slotted_frees, slotted_same, spaces_then, room_then, tables_then, tables_freed, no_table_trees, no_table_kept, rows_then}
use Rattle.fault.proofs.Steps.{rows_freed, rows_changed, slotted_but}
use Rattle.vm_types.specs.declared.mode.Levels as Levels

-- what a call leaves that changes frames and the count of refused requests alone
pub beside_around : {M : Type 0} {m : Levels.Ghosts M} → {D E : Type 0} (old new : Core D E M m) → KeepsAround old new → SameBeside (picture_of old) (picture_of new)
beside_around old new rest = record {
  slots = ap slots_of rest.swap;
  root = λ pid. ap (λ v. root_in v.items pid) rest.roots;
  at = λ pid page. ap (λ v. attr_where (root_in v.items pid) (get_or new.regions.items pid []) page) rest.roots
      ∙ ap (λ v. attr_where (root_in old.roots.items pid) (get_or v.items pid []) page) rest.regions;
  page_of = λ n. ap (λ v. get_or v.items n 0) rest.page_of;
  place = λ p. ap (λ c. place_of c p) rest.cache;
  touched = λ p. ap (λ c. is_touched c p) rest.cache;
  files = λ f. ap (λ s. files_of s f) rest.store;
}

-- The page keeps the seat of its own copy, or has none as before.
module _ {mode : ℕ} (old new : Picture mode) (pid page r : ℕ) (a : Attr) (frame : ℕ) (private : Bool) (linked : IsLinked old pid page) (lives : old.root pid ≡ Some r)
    (at : old.at pid page ≡ Some a) (sets : (number : ℕ) × IsFullEntry old a frame private number × SetsEntry old.frames new.frames (top_level mode) r page number) (beside : SameBeside old new) where
  pub entered_page : IsPage (top_level mode) page
  entered_page = mapped_page old pid page a linked.fit.granting at

  pub full_set : SetsPage old new pid page sets.0
  full_set = sets_page old new 0 pid r page sets.0 linked.fit.rooted lives entered_page sets.2 beside

  pub full_entry_now : IsFullEntry old a frame private (entry new pid page)
  full_entry_now = let P : ℕ → Type 0 = λ x. IsFullEntry old a frame private x in subst P (sym full_set.changed) sets.1

  pub full_tables : KeepsTables old new
  full_tables = tables_same old new (λ q x p e. sets.2.missing x p (linked.fit.rooted.roots q x e))

  pub full_files : KeepsFiles old new
  full_files = record { held = λ p. inl (set_held old new pid page sets.0 0 nowhere 0 linked.fit full_set p); touched = beside.touched; files = beside.files }

  module _ (same : seat sets.0 ≡ seat (entry old pid page)) where
    pub full_views : KeepsViews old new
    full_views = set_views old new pid page sets.0 0 nowhere 0 linked.fit full_set entered_page same

    pub full_fit : (private ≡ true → is_shared a.backing ≡ false) → (private ≡ false → IsBehind old a.backing frame) → is_past_end old.files a.backing ≡ false → IsFit new
    full_fit alone behind inside =
        let for = entry_for-same old new (old.at pid page) sets.0 (behind_kept old new beside)
        (λ own write one. ap (λ cs. get_or cs (frame_of sets.0) 0) sets.2.kept.counts ∙ one)
        (full_entry old (old.at pid page) a frame private sets.0 at sets.1 alone behind inside) in
        fit_set old new pid page sets.0 0 full_set entered_page for (rooted_set old new 0 r page sets.0 linked.fit.rooted sets.2 beside)
        (full_dirty_sound old a frame private sets.0 linked.fit.places sets.1 behind) same nowhere 0 linked.fit

module _ {M : Type 0} {m : Levels.Ghosts M} {D E : Type 0} where
  -- a call that set one page's entry alone
  pub enters_set : (old new : Core D E M m) (pid page r : ℕ) (a : Attr) (frame : ℕ) (private : Bool) → IsLinked (picture_of old) pid page → (picture_of old).root pid ≡ Some r
      → (picture_of old).at pid page ≡ Some a → (sets : (number : ℕ) × IsFullEntry (picture_of old) a frame private number × SetsEntry old.frames new.frames (top_level m.mode) r page number) → KeepsAround old new
      → new.refused.number ≡ old.refused.number → seat sets.0 ≡ seat (entry (picture_of old) pid page)
      → (private ≡ true → is_shared a.backing ≡ false) → (private ≡ false → IsBehind (picture_of old) a.backing frame) → is_past_end (picture_of old).files a.backing ≡ false
      → Enters old new pid page
  enters_set old new pid page r a frame private linked lives at sets rest refused same alone behind inside =
      let beside = beside_around old new rest in
      let o = picture_of old in
      let n = picture_of new in
      let fit = full_fit o n pid page r a frame private linked lives at sets beside same alone behind inside in
      let tables = full_tables o n pid page r a frame private linked lives at sets beside in
      let views = full_views o n pid page r a frame private linked lives at sets beside same in
      let others = (full_set o n pid page r a frame private linked lives at sets beside).others in
      let pointers = λ (x i y : ℕ). (sets.2.pointers x i y).0 in
      search rules

-- the same of a page at its place, and the files stay
module _ {M : Type 0} {m : Levels.Ghosts M} {D E : Type 0} {old new : Core D E M m} {spot : Spot} {a : Attr} {frame : ℕ} {private : Bool} (stands : StandsAt (picture_of old) spot)
    (at : (picture_of old).at spot.pid spot.page ≡ Some a) (set : SetsFull old new spot a frame private) where
  pub shows_set : seat set.sets.0 ≡ seat (entry (picture_of old) spot.pid spot.page) → (private ≡ true → is_shared a.backing ≡ false) → (private ≡ false → IsBehind (picture_of old) a.backing frame)
      → is_past_end (picture_of old).files a.backing ≡ false → ShowsFully old new spot a frame private
  shows_set same alone behind inside =
      let beside = beside_around old new set.rest in
      record {
        enters = enters_set old new spot.pid spot.page spot.root.0 a frame private stands.linked stands.root at set.sets set.rest set.not_refused same alone behind inside;
        files = full_files (picture_of old) (picture_of new) spot.pid spot.page spot.root.0 a frame private stands.linked stands.root at set.sets beside;
        entry = full_entry_now (picture_of old) (picture_of new) spot.pid spot.page spot.root.0 a frame private stands.linked stands.root at set.sets beside;
      }

-- A file page that lies in a frame was touched.
module _ {mode : ℕ} (old mid : Picture mode) (fp : PageKey) (frame : ℕ) (frames : mid.frames ≡ old.frames) (slots : mid.slots ≡ old.slots) (root : (q : ℕ) → mid.root q ≡ old.root q)
    (at : (q k : ℕ) → mid.at q k ≡ old.at q k) (page_of : (x : ℕ) → mid.page_of x ≡ old.page_of x) (place : (p : PageKey) → mid.place p ≡ old.place p)
    (touched : mid.touched fp ≡ true) (others : (p : PageKey) → p ≢ fp → mid.touched p ≡ old.touched p) (files : (f : ℕ) → mid.files f ≡ old.files f)
    (there : old.place fp ≡ Frame (record { 0 = frame })) where
  pub entry_marked : (q k : ℕ) → entry mid q k ≡ entry old q k
  entry_marked q k = entry-same old mid q k (root q) (λ x e. ap (λ t. page_entry t (top_level mode) x k) frames)

  pub fit_marked : IsFit old → IsFit mid
  fit_marked fit = fit_touched old mid fp fit frames slots (λ home. (let bad : Home ≡ Frame (record { 0 = frame }) = sym home ∙ there in (cc))) touched others place root at page_of files entry_marked

  pub linked_marked : (pid page : ℕ) → IsLinked old pid page → IsLinked mid pid page
  linked_marked pid page linked = record {
    fit = fit_marked linked.fit;
    lives = λ none. linked.lives (sym (root pid) ∙ none);
    whole = λ r e. ap (λ t. missing_of t (top_level mode) r page) frames ∙ linked.whole r (sym (root pid) ∙ e);
  }

  pub view_marked : (q k : ℕ) → view mid q k ≡ view old q k
  view_marked q k = view_kept old mid q k (at q k)
      (ap (λ e. own_in mid.frames mid.slots e) (entry_marked q k) ∙ ap (λ t. own_in t mid.slots (entry old q k)) frames ∙ ap (λ t. own_in old.frames t (entry old q k)) slots)

  pub tables_marked : KeepsTables old mid
  tables_marked = tables_same old mid (λ q r p e. ap (λ t. missing_of t (top_level mode) r p) frames)

module _ {mode : ℕ} where
  pub record KeepsAside (old new : Picture mode) (pid page : ℕ) : Type 0 where
    pub spaces : KeepsSpaces old new
    pub tables : KeepsTables old new
    pub room : KeepsRoom old new
    pub no_table : AddsNoTable old new
    pub files : KeepsFiles old new
    pub others : KeepsOtherViews old new pid page
    pub bare : KeepsOtherBare old new pid page
    pub slotted : KeepsSlotted (λ p. ⊥) (IsThatPage pid page) old new

pub keeps_files_then : {mode : ℕ} (a b c : Picture mode) → KeepsFiles a b → KeepsFiles b c → KeepsFiles a c
keeps_files_then a b c p q = record {
  held = λ x. ⊎_elim (λ later. ⊎_elim (λ first. inl (later ∙ first)) (λ home. inr (later ∙ home.0, home.1)) (p.held x)) (λ home. inr (home.0, sym (p.touched x) ∙ home.1)) (q.held x);
  touched = λ x. q.touched x ∙ p.touched x;
  files = λ f. q.files f ∙ p.files f;
}

module _ {mode : ℕ} {a b c : Picture mode} {pid page : ℕ} (first : KeepsAside a b pid page) (second : KeepsAside b c pid page) where
  pub aside_then : KeepsAside a c pid page
  aside_then = record {
    spaces = spaces_then a b c first.spaces second.spaces;
    tables = tables_then a b c first.spaces.root first.tables second.tables;
    room = room_then a b c first.room second.room;
    no_table = no_table_then a b c first.no_table second.no_table;
    files = keeps_files_then a b c first.files second.files;
    others = λ q p other. second.others q p other ∙ first.others q p other;
    bare = λ q p h other none. second.bare q p h other (first.bare q p h other none);
    slotted = slotted_then (λ p. ⊥) (IsThatPage pid page) a b c first.slotted second.slotted;
  }

-- frames were given up
module _ {mode : ℕ} {old new : Picture mode} {keep : Option FrameNo} (frees : Frees old new keep) where
  pub aside_freed : {pid page : ℕ} → KeepsAside old new pid page
  aside_freed {pid = pid} {page = page} =
      let tables = tables_freed old new keep frees in
      let bare = bare_freed old new keep frees in
      let slotted = slotted_frees (λ p. ⊥) (IsThatPage pid page) old new keep frees in
      search (rules, no_table_freed, frees.pages.views, bare)

-- one share of a frame was given back
module _ {mode : ℕ} (old new : Picture mode) (n : ℕ) (fit : IsFitBut old (InFrame n) 1 0) (role : role_of old.frames n ≡ Private) (releases : Releases old.frames new.frames n) (beside : SameBeside old new) where
  pub aside_released : {pid page : ℕ} → KeepsAside old new pid page
  aside_released {pid = pid} {page = page} =
      let spares = release_spares old new n 0 fit role releases beside in
      record {
        spaces = record { root = beside.root; at = beside.at };
        tables = tables_same old new (λ q x p e. missing_ends old new x p (spares.ends q x p e));
        room = record { frames = releases.others.frames; slots = ap (λ s. s.total) beside.slots };
        no_table = no_table_spared n 0 old new spares;
        files = spares.pages.files;
        others = λ q p other. spares.pages.views q p;
        bare = λ q p h other none. same old new n 0 fit role releases beside q p ∙ none;
        slotted = slotted_same (λ p. ⊥) (IsThatPage pid page) old new beside.place (λ q p h. same old new n 0 fit role releases beside q p);
      }

-- entries are in frames
pub slots_aside : {mode : ℕ} (c : Picture mode) (t : SlotTable) (q p : ℕ) → entry (record c { slots = t }) q p ≡ entry c q p
unfolding entry
slots_aside c t q p = refl

-- one share of a slot was given back
module _ {mode : ℕ} (old : Picture mode) (t : SlotTable) (k : ℕ) (fit : IsFitBut old (InSlot k) 1 0) (releases : ReleasesSlot old.slots t k) where
  abbrev new : Picture mode
  new = record old { slots = t }

  pub aside_slot_released : {pid page : ℕ} → KeepsAside old (record old { slots = t }) pid page
  aside_slot_released {pid = pid} {page = page} = record {
    spaces = record { root = λ q. refl; at = λ q p. refl };
    tables = tables_same old new (λ q x p e. refl);
    room = record { frames = refl; slots = releases.others.total };
    no_table = record { tables = λ n table. table; pointers = λ n i m points. points };
    files = record { held = λ p. inl (held_given old new k 1 0 (InSlot k) fit (with_slots old t) releases p); touched = λ p. refl; files = λ f. refl };
    others = λ q p other. views_given old new k 1 0 (InSlot k) fit (with_slots old t) releases q p;
    bare = λ q p h other none. slots_aside old t q p ∙ none;
    slotted = slotted_same (λ p. ⊥) (IsThatPage pid page) old new (λ p. refl) (λ q p h. slots_aside old t q p);
  }

module _ {M : Type 0} {m : Levels.Ghosts M} {D E : Type 0} (h : Ghosts E) (old new : Core D E M m) where
  pub leaves_aside : {pid page : ℕ} → IsFit (picture_of new) → IsReady h new.swap → KeepsAside (picture_of old) (picture_of new) pid page → new.store ≡ old.store
      → UsesDevice h old.swap.pages.disk new.swap.pages.disk → LeavesOthers h old new pid page
  leaves_aside fit swap aside store device = search rules

module _ {mode : ℕ} where
  -- A frame was obtained for a page, taken and written. No entry names it yet.
  pub record HasFrame (old found mid : Picture mode) (keep : Option FrameNo) (pid page r n : ℕ) (a : Attr) : Type 0 where
    pub linked : IsLinked old pid page
    pub lives : old.root pid ≡ Some r
    pub at : old.at pid page ≡ Some a
    pub frees : Frees old found keep
    pub fit : IsFit found
    pub stays : entry found pid page ≡ entry old pid page
    pub changes : ChangesFrame found mid n
    pub role : role_of mid.frames n ≡ Private
    pub one : count_of mid.frames n ≡ 1
    pub noted : mid.page_of n ≡ page

  -- The page's entry was set over it.
  pub record GivesFrame (old mid new : Picture mode) (page r n : ℕ) (a : Attr) : Type 0 where
    pub sets : (number : ℕ) × IsFullEntry mid a n true number × SetsEntry mid.frames new.frames (top_level mode) r page number
    pub beside : SameBeside mid new
    pub alone : is_shared a.backing ≡ false
    pub inside : is_past_end old.files a.backing ≡ false

module _ {M : Type 0} {m : Levels.Ghosts M} {D E : Type 0} {mid new : Core D E M m} {there : Spot} {a : Attr} {n : ℕ} (set : SetsFull mid new there a n true) where
  pub gives_frame : (old : Picture m.mode) → is_shared a.backing ≡ false → is_past_end old.files a.backing ≡ false
      → GivesFrame old (picture_of mid) (picture_of new) there.page there.root.0 n a
  gives_frame old alone inside = record { sets = set.sets; beside = beside_around mid new set.rest; alone = alone; inside = inside }

module _ {mode : ℕ} {old found mid : Picture mode} {keep : Option FrameNo} {pid page r n : ℕ} {a : Attr} (has : HasFrame old found mid keep pid page r n a) where
  lives : found.root pid ≡ Some r
  lives = has.frees.pages.root pid ∙ has.lives

  at : found.at pid page ≡ Some a
  at = has.frees.pages.at pid page ∙ has.at

  datum : role_of mid.frames n ≢ Table
  datum t = let bad : Private ≡ Table = sym has.role ∙ t in (cc)

  here : IsPage (top_level mode) page
  here = mapped_page old pid page a has.linked.fit.granting has.at

  fit_mid : IsFitBut mid (InFrame n) 1 0
  fit_mid = fit_own found mid n has.fit has.changes datum page has.role has.one has.noted here

  lives_mid : mid.root pid ≡ Some r
  lives_mid = has.changes.root pid ∙ lives

  pub forest_mid : IsForest mid.frames
  forest_mid = fit_mid.rooted.forest

  pub root_mid : IsRoot (top_level mode) mid.frames r
  root_mid = fit_mid.rooted.roots pid r lives_mid

  pub rows_mid : KeepsRows old mid
  rows_mid = rows_then old found mid has.frees.pages.root (rows_freed old found keep has.fit has.frees) (rows_changed found mid n has.fit has.changes datum)

  entry_mid : (q p : ℕ) → entry mid q p ≡ entry found q p
  entry_mid = entries_changed found mid n has.fit has.changes datum

  seat_mid : seat (entry mid pid page) ≡ seat (entry old pid page)
  seat_mid = ap seat (entry_mid pid page ∙ has.stays)

  below : pid < 65
  below = let number = has.fit.rooted.numbers pid r lives in omega (arith, number)

  module _ {new : Picture mode} (gives : GivesFrame old mid new page r n a) where
    abbrev number : ℕ
    number = gives.sets.0

    set : SetsPage mid new pid page gives.sets.0
    set = sets_page mid new 0 pid r page number fit_mid.rooted lives_mid here gives.sets.2 gives.beside

    rooted_new : IsRootedBut new 0
    rooted_new = rooted_set mid new 0 r page number fit_mid.rooted gives.sets.2 gives.beside

    to : seat gives.sets.0 ≡ Some (InFrame n)
    to = seat_over number a n _ _ gives.sets.1

    for : IsEntryFor new (mid.at pid page) gives.sets.0
    for = entry_for-same mid new (mid.at pid page) number (behind_kept mid new gives.beside)
        (λ own write sole. ap (λ cs. get_or cs (frame_of number) 0) gives.sets.2.kept.counts ∙ sole)
        (full_entry mid (mid.at pid page) a n true number (has.changes.at pid page ∙ at) gives.sets.1 (λ own. gives.alone) (λ common. absurd (false≢true (sym common)))
        (past_end-same found mid a.backing has.changes.files ∙ past_end-same old found a.backing has.frees.pages.files.files ∙ gives.inside))

    not_common : is_valid gives.sets.0 ≡ true → is_private gives.sets.0 ≡ false → ⊥
    not_common valid common = false≢true (sym common ∙ gives.sets.1.owned)

    -- it had no seat
    pub fit_given : seat (entry old pid page) ≡ None → IsFit new
    fit_given none = fit_filled mid new pid page number 0 set here for rooted_new (λ p valid common. absurd (not_common valid common)) (InFrame n) fit_mid has.role (λ sp. has.noted) below
        (seat_mid ∙ none) to

    -- it had another one
    pub fit_seated : (x : Seat) → seat (entry old pid page) ≡ Some x → x ≢ InFrame n → IsFitBut new x 1 0
    fit_seated x from apart = fit_moved mid new x (InFrame n) 0 pid page number fit_mid set here below (seat_mid ∙ from) to apart has.role has.noted for not_common rooted_new

    pub seat_owned : (x : Seat) → seat (entry old pid page) ≡ Some x → IsOwned new x
    seat_owned x from = owned_forth mid new set.beside set.shares x (fit_mid.counted.1.named pid page x here (seat_mid ∙ from))

    pub entry_given : IsFullEntry mid a n true (entry new pid page)
    entry_given = let P : ℕ → Type 0 = λ e. IsFullEntry mid a n true e in subst P (sym set.changed) gives.sets.1

    pub bytes_given : bytes_of new.frames n ≡ bytes_of mid.frames n
    bytes_given = set.bytes n datum

    pub count_given : count_of new.frames n ≡ 1
    count_given = set.shares.counts n has.role ∙ has.one

    pub view_given : view new pid page ≡ Some (record { attr = a; own = Some (bytes_of mid.frames n) })
    unfolding view
    view_given =
        ap (λ o. view_of o (new.at pid page)) (ap (λ z. option_map (bytes_in new.frames new.slots) z) (ap seat set.changed ∙ to) ∙ ap (λ b. Some b) bytes_given)
        ∙ ap (λ o. view_of (Some (bytes_of mid.frames n)) o) (gives.beside.at pid page ∙ has.changes.at pid page ∙ at)

    pub set_others : (q p : ℕ) → IsPage (top_level mode) p → (q ≢ pid) ⊎ (p ≢ page) → entry new q p ≡ entry mid q p
    set_others = set.others

    entry_others : (q p : ℕ) → IsPage (top_level mode) p → (q ≢ pid) ⊎ (p ≢ page) → entry new q p ≡ entry found q p
    entry_others q p h other = set.others q p h other ∙ entry_mid q p

    aside_set : KeepsAside found new pid page
    aside_set =
        let trees = trees_changed found mid n has.fit has.changes datum in
        record {
          spaces = record { root = λ q. gives.beside.root q ∙ has.changes.root q; at = λ q p. gives.beside.at q p ∙ has.changes.at q p };
          tables = tables_same found new (λ q x p e. gives.sets.2.missing x p (fit_mid.rooted.roots q x (has.changes.root q ∙ e)) ∙ trees.missing x p (has.fit.rooted.roots q x e));
          room = record { frames = gives.sets.2.kept.frames ∙ has.changes.frames.frames; slots = ap (λ s. s.total) gives.beside.slots ∙ ap (λ s. s.total) has.changes.slots };
          no_table = no_table_then found mid new (no_table_trees found mid trees) (no_table_kept gives.sets.2.kept (λ n i m points. (gives.sets.2.pointers n i m).0 points));
          files = record {
            held = λ p. inl (set_held mid new pid page number 0 (InFrame n) 1 fit_mid set p ∙ held_changed found mid n has.fit has.changes datum p);
            touched = λ p. gives.beside.touched p ∙ has.changes.touched p;
            files = λ f. gives.beside.files f ∙ has.changes.files f;
          };
          others = λ q p other. other_views mid new pid page number 0 (InFrame n) 1 fit_mid set q p other ∙ views_changed found mid n has.fit has.changes datum q p;
          bare = λ q p h other none. entry_others q p h other ∙ none;
          slotted = slotted_but (λ p. ⊥) found new pid page (λ p. gives.beside.place p ∙ has.changes.place p) entry_others;
        }

    pub aside_given : KeepsAside old new pid page
    aside_given = aside_then (aside_freed has.frees) aside_set

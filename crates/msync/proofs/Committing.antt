-- A commit of the touched pages of a row, as the flat model sees it.
use Rattle.{file_store.specs.Layout.{padded_page as store_trimmed}, msync.proofs.Names.{ℕ, inl, inr, ◌⊎◌, ◌-◌, ◌*◌, ◌≡◌, ◌≢◌, ◌<◌, ◌≤◌, ◌&&◌, ◌++◌, not, Bool, true, false, min, List, length, take, replicate, slice_get, Option, Some}}
use Rattle.msync.proofs.Names.{None, refl, sym, ap, ◌∙◌, subst, arith, get_or-take, cases_Bool, length-take-le, get_or_from_slice_get, slice_get-get_or, slice_get_within, and-true, and-false, false≢true, is_some, frame_of, cut_page}
use Rattle.msync.proofs.Names.{IsPageOf, Private, Cache, FrameTable, SlotTable, Home, Frame, Slot, FileInfo, FilePage, ObjectPage, PageKey, File, Object, SlotNo, Files, inside_of, cut, trimmed, touched_in, committed, committed_pages}
use Rattle.msync.proofs.{Names.{synced, State, InFrame, Picture, entry, held, is_private, IsFit, ShowsPages}, SettledPages.{one_file, held_spot, cases_listed}, Sizing.{KnowsLengths, taken_page, whole_page, left_page, trimmed_page}}
use Rattle.msync.{proofs.Sizing.{same_page, cut_home, home_synced}, specs.{Choice.{Chosen, chosen_page, first_page, ListsTouched, IsListed, IsAway}, Settling.{settled_place, settled_in, Settles, LosesDirtyOnly, ComesHome, SettlesMemory}}}
use Rattle.msync.specs.{Settling.{SettlesPlaces}, Spots.{spot_at, place_at, bytes_there, IsSlotted, HasSlot, AreSpots, HasSpots}, declared.chosen.{Residence.{Residence, TheVariants.{Framed, Slotted}}, Spot.{Spot}}}
use Rattle.{sized_stores.specs.{Commit.{is_one_of, TakesSizes}, Store.{directory_of, files_of, shortest_in}, declared.store.SizedStore.{SizedStore}}, vm_types.specs.{Files.{bytes_inside}, Msync.{resized_in, trimmed_pages}}}
use Rattle.vm_types.specs.State.{home_page}

-- what stands at a place of a list
pub some_get : (xs : List FilePage) (i : ℕ) (p : FilePage) → slice_get xs i ≡ Some p → (i < length xs) × (p ≡ chosen_page xs i)
some_get xs i p e = (slice_get_within xs i p e, sym (get_or_from_slice_get xs i p first_page e))

-- the pages of a commit, as they stand at the front of the list
pub front_length : (chosen : Chosen) → chosen.count ≤ length chosen.list → length (take chosen.count chosen.list) ≡ chosen.count
front_length chosen fit = length-take-le chosen.count chosen.list fit

pub front_same : (chosen : Chosen) (i : ℕ) → i < chosen.count → chosen_page (take chosen.count chosen.list) i ≡ chosen_page chosen.list i
front_same chosen i less = get_or-take chosen.count chosen.list i first_page less

pub front_touched : {mode : ℕ} (c : Picture mode) (resized : ℕ → Bool) (chosen : Chosen) → IsListed c resized chosen → (i : ℕ) → i < length (take chosen.count chosen.list)
    → c.touched (File (chosen_page (take chosen.count chosen.list) i)) ≡ true
front_touched c resized chosen listed i less =
    let below : i < chosen.count = omega (arith, front_length chosen listed.few) in
    ap (λ q. c.touched (File q)) (front_same chosen i below) ∙ listed.touched i below

pub front_once : {mode : ℕ} (c : Picture mode) (resized : ℕ → Bool) (chosen : Chosen) → IsListed c resized chosen → (i j : ℕ) → i < j → j < length (take chosen.count chosen.list)
    → chosen_page (take chosen.count chosen.list) i ≢ chosen_page (take chosen.count chosen.list) j
front_once c resized chosen listed i j less high e =
    let below : j < chosen.count = omega (arith, front_length chosen listed.few) in
    listed.once i j less below (sym (front_same chosen i (omega arith)) ∙ e ∙ front_same chosen j below)

-- they are no more than there is room for
pub front_few : {mode : ℕ} (c : Picture mode) (resized : ℕ → Bool) (chosen : Chosen) (room : ℕ) → IsListed c resized chosen → chosen.count ≤ room → length (take chosen.count chosen.list) ≤ room
front_few c resized chosen room listed few = omega (arith, front_length chosen listed.few, few)

-- they lie in their spots, each once
pub are_spots : {mode : ℕ} (c : Picture mode) (resized : ℕ → Bool) (chosen : Chosen) (list : List Spot) → IsListed c resized chosen → HasSpots c (take chosen.count chosen.list) list → AreSpots c list
are_spots c resized chosen list listed spots =
    record {
      each = λ i less. spots.spots i (omega (arith, spots.count));
      once = λ i j less high e.
          let below : j < length (take chosen.count chosen.list) = omega (arith, spots.count) in
          front_once c resized chosen listed i j less below (sym (spots.same i (omega arith)) ∙ e ∙ spots.same j below);
    }

-- the list is of what the flat model takes
pub front_lists : (s : State) (pid first count : ℕ) (chosen : Chosen) → chosen.count ≤ length chosen.list
    → ListsTouched (λ page. touched_in s pid first count page.file page.page) chosen.list chosen.count
    → ListsTouched (λ page. touched_in s pid first count page.file page.page) (take chosen.count chosen.list) (length (take chosen.count chosen.list))
front_lists s pid first count chosen fit l = record {
  each = λ i less.
      let below : i < chosen.count = omega (arith, front_length chosen fit) in
      ap (λ (p : FilePage). touched_in s pid first count p.file p.page) (front_same chosen i below) ∙ l.each i below;
  once = λ i j less high e.
      let below : j < chosen.count = omega (arith, front_length chosen fit) in
      l.once i j less below (sym (front_same chosen i (omega arith)) ∙ e ∙ front_same chosen j below);
  all = λ p e. let r = l.all p e in (r.0, omega (arith, r.1, front_length chosen fit), front_same chosen r.0 r.1 ∙ r.2);
}

-- the store cuts a page as the flat model does
same_cut : (info : FileInfo) (k : ℕ) (page : List ℕ) → length page ≡ 4096 → cut (inside_of (Some info) k) page ≡ cut_page (Some info) k page
unfolding store_trimmed
same_cut info k page len =
    let n = min 4096 (info.length - 4096 * k) in
    let e : length (take n page) ≡ n = length-take-le n page (omega arith) in
    ap (λ (x : ℕ). take n page ++ replicate (4096 - x) 0) (sym e)

no_home : (at : Residence) → Home ≢ place_at at
no_home (Framed n) e = (cc)
no_home (Slotted k) e = (cc)

-- what is in memory of a page that was settled is what lay there, with zeros past the end of its file
from_settled : (files : Files) (t : FrameTable) (s : SlotTable) (p : FilePage) (at : Residence) (bytes : List ℕ) → settled_in files t p at ≡ Some bytes
    → trimmed files p.file p.page (bytes_there t s at) ≡ bytes
from_settled files t s p (Framed n) bytes is = (cc)
from_settled files t s p (Slotted k) bytes is = let bad : None ≡ Some bytes = is in (cc)

module _ {mode : ℕ} (c : Picture mode) (s : State) (pid first count : ℕ) (pages : List FilePage) (list : List Spot) (fit : IsFit c) (shows : ShowsPages c s) (spots : HasSpots c pages list)
    (lists : ListsTouched (λ page. touched_in s pid first count page.file page.page) pages (length pages)) where
  bytes_at : (i : ℕ) → i < length pages → s.volatile (chosen_page pages i).file (chosen_page pages i).page ≡ bytes_there c.frames c.slots (spot_at list i).at
  bytes_at i less =
      let x = spot_at list i in
      let P : FilePage → Type 0 = λ p. s.volatile p.file p.page ≡ bytes_there c.frames c.slots (spot_at list i).at in
      subst P (spots.same i less) (shows.held x.page (bytes_there c.frames c.slots x.at) (held_spot c (File x.page) x.at (spots.spots i less).placed))

  file_at : (i : ℕ) → i < length pages → IsPageOf c.files (chosen_page pages i).file (chosen_page pages i).page
  file_at i less =
      let x = spot_at list i in
      subst (λ (p : FilePage). IsPageOf c.files p.file p.page) (spots.same i less) (fit.places.inside (File x.page) (λ home. no_home x.at (sym home ∙ (spots.spots i less).placed)))

  cut_at : (i : ℕ) → i < length pages
      → trimmed s.files (chosen_page pages i).file (chosen_page pages i).page (s.volatile (chosen_page pages i).file (chosen_page pages i).page)
      ≡ cut_page (s.files (chosen_page pages i).file) (chosen_page pages i).page (bytes_there c.frames c.slots (spot_at list i).at)
  cut_at i less =
      let p = chosen_page pages i in
      let w = bytes_there c.frames c.slots (spot_at list i).at in
      let at = file_at i less in
      let file : s.files p.file ≡ Some at.0 = shows.files p.file ∙ at.1 in
      ap (trimmed s.files p.file p.page) (bytes_at i less) ∙ subst (λ (o : Option FileInfo). cut (inside_of o p.page) w ≡ cut_page o p.page w) (sym file) (same_cut at.0 p.page w (spots.whole i less))

  -- a touched page that is taken has 4,096 bytes
  pub taken_long : (f k : ℕ) → touched_in s pid first count f k ≡ true → length (s.volatile f k) ≡ 4096
  taken_long f k taken =
      let r = lists.all (record { file = f; page = k }) taken in
      let P : FilePage → Type 0 = λ p. length (s.volatile p.file p.page) ≡ 4096 in
      subst P r.2 (ap length (bytes_at r.0 r.1) ∙ spots.whole r.0 r.1)

  not_taken : (f k : ℕ) → ((i : ℕ) × (p : FilePage) × (slice_get pages i ≡ Some p) × (p.file ≡ f) × (p.page ≡ k) → ⊥) → touched_in s pid first count f k ≡ false
  not_taken f k none = elim (cases_Bool (touched_in s pid first count f k)) [
    | inr left ↦ left
    | inl taken ↦ (
        let r = lists.all (record { file = f; page = k }) taken in
        absurd (none (r.0, chosen_page pages r.0, slice_get-get_or pages r.0 first_page r.1, ap (λ (x : FilePage). x.file) r.2, ap (λ (x : FilePage). x.page) r.2)))
  ]

  -- what the store makes of what is durable is what the flat model does
  pub changes : {D : Type 0} (store : SizedStore D) (lengths : List ℕ) → KnowsLengths s → ((f : ℕ) → c.files f ≡ files_of store f) → ((f : ℕ) → s.shortest f ≡ shortest_in (directory_of store) f)
      → ((f : ℕ) → is_one_of lengths f ≡ resized_in s pid first count f)
      → TakesSizes store lengths pages (λ i. bytes_there c.frames c.slots (spot_at list i).at) s.durable.pages (committed s pid first count s.durable).pages
  changes store lengths knows files short same = record {
    listed = λ i p e.
        let r = some_get pages i p e in
        let q = chosen_page pages i in
        let w = bytes_there c.frames c.slots (spot_at list i).at in
        subst (λ (x : FilePage). committed_pages s pid first count s.durable.pages x.file x.page ≡ cut_page (files_of store x.file) x.page w) (sym r.1)
        (taken_page s pid first count q.file q.page s.durable.pages (lists.each i r.0) ∙ cut_at i r.0 ∙ ap (λ (o : Option FileInfo). cut_page o q.page w) (shows.files q.file ∙ files q.file));
    left = λ f k one none.
        let whole = sym (same f) ∙ one in
        whole_page s pid first count f k s.durable.pages whole ∙ cut_home c s pid first count shows knows f k whole (not_taken f k none)
        ∙ ap (λ (n : ℕ). cut (bytes_inside n k) (s.durable.pages f k)) (short f);
    others = λ f k none left. left_page s pid first count f k s.durable.pages (not_taken f k left) (sym (same f) ∙ none);
  }

  -- a page that isn't taken is none of the list
  not_listed : (p : FilePage) → touched_in s pid first count p.file p.page ≡ false → (i : ℕ) → i < length list → File (spot_at list i).page ≢ File p
  not_listed p left i less same =
      let below : i < length pages = omega (arith, spots.count) in
      let bad : true ≡ false = sym (subst (λ (q : FilePage). touched_in s pid first count q.file q.page ≡ true) (sym (spots.same i below) ∙ one_file (spot_at list i).page p same) (lists.each i below)) ∙ left in (cc)

  -- one that is taken has its place in the list
  listed_place : (p : FilePage) → touched_in s pid first count p.file p.page ≡ true → (i : ℕ) × (i < length list) × ((spot_at list i).page ≡ p)
  listed_place p taken = let r = lists.all p taken in (r.0, omega (arith, r.1, spots.count), spots.same r.0 r.1 ∙ r.2)

  module _ (new : Picture mode) (settles : Settles c new list (length list)) (knows : KnowsLengths s) where
    touched_now : (p : FilePage) → (s.touched p.file p.page && not (touched_in s pid first count p.file p.page)) ≡ new.touched (File p)
    touched_now p = elim (cases_Bool (touched_in s pid first count p.file p.page)) [
      | inl taken ↦ (
          let r = listed_place p taken in
          let clean : new.touched (File p) ≡ false = ap (λ q. new.touched (File q)) (sym r.2) ∙ settles.cleaned r.0 r.1 in
          rw taken (and-false (s.touched p.file p.page) ∙ sym clean))
      | inr left ↦ (rw left (and-true (s.touched p.file p.page) ∙ shows.touched p ∙ sym (settles.untouched (File p) (not_listed p left))))
    ]

    held_now : (p : FilePage) (bytes : List ℕ) → held new (File p) ≡ Some bytes → trimmed_pages s pid first count p.file p.page ≡ bytes
    held_now p bytes here = elim (cases_Bool (touched_in s pid first count p.file p.page)) [
      | inl taken ↦ (
          let r = listed_place p taken in
          let x = spot_at list r.0 in
          let below : r.0 < length pages = (let less = r.1 in omega (arith, less, spots.count)) in
          let is : settled_in c.files c.frames x.page x.at ≡ Some bytes = sym (settles.settled r.0 r.1) ∙ ap (λ q. held new (File q)) r.2 ∙ here in
          let cut_is = from_settled c.files c.frames c.slots x.page x.at bytes is in
          let P : FilePage → Type 0 = λ q. s.volatile q.file q.page ≡ bytes_there c.frames c.slots x.at in
          trimmed_page s pid first count p.file p.page taken
          ∙ ap (trimmed s.files p.file p.page) (subst P (sym (spots.same r.0 below) ∙ r.2) (bytes_at r.0 below))
          ∙ ap (λ (o : Option FileInfo). cut (inside_of o p.page) (bytes_there c.frames c.slots x.at)) (shows.files p.file)
          ∙ subst (λ (q : FilePage). trimmed c.files q.file q.page (bytes_there c.frames c.slots x.at) ≡ bytes) r.2 cut_is)
      | inr left ↦ same_page s pid first count p.file p.page left ∙ shows.held p bytes (sym (settles.kept (File p) (not_listed p left)) ∙ here)
    ]

    clean_now : (p : FilePage) → new.touched (File p) ≡ false → IsPageOf new.files p.file p.page → trimmed_pages s pid first count p.file p.page ≡ home_page (synced s pid first count) p.file p.page
    clean_now p untouched inside =
        home_synced c s pid first count shows knows taken_long p.file p.page inside.0 (shows.files p.file ∙ sym (settles.files p.file) ∙ inside.1) inside.2 (touched_now p ∙ untouched)

    none_object : (o : ObjectPage) (i : ℕ) → i < length list → File (spot_at list i).page ≢ Object o
    none_object o i less e = (cc)

    -- memory afterwards shows the state afterwards
    pub synced_shows : ShowsPages new (synced s pid first count)
    synced_shows = record {
      live = λ q. shows.live q ∙ ap (λ (o : Option ℕ). is_some o) (sym (settles.root q));
      views = λ q p. shows.views q p ∙ sym (settles.views q p);
      files = λ f. shows.files f ∙ sym (settles.files f);
      touched = touched_now;
      objects = λ o. shows.objects o ∙ sym (rw (settles.untouched (Object o) (none_object o), settles.kept (Object o) (none_object o)) refl);
      blank = λ o bytes untouched is. shows.blank o bytes (sym (settles.untouched (Object o) (none_object o)) ∙ untouched) (sym (settles.kept (Object o) (none_object o)) ∙ is);
      held = held_now;
      same_mode = shows.same_mode;
      clean = clean_now;
    }

module _ {mode : ℕ} (c new : Picture mode) (resized : ℕ → Bool) (chosen : Chosen) (list : List Spot) (fit : IsFit c) (listed : IsListed c resized chosen) (spots : HasSpots c (take chosen.count chosen.list) list)
    (settles : Settles c new list (length list)) where
  was_touched : (i : ℕ) → i < length list → c.touched (File (spot_at list i).page) ≡ true
  was_touched i less =
      let below : i < length (take chosen.count chosen.list) = omega (arith, less, spots.count) in
      ap (λ q. c.touched (File q)) (spots.same i below) ∙ front_touched c resized chosen listed i below

  placed_at : (i : ℕ) → i < length list → c.place (File (spot_at list i).page) ≡ place_at (spot_at list i).at
  placed_at i less = (spots.spots i (omega (arith, less, spots.count))).placed

  -- of all entries only leaves over the pages that were taken lost D
  entries_synced : LosesDirtyOnly c new
  entries_synced pid page h = elim (settles.entries pid page h) [
    | inl same ↦ inl same
    | inr lost ↦ (
        let i = lost.frame.0 in
        let e = entry c pid page in
        let over : c.place (File (spot_at list i).page) ≡ Frame (record { 0 = frame_of e }) = placed_at i lost.frame.1 ∙ ap place_at lost.frame.2 in
        inr (record {
          leaf = lost.leaf;
          common = elim (cases_Bool (is_private e)) [
            | inl own ↦ absurd (
                let named = fit.counted.1.named pid page (InFrame (frame_of e)) h (rw own refl) in
                let bad : Private ≡ Cache = sym named ∙ fit.places.cached (File (spot_at list i).page) (frame_of e) over in (cc))
            | inr common ↦ common
          ];
          loses = lost.loses;
          page = (spot_at list i).page;
          over = over;
          was = was_touched i lost.frame.1;
          now = settles.cleaned i lost.frame.1;
        }))
  ]

  place_synced : (p : FilePage) (at : Residence) → c.place (File p) ≡ place_at at → new.place (File p) ≡ settled_place at → c.touched (File p) ≡ true → new.touched (File p) ≡ false
      → (new.place (File p) ≡ c.place (File p)) ⊎ ComesHome c new p
  place_synced p (Framed n) was now touched clean = inl (now ∙ sym was)
  place_synced p (Slotted k) was now touched clean = inr (record { slot = k; was = was; touched = touched; now = now; clean = clean })

  -- and every file page that wasn't in a slot lies where it lay
  places_synced : SettlesPlaces c new
  places_synced p = elim (cases_listed list (length list) p) [
    | inr none ↦ inl (settles.elsewhere p none)
    | inl found ↦ (
        let i = found.0 in
        let x = spot_at list i in
        let P : PageKey → Type 0 = λ q. (new.place q ≡ c.place q) ⊎ ((f : FilePage) × (q ≡ File f) × ComesHome c new f) in
        subst P found.2 (elim (place_synced x.page x.at (placed_at i found.1) (settles.placed i found.1) (was_touched i found.1) (settles.cleaned i found.1)) [
          | inl same ↦ inl same
          | inr home ↦ inr (x.page, refl, home)
        ]))
  ]

  pub memory_synced : SettlesMemory c new
  memory_synced = record { roles = settles.roles; entries = entries_synced; places = places_synced }

slot_of : {mode : ℕ} (c : Picture mode) (p : PageKey) (at : Residence) → c.place p ≡ place_at at → IsSlotted at → (k : SlotNo) × (c.place p ≡ Slot k)
slot_of c p (Framed n) placed is = absurd is
slot_of c p (Slotted k) placed is = (k, placed)

-- where one of the spots is a slot, a page of the commit lies in one
pub away_of : {mode : ℕ} (c : Picture mode) (chosen : Chosen) (list : List Spot) → chosen.count ≤ length chosen.list → HasSpots c (take chosen.count chosen.list) list → HasSlot list → IsAway c chosen
away_of c chosen list fit spots has =
    let i = has.0 in
    let below : i < length (take chosen.count chosen.list) = (let less = has.1 in omega (arith, less, spots.count)) in
    let front : i < chosen.count = omega (arith, below, front_length chosen fit) in
    let slot = slot_of c (File (spot_at list i).page) (spot_at list i).at (spots.spots i below).placed has.2 in
    record { number = i; below = front; slot = slot.0; placed = ap (λ q. c.place (File q)) (sym (front_same chosen i front) ∙ sym (spots.same i below)) ∙ slot.1 }

-- a page of a file that got another length, and isn't taken whole, is touched as it was
pub left_touched : {mode : ℕ} (c new : Picture mode) (resized : ℕ → Bool) (chosen : Chosen) (list : List Spot) → IsListed c resized chosen → HasSpots c (take chosen.count chosen.list) list
    → Settles c new list (length list) → (p : FilePage) → is_one_of chosen.files p.file ≡ false → resized p.file ≡ true → new.touched (File p) ≡ c.touched (File p)
left_touched c new resized chosen list listed spots settles p none other = settles.untouched (File p) (λ i less is.
    (let below : i < length (take chosen.count chosen.list) = omega (arith, less, spots.count) in
    let low : i < chosen.count = omega (arith, below, front_length chosen listed.few) in
    let q = chosen_page chosen.list i in
    let same : q ≡ p = sym (front_same chosen i low) ∙ sym (spots.same i below) ∙ one_file (spot_at list i).page p is in
    let kept : resized q.file ≡ false = listed.others i low (ap (λ (x : FilePage). is_one_of chosen.files x.file) same ∙ none) in
    false≢true (sym kept ∙ ap (λ (x : FilePage). resized x.file) same ∙ other)))

-- Changes that are checked, and why they are refused.
use Rattle.std.proofs.Common.{ℕ, ◌≡◌, ◌<◌, ◌≤◌, ◌+◌, ◌-◌, ⊎_elim, List, length, drop, get_or, slice_get, sym, ap, subst, ◌∙◌, arith, Option, Some, None, Result, Ok, Err}
use Rattle.std.specs.Prelude.{IfErr, OnOk}
use Rattle.std.proofs.lemmas.Bool.{cases_eq, cases_lt}
use Rattle.std.proofs.lemmas.List.{get_or_past}
use Rattle.std.proofs.lemmas.Option.{none-some, same_Some, get_or_from_slice_get, slice_get-get_or, slice_get_within}
use Rattle.directories.specs.Homes.{extents_of, homes_of, pages_of_length}
use Rattle.directories.specs.Layouts.{entry_in, IsExtent, IsHomeIn, ShareHome, IsGoodLayout, SharesHome}
use Rattle.directories.specs.declared.entry.Extent.{Extent}
use Rattle.directories.specs.declared.entry.Entry.{Entry}
use Rattle.directories.specs.Checks.{IsFileGood}
use Rattle.directories.proofs.Said.{no_extent}
use Rattle.growth.specs.Changes.{entries_after, AreChanges, IsOld, TakesFreeHomes}
use Rattle.growth.specs.Refusals.{TakesHome, IsChangeRefused}
use Rattle.growth.specs.Parts.{new_extents, IsMet, HasHomeOf, TakesHomeOf, HaveNone, IsApartFrom, TakeNone, IsExtentGood, AreExtentsGood, HasGoodExtents, IsChecked, AreChecked, IsFileRefused}
use Rattle.growth.specs.declared.changes.Change.{Change}
use Rattle.growth.specs.declared.faults.ChangeFault.{ChangeFault}
use Rattle.growth.specs.declared.faults.ChangeFault.TheVariants.{Outside, Short, Shared, Taken}
use Rattle.growth.specs.declared.searching.Held.{Held}
use Rattle.growth.proofs.{Listed.{no_change, one_more, get_dropped}, Changed.{IsChanged, IsNew, kept, length_after, file_after, entry_of_change, old_or_new, new_is, new_is_not_old}}

pub swapped : (x y : Extent) → ShareHome x y → ShareHome y x
swapped x y shared = record { home = shared.home; one = shared.other; other = shared.one }

module _ (pages homes : ℕ) (before : List (Option Entry)) (changes : List Change) (are : AreChanges before changes) where
  abbrev after : List (Option Entry)
  after = entries_after before changes

  -- what was checked of a new extent
  good_extent : AreChecked pages homes before changes (length changes) → (f i : ℕ) (x : Extent) (new : IsNew before changes f i x)
      → IsExtentGood before new.change (drop (new.has.place + 1) changes) new.place x
  good_extent checked f i x new =
      let inside = slice_get_within changes new.has.place new.change new.has.is in
      (checked new.has.place new.change inside new.has.is).extents new.place x (slice_get_within (new_extents before new.change) new.place x new.new) new.new

  pub takes_free : AreChecked pages homes before changes (length changes) → TakesFreeHomes before after
  takes_free checked = record {
    free = λ f i g j x y is fresh had shared. ⊎_elim
        (λ old. fresh old)
        (λ (new : IsNew before changes f i x). (good_extent checked f i x new).free g j y had shared)
        (old_or_new before changes f i x is);
  }

  -- the later of two new extents
  later_place : AreChecked pages homes before changes (length changes) → (f i g j : ℕ) (x y : Extent) (new : IsNew before changes f i x) (other : IsNew before changes g j y)
      → ShareHome x y → new.has.place < other.has.place → ⊥
  later_place checked f i g j x y new other shared less =
      let k = new.has.place in
      let m = other.has.place in
      let at : k + 1 + (m - (k + 1)) ≡ m = omega (arith, less) in
      (good_extent checked f i x new).later (m - (k + 1)) other.change (get_dropped changes (k + 1) (m - (k + 1)) ∙ ap (slice_get changes) at ∙ other.has.is)
      other.place y other.new shared

  same_change : (f i g j : ℕ) (x y : Extent) (new : IsNew before changes f i x) (other : IsNew before changes g j y) → new.has.place ≡ other.has.place → new.change ≡ other.change
  same_change f i g j x y new other same = same_Some new.change other.change (sym new.has.is ∙ ap (slice_get changes) same ∙ other.has.is)

  behind : AreChecked pages homes before changes (length changes) → (f i g j : ℕ) (x y : Extent) (new : IsNew before changes f i x) (other : IsNew before changes g j y)
      → ShareHome x y → new.change ≡ other.change → new.place < other.place → ⊥
  behind checked f i g j x y new other shared same less =
      let k = new.place in
      let m = other.place in
      let at : k + 1 + (m - (k + 1)) ≡ m = omega (arith, less) in
      (good_extent checked f i x new).own (m - (k + 1)) y
      (get_dropped (new_extents before new.change) (k + 1) (m - (k + 1)) ∙ ap (slice_get (new_extents before new.change)) at
      ∙ ap (λ (c : Change). slice_get (new_extents before c) m) same ∙ other.new) shared

  both_new : AreChecked pages homes before changes (length changes) → (f i g j : ℕ) (x y : Extent) → IsNew before changes f i x → IsNew before changes g j y → ShareHome x y → (f ≡ g) × (i ≡ j)
  both_new checked f i g j x y new other shared = ⊎_elim
      (λ (places : new.has.place ≡ other.has.place).
      let same = same_change f i g j x y new other places in
      ⊎_elim
      (λ (here : new.place ≡ other.place). (
        sym new.has.file ∙ ap (λ (c : Change). c.file) same ∙ other.has.file,
        new.at ∙ ap (λ (c : Change). kept before c + new.place) same ∙ ap (λ n. kept before other.change + n) here ∙ sym other.at,
      ))
      (λ differ. ⊎_elim
      (λ less. absurd (behind checked f i g j x y new other shared same less))
      (λ le. absurd (behind checked g j f i y x other new (swapped x y shared) (sym same) (omega (arith, le, differ))))
      (cases_lt new.place other.place))
      (cases_eq new.place other.place))
      (λ differ. ⊎_elim
      (λ less. absurd (later_place checked f i g j x y new other shared less))
      (λ le. absurd (later_place checked g j f i y x other new (swapped x y shared) (omega (arith, le, differ))))
      (cases_lt new.has.place other.has.place))
      (cases_eq new.has.place other.has.place)

  apart : IsGoodLayout pages homes before → AreChecked pages homes before changes (length changes) → (f i g j : ℕ) (x y : Extent) → IsExtent after f i x → IsExtent after g j y
      → ShareHome x y → (f ≡ g) × (i ≡ j)
  apart good checked f i g j x y is also shared = ⊎_elim
      (λ (old : IsOld before after f i). ⊎_elim
      (λ (other : IsOld before after g j). good.apart f i g j x y (old i x (omega arith) is) (other j y (omega arith) also) shared)
      (λ (new : IsNew before changes g j y). absurd ((good_extent checked g j y new).free f i x (old i x (omega arith) is) (swapped x y shared)))
      (old_or_new before changes g j y also))
      (λ (new : IsNew before changes f i x). ⊎_elim
      (λ (other : IsOld before after g j). absurd ((good_extent checked f i x new).free g j y (other j y (omega arith) also) shared))
      (λ (other : IsNew before changes g j y). both_new checked f i g j x y new other shared)
      (old_or_new before changes g j y also))
      (old_or_new before changes f i x is)

  within : IsGoodLayout pages homes before → AreChecked pages homes before changes (length changes) → (f i h : ℕ) (x : Extent) → IsExtent after f i x → IsHomeIn x h → (pages ≤ h) × (h < homes)
  within good checked f i h x is has = ⊎_elim
      (λ (old : IsOld before after f i). good.within f i h x (old i x (omega arith) is) has)
      (λ (new : IsNew before changes f i x).
      let inside = slice_get_within changes new.has.place new.change new.has.is in
      let entry : new.change.entry ≡ Some is.entry = sym (entry_of_change before changes new.has.place new.change are new.has.is) ∙ ap (entry_in after) new.has.file ∙ is.file in
      ((checked new.has.place new.change inside new.has.is).file is.entry entry).within i x is.extent h has)
      (old_or_new before changes f i x is)

  file_in : (f : ℕ) (e : Entry) → entry_in after f ≡ Some e → f < length before
  file_in f e is = ⊎_elim
      (λ less. less)
      (λ past. let long = length_after before changes in absurd (none-some e (sym (get_or_past after f None (omega (arith, long, past))) ∙ is)))
      (cases_lt f (length before))

  enough : IsGoodLayout pages homes before → AreChecked pages homes before changes (length changes) → (f : ℕ) (e : Entry) → entry_in after f ≡ Some e → pages_of_length e.length ≤ length (homes_of (extents_of e))
  enough good checked f e is = ⊎_elim
      (λ (ch : IsChanged before changes f).
      let inside = slice_get_within changes ch.has.place ch.change ch.has.is in
      ((checked ch.has.place ch.change inside ch.has.is).file e (sym ch.entry ∙ is)).enough)
      (λ same. good.enough f e (sym same ∙ is))
      (file_after before changes f (file_in f e is))

  pub good_after : IsGoodLayout pages homes before → AreChecked pages homes before changes (length changes) → IsGoodLayout pages homes after
  good_after good checked = record { within = within good checked; apart = apart good checked; enough = enough good checked }

  -- a new extent of change i, and why it is refused
  module _ (i : ℕ) (c : Change) (is : slice_get changes i ≡ Some c) (k : ℕ) (x : Extent) (new : slice_get (new_extents before c) k ≡ Some x) where
    pub taken : (held : Held) → HasHomeOf before x held → TakesHome before after c.file held.file
    taken held has = record {
      place = kept before c + k;
      other_place = has.place;
      extent = x;
      other = held.extent;
      is = new_is before changes i k c x are is new;
      fresh = new_is_not_old before changes i k c x are is new;
      had = has.is;
      shared = has.shared;
    }

    pub shared_own : (y : Extent) → IsMet (drop (k + 1) (new_extents before c)) x y → SharesHome after c.file c.file
    shared_own y met = record {
      place = kept before c + k;
      other_place = kept before c + (k + 1 + met.place);
      extent = x;
      other = y;
      is = new_is before changes i k c x are is new;
      other_is = new_is before changes i (k + 1 + met.place) c y are is (sym (get_dropped (new_extents before c) (k + 1) met.place) ∙ met.is);
      two = λ same. let at = same.1 in omega (arith, at);
      shared = met.shared;
    }

    pub shared_later : (g : ℕ) → TakesHomeOf before (drop (i + 1) changes) x g → SharesHome after c.file g
    shared_later g takes =
        let m = i + 1 + takes.place in
        let there : slice_get changes m ≡ Some takes.change = sym (get_dropped changes (i + 1) takes.place) ∙ takes.is in
        let inside : m < length changes = slice_get_within changes m takes.change there in
        let here : get_or changes i no_change ≡ c = get_or_from_slice_get changes i c no_change is in
        let other : get_or changes m no_change ≡ takes.change = get_or_from_slice_get changes m takes.change no_change there in
        let less : c.file < takes.change.file = subst (λ (d : Change). d.file < takes.change.file) here
        (subst (λ (d : Change). (get_or changes i no_change).file < d.file) other (are.rising i m no_change (omega arith) inside)) in
        let file = takes.file in
        record {
          place = kept before c + k;
          other_place = kept before takes.change + takes.met.place;
          extent = x;
          other = takes.other;
          is = new_is before changes i k c x are is new;
          other_is = subst (λ n. IsExtent after n (kept before takes.change + takes.met.place) takes.other) file
              (new_is before changes m takes.met.place takes.change takes.other are there takes.met.is);
          two = λ same. let at = same.0 in omega (arith, less, file, at);
          shared = takes.met.shared;
        }

  -- a file by itself
  pub file_refused : (i : ℕ) (c : Change) (e : Entry) → slice_get changes i ≡ Some c → c.entry ≡ Some e → (fault : ChangeFault) → IsFileRefused pages homes c.file e fault → IsChangeRefused pages homes before after fault
  file_refused i c e is entry (Outside g) bad =
      let there : entry_in after g ≡ Some e = ap (entry_in after) bad.0 ∙ entry_of_change before changes i c are is ∙ entry in
      record {
        place = bad.1.place;
        extent = bad.1.extent;
        is = record { entry = e; file = there; extent = bad.1.is };
        home = bad.1.has.home;
        has = bad.1.has.has;
        outside = bad.1.has.outside;
      }
  file_refused i c e is entry (Short g) bad = record { entry = e; file = ap (entry_in after) bad.0 ∙ entry_of_change before changes i c are is ∙ entry; short = bad.1 }
  file_refused i c e is entry (Shared g k) bad = absurd bad
  file_refused i c e is entry (Taken g k) bad = absurd bad

  pub err_refused : (i : ℕ) (c : Change) (e : Entry) → slice_get changes i ≡ Some c → c.entry ≡ Some e → (r : Result (Unit {0}) ChangeFault) → IfErr r (IsFileRefused pages homes c.file e)
      → IfErr r (IsChangeRefused pages homes before after)
  err_refused i c e is entry (Ok _) bad = tt
  err_refused i c e is entry (Err fault) bad = file_refused i c e is entry fault bad

-- a new extent among those that a change has
pub new_there : (before : List (Option Entry)) (c : Change) (own : List Extent) (k : ℕ) → own ≡ new_extents before c → k < length own → slice_get (new_extents before c) k ≡ Some (get_or own k no_extent)
new_there before c own k list inside = ap (λ (xs : List Extent). slice_get xs k) (sym list) ∙ slice_get-get_or own k no_extent inside

-- one more new extent
pub extent_more : (before : List (Option Entry)) (c : Change) (rest : List Change) (own : List Extent) (k : ℕ) → own ≡ new_extents before c → AreExtentsGood before c rest k
    → HaveNone before (get_or own k no_extent) → IsApartFrom (drop (k + 1) own) (get_or own k no_extent) → TakeNone before rest (get_or own k no_extent) → AreExtentsGood before c rest (k + 1)
extent_more before c rest own k list good free apart later =
    let x : List Extent → Extent = λ xs. get_or xs k no_extent in
    let own_apart : IsApartFrom (drop (k + 1) (new_extents before c)) (x (new_extents before c)) = subst (λ (xs : List Extent). IsApartFrom (drop (k + 1) xs) (x xs)) list apart in
    one_more (λ m y. IsExtentGood before c rest m y) (new_extents before c) k no_extent good (record {
      free = subst (λ (xs : List Extent). HaveNone before (x xs)) list free;
      own = own_apart;
      later = subst (λ (xs : List Extent). TakeNone before rest (x xs)) list later;
    })

pub all_extents : (before : List (Option Entry)) (c : Change) (rest : List Change) (own : List Extent) (n : ℕ) → own ≡ new_extents before c → length own ≤ n → AreExtentsGood before c rest n
    → AreExtentsGood before c rest (length (new_extents before c))
all_extents before c rest own n list all good k x less is =
    let long : length own ≡ length (new_extents before c) = ap (λ (xs : List Extent). length xs) list in good k x (omega (arith, less, long, all)) is

-- a change whose file is good
pub change_good : (pages homes : ℕ) (before : List (Option Entry)) (changes : List Change) (i : ℕ) (c : Change) (r : Result (Unit {0}) ChangeFault) → slice_get changes i ≡ Some c
    → ((e : Entry) → c.entry ≡ Some e → IsFileGood pages homes e) → OnOk r (HasGoodExtents before changes i) → OnOk r (IsChecked pages homes before changes i)
change_good pages homes before changes i c (Err _) is file extents = tt
change_good pages homes before changes i c (Ok _) is file extents = λ d there.
    let same : c ≡ d = same_Some c d (sym is ∙ there) in
    record { file = λ e entry. file e (ap (λ (a : Change). a.entry) same ∙ entry); extents = extents d there }

-- The seats that entries name, and the pages of one table.
use Rattle.lifecycle.proofs.Names.{top_level, FrameNo, SlotNo, Attr, ◌≡◌, ◌≢◌, ◌⊎◌, ℕ, inl, inr, Bool, true, false, Option, Some, None, refl, sym, ap, ◌∙◌, subst, cases_Bool, false≢true, IsSome, FrameTable, frame_of, Entry, Leaf, Swapped}
use Rattle.lifecycle.proofs.Names.{Parked, number_of, IsEntry, IsPage, NamesNoMore, Seat, InFrame, InSlot, seat, is_private, Picture, entry, IsEntryFor, Nothing, Resident, Away, IsGranting, IsMapped, seat-none, no_bit, bit_clear, seat_own}
use Rattle.lifecycle.proofs.Names.{seat_common, away_seat, parked_private, parked_framed, not_away}
use Rattle.page_tables.specs.declared.forms.Entry.TheVariants as Entries

-- an entry that names a frame as the process's own names a seat
pub own_some : (e : ℕ) → is_private e ≡ true → seat e ≢ None
own_some e own none = let bad : Some (InFrame (frame_of e)) ≡ None = sym (seat_own e own) ∙ none in (cc)

pub seat_some : (o : Option Seat) (y : Seat) → o ≡ Some y → o ≢ None
seat_some o y is none = let bad : None ≡ Some y = sym none ∙ is in (cc)

pub leaf_common : (entry : Entry) (l : _) → entry ≡ Leaf l → IsEntry entry → is_private l.0 ≡ false → seat (number_of entry) ≡ None
leaf_common entry l is form common = let f = subst (λ (x : Entry). IsEntry x) is form in ap (λ x. seat (number_of x)) is ∙ seat_common l.0 common (rw f.0 refl)

pub leaf_own : (entry : Entry) (l : _) → entry ≡ Leaf l → is_private l.0 ≡ true → seat (number_of entry) ≢ None
leaf_own entry l is own none = own_some l.0 own (sym (ap (λ x. seat (number_of x)) is) ∙ none)

pub parked_common : (entry : Entry) (f : FrameNo) (p : Bool) → entry ≡ Parked f p → p ≡ false → seat (number_of entry) ≡ None
parked_common entry f p is common =
    ap (λ x. seat (number_of x)) is
    ∙ seat_common (number_of (Parked f p)) (parked_private f.0 p ∙ common) (bit_clear (number_of (Parked f p)) (parked_framed f.0 p))

pub parked_own : (entry : Entry) (f : FrameNo) (p : Bool) → entry ≡ Parked f p → p ≡ true → seat (number_of entry) ≢ None
parked_own entry f p is own none = own_some (number_of (Parked f p)) (parked_private f.0 p ∙ own) (sym (ap (λ x. seat (number_of x)) is) ∙ none)

pub slot_seat : (entry : Entry) (k : SlotNo) → entry ≡ Swapped k → IsEntry entry → seat (number_of entry) ≡ Some (InSlot k.0)
slot_seat entry k is form = ap (λ x. seat (number_of x)) is ∙ away_seat k.0 (subst (λ (x : Entry). IsEntry x) is form)

-- an entry that names a frame as the process's own is one of a page in a frame
in_one_place : (n k : ℕ) → Some (InFrame n) ≡ Some (InSlot k) → ⊥
in_one_place n k e = (cc)

pub own_framed : (entry : Entry) → IsEntry entry → is_private (number_of entry) ≡ true → (entry ≡ Entries.None) ⊎ ((k : SlotNo) × (entry ≡ Swapped k)) → ⊥
own_framed entry form own (inl is) = false≢true (sym no_bit ∙ sym (ap (λ x. is_private (number_of x)) is) ∙ own)
own_framed entry form own (inr slot) = in_one_place (frame_of (number_of entry)) slot.0.0 (sym (seat_own (number_of entry) own) ∙ slot_seat entry slot.0 slot.1 form)

-- and so does an entry that names a seat, and isn't that of a page in a slot
pub framed_own : (entry : Entry) → IsEntry entry → ((k : SlotNo) → entry ≢ Swapped k) → seat (number_of entry) ≢ None → is_private (number_of entry) ≡ true
framed_own entry form other some = elim (cases_Bool (is_private (number_of entry))) [
  | inl own ↦ own
  | inr common ↦ absurd (some (seat_common (number_of entry) common (not_away (number_of entry) entry refl form other)))
]

pub nothing_common : (entry : Entry) → entry ≡ Entries.None → seat (number_of entry) ≡ None
nothing_common entry is = ap (λ x. seat (number_of x)) is ∙ seat-none

-- a page with a copy of its own is mapped
copied_for : {mode : ℕ} (c : Picture mode) (attr : Option Attr) (e : ℕ) → IsEntryFor c attr e → seat e ≢ None → IsSome attr
copied_for c attr e (Nothing none) some = absurd (some (ap seat none ∙ seat-none))
copied_for c attr e (Resident a is resident) some = subst (λ (x : Option Attr). IsSome x) (sym is) refl
copied_for c attr e (Away a is away) some = subst (λ (x : Option Attr). IsSome x) (sym is) refl

pub copied_mapped : {mode : ℕ} (c : Picture mode) (pid page : ℕ) → IsGranting c → IsPage (top_level mode) page → seat (entry c pid page) ≢ None → IsMapped c pid page
copied_mapped c pid page granting h some = copied_for c (c.at pid page) (entry c pid page) (granting.entries pid page h) some

-- a number that names a seat names no frame in common
pub seat_names : (mode : ℕ) (t : FrameTable) (table index e : ℕ) → seat e ≢ None → NamesNoMore mode t table index e
seat_names mode t table index e has some here common = absurd (has (seat_common e common here))

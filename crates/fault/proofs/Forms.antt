-- The fullest entry of a page fits it, and the frame of a page with an entry is in use.
use Rattle.fault.proofs.Names.{user_pages_fit, top_level, PageKey, Attr, stands_on, Backing, Anon, is_past_end, ◌≡◌, ◌≢◌, ℕ, inl, inr, Bool, true, false, Option, Some, None, length, refl, sym, ap, ◌∙◌, subst, arith, eqb-true, cases_Bool}
use Rattle.fault.proofs.Names.{cases_lt, false≢true, get_or_past, same_Some, FrameTable, IsFrame, IsSound, role_of, count_of, is_valid, is_dirty, frame_of, has_bit, IsPage, IsLeaf, IsEntryOver, is_barred, and_parts, not_swapped}
use Rattle.fault.proofs.Names.{false_from_ne_true, Frame, InFrame, seat, is_private, is_swapped, Picture, entry, IsGranting, IsEntryFor, Resident, Away, IsResident, IsBehind, IsWithin, HasPlaces, IsFit, is_shared, seat_own, seat_common}
use Rattle.{fault.{proofs.Names.{seat_away, seat-none, parked_invalid, parked_framed}, specs.Leaves.{IsFullEntry, is_touched_behind, full_write}}, residency.specs.Parts.{Nothing}}
use Rattle.vm_types.specs.declared.region.Backing.TheVariants.{Private}
use Rattle.vm_types.specs.Permission as Permission
use Rattle.frames.specs.declared.role.Role.TheVariants as Role

within_leaf : (a : Attr) (e : ℕ) (write stored : Bool) → IsLeaf e a.prot write stored → (write ≡ true → Permission.can_write a.prot ≡ true) → IsWithin a e
within_leaf a e write stored leaf may = record { reads = λ r. sym leaf.reads ∙ r; writes = λ w. may (sym leaf.writes ∙ w); executes = λ x. sym leaf.executes ∙ x }

parked_bits : (e : ℕ) (a : Attr) (frame : ℕ) (private write stored : Bool) → IsEntryOver e a.prot frame private write stored → is_barred a.prot ≡ true
    → (is_valid e ≡ false) × (has_bit e 1 ≡ false)
parked_bits e a frame private write stored over barred =
    (ap is_valid (over.parked barred) ∙ parked_invalid frame private, ap (λ x. has_bit x 1) (over.parked barred) ∙ parked_framed frame private)

full_writes : {mode : ℕ} (c : Picture mode) (a : Attr) (frame : ℕ) (private : Bool) → full_write c a frame private ≡ true → Permission.can_write a.prot ≡ true
full_writes c a frame true w = (and_parts _ _ w).1
full_writes c a frame false w = (and_parts _ _ w).1

full_sole : {mode : ℕ} (c : Picture mode) (a : Attr) (frame : ℕ) (private : Bool) → private ≡ true → full_write c a frame private ≡ true → count_of c.frames frame ≡ 1
full_sole c a frame true is w = eqb-true (count_of c.frames frame) 1 (and_parts _ _ w).0
full_sole c a frame false is w = absurd (false≢true is)

full_shared : {mode : ℕ} (c : Picture mode) (a : Attr) (frame : ℕ) (private : Bool) → private ≡ false → full_write c a frame private ≡ true → is_shared a.backing ≡ true
full_shared c a frame true is w = absurd (false≢true (sym is))
full_shared c a frame false is w = (and_parts _ _ w).0

-- an entry over a frame doesn't name a slot
pub over_here : (e : ℕ) (a : Attr) (frame : ℕ) (private write stored : Bool) → IsEntryOver e a.prot frame private write stored → is_swapped e ≡ false
over_here e a frame private write stored over = elim (cases_Bool (is_barred a.prot)) [
  | inl barred ↦ (let bits = parked_bits e a frame private write stored over barred in rw (bits.0, bits.1) refl)
  | inr useful ↦ rw (over.leaf useful).valid refl
]

-- it names the frame as the process's own, or no seat
pub seat_over : (e : ℕ) (a : Attr) (frame : ℕ) (write stored : Bool) → IsEntryOver e a.prot frame true write stored → seat e ≡ Some (InFrame frame)
seat_over e a frame write stored over = seat_own e over.owned ∙ ap (λ n. Some (InFrame n)) over.names

pub seat_over_common : (e : ℕ) (a : Attr) (frame : ℕ) (write stored : Bool) → IsEntryOver e a.prot frame false write stored → seat e ≡ None
seat_over_common e a frame write stored over = seat_common e over.owned (over_here e a frame false write stored over)

-- where a page lies in the frame as before, its own or not, it has the seat that it had
pub seat_kept : (was e : ℕ) (a : Attr) (frame : ℕ) (private write stored : Bool) → IsEntryOver e a.prot frame private write stored → private ≡ is_private was → (private ≡ true → frame ≡ frame_of was)
    → is_swapped was ≡ false → seat e ≡ seat was
seat_kept was e a frame true write stored over same names here = seat_over e a frame write stored over ∙ ap (λ n. Some (InFrame n)) (names refl) ∙ sym (seat_own was (sym same))
seat_kept was e a frame false write stored over same names here = seat_over_common e a frame write stored over ∙ sym (seat_common was (sym same) here)

pub full_entry : {mode : ℕ} (c : Picture mode) (attr : Option Attr) (a : Attr) (frame : ℕ) (private : Bool) (e : ℕ) → attr ≡ Some a → IsFullEntry c a frame private e
    → (private ≡ true → is_shared a.backing ≡ false) → (private ≡ false → IsBehind c a.backing frame) → is_past_end c.files a.backing ≡ false → IsEntryFor c attr e
full_entry c attr a frame private e at full alone behind inside = Resident a at (record {
  framed = λ invalid. elim (cases_Bool (is_barred a.prot)) [
    | inl barred ↦ (parked_bits e a frame private _ _ full barred).1
    | inr useful ↦ absurd (false≢true (sym invalid ∙ (full.leaf useful).valid))
  ];
  inside = inside;
  private = λ own. alone (sym full.owned ∙ own);
  behind = λ common. (let P : ℕ → Type 0 = λ x. IsBehind c a.backing x in subst P (sym full.names) (behind (sym full.owned ∙ common)));
  leaf = λ valid. elim (cases_Bool (is_barred a.prot)) [
    | inl barred ↦ absurd (false≢true (sym (parked_bits e a frame private _ _ full barred).0 ∙ valid))
    | inr useful ↦ (let leaf = full.leaf useful in record {
      within = within_leaf a e _ _ leaf (full_writes c a frame private);
      sole = λ own write. ap (count_of c.frames) full.names ∙ full_sole c a frame private (sym full.owned ∙ own) (sym leaf.writes ∙ write);
      common = λ common write. full_shared c a frame private (sym full.owned ∙ common) (sym leaf.writes ∙ write);
    })
  ];
})

touched_there : {mode : ℕ} (c : Picture mode) (b : Backing) (frame : ℕ) (p : PageKey) → HasPlaces c → IsBehind c b frame → is_touched_behind c b ≡ true
    → c.place p ≡ Frame (record { 0 = frame }) → c.touched p ≡ true
touched_there c Anon frame p places behind touched here = absurd (false≢true touched)
touched_there c (Private q) frame p places behind touched here = absurd (false≢true touched)
touched_there c b frame p places behind touched here = ap c.touched (places.apart p _ (here ∙ sym behind) (λ home. (let bad = sym home ∙ here in (cc)))) ∙ touched

-- it has D only over the frame of a touched page of a file or an object
pub full_dirty_sound : {mode : ℕ} (c : Picture mode) (a : Attr) (frame : ℕ) (private : Bool) (e : ℕ) → HasPlaces c → IsFullEntry c a frame private e
    → (private ≡ false → IsBehind c a.backing frame)
    → (p : PageKey) → is_valid e ≡ true → is_private e ≡ false → is_dirty e ≡ true → c.place p ≡ Frame (record { 0 = frame_of e }) → c.touched p ≡ true
full_dirty_sound c a frame true e places full behind p valid common dirty here = absurd (false≢true (sym common ∙ full.owned))
full_dirty_sound c a frame false e places full behind p valid common dirty here = elim (cases_Bool (is_barred a.prot)) [
  | inl barred ↦ absurd (false≢true (sym (parked_bits e a frame false _ _ full barred).0 ∙ valid))
  | inr useful ↦ touched_there c a.backing frame p places (behind refl) (and_parts _ _ (sym (full.leaf useful).dirty ∙ dirty)).0 (here ∙ ap (λ x. Frame (record { 0 = x })) full.names)
]

-- a frame with a role is a frame of memory
pub used_inside : (t : FrameTable) (n : ℕ) → IsSound t → role_of t n ≢ Role.Free → IsFrame t n
used_inside t n sound used = elim (cases_lt n (length t.roles)) [
  | inl low ↦ (let roles = sound.all_roles in omega (arith, low, roles))
  | inr past ↦ absurd (used (get_or_past t.roles n Role.Free past))
]

is_resident : {mode : ℕ} (c : Picture mode) (attr : Option Attr) (a : Attr) (e : ℕ) → attr ≡ Some a → e ≢ 0 → is_swapped e ≡ false → IsEntryFor c attr e → IsResident c a e
is_resident c attr a e at some here (Nothing none) = absurd (some none)
is_resident c attr a e at some here (Away b is away) = absurd (false≢true (sym here ∙ away.swapped))
is_resident c attr a e at some here (Resident b is resident) = let P : Attr → Type 0 = λ x. IsResident c x e in subst P (same_Some b a (sym is ∙ at)) resident

-- what the entry of a page says that lies in a frame
pub resident_page : {mode : ℕ} (c : Picture mode) (pid page : ℕ) (a : Attr) → IsGranting c → IsPage (top_level mode) page → c.at pid page ≡ Some a → entry c pid page ≢ 0 → is_swapped (entry c pid page) ≡ false
    → IsResident c a (entry c pid page)
resident_page c pid page a granting h at some here = is_resident c (c.at pid page) a (entry c pid page) at some here (granting.entries pid page h)

pub behind_of : {mode : ℕ} (c : Picture mode) (b : Backing) (p : PageKey) (n : ℕ) → stands_on b ≡ Some p → c.place p ≡ Frame (record { 0 = n }) → IsBehind c b n
behind_of c Anon p n is at = (cc)
behind_of c b p n is at = ap c.place (same_Some _ p is) ∙ at

pub touched_of : {mode : ℕ} (c : Picture mode) (b : Backing) (p : PageKey) → is_shared b ≡ true → stands_on b ≡ Some p → is_touched_behind c b ≡ c.touched p
touched_of c Anon p shared is = absurd (false≢true shared)
touched_of c (Private q) p shared is = absurd (false≢true shared)
touched_of c b p shared is = ap c.touched (same_Some _ p is)

pub behind_used : {mode : ℕ} (c : Picture mode) (b : Backing) (n : ℕ) → IsSound c.frames → HasPlaces c → IsBehind c b n → role_of c.frames n ≢ Role.Free
behind_used c Anon n sound places behind free = let bad : Role.Zero ≡ Role.Free = sym sound.zero_role ∙ ap (role_of c.frames) (sym behind) ∙ free in (cc)
behind_used c b n sound places behind free = let bad : Role.Cache ≡ Role.Free = sym (places.cached _ n behind) ∙ free in (cc)

pub behind_datum : {mode : ℕ} (c : Picture mode) (b : Backing) (n : ℕ) → IsSound c.frames → HasPlaces c → IsBehind c b n → role_of c.frames n ≢ Role.Table
behind_datum c Anon n sound places behind table = let bad : Role.Zero ≡ Role.Table = sym sound.zero_role ∙ ap (role_of c.frames) (sym behind) ∙ table in (cc)
behind_datum c b n sound places behind table = let bad : Role.Cache ≡ Role.Table = sym (places.cached _ n behind) ∙ table in (cc)

pub own_role : {mode : ℕ} (c : Picture mode) (pid page : ℕ) → IsFit c → IsPage (top_level mode) page → is_private (entry c pid page) ≡ true → role_of c.frames (frame_of (entry c pid page)) ≡ Role.Private
own_role c pid page fit h own = fit.counted.1.named pid page (InFrame (frame_of (entry c pid page))) h (seat_own (entry c pid page) own)

pub resident_used : {mode : ℕ} (c : Picture mode) (pid page : ℕ) (a : Attr) → IsSound c.frames → IsFit c → IsPage (top_level mode) page → c.at pid page ≡ Some a → entry c pid page ≢ 0 → is_swapped (entry c pid page) ≡ false
    → role_of c.frames (frame_of (entry c pid page)) ≢ Role.Free
resident_used c pid page a sound fit h at some here = elim (cases_Bool (is_private (entry c pid page))) [
  | inl private ↦ (λ free. let bad : Role.Private ≡ Role.Free = sym (own_role c pid page fit h private) ∙ free in (cc))
  | inr common ↦ behind_used c a.backing (frame_of (entry c pid page)) sound fit.places ((resident_page c pid page a fit.granting h at some here).behind common)
]

-- a mapped page has a place in the tables
pub mapped_page : {mode : ℕ} (c : Picture mode) (pid page : ℕ) (a : Attr) → IsGranting c → c.at pid page ≡ Some a → IsPage (top_level mode) page
mapped_page {mode = mode} c pid page a granting at =
    let some = ap Rattle.std.specs.Prelude.is_some at in
    let low = (granting.user pid).user_pages page some in
    omega (arith, low, user_pages_fit mode)

-- a page without a seat has no frame of its own, and doesn't lie in a slot
pub none_common : (e : ℕ) → seat e ≡ None → is_private e ≡ false
none_common e none = false_from_ne_true _ (λ own. let bad = sym (seat_own e own) ∙ none in (cc))

pub none_here : (e : ℕ) → seat e ≡ None → is_swapped e ≡ false
none_here e none = false_from_ne_true _ (λ away. let bad = sym (seat_away e (none_common e none) away) ∙ none in (cc))

pub seat_zero : (e : ℕ) → e ≡ 0 → seat e ≡ None
seat_zero e none = ap seat none ∙ seat-none

shared_seat : {mode : ℕ} (c : Picture mode) (attr : Option Attr) (a : Attr) (e : ℕ) → attr ≡ Some a → is_shared a.backing ≡ true → IsEntryFor c attr e → seat e ≡ None
shared_seat c attr a e at shared (Nothing none) = seat_zero e none
shared_seat c attr a e at shared (Away b is away) =
    let P : Attr → Type 0 = λ x. is_shared x.backing ≡ false in absurd (false≢true (sym (subst P (same_Some b a (sym is ∙ at)) away.not_shared) ∙ shared))
shared_seat c attr a e at shared (Resident b is resident) =
    let there = subst (λ (x : Attr). is_shared x.backing ≡ true) (same_Some a b (sym at ∙ is)) shared in
    seat_common e (false_from_ne_true _ (λ own. false≢true (sym (resident.private own) ∙ there))) (not_swapped e resident.framed)

-- a shared page has no own copy
pub shared_none : {mode : ℕ} (c : Picture mode) (pid page : ℕ) (a : Attr) → IsGranting c → c.at pid page ≡ Some a → IsPage (top_level mode) page → is_shared a.backing ≡ true → seat (entry c pid page) ≡ None
shared_none c pid page a granting at h shared = shared_seat c (c.at pid page) a (entry c pid page) at shared (granting.entries pid page h)

-- What the frame of a page holds where the page's entry names one, what the walk answers there, and what an access may do with it.
use Rattle.fault.proofs.{Forms.{resident_page, resident_used, own_role, used_inside}, Names.{top_level, user_end, PageKey, Attr, Backing, Anon, stands_on, zero_page, View, Access, Phys, Load, Store, Fetch}}
use Rattle.fault.proofs.Names.{nonzero, true_from_ne_false, false_from_ne_true, leb-false, lt-leb, is_page, in_frame, Width, Code, SegvMaperr, SegvAccerr, BusAdrerr, Fine, Faults, lets, is_past_end, page_verdict, byte_count, ◌≡◌, ◌≢◌, ℕ}
use Rattle.fault.proofs.Names.{inl, inr, ◌⊎◌, true, false, Option, Some, None, List, refl, sym, ap, ◌∙◌, subst, ◌+◌, ◌*◌, ◌%◌, ◌<◌, Bool, ◌||◌, not, if◌then◌else◌, Ok, Err, Result, arith, ◌/◌, ◌≤◌, eq-eqb, cases_Bool, false≢true, same_Some}
use Rattle.fault.proofs.Names.{option_map, nat_le, ◌==◌, IsSome, FrameTable, bytes_of, IsFrame, IsHeld, IsSound, is_handed_out, zero_bytes, frame_count, SlotTable, is_valid, is_dirty, frame_of, is_user, is_accessed, is_reserved, is_leaf}
use Rattle.fault.proofs.Names.{grants, WalkFault, Invalid, Reserved, TooDeep, Outside, Misaligned, Denied, NotAccessed, NotDirty, page_of, frame_in, is_store, answer_of, translated, IsPage, Frame, seat, is_private, is_swapped, Picture}
use Rattle.fault.proofs.Names.{entry, own_in, bytes_in, view, view_of, IsFit, IsResident}
use Rattle.fault.{proofs.{Names.{IsBehind, is_shared, IsEntryFor, Resident, Away, IsLeafFor, seat_own, seat_common, entry-of, view-none, translated-entry}, Steps.{seen_none}}, specs.{Changes.{KeepsSeen}, Found.{IsOpenTo}}}
use Rattle.fault.specs.{Found.{IsWayTo, IsFineAt, IsUnwalked}, Granted.{IsOpenLeaf, IsEntered, IsReadyAt}, Outcome.{Reads, MarksTouchedIn, Owns, seen_at, verdict_of, IsReadyToStore, IsReadyFor, IsOpenToStore, IsFrameFor, IsPlaced, Grants}}
use Rattle.{fault.specs.{Shown.{AreBehind, AreOwnOrBehind, AreShown, IsSoleOwner}, declared.finding.Way.{Way}}, residency.specs.Parts.{Nothing}, std.{proofs.Common.{◌&&◌}, specs.Prelude.{◌⊎◌}}, sv39_walk.specs.Entry.{can_write}}
use Rattle.vm_types.specs.declared.region.Backing.TheVariants.{Private}

pub zero_same : zero_bytes ≡ zero_page
unfolding zero_bytes zero_page
zero_same = refl

-- a leaf names no slot
pub valid_here : (e : ℕ) → is_valid e ≡ true → is_swapped e ≡ false
valid_here e valid = rw valid refl

pub own_in-private : (t : FrameTable) (s : SlotTable) (e : ℕ) → is_private e ≡ true → own_in t s e ≡ Some (bytes_of t (frame_of e))
own_in-private t s e private = ap (option_map (bytes_in t s)) (seat_own e private)

pub own_in-none : (t : FrameTable) (s : SlotTable) (e : ℕ) → seat e ≡ None → own_in t s e ≡ None
own_in-none t s e none = ap (option_map (bytes_in t s)) none

-- what a mapped page is to its process
pub view-mapped : {mode : ℕ} (c : Picture mode) (pid page : ℕ) (a : Attr) → c.at pid page ≡ Some a → view c pid page ≡ Some (seen_at c pid page a)
unfolding view
view-mapped c pid page a mapped = ap (view_of (own_in c.frames c.slots (entry c pid page))) mapped

behind_shown : {mode : ℕ} (c : Picture mode) (b : Backing) (n : ℕ) → IsSound c.frames → IsBehind c b n → AreBehind c b (bytes_of c.frames n)
behind_shown c Anon n sound behind = ap (bytes_of c.frames) behind ∙ sound.zero_page ∙ zero_same
behind_shown c b n sound behind = (record { 0 = n }, behind, refl)

-- what stands behind a page lies in the frame that is behind it
pub behind_place : {mode : ℕ} (c : Picture mode) (b : Backing) (p : PageKey) (n : ℕ) → stands_on b ≡ Some p → IsBehind c b n → c.place p ≡ Frame (record { 0 = n })
behind_place c Anon p n is at = (let bad : None ≡ Some p = is in (cc))
behind_place c b p n is at = ap c.place (sym (same_Some _ p is)) ∙ at

module _ {mode : ℕ} (c : Picture mode) (pid page : ℕ) (a : Attr) (fit : IsFit c) (sound : IsSound c.frames) (h : IsPage (top_level mode) page) (mapped : c.at pid page ≡ Some a)
    (some : entry c pid page ≢ 0) (here : is_swapped (entry c pid page) ≡ false) where
  pub resident : IsResident c a (entry c pid page)
  resident = resident_page c pid page a fit.granting h mapped some here

  -- the frame holds what the page shows
  pub shown_there : AreShown c (seen_at c pid page a) (bytes_of c.frames (frame_of (entry c pid page)))
  shown_there =
      let P : Option (List ℕ) → Type 0 = λ o. AreOwnOrBehind c a.backing o (bytes_of c.frames (frame_of (entry c pid page))) in
      elim (cases_Bool (is_private (entry c pid page))) [
        | inl private ↦ subst P (sym (own_in-private c.frames c.slots (entry c pid page) private)) refl
        | inr common ↦ subst P (sym (own_in-none c.frames c.slots (entry c pid page) (seat_common (entry c pid page) common here)))
            (behind_shown c a.backing (frame_of (entry c pid page)) sound (resident.behind common))
      ]

  -- and is one of memory's
  pub inside_there : IsFrame c.frames (frame_of (entry c pid page))
  inside_there = used_inside c.frames (frame_of (entry c pid page)) sound (resident_used c pid page a sound fit h mapped some here)

  -- a write to a page that isn't shared goes to a frame of its own
  pub writes_own : is_valid (entry c pid page) ≡ true → can_write (entry c pid page) ≡ true → is_shared a.backing ≡ false → is_private (entry c pid page) ≡ true
  writes_own valid write private = true_from_ne_false _ (λ common. false≢true (sym private ∙ (resident.leaf valid).common common write))

  pub own_held : is_private (entry c pid page) ≡ true → IsHeld c.frames (frame_of (entry c pid page))
  own_held own = record { inside = inside_there; handed_out = ap is_handed_out (own_role c pid page fit h own) }

  pub sole_owner : is_valid (entry c pid page) ≡ true → can_write (entry c pid page) ≡ true → is_private (entry c pid page) ≡ true
      → IsSoleOwner c pid page (frame_of (entry c pid page))
  sole_owner valid write own = record { inside = h; private = own; frame = refl; sole = (resident.leaf valid).sole own write }

  -- a shared page lies in the frame of its file page
  pub shared_common : is_shared a.backing ≡ true → is_private (entry c pid page) ≡ false
  shared_common shared = false_from_ne_true _ (λ own. false≢true (sym (resident.private own) ∙ shared))

  pub shared_place : (p : PageKey) → is_shared a.backing ≡ true → stands_on a.backing ≡ Some p → c.place p ≡ Frame (record { 0 = frame_of (entry c pid page) })
  shared_place p shared is = behind_place c a.backing p (frame_of (entry c pid page)) is (resident.behind (shared_common shared))

  pub file_held : (p : PageKey) → c.place p ≡ Frame (record { 0 = frame_of (entry c pid page) }) → IsHeld c.frames (frame_of (entry c pid page))
  file_held p at = record { inside = inside_there; handed_out = ap is_handed_out (fit.places.cached p (frame_of (entry c pid page)) at) }

  -- the page's own copy, as its process sees it
  pub view-own : is_private (entry c pid page) ≡ true → view c pid page ≡ Some (record { attr = a; own = Some (bytes_of c.frames (frame_of (entry c pid page))) })
  view-own own = view-mapped c pid page a mapped ∙ ap (λ o. Some (record { attr = a; own = o })) (own_in-private c.frames c.slots (entry c pid page) own)

-- a page that may be read, in memory as it is left
pub reads : {mode : ℕ} (old new : Picture mode) (pid page : ℕ) (a : Attr) (fit : IsFit new) (sound : IsSound new.frames) (h : IsPage (top_level mode) page) (mapped : new.at pid page ≡ Some a)
    (some : entry new pid page ≢ 0) (here : is_swapped (entry new pid page) ≡ false) (keeps : KeepsSeen old new)
    → Reads old new (seen_at new pid page a) (frame_of (entry new pid page))
reads old new pid page a fit sound h mapped some here keeps = record {
  keeps = keeps;
  inside = inside_there new pid page a fit sound h mapped some here;
  shown = shown_there new pid page a fit sound h mapped some here;
}

-- a shared page that may be written
pub touches : {mode : ℕ} (old new : Picture mode) (pid page : ℕ) (a : Attr) (p : PageKey) (fit : IsFit new) (sound : IsSound new.frames) (h : IsPage (top_level mode) page) (mapped : new.at pid page ≡ Some a)
    (valid : is_valid (entry new pid page) ≡ true) → is_dirty (entry new pid page) ≡ true → is_shared a.backing ≡ true → stands_on a.backing ≡ Some p
    → ((q k : ℕ) → view new q k ≡ view old q k) → ((q : PageKey) → q ≢ p → new.touched q ≡ old.touched q)
    → MarksTouchedIn old new p (frame_of (entry new pid page))
touches old new pid page a p fit sound h mapped valid dirty shared is views others =
    let some = nonzero (entry new pid page) valid in
    let here = valid_here (entry new pid page) valid in
    let place = shared_place new pid page a fit sound h mapped some here p shared is in
    let common = shared_common new pid page a fit sound h mapped some here shared in
    record {
      views = views;
      held = file_held new pid page a fit sound h mapped some here p place;
      place = place;
      touched = fit.dirty.dirty pid page p h valid common dirty place;
      others = others;
    }

-- a page of the process's own that may be written
pub owns : {mode : ℕ} (old new : Picture mode) (pid page : ℕ) (a : Attr) (own : Option (List ℕ)) (fit : IsFit new) (sound : IsSound new.frames) (h : IsPage (top_level mode) page) (mapped : new.at pid page ≡ Some a)
    (valid : is_valid (entry new pid page) ≡ true) → can_write (entry new pid page) ≡ true → is_shared a.backing ≡ false
    → AreShown new (record { attr = a; own = own }) (bytes_of new.frames (frame_of (entry new pid page)))
    → ((q k : ℕ) → (q ≢ pid) ⊎ (k ≢ page) → view new q k ≡ view old q k) → ((q : PageKey) → new.touched q ≡ old.touched q)
    → Owns old new pid page (record { attr = a; own = own }) (frame_of (entry new pid page))
owns old new pid page a own fit sound h mapped valid write private shown others touched =
    let some = nonzero (entry new pid page) valid in
    let here = valid_here (entry new pid page) valid in
    let is_own = writes_own new pid page a fit sound h mapped some here valid write private in
    record {
      own = view-own new pid page a fit sound h mapped some here is_own;
      shown = shown;
      others = others;
      touched = touched;
      held = own_held new pid page a fit sound h mapped some here is_own;
      sole = sole_owner new pid page a fit sound h mapped some here valid write is_own;
    }

guard : (b : Bool) (f : WalkFault) (r : Result Phys WalkFault) (p : Phys) → (if not b then Err f else r) ≡ Ok p → (b ≡ true) × (r ≡ Ok p)
guard true f r p h = (refl, h)
guard false f r p h = (cc)

bar : (b : Bool) (f : WalkFault) (r : Result Phys WalkFault) (p : Phys) → (if b then Err f else r) ≡ Ok p → (b ≡ false) × (r ≡ Ok p)
bar true f r p h = (cc)
bar false f r p h = (refl, h)

-- the walk answers one place
pub one_place : (r : Result Phys WalkFault) (p q : Phys) → r ≡ Ok p → r ≡ Ok q → p ≡ q
one_place r p q e f = (cc)

neither : (a b : Bool) → (not a || not b) ≡ false → (a ≡ true) × (b ≡ true)
neither true true h = (refl, refl)
neither a b h = (cc)

then_set : (s d : Bool) → (s && not d) ≡ false → s ≡ true → d ≡ true
then_set true true h e = refl
then_set s d h e = (cc)

not_set : (s d : Bool) → (s ≡ true → d ≡ true) → (s && not d) ≡ false
not_set false d h = refl
not_set true d h = ap not (h refl)

no_low_bits : (n : ℕ) → (n % 1 == 0) ≡ true
no_low_bits n = let none : n % 1 ≡ 0 = omega arith in rw none

pub answer-ok : (count addr : ℕ) (access : Access) (e : ℕ) → IsOpenLeaf access e → frame_of e < count
    → answer_of count addr access 0 e ≡ Ok (record { 0 = frame_of e * 4096 + addr % 4096 })
unfolding answer_of
answer-ok count addr access e opens inside =
    rw (
      opens.valid,
      opens.sound,
      opens.leaf,
      no_low_bits (frame_of e),
      opens.user,
      opens.grants,
      opens.accessed,
      not_set (is_store access) (is_dirty e) opens.dirty,
      in_frame e (page_of addr),
      lt-leb count (frame_of e) inside,
    )

-- what is known of a place that the walk answers
pub record Places (count addr : ℕ) (access : Access) (e : ℕ) (phys : Phys) : Type 0 where
  pub opens : IsOpenLeaf access e
  pub inside : frame_of e < count
  pub place : phys.0 ≡ frame_of e * 4096 + addr % 4096

pub answer-places : (count addr : ℕ) (access : Access) (e : ℕ) (phys : Phys) → answer_of count addr access 0 e ≡ Ok phys → Places count addr access e phys
unfolding answer_of
answer-places count addr access e phys h =
    let a = guard (is_valid e) Invalid _ phys h in
    let b = bar (is_reserved e) Reserved _ phys a.1 in
    let c = guard (is_leaf e) TooDeep _ phys b.1 in
    let d = guard (frame_of e % 1 == 0) Misaligned _ phys c.1 in
    let f = bar (not (is_user e) || not (grants access e)) Denied _ phys d.1 in
    let g = guard (is_accessed e) NotAccessed _ phys f.1 in
    let i = bar (is_store access && not (is_dirty e)) NotDirty _ phys g.1 in
    let j = bar (nat_le count (frame_in 0 e (page_of addr))) Outside _ phys i.1 in
    let both = neither (is_user e) (grants access e) f.0 in
    let own = in_frame e (page_of addr) in
    record {
      opens = record { valid = a.0; sound = b.0; leaf = c.0; user = both.0; grants = both.1; accessed = g.0; dirty = then_set (is_store access) (is_dirty e) i.0 };
      inside = rw (← own) (leb-false count (frame_in 0 e (page_of addr)) j.0);
      place = ap (λ p. p.0) (one_place _ phys _ j.1 refl) ∙ ap (λ x. x * 4096 + addr % 4096) own;
    }

-- user pages alone are mapped
pub page_user : {mode : ℕ} (c : Picture mode) (pid page : ℕ) (a : Attr) → IsFit c → c.at pid page ≡ Some a → (16 ≤ page) × (page < user_end mode)
page_user c pid page a fit mapped = (fit.granting.user pid).user_pages page (let P : Option Attr → Type 0 = λ x. IsSome x in subst P (sym mapped) refl)

-- the walk reads the entry
module _ {mode : ℕ} where
  pub walk_entry : (c : Picture mode) (pid root addr : ℕ) (access : Access) → IsFit c → c.root pid ≡ Some root → addr / 4096 < user_end mode
      → translated (top_level mode) c.frames root addr access ≡ answer_of (frame_count c.frames) addr access 0 (entry c pid (addr / 4096))
  walk_entry c pid root addr access fit lives user =
      translated-entry mode c.frames root addr access fit.rooted.forest (fit.rooted.roots pid root lives) user
      ∙ ap (answer_of (frame_count c.frames) addr access 0) (sym (entry-of c pid root (addr / 4096) lives))

frame_there : (n offset : ℕ) → offset < 4096 → (n * 4096 + offset) / 4096 ≡ n
frame_there n offset h = omega arith

offset_there : (n offset : ℕ) → offset < 4096 → (n * 4096 + offset) % 4096 ≡ offset
offset_there n offset h = omega arith

offset_small : (addr : ℕ) → addr % 4096 < 4096
offset_small addr = omega arith

open_inside_store : {mode : ℕ} (c : Picture mode) (pid page : ℕ) (b : Backing) (n : ℕ) → IsOpenToStore c pid page b n → n < frame_count c.frames
open_inside_store c pid page Anon n is = is.0.inside
open_inside_store c pid page b n is = is.0.inside

open_inside : {mode : ℕ} (access : Access) (c : Picture mode) (pid page : ℕ) (b : Backing) (n : ℕ) → IsFrameFor access c pid page b n → n < frame_count c.frames
open_inside Store c pid page b n is = open_inside_store c pid page b n is
open_inside access c pid page b n is = is

ready_open_store : {mode : ℕ} (old new : Picture mode) (pid page : ℕ) (v : View) (b : Backing) (n : ℕ) → IsReadyToStore old new pid page v b n → IsOpenToStore new pid page b n
ready_open_store old new pid page v Anon n ready = (ready.held, ready.sole)
ready_open_store old new pid page v (Private p) n ready = (ready.held, ready.sole)
ready_open_store old new pid page v b n ready = (ready.held, ready.place, ready.touched)

-- a frame that is ready may be used
pub ready_open : {mode : ℕ} (access : Access) (old new : Picture mode) (pid page : ℕ) (v : View) (n : ℕ) → IsReadyFor access old new pid page v n → IsFrameFor access new pid page v.attr.backing n
ready_open Store old new pid page v n ready = ready_open_store old new pid page v v.attr.backing n ready
ready_open access old new pid page v n ready = ready.inside

-- the page's entry was made to grant the access
pub placed_made : {mode : ℕ} (old new : Picture mode) (pid root addr : ℕ) (width : Width) (access : Access) (a : Attr) (n : ℕ) → IsFit new → new.root pid ≡ Some root → addr / 4096 < user_end mode
    → verdict_of old pid addr width access ≡ Fine (seen_at old pid (addr / 4096) a)
    → IsEntered new pid (addr / 4096) a access n → IsPlaced old new pid addr width access (record { 0 = n * 4096 + addr % 4096 })
placed_made old new pid root addr width access a n fit lives user fine entered =
    let inside : frame_of (entry new pid (addr / 4096)) < frame_count new.frames = rw entered.frame (open_inside access new pid (addr / 4096) a.backing n entered.usable) in
    record {
      seen = seen_at old pid (addr / 4096) a;
      fine = fine;
      root = root;
      lives = lives;
      place = walk_entry new pid root addr access fit lives user
          ∙ answer-ok (frame_count new.frames) addr access (entry new pid (addr / 4096)) entered.opens inside
          ∙ ap (λ x. Ok (record { 0 = x * 4096 + addr % 4096 })) entered.frame;
      offset = offset_there n (addr % 4096) (offset_small addr);
      usable = subst (λ (x : ℕ). IsFrameFor access new pid (addr / 4096) a.backing x) (sym (frame_there n (addr % 4096) (offset_small addr))) entered.usable;
    }

pub grants_made : {mode : ℕ} (old new : Picture mode) (pid addr : ℕ) (width : Width) (access : Access) (a : Attr) (n : ℕ)
    → verdict_of old pid addr width access ≡ Fine (seen_at old pid (addr / 4096) a)
    → IsReadyAt old new pid (addr / 4096) a access n → Grants old new pid addr width access (record { 0 = n * 4096 + addr % 4096 })
grants_made old new pid addr width access a n fine ready =
    let P : ℕ → Type 0 = λ x. IsReadyFor access old new pid (addr / 4096) (seen_at old pid (addr / 4096) a) x in
    record { seen = seen_at old pid (addr / 4096) a; fine = fine; ready = subst P (sym (frame_there n (addr % 4096) (offset_small addr))) ready }

-- what the tests of an access find
pub verdict-none : {mode : ℕ} (c : Picture mode) (pid page : ℕ) (access : Access) → c.at pid page ≡ None → page_verdict c.files (view c pid page) access ≡ Faults SegvMaperr
verdict-none c pid page access none = ap (λ o. page_verdict c.files o access) (view-none c pid page none)

module _ {mode : ℕ} (c : Picture mode) (pid page : ℕ) (access : Access) (a : Attr) (mapped : c.at pid page ≡ Some a) where
  pub verdict-denied : lets access a.prot ≡ false → page_verdict c.files (view c pid page) access ≡ Faults SegvAccerr
  verdict-denied denied = rw (view-mapped c pid page a mapped, denied) refl

  pub verdict-past : lets access a.prot ≡ true → is_past_end c.files a.backing ≡ true → page_verdict c.files (view c pid page) access ≡ Faults BusAdrerr
  verdict-past allowed past = rw (view-mapped c pid page a mapped, allowed, past) refl

  pub verdict-fine : lets access a.prot ≡ true → is_past_end c.files a.backing ≡ false → page_verdict c.files (view c pid page) access ≡ Fine (seen_at c pid page a)
  verdict-fine allowed inside = rw (view-mapped c pid page a mapped, allowed, inside) refl

-- of an aligned address the page decides
pub verdict-aligned : {mode : ℕ} (c : Picture mode) (pid addr : ℕ) (width : Width) (access : Access) → addr % byte_count width ≡ 0
    → verdict_of c pid addr width access ≡ page_verdict c.files (view c pid (addr / 4096)) access
verdict-aligned c pid addr width access aligned = rw (eq-eqb (addr % byte_count width) 0 aligned) refl

-- a leaf lets an access be done only where the region does
leaf_lets : {mode : ℕ} (c : Picture mode) (a : Attr) (access : Access) (e : ℕ) → IsLeafFor c a e → grants access e ≡ true → lets access a.prot ≡ true
leaf_lets c a Load e leaf granted = leaf.within.reads granted
leaf_lets c a Store e leaf granted = leaf.within.writes granted
leaf_lets c a Fetch e leaf granted = leaf.within.executes granted

none_where : (o : Option Attr) → (IsSome o → ⊥) → o ≡ None
none_where None h = refl
none_where (Some a) h = absurd (h refl)

cases_mapped : (o : Option Attr) → (o ≡ None) ⊎ ((a : Attr) × (o ≡ Some a))
cases_mapped None = inl refl
cases_mapped (Some a) = inr (a, refl)

-- a page that isn't mapped has no leaf
nothing_in : {mode : ℕ} (c : Picture mode) (o : Option Attr) (e : ℕ) → o ≡ None → is_valid e ≡ true → IsEntryFor c o e → ⊥
nothing_in c o e none valid (Nothing zero_now) = nonzero e valid zero_now
nothing_in c o e none valid (Resident a at lies) = (cc)
nothing_in c o e none valid (Away a at lies) = (cc)

module _ {mode : ℕ} (c : Picture mode) (pid page : ℕ) (a : Attr) (fit : IsFit c) (sound : IsSound c.frames) (h : IsPage (top_level mode) page) (mapped : c.at pid page ≡ Some a) where
  shown_at : IsOpenLeaf Store (entry c pid page) → AreShown c (seen_at c pid page a) (bytes_of c.frames (frame_of (entry c pid page)))
  shown_at opens = shown_there c pid page a fit sound h mapped (nonzero (entry c pid page) opens.valid) (valid_here (entry c pid page) opens.valid)

  own_there : is_shared a.backing ≡ false → IsOpenLeaf Store (entry c pid page) → Owns c c pid page (seen_at c pid page a) (frame_of (entry c pid page))
  own_there private opens =
      owns c c pid page a (own_in c.frames c.slots (entry c pid page)) fit sound h mapped opens.valid opens.grants private (shown_at opens) (λ q k other. refl) (λ q. refl)

  ready_to_store : (b : Backing) → a.backing ≡ b → IsOpenLeaf Store (entry c pid page) → IsReadyToStore c c pid page (seen_at c pid page a) b (frame_of (entry c pid page))
  ready_to_store Anon is opens = own_there (ap is_shared is) opens
  ready_to_store (Private p) is opens = own_there (ap is_shared is) opens
  ready_to_store b is opens = touches c c pid page a _ fit sound h mapped opens.valid (opens.dirty refl) (ap is_shared is) (ap stands_on is) (λ q k. refl) (λ q ne. refl)

  -- an access that is granted already
  pub ready_there : (access : Access) → IsOpenLeaf access (entry c pid page) → IsReadyFor access c c pid page (seen_at c pid page a) (frame_of (entry c pid page))
  ready_there Store opens = ready_to_store a.backing refl opens
  ready_there access opens = reads c c pid page a fit sound h mapped (nonzero (entry c pid page) opens.valid) (valid_here (entry c pid page) opens.valid) (seen_none c)

-- the walk answered a place
module _ {mode : ℕ} where
  pub grants_found : (c : Picture mode) (pid root addr : ℕ) (width : Width) (access : Access) (phys : Phys) → IsFit c → IsSound c.frames → c.root pid ≡ Some root
      → addr / 4096 < user_end mode → addr % byte_count width ≡ 0 → translated (top_level mode) c.frames root addr access ≡ Ok phys
      → IsPlaced c c pid addr width access phys × Grants c c pid addr width access phys
  grants_found c pid root addr width access phys fit sound lives user aligned walked =
      let page = addr / 4096 in
      let h = is_page mode page user in
      let places : Places (frame_count c.frames) addr access (entry c pid page) phys =
      answer-places (frame_count c.frames) addr access (entry c pid page) phys (sym (walk_entry c pid root addr access fit lives user) ∙ walked) in
      let number : phys.0 / 4096 ≡ frame_of (entry c pid page) =
      ap (λ x. x / 4096) places.place ∙ frame_there (frame_of (entry c pid page)) (addr % 4096) (offset_small addr) in
      elim (cases_mapped (c.at pid page)) [
        | inl none ↦ absurd (nothing_in c _ _ none places.opens.valid (fit.granting.entries pid page h))
        | inr some ↦ (
            let a = some.0 in
            let resides = resident c pid page a fit sound h some.1 (nonzero (entry c pid page) places.opens.valid) (valid_here (entry c pid page) places.opens.valid) in
            let allowed = leaf_lets c a access (entry c pid page) (resides.leaf places.opens.valid) places.opens.grants in
            let fine = verdict-aligned c pid addr width access aligned ∙ verdict-fine c pid page access a some.1 allowed resides.inside in
            let Q : ℕ → Type 0 = λ x. IsFrameFor access c pid page a.backing x in
            let ready = ready_there c pid page a fit sound h some.1 access places.opens in (
              record {
                seen = seen_at c pid page a;
                fine = fine;
                root = root;
                lives = lives;
                place = walked;
                offset = ap (λ x. x % 4096) places.place ∙ offset_there (frame_of (entry c pid page)) (addr % 4096) (offset_small addr);
                usable = subst Q (sym number) (ready_open access c c pid page (seen_at c pid page a) (frame_of (entry c pid page)) ready);
              },
              record { seen = seen_at c pid page a; fine = fine; ready = subst (λ (x : ℕ). IsReadyFor access c c pid page (seen_at c pid page a) x) (sym number) ready },
            ))
      ]

-- what is known of a page by region and file says what the access finds
module _ {mode : ℕ} (c : Picture mode) (pid addr : ℕ) (width : Width) (access : Access) (page : ℕ) (is : page ≡ addr / 4096) (aligned : addr % byte_count width ≡ 0) where
  by_page : verdict_of c pid addr width access ≡ page_verdict c.files (view c pid page) access
  by_page = verdict-aligned c pid addr width access aligned ∙ ap (λ k. page_verdict c.files (view c pid k) access) (sym is)

  pub finds_fault : (code : Code) → page_verdict c.files (view c pid page) access ≡ Faults code → verdict_of c pid addr width access ≡ Faults code
  finds_fault code faults = by_page ∙ faults

pub finds_fine : {mode : ℕ} (c : Picture mode) (pid addr : ℕ) (width : Width) (access : Access) (way : Way) → way.page ≡ addr / 4096 → addr % byte_count width ≡ 0
    → (attr : Attr) → IsUnwalked c pid addr access → IsWayTo c pid way → IsOpenTo c pid way.page access attr → IsFineAt c pid addr width access attr way
finds_fine c pid addr width access way is aligned attr unwalked walked allowed = record {
  page_is = is;
  allowed = allowed;
  fine = by_page c pid addr width access way.page is aligned ∙ verdict-fine c pid way.page access attr allowed.mapped allowed.lets allowed.inside;
  unwalked = unwalked;
  walked = walked;
}

-- an address of no user page
pub verdict-outside : {mode : ℕ} (c : Picture mode) (pid addr : ℕ) (width : Width) (access : Access) → IsFit c → addr % byte_count width ≡ 0
    → ((16 ≤ addr / 4096) × (addr / 4096 < user_end mode) → ⊥) → verdict_of c pid addr width access ≡ Faults SegvMaperr
verdict-outside c pid addr width access fit aligned outside =
    verdict-aligned c pid addr width access aligned
    ∙ verdict-none c pid (addr / 4096) access (none_where (c.at pid (addr / 4096)) (λ some. outside ((fit.granting.user pid).user_pages (addr / 4096) some)))

-- The shares of a private frame, passed on to a slot one after the other.
use Rattle.vm_types.specs.declared.mode.Levels as Levels
use Rattle.residency.proofs.{Evicted.{seat_number}, Names.{user_end, top_level, Attr, ◌≡◌, ◌≢◌, ℕ, ◌+◌, ◌<◌, ◌≤◌, true, false, inl, inr, Option, Some, None, is_some, refl, sym, ap, ◌∙◌, subst, arith, rules, false≢true, role_of, count_of}}
use Rattle.residency.proofs.{Names.{bytes_of, Ghosts, SharesSlot, IsReady, IsPage}, Puts.{SameButSlots}, Putting.{has_shared, share_spares}, Seats.{holders_none}, Sparing.{spares_none, spares_then}, Start.{seat-none, entry-dead}}
use Rattle.residency.{proofs.Start.{cases_some}, specs.{Evictions.{IsHanding, Spares}, Handovers.{HandsShares, PassesShare}, Parts.{IsFit, IsRootedBut, IsEntryFor, Nothing, Resident, Away}, Picture.{Picture, picture_of, entry, IsOwned}}}
use Rattle.residency.specs.{Seats.{Seat, InFrame, InSlot, seat, holders_at}, declared.kernel.Core.{Core}}

seat_mapped : {mode : ℕ} (c : Picture mode) (a : Option Attr) (e : ℕ) (z : Seat) → IsEntryFor c a e → seat e ≡ Some z → is_some a ≡ true
seat_mapped c a e z (Nothing none) is = let bad : None ≡ Some z = sym (ap seat none ∙ seat-none) ∙ is in (cc)
seat_mapped c a e z (Resident b at res) is = ap (λ o. is_some o) at
seat_mapped c a e z (Away b at away) is = ap (λ o. is_some o) at

pub slot_no_seat : (k n : ℕ) → Some (InSlot k) ≡ Some (InFrame n) → ⊥
slot_no_seat k n e = (cc)

pub dead_seat : {mode : ℕ} (c : Picture mode) (pid page : ℕ) (z : Seat) → c.root pid ≡ None → seat (entry c pid page) ≢ Some z
dead_seat c pid page z dead is = let bad : None ≡ Some z = sym (ap seat (entry-dead c pid page dead) ∙ seat-none) ∙ is in (cc)

-- place 0 is no process's
pub first_seat : {mode : ℕ} (c : Picture mode) (m page : ℕ) (z : Seat) → IsRootedBut c m → (q : ℕ) → q < 1 → seat (entry c q page) ≢ Some z
first_seat c m page z rooted q less is = elim (cases_some (c.root q)) [
  | inl dead ↦ dead_seat c q page z dead is
  | inr lives ↦ (let n = rooted.numbers q lives.0 lives.1 in omega (arith, n, less))
]

module _ {mode : ℕ} (c : Picture mode) (v k page : ℕ) (handing : IsHanding c v k page) where
  pub page_range : IsPage (top_level mode) page
  page_range = let P : ℕ → Type 0 = λ n. IsPage (top_level mode) n in subst P handing.noted (handing.share.fit.counted.1.pages (InFrame v) handing.role)

  -- some process has the frame
  pub somebody : ((q : ℕ) → q < 65 → seat (entry c q page) ≢ Some (InFrame v)) → ⊥
  somebody none =
      let fit = handing.share.fit in
      let P : ℕ → Type 0 = λ n. holders_at (entry c) n (InFrame v) ≡ 0 in
      let nobody = subst P (sym handing.noted) (holders_none (entry c) page (InFrame v) (λ q is. none q (seat_number c 0 q page (InFrame v) fit.rooted is) is)) in
      omega (arith, fit.counted.1.counts (InFrame v) handing.role, nobody, handing.some)

  -- at a user page
  pub no_user : ((16 ≤ page) × (page < user_end mode) → ⊥) → ⊥
  no_user out = somebody (λ q less is. out ((handing.share.fit.granting.user q).user_pages page
      (seat_mapped c (c.at q page) (entry c q page) (InFrame v) (handing.share.fit.granting.entries q page page_range) is)))

-- A process gave its share of the frame for that of the slot. Where another has the frame still, the slot is shared once more.
module _ {mode : ℕ} (old mid new : Picture mode) (pid page v k : ℕ) (handing : IsHanding old v k page) (fit : IsFit mid) (moved : seat (entry mid pid page) ≡ Some (InSlot k))
    (slots : mid.slots ≡ old.slots) (lowered : count_of mid.frames v + 1 ≡ count_of old.frames v)
    (kept : 1 < count_of old.frames v → (role_of mid.frames v ≡ role_of old.frames v) × (bytes_of mid.frames v ≡ bytes_of old.frames v))
    (noted : mid.page_of v ≡ old.page_of v) (another : count_of old.frames v ≢ 1) where
  more : 1 < count_of old.frames v
  more = let s = handing.some in omega (arith, s, another)

  pub owned : IsOwned mid (InSlot k)
  owned = fit.counted.1.named pid page (InSlot k) (page_range old v k page handing) moved

  at : fit.counted.0 k ≡ page
  at = fit.counted.1.noted pid page (InSlot k) (page_range old v k page handing) moved

  module _ (same : SameButSlots mid new) (shares : SharesSlot mid.slots new.slots k) where
    passed : IsHanding new v k page
    passed = record {
      share = has_shared mid new k page fit same owned at shares;
      role = ap (λ t. role_of t v) same.frames ∙ (kept more).0 ∙ handing.role;
      noted = same.page_of v ∙ noted ∙ handing.noted;
      alike = shares.bytes_kept ∙ ap (λ t. t.bytes k) slots ∙ handing.alike ∙ sym (ap (λ t. bytes_of t v) same.frames ∙ (kept more).1);
      some = (let m = more in let l = lowered in let c = ap (λ t. count_of t v) same.frames in omega (arith, m, l, c));
      few = (let f = handing.few in let l = lowered in let c = ap (λ t. count_of t v) same.frames in let s = ap (λ t. t.count k) slots in let r = shares.raised in omega (arith, f, l, c, s, r));
    }

    pub all_passed : IsHanding new v k page × Spares v k mid new
    all_passed = (passed, share_spares mid new k page fit same owned at shares v)

module _ {M : Type 0} {m : Levels.Ghosts M} {D E : Type 0} (g : Ghosts E) where
  pub hands_none : (n k : ℕ) (c : Core D E M m) → IsReady g c.swap → HandsShares g n k c c
  hands_none n k c ready = record { spares = spares_none n k (picture_of c); ready = ready; pages = refl; plain = record { store = refl; roots = refl; regions = refl; clock = refl; refused = refl; looks = refl } }

  pub hands_then : (n k : ℕ) (a b c : Core D E M m) → HandsShares g n k a b → HandsShares g n k b c → HandsShares g n k a c
  hands_then n k a b c one two = record {
    spares = spares_then n k (picture_of a) (picture_of b) (picture_of c) one.spares two.spares;
    ready = two.ready;
    pages = two.pages ∙ one.pages;
    plain = grind arith;
  }

  -- a process had no share of the frame
  pub passes_none : (n k pid page : ℕ) (c : Core D E M m) → IsReady g c.swap → IsHanding (picture_of c) n k page → seat (entry (picture_of c) pid page) ≢ Some (InFrame n)
      → PassesShare g n k pid page c c false
  passes_none n k pid page c ready handing none = search (rules, absurd, false≢true, none, handing, hands_none n k c ready)

-- The pages of a process, by its runs and its entries.
use Rattle.inspection.proofs.Names.{top_level, user_end, ◌≡◌, ◌≢◌, ◌⊎◌, ℕ, ◌/◌, ◌<◌, ◌≤◌, Bool, Option, Some, None, true, false, refl, false≢true, inl, inr, sym, ap, ◌∙◌, arith, is_some, IsPage, page_entry, IsTableOf, Picture, IsGranting, IsRootedBut, entry-of, none_here, unmapped_zero}
use Rattle.std.specs.Prelude.{◌&&◌}
use Rattle.{inspection.specs.Slots.{IsInSlot}, residency.specs.Picture.{entry, entry_under, is_live}, sv39_walk.specs.Entry.{has_bit, is_swapped}}

zero_swapped : is_swapped 0 ≡ false
unfolding has_bit
zero_swapped = refl

module _ {mode : ℕ} where
  -- pages beside the user pages have no entry
  pub beside_zero : (c : Picture mode) (pid page : ℕ) → IsGranting c → IsPage (top_level mode) page → (page < 16) ⊎ (user_end mode ≤ page) → entry c pid page ≡ 0
  beside_zero c pid page granting inside beside =
      unmapped_zero c (c.at pid page) (entry c pid page) (granting.entries pid page inside)
      (none_here (c.at pid page) (λ some. (
      let user = (granting.user pid).user_pages page some in
      elim beside [ inl low ↦ omega (arith, low, user.0) | inr high ↦ omega (arith, high, user.1) ])))

  -- a place that a search of a table stopped at has an entry
  pub some_at : (c : Picture mode) (pid r page n : ℕ) → c.root pid ≡ Some r → IsTableOf c.frames (top_level mode) r (page / 512) n
      → ((root : ℕ) → IsTableOf c.frames (top_level mode) root (page / 512) n → page_entry c.frames (top_level mode) root page ≢ 0) → entry c pid page ≢ 0
  some_at c pid r page n root row found none = found r row (sym (entry-of c pid r page root) ∙ none)

  -- a page of a process that doesn't live has no entry
  no_root : (c : Picture mode) (pid page : ℕ) (o : Option ℕ) → c.root pid ≡ o → ((r : ℕ) → c.root pid ≡ Some r → ⊥) → entry c pid page ≡ 0
  unfolding entry
  no_root c pid page None is none = ap (λ r. entry_under mode c.frames r page) is
  no_root c pid page (Some r) is none = absurd (none r is)

  -- so it lies in no slot,
  pub in_none : (c : Picture mode) (n pid page : ℕ) → entry c pid page ≡ 0 → IsInSlot c n pid page → ⊥
  in_none c n pid page zero lies = false≢true (sym (ap is_swapped zero ∙ zero_swapped) ∙ lies.swapped)

  pub dead_in_none : (c : Picture mode) (n pid page : ℕ) → is_live c pid ≡ false → IsInSlot c n pid page → ⊥
  dead_in_none c n pid page dead = in_none c n pid page (no_root c pid page (c.root pid) refl (λ r is. false≢true (sym dead ∙ ap is_some is)))

  -- and none behind the last process lives
  pub past_in_none : (c : Picture mode) (n pid page : ℕ) → IsRootedBut c 0 → 65 ≤ pid → IsInSlot c n pid page → ⊥
  past_in_none c n pid page rooted past =
      in_none c n pid page (no_root c pid page (c.root pid) refl (λ r is. let numbers = rooted.numbers pid r is in omega (arith, past, numbers.1)))

-- a test of two things that is true, and one that is not
pub both : (a b : Bool) → (a && b) ≡ true → (a ≡ true) × (b ≡ true)
both true true e = (refl, refl)
both true false e = absurd (false≢true e)
both false b e = absurd (false≢true e)

pub not_both : (a b : Bool) → (a && b) ≡ false → a ≡ true → b ≡ true → ⊥
not_both true true e p q = false≢true (sym e)
not_both true false e p q = false≢true q
not_both false b e p q = false≢true p

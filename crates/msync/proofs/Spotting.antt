-- A touched file page lies in a frame or in a slot.
use Rattle.msync.proofs.Names.{◌≡◌, ◌≢◌, ℕ, inl, inr, List, length, Option, Some, None, refl, sym, ◌∙◌, arith, cases_lt, get_or_past, Free, Cache, FrameTable, frame_count, role_of, IsFrame, IsSound, Swap, slots_of, or_none, IsInUse}
use Rattle.msync.proofs.Names.{written_in}

pub cache_inside : (t : FrameTable) (n : ℕ) → IsSound t → role_of t n ≡ Cache → IsFrame t n
cache_inside t n sound cache = elim (cases_lt n (frame_count t)) [
  | inl inside ↦ inside
  | inr past ↦ (let bad : Free ≡ Cache = sym (get_or_past t.roles n Free (omega (arith, sound.all_roles, past))) ∙ cache in (cc))
]

whole_of : (o : Option (List ℕ)) → (o ≢ None) → ((w : List ℕ) → o ≡ Some w → length w ≡ 4096) → length (or_none o) ≡ 4096
whole_of None some whole = absurd (some refl)
whole_of (Some w) some whole = whole w refl

-- a slot in use holds a page
pub slot_whole : {E : Type 0} (s : Swap E) (k : ℕ) → IsInUse (slots_of s) k → length ((slots_of s).bytes k) ≡ 4096
slot_whole s k used = whole_of (written_in s.pages.written.notes k) (s.known k used) (λ w is. s.whole k w used is)

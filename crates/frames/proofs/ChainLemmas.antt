-- What a change of one frame does to the chain of free frames.
use Rattle.std.proofs.{Common.{◌≡◌, ◌≢◌, ℕ, ◌<◌, inl, inr, List, [], ◌∷◌, refl, sym, ap, ◌∙◌, arith}, lemmas.Bool.{cases_eq}}
use Rattle.frames.specs.{declared.role.Role.TheVariants.{Free}, FrameTable.{FrameTable, bytes_of, role_of, IsFrame, IsFull, SameButFor}, Chain.{next_of, IsAbsent, IsOn, IsChain, IsChained}}

-- a frame that isn't free is on no chain
absent : (t : FrameTable) (n : ℕ) → role_of t n ≢ Free → (ns : List ℕ) (first : ℕ) → IsChain t first ns → IsAbsent n ns
absent t n used [] first c = tt
absent t n used (m ∷ ms) first c = ((λ e. used (ap (role_of t) e ∙ c.3)), absent t n used ms _ c.5)

kept : (n : ℕ) (old new : FrameTable) → SameButFor n old new → (ns : List ℕ) (first : ℕ) → IsAbsent n ns → IsChain old first ns → IsChain new first ns
kept n old new s [] first a c = c
kept n old new s (m ∷ ms) first a c =
    let ne : m ≢ n = λ e. a.0 (sym e) in
    (c.0, c.1, rw s.frames c.2, s.roles m ne ∙ c.3, c.4, rw (s.bytes m ne) (kept n old new s ms _ a.1 c.5))

-- a frame that isn't free, before or after
pub IsChained-kept : (n : ℕ) (old new : FrameTable) (first : ℕ) → SameButFor n old new
    → role_of old n ≢ Free → role_of new n ≢ Free → IsChained old first → IsChained new first
IsChained-kept n old new first s before after c = record {
  free = c.free;
  chain = kept n old new s c.free first (absent old n before c.free first c.chain) c.chain;
  complete = λ m h is_free. elim (cases_eq m n) [
    | inl e ↦ absurd (after (ap (role_of new) (sym e) ∙ is_free))
    | inr ne ↦ c.complete m (rw (← s.frames) h) (sym (s.roles m ne) ∙ is_free)
  ];
}

-- the first frame of the chain is free
pub first_is_free : (t : FrameTable) (first : ℕ) (ns : List ℕ) → first ≢ 0 → IsChain t first ns → (0 < first) × IsFrame t first × (role_of t first ≡ Free)
first_is_free t first [] ne c = absurd (ne c)
first_is_free t first (m ∷ ms) ne c = (omega (arith, c.0, c.1), rw c.0 c.2, rw c.0 c.3)

pub IsChained-first : (t : FrameTable) (first : ℕ) → first ≢ 0 → IsChained t first → (0 < first) × IsFrame t first × (role_of t first ≡ Free)
IsChained-first t first ne c = first_is_free t first c.free ne c.chain

-- the end of the chain: no frame is free
none_on : (t : FrameTable) (first : ℕ) (ns : List ℕ) → first ≡ 0 → IsChain t first ns → (n : ℕ) → IsOn n ns → ⊥
none_on t first [] e c n on = on
none_on t first (m ∷ ms) e c n on = omega (arith, c.0, c.1)

pub IsChained-none : (t : FrameTable) (first : ℕ) → first ≡ 0 → IsChained t first → IsFull t
IsChained-none t first e c n h is_free = none_on t first c.free e c.chain n (c.complete n h is_free)

rest : (old new : FrameTable) (first : ℕ) → SameButFor first old new → first ≢ 0 → role_of new first ≢ Free
    → (ns : List ℕ) → IsChain old first ns → ((n : ℕ) → IsFrame old n → role_of old n ≡ Free → IsOn n ns)
    → IsChained new (next_of (bytes_of old first))
rest old new first s ne after [] c complete = absurd (ne c)
rest old new first s ne after (m ∷ ms) c complete = record {
  free = ms;
  chain = kept first old new s ms _ (rw c.0 c.4) (rw c.0 c.5);
  complete = λ n h is_free. elim (cases_eq n first) [
    | inl e ↦ absurd (after (ap (role_of new) (sym e) ∙ is_free))
    | inr other ↦ elim (complete n (rw (← s.frames) h) (sym (s.roles n other) ∙ is_free)) [ inl e ↦ absurd (other (e ∙ sym c.0)) | inr on ↦ on ]
  ];
}

-- the first frame of the chain was handed out
pub IsChained-taken : (old new : FrameTable) (first : ℕ) → SameButFor first old new → first ≢ 0 → role_of new first ≢ Free
    → IsChained old first → IsChained new (next_of (bytes_of old first))
IsChained-taken old new first s ne after c = rest old new first s ne after c.free c.chain c.complete

-- a frame was given back: it is the first, and the one that was first comes next
pub IsChained-freed : (n : ℕ) (old new : FrameTable) (first : ℕ) → SameButFor n old new → 0 < n → IsFrame old n
    → role_of old n ≢ Free → role_of new n ≡ Free → next_of (bytes_of new n) ≡ first → IsChained old first → IsChained new n
IsChained-freed n old new first s above inside before after next c =
    let off = absent old n before c.free first c.chain in
    let on = kept n old new s c.free first off c.chain in
    record {
      free = n ∷ c.free;
      chain = (refl, above, rw s.frames inside, after, off, rw next on);
      complete = λ m h is_free. elim (cases_eq m n) [ inl e ↦ inl e | inr ne ↦ inr (c.complete m (rw (← s.frames) h) (sym (s.roles m ne) ∙ is_free)) ];
    }

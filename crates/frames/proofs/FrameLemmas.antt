-- What a change of one frame leaves, and what keeps memory sound.
use Rattle.std.proofs.{Common.{◌≡◌, ◌≢◌, ℕ, zero, suc, inl, inr, ◌+◌, ◌<◌, List, [], length, get_or, refl, sym, ap, ◌∙◌, subst, arith, length-set, get_or-set_same, get_or-set_other}, lemmas.Bool.{cases_eq, cases_lt, false≢true}}
use Rattle.{std.{proofs.lemmas.List.{ext_get_or}, specs.{List.{CopiedTo, SameBelow, SameFrom}, Prelude.{slice_set, replicate, ◌-◌}}}, frames.specs.FrameTable.{FrameTable, bytes_of, role_of, count_of, IsFrame, IsHeld, IsSound, IsCountFor}}
use Rattle.frames.specs.{FrameTable.{SameButFor, is_handed_out, zero_bytes, with_bytes}, declared.role.Role.{Role, TheVariants.{Free, Zero}}}

replicate-at : (n k : ℕ) → get_or {A = ℕ} (replicate {A = ℕ} n 0) k 0 ≡ 0
replicate-at zero k = refl
replicate-at (suc n) zero = refl
replicate-at (suc n) (suc k) = replicate-at n k

-- each is zero
pub zero_bytes-at : (k : ℕ) → get_or {A = ℕ} zero_bytes k 0 ≡ 0
unfolding zero_bytes
zero_bytes-at k = replicate-at 4096 k

-- bytes alone of one frame
pub with_bytes-others : (t : FrameTable) (n : ℕ) (w : List ℕ) → SameButFor n t (with_bytes t n w)
with_bytes-others t n w = record {
  frames = length-set t.bytes n w;
  bytes = λ m ne. get_or-set_other t.bytes n m w [] ne;
  roles = λ m ne. refl;
  counts = λ m ne. refl;
}

-- the frame that was written
pub with_bytes-same : (t : FrameTable) (n : ℕ) (w : List ℕ) → IsFrame t n → bytes_of (with_bytes t n w) n ≡ w
with_bytes-same t n w h = get_or-set_same t.bytes n w [] h

-- all of one frame
abbrev pub with_frame : FrameTable → ℕ → List ℕ → Role → ℕ → FrameTable
with_frame t n w r c = record { bytes = slice_set t.bytes n w; roles = slice_set t.roles n r; counts = slice_set t.counts n c }

pub with_frame-others : (t : FrameTable) (n : ℕ) (w : List ℕ) (r : Role) (c : ℕ) → SameButFor n t (with_frame t n w r c)
with_frame-others t n w r c = record {
  frames = length-set t.bytes n w;
  bytes = λ m ne. get_or-set_other t.bytes n m w [] ne;
  roles = λ m ne. get_or-set_other t.roles n m r Free ne;
  counts = λ m ne. get_or-set_other t.counts n m c 0 ne;
}

-- one frame changed to a role and a count that go together, and it isn't the zero page
pub IsSound-step : (n : ℕ) (old new : FrameTable) → IsSound old → SameButFor n old new → 0 < n
    → length new.roles ≡ length old.roles → length new.counts ≡ length old.counts
    → IsCountFor (role_of new n) (count_of new n) → role_of new n ≢ Zero → IsSound new
IsSound-step n old new sound same above roles counts counted other = record {
  least = rw same.frames sound.least;
  most = rw same.frames sound.most;
  all_roles = roles ∙ sound.all_roles ∙ sym same.frames;
  all_counts = counts ∙ sound.all_counts ∙ sym same.frames;
  counted = λ m h. elim (cases_eq m n) [
    | inl e ↦ (let P : ℕ → Type 0 = λ k. IsCountFor (role_of new k) (count_of new k) in subst P (sym e) counted)
    | inr ne ↦ rw (same.roles m ne, same.counts m ne) (sound.counted m (rw (← same.frames) h))
  ];
  zero_role = same.roles 0 (λ e. (omega arith)) ∙ sound.zero_role;
  zero_alone = λ m is_zero. elim (cases_eq m n) [
    | inl e ↦ absurd (other (ap (role_of new) (sym e) ∙ is_zero))
    | inr ne ↦ sound.zero_alone m (sym (same.roles m ne) ∙ is_zero)
  ];
  zero_page = same.bytes 0 (λ e. (omega arith)) ∙ sound.zero_page;
}

-- a frame that was handed out isn't the zero page
pub IsHeld-above : (t : FrameTable) (n : ℕ) → IsSound t → IsHeld t n → 0 < n
IsHeld-above t n sound held = elim (cases_eq n 0) [
  | inl e ↦ absurd (false≢true (sym (ap is_handed_out (ap (role_of t) e ∙ sound.zero_role)) ∙ held.handed_out))
  | inr ne ↦ omega arith
]

pub IsHeld-not_free : (t : FrameTable) (n : ℕ) → IsHeld t n → role_of t n ≢ Free
IsHeld-not_free t n held e = false≢true (sym (ap is_handed_out e) ∙ held.handed_out)

pub IsHeld-not_zero : (t : FrameTable) (n : ℕ) → IsHeld t n → role_of t n ≢ Zero
IsHeld-not_zero t n held e = false≢true (sym (ap is_handed_out e) ∙ held.handed_out)

-- what the copy of one item within a list leaves
pub copied_item : (xs ys : List (List ℕ)) (from to n : ℕ) → n ≡ 1 → from < length xs → to < length xs → length ys ≡ length xs
    → CopiedTo xs ys from to n → SameBelow xs ys to → SameFrom xs ys (to + n) → ys ≡ slice_set xs to (get_or xs from [])
copied_item xs ys from to n one source target len copied below above =
    ext_get_or [] ys (slice_set xs to (get_or xs from [])) (len ∙ sym (length-set xs to (get_or xs from [])))
    (λ k h. elim (cases_eq k to) [
      | inl e ↦ (let there : k - to ≡ 0 = omega arith in let sum : from + (k - to) ≡ from = omega arith in
          copied k [] (omega arith) (omega arith) ∙ ap (λ j. get_or xs j []) sum
          ∙ sym (ap (λ j. get_or (slice_set xs to (get_or xs from [])) j []) e ∙ get_or-set_same xs to (get_or xs from []) [] target))
      | inr ne ↦ elim (cases_lt k to) [
        | inl lt ↦ below k [] lt ∙ sym (get_or-set_other xs to k (get_or xs from []) [] ne)
        | inr le ↦ above k [] (omega arith) ∙ sym (get_or-set_other xs to k (get_or xs from []) [] ne)
      ]
    ])

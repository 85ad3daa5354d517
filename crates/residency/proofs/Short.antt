-- Where no frame is to be had, memory is full of tables.
use Rattle.residency.proofs.Names.{◌≡◌, ℕ, zero, suc, inl, inr, ◌+◌, ◌≤◌, Bool, true, false, ◌||◌, ◌==◌, Option, Some, None, refl, ap, arith, eq-eqb, ne_eqb, cases_eq, cases_lt, cases_Bool, or_left, or_right, FrameNo, NoFrames, count_below}
use Rattle.residency.proofs.Names.{Role, Free, Zero, Table, FrameTable, frame_count, role_of, IsFrame, IsSound, every, one_less}
use Rattle.residency.{specs.{Picture.{Picture, is_data}, Calls.{IsToKeep, Refuses}, Capacity.{is_table, table_frames}}, proofs.Counts.{count-none, count-kept}}

count-or : (f g : ℕ → Bool) (n : ℕ) → count_below (λ k. f k || g k) n ≤ count_below f n + count_below g n
unfolding count_below
count-or f g zero = omega arith
count-or f g (suc n) = let rest = count-or f g n in elim (cases_Bool (f n)) [
  | inl t ↦ rw t (omega (arith, rest))
  | inr f' ↦ elim (cases_Bool (g n)) [ inl t ↦ rw (f', t) (omega (arith, rest)) | inr g' ↦ rw (f', g') (omega (arith, rest)) ]
]

count-point : (x n : ℕ) → count_below (λ k. k == x) n ≤ 1
count-point x n =
    let none = count-none (λ k. false) n (λ k. refl) in
    elim (cases_lt x n) [
      | inl lt ↦ (let one = one_less (λ k. k == x) (λ k. false) x n lt (eq-eqb x x refl) refl (λ k ne. ne_eqb k x ne) in omega (arith, one, none))
      | inr le ↦ (let same = count-kept (λ k. k == x) (λ k. false) x x refl (λ k ne. ne_eqb k x ne) n (omega (arith, le)) in omega (arith, same, none))
    ]

abbrev kept_number : Option FrameNo → ℕ
kept_number None = 0
kept_number (Some k) = k.0

-- zero page, table or frame to keep
abbrev is_bound : FrameTable → Option FrameNo → ℕ → Bool
is_bound t keep n = is_table (role_of t n) || ((n == 0) || (n == kept_number keep))

module _ {mode : ℕ} (c : Picture mode) (keep : Option FrameNo) (sound : IsSound c.frames) (refuses : Refuses c keep NoFrames) where
  kept : (keep' : Option FrameNo) (n : ℕ) → ((IsToKeep keep' n → ⊥) → ⊥) → (n == kept_number keep') ≡ true
  kept None n not_not = absurd (not_not (λ none. none))
  kept (Some k) n not_not = elim (cases_eq n k.0) [ inl e ↦ eq-eqb n k.0 e | inr ne ↦ absurd (not_not ne) ]

  bound : (n : ℕ) → IsFrame c.frames n → (r : Role) → role_of c.frames n ≡ r → is_bound c.frames keep n ≡ true
  bound n inside Free e = absurd (refuses.0 n inside e)
  bound n inside Zero e = or_right (is_table (role_of c.frames n)) _ (or_left (n == 0) _ (eq-eqb n 0 (sound.zero_alone n e)))
  bound n inside Table e = or_left (is_table (role_of c.frames n)) _ (ap is_table e)
  bound n inside o e = or_right (is_table (role_of c.frames n)) _ (or_right (n == 0) _ (kept keep n (λ free. refuses.1 n (ap is_data e, free))))

  pub few_frames : frame_count c.frames ≤ table_frames c.frames + 2
  unfolding table_frames
  few_frames =
      let all = every (is_bound c.frames keep) (frame_count c.frames) (λ k lt. bound k lt (role_of c.frames k) refl) in
      let a = count-or (λ n. is_table (role_of c.frames n)) (λ n. (n == 0) || (n == kept_number keep)) (frame_count c.frames) in
      let q = count-point (kept_number keep) (frame_count c.frames) in
      omega (arith, all, a, count-or (λ n. n == 0) (λ n. n == kept_number keep) (frame_count c.frames), count-point 0 (frame_count c.frames), q)

-- What a ledger keeps of frames, one after another.
use Rattle.std.proofs.{Common.{◌≡◌, ◌≢◌, ◌<◌, ◌≤◌, ◌+◌, ℕ, zero, suc, false, List, [], ◌∷◌, ◌++◌, length, Some, None, slice_get, refl, sym, ap, subst, ◌∙◌, ⊎_elim, arith}, lemmas.{Bool.{cases_eq, cases_lt}, Option.{none-some}}}
use Rattle.{frames.specs.FrameTable.{IsFrame}, inspection.specs.{Frames.{IsFrameView}, Machines.{memory_of}}, machine.specs.{Machine.{halted_of}, declared.machine.Machine.{Machine}}}
use Rattle.watching.specs.{Noted.{KeepsNotes, NotesFrame, NotesFrames}, declared.ledger.Held.{Held}}

-- what stands in a list stays where one is put behind it, which is the last then
slice_get-left : {X : Type 0} (xs : List X) (x y : X) (k : ℕ) → slice_get xs k ≡ Some y → slice_get (xs ++ x ∷ []) k ≡ Some y
slice_get-left [] x y k is = absurd (none-some _ is)
slice_get-left (z ∷ xs) x y zero is = is
slice_get-left (z ∷ xs) x y (suc k) is = slice_get-left xs x y k is

slice_get-last : {X : Type 0} (xs : List X) (x : X) → slice_get (xs ++ x ∷ []) (length xs) ≡ Some x
slice_get-last [] x = refl
slice_get-last (z ∷ xs) x = slice_get-last xs x

module _ {D E : Type 0} (m : Machine D E) where
  -- the note of another frame
  pub note_kept : (old new : List Held) (n k : ℕ) → KeepsNotes n old new → k ≢ n → NotesFrame m old k → NotesFrame m new k
  note_kept old new n k kept other noted = record { held = noted.held; at = kept.same k other ∙ noted.at; view = noted.view }

  -- one frame more that is kept
  pub note_more : (kept after : List Held) (held : Held) (n k : ℕ) → length kept ≡ n → after ≡ kept ++ held ∷ [] → IsFrameView (memory_of m) n held.view
      → ((j : ℕ) → j < n → NotesFrame m kept j) → k < n + 1 → NotesFrame m after k
  note_more kept after held n k long is view before inside = subst (λ (hs : List Held). NotesFrame m hs k) (sym is) (⊎_elim
      (λ same. record {
        held = held;
        at = subst (λ (j : ℕ). slice_get (kept ++ held ∷ []) j ≡ Some held) (long ∙ sym same) (slice_get-last kept held);
        view = subst (λ (j : ℕ). IsFrameView (memory_of m) j held.view) (sym same) view;
      })
      (λ other. let b = before k (omega (arith, inside, other)) in record { held = b.held; at = slice_get-left kept held b.held k b.at; view = b.view })
      (cases_eq k n))

  -- one frame more that is compared
  pub compared_more : (old new : List Held) (n k count : ℕ) → KeepsNotes n old new → length old ≡ count → (n < length old → IsFrame (memory_of m).frames n → NotesFrame m new n)
      → ((j : ℕ) → j < n → j < count → IsFrame (memory_of m).frames j → NotesFrame m old j) → k < n + 1 → k < count → IsFrame (memory_of m).frames k → NotesFrame m new k
  compared_more old new n k count kept long here before inside within is = ⊎_elim
      (λ same. subst (NotesFrame m new) (sym same) (here (omega (arith, long, same, within)) (subst (IsFrame (memory_of m).frames) same is)))
      (λ other. note_kept old new n k kept other (before k (omega (arith, inside, other)) within is))
      (cases_eq k n)

  -- a frame of memory stands below each number of which it has none
  pub below_end : (n k : ℕ) → (IsFrame (memory_of m).frames n → ⊥) → IsFrame (memory_of m).frames k → k < n
  below_end n k none is = ⊎_elim (λ below. below) (λ above. absurd (none (omega (arith, above, is)))) (cases_lt k n)

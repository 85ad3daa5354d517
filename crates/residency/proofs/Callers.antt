-- What a call knows of its page after a frame was asked for.
use Rattle.residency.proofs.Names.{◌≡◌, ℕ, inl, inr, ◌⊎◌, true, false, Option, Some, sym, ◌∙◌, subst, cases_Bool, Attr, Backing, Anon, frame_of}
use Rattle.residency.{specs.{Seats.{is_private, is_swapped}, Picture.{Picture}, Parts.{IsEntryFor, Nothing, Resident, Away, IsBehind}, Calls.{IsStaying}}, proofs.Places.{one_frame}}

-- the frame behind a page is one
one_behind : {mode : ℕ} (c : Picture mode) (b : Backing) (n m : ℕ) → IsBehind c b n → IsBehind c b m → (n ≡ 0) ⊎ (n ≡ m)
one_behind c Anon n m e f = inl e
one_behind c b n m e f = inr (one_frame m n (sym f ∙ e))

-- a page whose shown bytes lie in the frame to keep keeps its entry
pub shown_stays : {mode : ℕ} (c : Picture mode) (attr : Option Attr) (b : Backing) (e n : ℕ) → IsEntryFor c attr e → ((a : Attr) → attr ≡ Some a → a.backing ≡ b)
    → (is_private e ≡ true → frame_of e ≡ n) → (is_private e ≡ false → is_swapped e ≡ false → IsBehind c b n) → is_swapped e ≡ false → IsStaying (Some (record { 0 = n })) e
shown_stays c attr b e n (Nothing none) is own behind resident = inl none
shown_stays c attr b e n (Away a at away) is own behind resident = inr (inl away.swapped)
shown_stays c attr b e n (Resident a at res) is own behind resident = elim (cases_Bool (is_private e)) [
  | inl t ↦ inr (inr (inr (own t)))
  | inr f ↦ (
      let P : Backing → Type 0 = λ x. IsBehind c x (frame_of e) in
      elim (one_behind c b (frame_of e) n (subst P (is a at) (res.behind f)) (behind f resident)) [
        | inl zero_page ↦ inr (inr (inl zero_page))
        | inr same ↦ inr (inr (inr same))
      ])
]

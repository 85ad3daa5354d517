-- A process whose pages are those of another ends: nothing is named by it alone.
use Rattle.lifecycle.proofs.Names.{user_end, ObjectPage, PageKey, File, Object, names, is_named, ◌≡◌, ◌≢◌, ℕ, inl, inr, ◌⊎◌, true, false, Some, refl, sym, ap, ◌∙◌, arith, ne_eqb, cases_eq, cases_Bool, false≢true, Home, Picture, IsFit}
use Rattle.lifecycle.proofs.Names.{KeepsFiles, home_held, away_or, KeepsNamed, IsLasting, without_maps, named-at, named-where}

module _ {mode : ℕ} (mid new : Picture mode) (parent child r : ℕ) (apart : parent ≢ child) (lives : mid.root parent ≡ Some r) (fit : IsFit mid) (fit' : IsFit new)
    (same : (page : ℕ) → mid.at child page ≡ mid.at parent page) (keeps : KeepsNamed (without_maps mid.at child 0 (user_end mode)) mid new) where
  beside : (q k : ℕ) → q ≢ child → without_maps mid.at child 0 (user_end mode) q k ≡ mid.at q k
  beside q k ne = rw (ne_eqb q child ne) refl

  lasts : (p : ObjectPage) → is_named mid.at p.object p.page ≡ true → is_named (without_maps mid.at child 0 (user_end mode)) p.object p.page ≡ true
  lasts p is =
      let who = named-where mid.at p.object p.page is in
      let q = who.0 in
      let k = who.1 in
      elim (cases_eq q child) [
        | inr ne ↦ named-at (without_maps mid.at child 0 (user_end mode)) p.object p.page q k who.2 who.3 (ap (λ a. names a p.object p.page) (beside q k ne) ∙ who.4)
        | inl e ↦ (
            let here : names (mid.at parent k) p.object p.page ≡ true = ap (λ a. names a p.object p.page) (sym (same k)) ∙ ap (λ x. names (mid.at x k) p.object p.page) (sym e) ∙ who.4 in
            let number = fit.rooted.numbers parent r lives in
            named-at (without_maps mid.at child 0 (user_end mode)) p.object p.page parent k (omega (arith, number)) who.3 (ap (λ a. names a p.object p.page) (beside parent k apart) ∙ here))
      ]

  lasting_or : (p : PageKey) → IsLasting (without_maps mid.at child 0 (user_end mode)) p ⊎ ((mid.place p ≡ Home) × (new.place p ≡ Home))
  lasting_or (File f) = inl tt
  lasting_or (Object p) = elim (cases_Bool (is_named (without_maps mid.at child 0 (user_end mode)) p.object p.page)) [
    | inl t ↦ inl t
    | inr f ↦ inr (
      elim (away_or (mid.place (Object p))) [ inl home ↦ home | inr away ↦ absurd (false≢true (sym f ∙ lasts p (fit.places.inside (Object p) away))) ],
      keeps.gone p f,
    )
  ]

  pub places_unchanged : (p : PageKey) → new.place p ≡ mid.place p
  places_unchanged p = elim (lasting_or p) [ inl last ↦ keeps.place p last | inr homes ↦ homes.1 ∙ sym homes.0 ]

  untouched : (c : Picture mode) (p : PageKey) → IsFit c → c.place p ≡ Home → c.touched p ≡ false
  untouched c p fit home = elim (cases_Bool (c.touched p)) [ inl t ↦ absurd (fit.dirty.held p t home) | inr f ↦ f ]

  pub files_unchanged : KeepsFiles mid new
  files_unchanged = record {
    held = λ p. elim (lasting_or p) [ inl last ↦ keeps.held p last | inr homes ↦ inl (home_held new p homes.1 ∙ sym (home_held mid p homes.0)) ];
    touched = λ p. elim (lasting_or p) [ inl last ↦ keeps.touched p last | inr homes ↦ untouched new p fit' homes.1 ∙ sym (untouched mid p fit homes.0) ];
    files = keeps.files;
  }

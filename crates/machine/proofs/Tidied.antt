-- A state that memory shows has no bytes of a page that nobody names: such a page lies nowhere.
use Rattle.machine.proofs.Names.{◌≡◌, ℕ, inl, inr, Option, refl, sym, ap, ◌∙◌, cases_Bool, false≢true, option_map, ObjectPage, Object, is_named, maps_of, names, State, View, IsFit, Picture, ShowsPages, named-alike, attrs_seen}
use Rattle.machine.specs.Tidy.{IsTidy}

maps_seen : {mode : ℕ} (c : Picture mode) (s : State) → ShowsPages c s → (pid page : ℕ) → maps_of s.views pid page ≡ c.at pid page
maps_seen c s shows pid page = ap (λ (o : Option View). option_map (λ (view : View). view.attr) o) (shows.views pid page) ∙ ap (λ map. map page) (attrs_seen c pid)

module _ {mode : ℕ} where
  pub tidied : (c : Picture mode) (s : State) → IsFit c → ShowsPages c s → IsTidy s
  tidied c s fit shows object page none =
      let p : ObjectPage = record { object = object; page = page } in
      let same : is_named (maps_of s.views) object page ≡ is_named c.at object page =
      named-alike c.at (maps_of s.views) object page (λ q k. ap (λ a. names a object page) (maps_seen c s shows q k)) in
      shows.objects p ∙ elim (cases_Bool (c.touched (Object p))) [
        | inl stored ↦ absurd (false≢true (sym none ∙ same ∙ fit.places.inside (Object p) (fit.dirty.held (Object p) stored)))
        | inr unstored ↦ rw unstored refl
      ]

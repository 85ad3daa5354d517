-- The state that memory shows once pages are mapped no more: the objects that no page names have no bytes.
use Rattle.ranges.proofs.Names.{◌≡◌, ◌≢◌, ℕ, inl, inr, ◌⊎◌, Bool, true, false, Option, None, refl, sym, ap, ◌∙◌, cases_Bool, none-some, is_some, ObjectPage, PageKey, File, Object, held_count, Maps, is_named, named_objects, State, View}
use Rattle.ranges.{proofs.Names.{FrameTable, SlotTable, Place, Home, Picture, view, is_live, held, bytes_at, copies_over, touched_file, stored_object, IsFit, ShowsPages, object_bytes, home_held}, specs.Rows.{KeepsNamed}}

pub shows_named : {mode : ℕ} (old new : Picture mode) (s : State) (maps : Maps) (live : ℕ → Bool) (views : ℕ → ℕ → Option View) → IsFit new → ShowsPages old s → KeepsNamed maps old new
    → ((pid : ℕ) → live pid ≡ is_live new pid) → ((pid page : ℕ) → views pid page ≡ view new pid page)
    → ShowsPages new (record s { live = live; views = views; objects = named_objects maps s.objects })
shows_named old new s maps live views fit shows keeps lives sees = record {
  live = lives;
  views = sees;
  files = λ f. shows.files f ∙ sym (keeps.files f);
  touched = λ p. shows.touched p ∙ sym (keeps.touched (File p) tt);
  objects = λ p. elim (cases_Bool (is_named maps p.object p.page)) [
    | inl named ↦ rw named (shows.objects p ∙ still p named (keeps.held (Object p) named))
    | inr gone ↦ rw gone (sym (rw (left p gone) refl))
  ];
  blank = λ p bytes untouched is. elim (cases_Bool (is_named maps p.object p.page)) [
    | inl named ↦ elim (keeps.held (Object p) named) [
      | inl same ↦ shows.blank p bytes (sym (keeps.touched (Object p) named) ∙ untouched) (sym same ∙ is)
      | inr home ↦ absurd (none-some bytes (sym home.0 ∙ is))
    ]
    | inr gone ↦ absurd (none-some bytes (sym (home_held new (Object p) (keeps.gone p gone)) ∙ is))
  ];
  held = λ p bytes is. elim (keeps.held (File p) tt) [ inl same ↦ shows.held p bytes (sym same ∙ is) | inr home ↦ absurd (none-some bytes (sym home.0 ∙ is)) ];
  same_mode = shows.same_mode;
  clean = λ p untouched inside. shows.clean p (sym (keeps.touched (File p) tt) ∙ untouched) (inside.0, sym (keeps.files p.file) ∙ inside.1, inside.2);
}
  where
    still : (p : ObjectPage) → is_named maps p.object p.page ≡ true → (held new (Object p) ≡ held old (Object p)) ⊎ ((held new (Object p) ≡ None) × (old.touched (Object p) ≡ false)) → object_bytes old p ≡ object_bytes new p
    still p named (inl same) = sym (rw (keeps.touched (Object p) named, same) refl)
    still p named (inr home) = rw (home.1, keeps.touched (Object p) named ∙ home.1) refl

    left : (p : ObjectPage) → is_named maps p.object p.page ≡ false → new.touched (Object p) ≡ false
    left p gone = elim (cases_Bool (new.touched (Object p))) [
      | inl touched ↦ absurd (fit.dirty.held (Object p) touched (keeps.gone p gone))
      | inr clear ↦ clear
    ]

some_at : (t : FrameTable) (k : SlotTable) (place : Place) → place ≢ Home → is_some (bytes_at t k place) ≡ true
some_at t k Home away = absurd (away refl)
some_at t k place away = refl

some_held : {mode : ℕ} (c : Picture mode) (p : PageKey) → c.place p ≢ Home → is_some (held c p) ≡ true
unfolding held
some_held c p away = some_at c.frames c.slots (c.place p) away

-- what is in the objects of the state was stored to
pub stored_shown : {mode : ℕ} (c : Picture mode) (s : State) → IsFit c → ShowsPages c s → (object page : ℕ) → is_some (s.objects object page) ≡ stored_object c object page
stored_shown c s fit shows object page =
    let p : ObjectPage = record { object = object; page = page } in
    elim (cases_Bool (c.touched (Object p))) [
      | inl touched ↦ (
          let at : object_bytes c p ≡ held c (Object p) = rw touched refl in
          ap (λ o. is_some o) (shows.objects p ∙ at) ∙ some_held c (Object p) (fit.dirty.held (Object p) touched) ∙ sym touched)
      | inr clear ↦ (let at : object_bytes c p ≡ None = rw clear refl in ap (λ o. is_some o) (shows.objects p ∙ at) ∙ sym clear)
    ]

-- the slots that a state needs are those that memory counts
module _ {mode : ℕ} where
  pub held_shown : (c : Picture mode) (s : State) → IsFit c → ShowsPages c s → held_count s ≡ copies_over mode (view c) (touched_file c) (stored_object c)
  unfolding held_count copies_over
  held_shown c s fit shows =
      let sees : s.views ≡ view c = λ t pid page. shows.views pid page t in
      let marks : s.touched ≡ touched_file c = λ t file page. shows.touched (record { file = file; page = page }) t in
      let stored : (λ object page. is_some (s.objects object page)) ≡ stored_object c = λ t object page. stored_shown c s fit shows object page t in
      ap (λ x. copies_over x s.views s.touched (λ object page. is_some (s.objects object page))) shows.same_mode
      ∙ ap (λ (v : ℕ → ℕ → Option View). copies_over mode v s.touched (λ object page. is_some (s.objects object page))) sees
      ∙ ap (λ (m : ℕ → ℕ → Bool). copies_over mode (view c) m (λ object page. is_some (s.objects object page))) marks
      ∙ ap (copies_over mode (view c) (touched_file c)) stored

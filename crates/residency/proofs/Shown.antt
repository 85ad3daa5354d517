-- A state that memory shows is shown after frames were given up.
use Rattle.residency.proofs.Names.{ℕ, ◌≡◌, inl, inr, Some, None, is_some, refl, sym, ap, ◌∙◌, cases_Bool, false≢true, ObjectPage, File, Object, State}
use Rattle.residency.specs.{Picture.{Picture}, Calls.{KeepsPages}, Shows.{ShowsPages, KeepsFiles, object_bytes}}

pub object-kept : {mode : ℕ} (old new : Picture mode) (p : ObjectPage) → KeepsFiles old new → object_bytes new p ≡ object_bytes old p
object-kept old new p keeps = elim (cases_Bool (old.touched (Object p))) [
  | inl t ↦ rw (keeps.touched (Object p), t) (elim (keeps.held (Object p)) [ inl same ↦ same | inr home ↦ absurd (false≢true (sym home.1 ∙ t)) ])
  | inr f ↦ rw (keeps.touched (Object p), f) refl
]

pub shows_kept : {mode : ℕ} (old new : Picture mode) (s : State) → KeepsPages old new → ShowsPages old s → ShowsPages new s
shows_kept old new s keeps shows = record {
  live = λ pid. shows.live pid ∙ ap (λ r. is_some r) (sym (keeps.root pid));
  views = λ pid page. shows.views pid page ∙ sym (keeps.views pid page);
  files = λ f. shows.files f ∙ sym (keeps.files.files f);
  touched = λ p. shows.touched p ∙ sym (keeps.files.touched (File p));
  held = λ p bytes here. elim (keeps.files.held (File p)) [
    | inl same ↦ shows.held p bytes (sym same ∙ here)
    | inr home ↦ (let bad : None ≡ Some bytes = sym home.0 ∙ here in (cc))
  ];
  same_mode = shows.same_mode;
  clean = λ p untouched inside. shows.clean p (sym (keeps.files.touched (File p)) ∙ untouched) (inside.0, sym (keeps.files.files p.file) ∙ inside.1, inside.2);
  objects = λ p. shows.objects p ∙ sym (object-kept old new p keeps.files);
  blank = λ p bytes untouched here. elim (keeps.files.held (Object p)) [
    | inl same ↦ shows.blank p bytes (sym (keeps.files.touched (Object p)) ∙ untouched) (sym same ∙ here)
    | inr home ↦ (let bad : None ≡ Some bytes = sym home.0 ∙ here in (cc))
  ];
}

pub keeps_then : {mode : ℕ} (a b c : Picture mode) → KeepsPages a b → KeepsPages b c → KeepsPages a c
keeps_then a b c p q = record {
  root = λ pid. q.root pid ∙ p.root pid;
  at = λ pid page. q.at pid page ∙ p.at pid page;
  views = λ pid page. q.views pid page ∙ p.views pid page;
  files = record {
    held = λ f. elim (q.files.held f) [
      | inl e ↦ elim (p.files.held f) [ inl e' ↦ inl (e ∙ e') | inr home ↦ inr (e ∙ home.0, home.1) ]
      | inr home ↦ inr (home.0, sym (p.files.touched f) ∙ home.1)
    ];
    touched = λ f. q.files.touched f ∙ p.files.touched f;
    files = λ f. q.files.files f ∙ p.files.files f;
  };
}

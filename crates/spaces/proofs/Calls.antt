-- What a call of the flat model comes to in a state that memory shows.
use Rattle.vm_types.specs.declared.mode.Levels as Levels
use Rattle.spaces.proofs.Names.{ℕ, ◌≡◌, ◌≢◌, ◌==◌, Bool, true, false, if◌then◌else◌, Option, ⊎_elim, refl, sym, ap, ◌∙◌, subst, arith, nat_tests, none-some, Ghosts, shows_named, KeepsNamed, Core, IsFit, Picture, picture_of, is_live, view}
use Rattle.spaces.{proofs.Names.{ShowsPages, KeepsFiles, object-kept, Command, File, Object, Reply, Maps, named_objects, State, Outcome, outcome, answers, View}, specs.Calls.{Comes, Does}}

module _ {M : Type 0} {m : Levels.Ghosts M} {D E : Type 0} (g : Ghosts D) (h : Ghosts E) (old new : Core D E M m) (s : State) (command : Command) (reply : Reply) where
  pub does : (o : Outcome) → outcome s command ≡ o → reply ≡ o.reply → ShowsPages (picture_of new) o.state → Comes g h old new s command reply
  does o e r shows = Does (r ∙ sym (ap (λ (p : Outcome). p.reply) e)) (subst (λ (p : Outcome). ShowsPages (picture_of new) p.state) (sym e) shows)

  -- an answer that changes nothing
  pub does_answer : ShowsPages (picture_of new) s → outcome s command ≡ answers s reply → Comes g h old new s command reply
  does_answer shows e = does (answers s reply) e refl shows

-- the process that was found is the one that was asked for
pub found_lives : {mode : ℕ} (c : Picture mode) (pid number : ℕ) → (pid ≡ number) × (is_live c pid ≡ true) → is_live c number ≡ true
found_lives c pid number found = subst (λ (n : ℕ). is_live c n ≡ true) found.0 found.1

-- other processes and pages, over the same files and objects
pub shows_with : {mode : ℕ} (old new : Picture mode) (s : State) (live : ℕ → Bool) (views : ℕ → ℕ → Option View) → ShowsPages old s → KeepsFiles old new
    → ((pid : ℕ) → live pid ≡ is_live new pid) → ((pid page : ℕ) → views pid page ≡ view new pid page)
    → ShowsPages new (record s { live = live; views = views })
shows_with old new s live views shows keeps lives sees = record {
  live = lives;
  views = sees;
  files = λ f. shows.files f ∙ sym (keeps.files f);
  touched = λ p. shows.touched p ∙ sym (keeps.touched (File p));
  objects = λ p. shows.objects p ∙ sym (object-kept old new p keeps);
  blank = λ p bytes untouched e.
      ⊎_elim (λ same. shows.blank p bytes (sym (keeps.touched (Object p)) ∙ untouched) (sym same ∙ e)) (λ home. absurd (none-some bytes (sym home.0 ∙ e))) (keeps.held (Object p));
  held = λ p bytes e. ⊎_elim (λ same. shows.held p bytes (sym same ∙ e)) (λ home. absurd (none-some bytes (sym home.0 ∙ e))) (keeps.held (File p));
  same_mode = shows.same_mode;
  clean = λ p e inside. shows.clean p (sym (keeps.touched (File p)) ∙ e) (inside.0, sym (keeps.files p.file) ∙ inside.1, inside.2);
}

-- the state with other pages of the process
abbrev pub with_pages : State → ℕ → (ℕ → Option View) → State
with_pages s pid space = record s { views = λ p. if p == pid then space else s.views p }

pub pages_of : (pid q : ℕ) (space other : ℕ → Option View) (seen : ℕ → ℕ → Option View) (page : ℕ) → (q ≡ pid → space page ≡ seen q page)
    → (q ≢ pid → other page ≡ seen q page) → (if q == pid then space else other) page ≡ seen q page
pages_of pid q space other seen page here there =
    elim (q == pid) as (λ (b : Bool). (q == pid) ≡ b → (if b then space else other) page ≡ seen q page) [
      | true ↦ λ e. here (grind (arith, nat_tests))
      | false ↦ λ e. there (grind (arith, nat_tests))
    ] refl

pub shows_pages : {mode : ℕ} (old new : Picture mode) (s : State) (pid : ℕ) (space : ℕ → Option View) → ShowsPages old s → KeepsFiles old new
    → ((q : ℕ) → new.root q ≡ old.root q) → ((page : ℕ) → space page ≡ view new pid page)
    → ((q page : ℕ) → q ≢ pid → view new q page ≡ view old q page) → ShowsPages new (with_pages s pid space)
shows_pages old new s pid space shows keeps roots here others =
    shows_with old new s s.live (λ p. if p == pid then space else s.views p) shows keeps
    (λ q. shows.live q ∙ ap Rattle.std.specs.Option.is_some (sym (roots q)))
    (λ q page. pages_of pid q space (s.views q) (view new) page
    (λ e. here page ∙ ap (λ (p : ℕ). view new p page) (sym e))
    (λ ne. shows.views q page ∙ sym (others q page ne)))

-- the same, once pages of objects that these maps don't name are gone
pub shows_row : {mode : ℕ} (old new : Picture mode) (s : State) (pid : ℕ) (space : ℕ → Option View) (maps : Maps) → IsFit new → ShowsPages old s → KeepsNamed maps old new
    → ((q : ℕ) → new.root q ≡ old.root q) → ((page : ℕ) → space page ≡ view new pid page)
    → ((q page : ℕ) → q ≢ pid → view new q page ≡ view old q page)
    → ShowsPages new (record s { views = λ p. if p == pid then space else s.views p; objects = named_objects maps s.objects })
shows_row old new s pid space maps fit shows keeps roots here others =
    shows_named old new s maps s.live (λ p. if p == pid then space else s.views p) fit shows keeps
    (λ q. shows.live q ∙ ap Rattle.std.specs.Option.is_some (sym (roots q)))
    (λ q page. pages_of pid q space (s.views q) (view new) page
    (λ e. here page ∙ ap (λ (p : ℕ). view new p page) (sym e))
    (λ ne. shows.views q page ∙ sym (others q page ne)))

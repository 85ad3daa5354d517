-- Memory after an access is a state of the flat model, where memory before it was one.
use Rattle.fault.proofs.Names.{◌≡◌, ◌≢◌, ℕ, inl, inr, ◌⊎◌, true, false, List, Option, Some, None, refl, sym, ap, ◌∙◌, subst, eq-eqb, ne_eqb, cases_Bool, cases_eq, same_Some, is_some, ◌==◌, ◌&&◌, FilePage, ObjectPage, PageKey, and_from}
use Rattle.fault.proofs.Names.{⊎_elim, record_of, object_of, File, Object, Backing, Anon, Shared, Common, with_shown_bytes, State, behind, copy_or_behind, or_zeros, shown, with_view, View, zero_page, Ghosts, IsPageOf, AnyStore}
use Rattle.fault.proofs.Names.{bytes_of, SlotTable, Place, Home}
use Rattle.fault.proofs.{Names.{Frame, Slot, Picture, view, is_live, held, bytes_at, IsFit, is_shared, ShowsPages, object_bytes, SameBeside, cases_page, by_page}, Storing.{view_own, views_others, held_own, views_file, held_else}}
use Rattle.fault.{proofs.Storing.{held_written}, specs.{Changes.{KeepsSeen, KeepsSpaces}, Files.{IsBrought, Stays, Leaves, Comes, Blank, BringsPages}, Outcome.{Owns, MarksTouchedIn}, Shown.{AreBehind, AreOwnOrBehind, AreShown}}}
use Rattle.vm_types.specs.declared.region.Backing.TheVariants.{Private}
use Rattle.frames.specs.FrameTable as Frames
use Rattle.residency.specs.Reading.{page_at_home}
use Rattle.sized_stores.specs.Store.{disk_of}
use Rattle.vm_types.specs.State.{home_page}

-- the processes and the files of a state, without what each process sees and what is touched
module _ {mode : ℕ} where
  pub record ShowsFiles (c : Picture mode) (s : State) : Type 0 where
    pub live : (pid : ℕ) → s.live pid ≡ is_live c pid
    pub files : (f : ℕ) → s.files f ≡ c.files f
    pub objects : (p : ObjectPage) (bytes : List ℕ) → held c (Object p) ≡ Some bytes → or_zeros (s.objects p.object p.page) ≡ bytes
    pub stored : (p : ObjectPage) (bytes : List ℕ) → s.objects p.object p.page ≡ Some bytes → held c (Object p) ≡ Some bytes
    pub held : (p : FilePage) (bytes : List ℕ) → held c (File p) ≡ Some bytes → s.volatile p.file p.page ≡ bytes
    pub clean : (p : FilePage) → s.touched p.file p.page ≡ false → IsPageOf c.files p.file p.page → s.volatile p.file p.page ≡ home_page s p.file p.page

module _ {mode : ℕ} where
  -- what is at home is as it is durable
  abbrev pub IsHomeDurable : {D : Type 0} → Ghosts D → AnyStore D → Picture mode → State → Type 0
  IsHomeDurable g store c s = (p : FilePage) → IsPageOf c.files p.file p.page → page_at_home g store p ≡ home_page s p.file p.page

page_of_same : {mode : ℕ} (old new : Picture mode) (p : FilePage) → ((f : ℕ) → new.files f ≡ old.files f) → IsPageOf new.files p.file p.page → IsPageOf old.files p.file p.page
page_of_same old new p files inside = (inside.0, sym (files p.file) ∙ inside.1, inside.2)

held_away : {mode : ℕ} (c : Picture mode) (p : PageKey) (bytes : List ℕ) → held c p ≡ Some bytes → c.place p ≢ Home
unfolding held
held_away c p bytes is home = let bad : None ≡ Some bytes = sym (ap (bytes_at c.frames c.slots) home) ∙ is in (cc)

-- what a page of an object has that was stored to
stored_at : {mode : ℕ} (c : Picture mode) (s : State) → ShowsPages c s → (p : ObjectPage) → c.touched (Object p) ≡ true → s.objects p.object p.page ≡ held c (Object p)
stored_at c s shows p touched = (let at : object_bytes c p ≡ held c (Object p) = rw touched refl in shows.objects p ∙ at)

module _ {mode : ℕ} {D : Type 0} (g : Ghosts D) (before after : AnyStore D) (W : PageKey → Type 0) (old new : Picture mode) (s : State) (fit : IsFit new) (brings : BringsPages g before after W old new)
    (spaces : KeepsSpaces old new) (kept : g.keeps_model (disk_of after)) (homes : IsHomeDurable g before old s) where
  held_now : ShowsPages old s → (p : FilePage) (bytes : List ℕ) → held new (File p) ≡ Some bytes → IsBrought g before after W old new (File p) → s.volatile p.file p.page ≡ bytes
  held_now shows p bytes is (Stays same) = shows.held p bytes (sym same ∙ is)
  held_now shows p bytes is (Comes f read e among here untouched from) =
      let same : f ≡ p = (cc) in
      let inside = page_of_same old new p brings.files (fit.places.inside (File p) (held_away new (File p) bytes is)) in
      shows.clean p untouched inside ∙ sym (homes p inside) ∙ ap (λ x. page_at_home g before x) (sym same) ∙ sym (from kept) ∙ same_Some read bytes (sym here ∙ is)
  held_now shows p bytes is (Leaves none untouched) = (cc)
  held_now shows p bytes is (Blank o e among here untouched) = (cc)

  none_stored : ShowsPages old s → (p : ObjectPage) → old.touched (Object p) ≡ false → s.objects p.object p.page ≡ None
  none_stored shows p untouched = shows.objects p ∙ rw untouched refl

  object_now : ShowsPages old s → (p : ObjectPage) (bytes : List ℕ) → held new (Object p) ≡ Some bytes → IsBrought g before after W old new (Object p) → or_zeros (s.objects p.object p.page) ≡ bytes
  object_now shows p bytes is (Stays same) = elim (cases_Bool (old.touched (Object p))) [
    | inl touched ↦ ap or_zeros (stored_at old s shows p touched ∙ sym same ∙ is)
    | inr untouched ↦ ap or_zeros (none_stored shows p untouched) ∙ sym (shows.blank p bytes untouched (sym same ∙ is))
  ]
  object_now shows p bytes is (Blank o e among here untouched) = ap or_zeros (none_stored shows p untouched) ∙ same_Some zero_page bytes (sym here ∙ is)
  object_now shows p bytes is (Leaves none untouched) = (cc)
  object_now shows p bytes is (Comes f read e among here untouched from) = (cc)

  stored_now : ShowsPages old s → (p : ObjectPage) (bytes : List ℕ) → s.objects p.object p.page ≡ Some bytes → IsBrought g before after W old new (Object p) → held new (Object p) ≡ Some bytes
  stored_now shows p bytes is (Stays same) = elim (cases_Bool (old.touched (Object p))) [
    | inl touched ↦ same ∙ sym (stored_at old s shows p touched) ∙ is
    | inr untouched ↦ (let bad : None ≡ Some bytes = sym (none_stored shows p untouched) ∙ is in (cc))
  ]
  stored_now shows p bytes is (Comes f read e among here untouched from) = (cc)
  stored_now shows p bytes is (Leaves none untouched) = let bad = none_stored shows p untouched in (cc)
  stored_now shows p bytes is (Blank o e among here untouched) = let bad = none_stored shows p untouched in (cc)

  -- reading file pages changes no file
  pub shows_files : ShowsPages old s → ShowsFiles new s
  shows_files shows = record {
    live = λ pid. shows.live pid ∙ sym (ap is_some (spaces.root pid));
    files = λ f. shows.files f ∙ sym (brings.files f);
    objects = λ p bytes is. object_now shows p bytes is (brings.each (Object p));
    stored = λ p bytes is. stored_now shows p bytes is (brings.each (Object p));
    held = λ p bytes is. held_now shows p bytes is (brings.each (File p));
    clean = λ p untouched inside. shows.clean p (sym (shows.touched p) ∙ untouched) (page_of_same old new p brings.files inside);
  }

  still_stored : (p : ObjectPage) → old.touched (Object p) ≡ true → IsBrought g before after W old new (Object p) → held new (Object p) ≡ held old (Object p)
  still_stored p touched (Stays same) = same
  still_stored p touched (Leaves none untouched) = (cc)
  still_stored p touched (Comes f read e among here untouched from) = (cc)
  still_stored p touched (Blank o e among here untouched) = (cc)

  -- after a load, a fetch and a stall
  pub shows_kept : KeepsSeen old new → ShowsPages old s → ShowsPages new s
  shows_kept keeps shows =
      let files = shows_files shows in
      record {
        live = files.live;
        views = λ pid page. shows.views pid page ∙ sym (keeps.views pid page);
        files = files.files;
        touched = λ p. shows.touched p ∙ sym (keeps.touched (File p));
        objects = λ p. elim (cases_Bool (old.touched (Object p))) [
          | inl touched ↦ shows.objects p ∙ rw (touched, keeps.touched (Object p)) (rw touched (sym (still_stored p touched (brings.each (Object p)))))
          | inr untouched ↦ none_stored shows p untouched ∙ rw (keeps.touched (Object p)) (rw untouched refl)
        ];
        blank = λ p bytes untouched is. sym (files.objects p bytes is) ∙ ap or_zeros (none_stored shows p (sym (keeps.touched (Object p)) ∙ untouched));
        held = files.held;
        same_mode = shows.same_mode;
        clean = λ p untouched. files.clean p (shows.touched p ∙ sym (keeps.touched (File p)) ∙ untouched);
      }

held_in : {mode : ℕ} (c : Picture mode) (p : PageKey) (n : ℕ) → c.place p ≡ Frame (record { 0 = n }) → held c p ≡ Some (bytes_of c.frames n)
unfolding held
held_in c p n at = ap (bytes_at c.frames c.slots) at

behind_shown : {mode : ℕ} (c : Picture mode) (s : State) (b : Backing) (bytes : List ℕ) → ShowsFiles c s → AreBehind c b bytes → bytes ≡ behind s b
behind_shown c s Anon bytes shows is = is
behind_shown c s (Common p) bytes shows is = is.2 ∙ sym (shows.objects p (bytes_of c.frames is.0.0) (held_in c (Object p) is.0.0 is.1))
behind_shown c s b bytes shows is = is.2 ∙ sym (shows.held _ (bytes_of c.frames is.0.0) (held_in c _ is.0.0 is.1))

own_shown : {mode : ℕ} (c : Picture mode) (s : State) (b : Backing) (own : Option (List ℕ)) (bytes : List ℕ) → ShowsFiles c s → AreOwnOrBehind c b own bytes
    → bytes ≡ copy_or_behind s b own
own_shown c s b (Some copy) bytes shows is = is
own_shown c s b None bytes shows is = behind_shown c s b bytes shows is

-- the bytes that a page shows are those of the state
pub bytes_shown : {mode : ℕ} (c : Picture mode) (s : State) (v : View) (bytes : List ℕ) → ShowsFiles c s → AreShown c v bytes → bytes ≡ shown s v
bytes_shown c s v bytes shows is = own_shown c s v.attr.backing v.own bytes shows is

other_numbers : (a b c d : ℕ) → (a ≡ c → b ≡ d → ⊥) → (a == c && b == d) ≡ false
other_numbers a b c d ne = elim (cases_eq a c) [
  | inl e ↦ rw (eq-eqb a c e, ne_eqb b d (ne e)) refl
  | inr other ↦ rw (ne_eqb a c other) refl
]

same_test : (q p : FilePage) → q ≡ p → (q.file == p.file && q.page == p.page) ≡ true
same_test q p is = and_from _ _ (eq-eqb q.file p.file (ap (λ x. x.file) is)) (eq-eqb q.page p.page (ap (λ x. x.page) is))

one_page : (q p : FilePage) → q.file ≡ p.file → q.page ≡ p.page → q ≡ p
one_page q p e f = ap (λ x. record_of x q.page) e ∙ ap (λ x. record_of p.file x) f

other_test : (q p : FilePage) → q ≢ p → (q.file == p.file && q.page == p.page) ≡ false
other_test q p ne = other_numbers q.file q.page p.file p.page (λ e f. ne (one_page q p e f))

same_object : (q p : ObjectPage) → q ≡ p → (q.object == p.object && q.page == p.page) ≡ true
same_object q p is = and_from _ _ (eq-eqb q.object p.object (ap (λ x. x.object) is)) (eq-eqb q.page p.page (ap (λ x. x.page) is))

one_number : (q p : ObjectPage) → q.object ≡ p.object → q.page ≡ p.page → q ≡ p
one_number q p e f = ap (λ x. object_of x q.page) e ∙ ap (λ x. object_of p.object x) f

other_object : (q p : ObjectPage) → q ≢ p → (q.object == p.object && q.page == p.page) ≡ false
other_object q p ne = other_numbers q.object q.page p.object p.page (λ e f. ne (one_number q p e f))

cases_file : (q p : FilePage) → (q ≡ p) ⊎ (q ≢ p)
cases_file q p = ⊎_elim (λ e. inl (cc)) (λ ne. inr (λ e. ne (ap (λ x. File x) e))) (cases_page (File q) (File p))

cases_object : (q p : ObjectPage) → (q ≡ p) ⊎ (q ≢ p)
cases_object q p = ⊎_elim (λ e. inl (cc)) (λ ne. inr (λ e. ne (ap (λ x. Object x) e))) (cases_page (Object q) (Object p))

some_at : (t : Frames.FrameTable) (k : SlotTable) (place : Place) → place ≢ Home → (bytes : List ℕ) × (bytes_at t k place ≡ Some bytes)
some_at t k Home away = absurd (away refl)
some_at t k (Frame n) away = (bytes_of t n.0, refl)
some_at t k (Slot n) away = (k.bytes n.0, refl)

some_held : {mode : ℕ} (c : Picture mode) (p : PageKey) → c.place p ≢ Home → (bytes : List ℕ) × (held c p ≡ Some bytes)
unfolding held
some_held c p away = some_at c.frames c.slots (c.place p) away

view_test : (views : ℕ → ℕ → Option View) (pid page q k : ℕ) (v : View) → q ≡ pid → k ≡ page → with_view views pid page v q k ≡ Some v
view_test views pid page q k v e f = rw (eq-eqb q pid e, eq-eqb k page f) refl

view_other : (views : ℕ → ℕ → Option View) (pid page q k : ℕ) (v : View) → (q ≢ pid) ⊎ (k ≢ page) → with_view views pid page v q k ≡ views q k
view_other views pid page q k v (inl ne) = rw (ne_eqb q pid ne) refl
view_other views pid page q k v (inr ne) = elim (cases_eq q pid) [
  | inl e ↦ rw (eq-eqb q pid e, ne_eqb k page ne) refl
  | inr other ↦ rw (ne_eqb q pid other) refl
]

state_own : (s : State) (pid page : ℕ) (v : View) (w : List ℕ) (b : Backing) → is_shared b ≡ false
    → with_shown_bytes s pid page v b w ≡ record s { views = with_view s.views pid page (record v { own = Some w }) }
state_own s pid page v w Anon private = refl
state_own s pid page v w (Private p) private = refl
state_own s pid page v w b shared = (cc)

-- A store to a page of the process's own: old is before the access, mid after it, and new has the bytes written.
module _ {mode : ℕ} (old mid new : Picture mode) (s : State) (pid page n : ℕ) (v : View) (w : List ℕ) (fit : IsFit mid) (frames : new.frames ≡ Frames.with_bytes mid.frames n w)
    (beside : SameBeside mid new) (was : IsFit old) (shows : ShowsPages old s) (files : ShowsFiles mid s) where
  -- a page of an object that isn't written keeps its bytes
  object_else : (o : ObjectPage) → mid.touched (Object o) ≡ old.touched (Object o) → ((bytes : List ℕ) → held mid (Object o) ≡ Some bytes → held new (Object o) ≡ Some bytes)
      → s.objects o.object o.page ≡ object_bytes new o
  object_else o same kept = elim (cases_Bool (old.touched (Object o))) [
    | inl touched ↦ (
        let there = some_held old (Object o) (was.dirty.held (Object o) touched) in
        let stored = stored_at old s shows o touched ∙ there.1 in
        stored ∙ rw (beside.touched (Object o) ∙ same ∙ touched) (sym (kept there.0 (files.stored o there.0 stored))))
    | inr untouched ↦ shows.objects o ∙ rw (untouched, beside.touched (Object o) ∙ same ∙ untouched) refl
  ]

  blank_else : (o : ObjectPage) (bytes : List ℕ) → mid.touched (Object o) ≡ old.touched (Object o) → new.touched (Object o) ≡ false → held mid (Object o) ≡ Some bytes → bytes ≡ zero_page
  blank_else o bytes same untouched is =
      let none : s.objects o.object o.page ≡ None = shows.objects o ∙ rw (sym same ∙ sym (beside.touched (Object o)) ∙ untouched) refl in
      sym (files.objects o bytes is) ∙ ap or_zeros none

  pub shows_own : is_shared v.attr.backing ≡ false → Owns old mid pid page v n → ShowsPages new (with_shown_bytes s pid page v v.attr.backing w)
  shows_own private owns =
      let touched : (p : FilePage) → s.touched p.file p.page ≡ new.touched (File p) = λ p. shows.touched p ∙ sym (owns.touched (File p)) ∙ sym (beside.touched (File p)) in
      subst (λ (x : State). ShowsPages new x) (sym (state_own s pid page v w v.attr.backing private)) (record {
        live = λ q. files.live q ∙ sym (ap is_some (beside.root q));
        views = λ q k. elim (by_page q k pid page) [
          | inl e ↦ (
              let here = view_own mid new n w fit owns.held frames beside pid page owns.sole (record v { own = Some (bytes_of mid.frames n) }) owns.own in
              view_test s.views pid page q k (record v { own = Some w }) e.0 e.1 ∙ sym here ∙ ap (λ x. view new x page) (sym e.0) ∙ ap (λ x. view new q x) (sym e.1))
          | inr other ↦ view_other s.views pid page q k (record v { own = Some w }) other ∙ shows.views q k ∙ sym (owns.others q k other)
              ∙ sym (views_others mid new n w fit owns.held frames beside pid page owns.sole q k other)
        ];
        files = λ f. files.files f ∙ sym (beside.files f);
        touched = touched;
        objects = λ o. object_else o (owns.touched (Object o)) (λ bytes is. held_own mid new n w fit owns.held frames beside pid page owns.sole (Object o) ∙ is);
        blank = λ o bytes untouched is. blank_else o bytes (owns.touched (Object o)) untouched (sym (held_own mid new n w fit owns.held frames beside pid page owns.sole (Object o)) ∙ is);
        held = λ p bytes is. files.held p bytes (sym (held_own mid new n w fit owns.held frames beside pid page owns.sole (File p)) ∙ is);
        same_mode = shows.same_mode;
        clean = λ p untouched inside. files.clean p (touched p ∙ untouched) (page_of_same mid new p beside.files inside);
      })

  -- A store to a shared page of a file.
  pub shows_shared : (p : FilePage) → MarksTouchedIn old mid (File p) n → ShowsPages new (with_shown_bytes s pid page v (Shared p) w)
  shows_shared p marks =
      let other : (q : FilePage) → q ≢ p → File q ≢ File p = λ q ne e. ne (cc) in
      let object : (o : ObjectPage) → Object o ≢ File p = λ o e. (cc) in
      record {
        live = λ q. files.live q ∙ sym (ap is_some (beside.root q));
        views = λ q k. shows.views q k ∙ sym (marks.views q k) ∙ sym (views_file mid new n w fit marks.held frames beside (File p) marks.place q k);
        files = λ f. files.files f ∙ sym (beside.files f);
        touched = λ q. elim (cases_file q p) [
          | inl is ↦ rw (same_test q p is) (sym marks.touched ∙ ap (λ x. mid.touched (File x)) (sym is) ∙ sym (beside.touched (File q)))
          | inr ne ↦ rw (other_test q p ne) (shows.touched q ∙ sym (marks.others (File q) (other q ne)) ∙ sym (beside.touched (File q)))
        ];
        objects = λ o. object_else o (marks.others (Object o) (object o)) (λ bytes is. held_else mid new n w fit marks.held frames beside (File p) marks.place (Object o) (object o) ∙ is);
        blank = λ o bytes untouched is. blank_else o bytes (marks.others (Object o) (object o)) untouched
            (sym (held_else mid new n w fit marks.held frames beside (File p) marks.place (Object o) (object o)) ∙ is);
        held = λ q bytes there. elim (cases_file q p) [
          | inl is ↦ rw (same_test q p is)
              (same_Some w bytes (sym (held_written mid new n w fit marks.held frames beside (File p) marks.place) ∙ ap (λ x. held new (File x)) (sym is) ∙ there))
          | inr ne ↦ rw (other_test q p ne) (files.held q bytes (sym (held_else mid new n w fit marks.held frames beside (File p) marks.place (File q) (other q ne)) ∙ there))
        ];
        same_mode = shows.same_mode;
        clean = λ q untouched inside. elim (cases_file q p) [
          | inl is ↦ (let bad : true ≡ false = sym marks.touched ∙ ap (λ x. mid.touched (File x)) (sym is) ∙ sym (beside.touched (File q)) ∙ untouched in (cc))
          | inr ne ↦ rw (other_test q p ne)
              (files.clean q (shows.touched q ∙ sym (marks.others (File q) (other q ne)) ∙ sym (beside.touched (File q)) ∙ untouched) (page_of_same mid new q beside.files inside))
        ];
      }

  -- A store to a page of an object.
  pub shows_common : (p : ObjectPage) → MarksTouchedIn old mid (Object p) n → ShowsPages new (with_shown_bytes s pid page v (Common p) w)
  shows_common p marks =
      let file : (q : FilePage) → File q ≢ Object p = λ q e. (cc) in
      let other : (o : ObjectPage) → o ≢ p → Object o ≢ Object p = λ o ne e. ne (cc) in
      let touched : (q : FilePage) → s.touched q.file q.page ≡ new.touched (File q) = λ q. shows.touched q ∙ sym (marks.others (File q) (file q)) ∙ sym (beside.touched (File q)) in
      record {
        live = λ q. files.live q ∙ sym (ap is_some (beside.root q));
        views = λ q k. shows.views q k ∙ sym (marks.views q k) ∙ sym (views_file mid new n w fit marks.held frames beside (Object p) marks.place q k);
        files = λ f. files.files f ∙ sym (beside.files f);
        touched = touched;
        objects = λ o. elim (cases_object o p) [
          | inl is ↦ rw (same_object o p is) (
              let now : new.touched (Object o) ≡ true = beside.touched (Object o) ∙ ap (λ x. mid.touched (Object x)) is ∙ marks.touched in
              rw now (sym (ap (λ x. held new (Object x)) is ∙ held_written mid new n w fit marks.held frames beside (Object p) marks.place)))
          | inr ne ↦ rw (other_object o p ne)
              (object_else o (marks.others (Object o) (other o ne)) (λ bytes is. held_else mid new n w fit marks.held frames beside (Object p) marks.place (Object o) (other o ne) ∙ is))
        ];
        blank = λ o bytes untouched is. elim (cases_object o p) [
          | inl e ↦ (let bad : true ≡ false = sym marks.touched ∙ ap (λ x. mid.touched (Object x)) (sym e) ∙ sym (beside.touched (Object o)) ∙ untouched in (cc))
          | inr ne ↦ blank_else o bytes (marks.others (Object o) (other o ne)) untouched
              (sym (held_else mid new n w fit marks.held frames beside (Object p) marks.place (Object o) (other o ne)) ∙ is)
        ];
        held = λ q bytes there. files.held q bytes (sym (held_else mid new n w fit marks.held frames beside (Object p) marks.place (File q) (file q)) ∙ there);
        same_mode = shows.same_mode;
        clean = λ q untouched inside. files.clean q (touched q ∙ untouched) (page_of_same mid new q beside.files inside);
      }

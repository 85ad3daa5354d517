-- A process comes.
use Rattle.lifecycle.proofs.{Keeping.{live_same, no_copy_freed, gives_alike}, Names.{keeps_files_then, user_pages_fit, top_level, ◌≡◌, ◌≢◌, ℕ, inl, inr, None, sym, ap, ◌∙◌, subst, arith, cases_eq, is_some, Role, Free, Table, Private, Cache}}
use Rattle.lifecycle.proofs.Names.{role_of, bytes_of, frame_count, IsPage, missing_of, page_entry, Seat, seat, Picture, entry, view, bytes_in, IsOwned, IsFit, ObtainsTable, Spawns, KeepsFiles, GivesForTables, KeepsRolesBut}
use Rattle.lifecycle.{proofs.Names.{bytes_same, gives_then, entry-dead, entry-same, cases_attr, view-none, view_seated, held_same, bare_started, bare_freed, KeepsBare, KeepsRoom}, specs.Changes.{AddsProcess, TakesRoot, TakesNoCopy}}

-- A frame was obtained and taken for a table, and that is the root of a process that was made.
module _ {mode : ℕ} (old mid new : Picture mode) (pid n : ℕ) (obtains : ObtainsTable old mid n) (spawns : Spawns mid new pid n) where
  abbrev found : Picture mode
  found = obtains.found

  fit : IsFit found
  fit = obtains.fit

  root_same : (q : ℕ) → q ≢ pid → new.root q ≡ found.root q
  root_same q ne = spawns.others q ne ∙ obtains.beside.root q

  role_same : (m : ℕ) → m ≢ n → role_of new.frames m ≡ role_of found.frames m
  role_same m ne = ap (λ t. role_of t m) spawns.frames ∙ obtains.adds.takes.others.roles m ne

  used_ne : (m : ℕ) (r : Role) → role_of found.frames m ≡ r → r ≢ Free → m ≢ n
  used_ne m r is used e = used (sym is ∙ ap (role_of found.frames) e ∙ obtains.adds.takes.was_free)

  bytes_taken : (m : ℕ) → m ≢ n → bytes_of new.frames m ≡ bytes_of found.frames m
  bytes_taken m ne = ap (λ t. bytes_of t m) spawns.frames ∙ obtains.adds.takes.others.bytes m ne

  seat_bytes : (z : Seat) → IsOwned found z → bytes_in new.frames new.slots z ≡ bytes_in found.frames found.slots z
  seat_bytes = bytes_same found new (spawns.slots ∙ obtains.beside.slots) (λ m is. bytes_taken m (used_ne m Private is (λ e. (cc))))

  entries_same : (q p : ℕ) → q ≢ pid → entry new q p ≡ entry found q p
  entries_same q p ne = entry-same found new q p (root_same q ne) (λ x e.
      ap (λ t. page_entry t (top_level mode) x p) spawns.frames ∙ obtains.adds.entries x p (fit.rooted.roots q x e))

  others_seen : (q p : ℕ) → q ≢ pid → view new q p ≡ view old q p
  others_seen q p ne =
      let at : new.at q p ≡ found.at q p = spawns.at q p ne ∙ obtains.beside.at q p in
      let seen : view new q p ≡ view found q p = elim (cases_attr (found.at q p)) [
        | inl none ↦ view-none new q p (at ∙ none) ∙ sym (view-none found q p none)
        | inr some ↦ (
            let h : IsPage (top_level mode) p = omega (arith, ((fit.granting.user q).user_pages p some).1, user_pages_fit mode) in
            view_seated found new q p at (ap seat (entries_same q p ne)) (λ z is. seat_bytes z (fit.counted.1.named q p z h is)))
      ] in
      seen ∙ obtains.frees.pages.views q p

  pub process_added : AddsProcess old new pid (λ page. None)
  process_added = record {
    lives = ap is_some spawns.lives;
    pages = λ page. view-none new pid page (spawns.unmapped page);
    others_live = λ q ne. live_same old new q (root_same q ne ∙ obtains.frees.pages.root q);
    others = others_seen;
  }

  pub root_taken : KeepsRolesBut old mid n → TakesRoot old new pid n
  root_taken only = record {
    was_free = elim (obtains.frees.roles n) [ inl same ↦ inl (sym same ∙ obtains.adds.takes.was_free) | inr freed ↦ inr freed.1 ];
    table = ap (λ t. role_of t n) spawns.frames ∙ obtains.adds.takes.kind_set;
    root = spawns.lives;
    others = λ q ne. root_same q ne ∙ obtains.frees.pages.root q;
    roles = λ m ne. ap (λ t. role_of t m) spawns.frames ∙ only m ne;
    frames = ap frame_count spawns.frames ∙ obtains.adds.takes.others.frames ∙ obtains.frees.count;
    missing = λ q r page e. (
        ap (λ t. missing_of t (top_level mode) r page) spawns.frames
        ∙ obtains.adds.missing r page (fit.rooted.roots q r (obtains.frees.pages.root q ∙ e)) ∙ obtains.frees.missing q r page e);
  }

  -- the process has no entry, and it had none
  entries_spawned : (q p : ℕ) → entry new q p ≡ entry mid q p
  entries_spawned q p = elim (cases_eq q pid) [
    | inl is ↦ subst (λ (x : ℕ). entry new x p ≡ entry mid x p) (sym is) (bare_started old mid new pid n obtains spawns p ∙ sym (entry-dead mid pid p spawns.was_free))
    | inr ne ↦ entry-same mid new q p (spawns.others q ne) (λ x e. ap (λ t. page_entry t (top_level mode) x p) spawns.frames)
  ]

  pub root_given : GivesForTables old mid None → GivesForTables old new None
  root_given gives = gives_then old mid new None gives (gives_alike mid new spawns.frames entries_spawned spawns.place)

  pub bare_kept : KeepsBare old new
  bare_kept q p h none = elim (cases_eq q pid) [
    | inl is ↦ ap (λ x. entry new x p) is ∙ bare_started old mid new pid n obtains spawns p
    | inr ne ↦ entries_same q p ne ∙ bare_freed old found _ obtains.frees q p h none
  ]

  pub no_copy : TakesNoCopy old.frames new.frames
  no_copy m is = elim (cases_eq m n) [
    | inl e ↦ (let bad : Private ≡ Table = sym is ∙ ap (role_of new.frames) e ∙ ap (λ t. role_of t n) spawns.frames ∙ obtains.adds.takes.kind_set in (cc))
    | inr ne ↦ no_copy_freed old found _ obtains.frees m (sym (role_same m ne) ∙ is)
  ]

  pub files_kept : KeepsFiles old new
  files_kept = keeps_files_then old found new obtains.frees.pages.files (record {
    held = λ p. inl (held_same found new p (spawns.place p ∙ obtains.beside.place p) (spawns.slots ∙ obtains.beside.slots)
        (λ m at. bytes_taken m (used_ne m Cache (fit.places.cached p m at) (λ e. (cc)))));
    touched = λ p. spawns.touched p ∙ obtains.beside.touched p;
    files = λ f. spawns.files f ∙ obtains.beside.files f;
  })

  pub room_kept : KeepsRoom old new
  room_kept = record {
    frames = ap frame_count spawns.frames ∙ obtains.adds.takes.others.frames ∙ obtains.frees.count;
    slots = ap (λ t. t.total) (spawns.slots ∙ obtains.beside.slots) ∙ obtains.frees.total;
  }

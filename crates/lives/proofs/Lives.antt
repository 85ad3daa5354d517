-- What lives leave.
use Rattle.{std.proofs.Common.{ℕ, ◌≡◌, ◌≤◌, inl, inr, ⊎_elim, List, [], ◌∷◌, ◌++◌, length, refl, sym, ap, ◌∙◌, subst, arith}, disk_model.specs.{Moments.{LeavesOnly}, Stop.{Image, MayLeave}, declared.sector_disk.SectorDisk.{Ghosts}}}
use Rattle.{stores.specs.Images.{most_pages, SaysMostOf, StandsAs, StandsForContents}, vm_types.specs.{Files.{Contents}, Prefix.{Event, acknowledged, after_msyncs, IsPrefixHolding}, State.{State}, declared.command.Command.{Command}}}
use Rattle.{vm_types.specs.declared.reply.Reply.{Reply}, machine.specs.{Boot.{Boots}, Chain.{Chain, Runs, after}, Engine.{StandsForSome}, Machine.{store_of}, declared.machine.Machine.{Machine}}, lives.proofs.Agreeing.{agree_msyncs}}
use Rattle.lives.{proofs.Agreeing.{same_contents, stands_for_same}, specs.Lives.{Life, IsLeftBy, StopsEarly, StopsLater, Lives, LeftInLives, HoldsLives, RanSince}}

module _ {D E : Type 0} (g : Ghosts D) (h : Ghosts E) where
  stops_early : (sectors : ℕ) (before : Contents) (life : Life) (first last : Image) → StandsForContents sectors before first
      → StopsEarly g h sectors first life last → StandsForSome sectors (IsPrefixHolding before life.events life.answered) last
  stops_early sectors before life first last stands l =
      let still : StandsAs sectors first last =
      subst (λ n. StandsAs n first last) l.opens.size
      (subst (λ held. StandsAs (g.sector_count l.old) held last) l.opens.held (l.opens.stands.each last l.left)) in
      let holds : acknowledged life.events life.answered ≤ 0 = subst (λ (es : List Event). acknowledged es life.answered ≤ 0) (sym l.none) (omega arith) in
      let same : before ≡ after_msyncs before life.events 0 = subst (λ (es : List Event). before ≡ after_msyncs before es 0) (sym l.none) refl in
      (before, record { i = 0; holds = holds; same = same }, still before.files before.pages stands)

  stops_later : (sectors : ℕ) (before : Contents) (life : Life) (first last : Image) → StandsForContents sectors before first
      → StopsLater g h sectors first life last → StandsForSome sectors (IsPrefixHolding before life.events life.answered) last
  stops_later sectors before life first last stands l =
      let durable = l.boots.state.durable in
      let events = l.runs.events in
      let booted : StandsForContents sectors durable first =
      subst (λ (n : ℕ). StandsForContents n durable first) l.size
      (subst (λ (held : Image). StandsForContents (g.sector_count l.store) durable held) l.held (l.boots.stands l.kept)) in
      let left : StandsForSome sectors (IsPrefixHolding durable events life.answered) last =
      subst (λ (n : ℕ). StandsForSome n (IsPrefixHolding durable events life.answered) last) (l.same_size ∙ l.size)
      (l.runs.prefixes l.boots.start.running l.keeps life.answered last l.left) in
      let i = left.1.i in
      let is : StandsForContents sectors (after_msyncs durable events i) last =
      subst (λ (contents : Contents). StandsForContents sectors contents last) left.1.same left.2 in
      let agree = agree_msyncs events i durable before (same_contents sectors durable before first booted stands) in
      let moved = stands_for_same sectors (after_msyncs durable events i) (after_msyncs before events i) last agree is in
      let holds : IsPrefixHolding before events life.answered (after_msyncs before events i) = record { i = i; holds = left.1.holds; same = refl } in
      (after_msyncs before events i, subst (λ (es : List Event). IsPrefixHolding before es life.answered (after_msyncs before events i)) (sym l.events) holds, moved)

  -- one life
  pub one_life : (sectors : ℕ) (before : Contents) (life : Life) (first last : Image) → StandsForContents sectors before first
      → Lives g h sectors first life last → StandsForSome sectors (IsPrefixHolding before life.events life.answered) last
  one_life sectors before life first last stands lived =
      ⊎_elim (λ l. stops_early sectors before life first last stands l) (λ l. stops_later sectors before life first last stands l) lived

  -- any number of them
  pub lives_leave : (sectors : ℕ) (before : Contents) (lives : List Life) (first last : Image) → StandsForContents sectors before first
      → LeftInLives g h sectors lives first last → StandsForSome sectors (IsLeftBy before lives) last
  lives_leave sectors before [] first last stands row = (before, refl, subst (StandsForContents sectors before) (sym row) stands)
  lives_leave sectors before (life ∷ lives) first last stands row =
      let one = one_life sectors before life first row.0 stands row.1 in
      let rest = lives_leave sectors one.0 lives row.0 last one.2 row.2 in
      (rest.0, (one.0, one.1, rest.1), rest.2)

  -- the last image says the pages of an msync that the first says: of one life,
  one_most : (sectors : ℕ) (life : Life) (first last : Image) → Lives g h sectors first life last → SaysMostOf sectors first last
  one_most sectors life first last (inl l) =
      subst (λ n. SaysMostOf n first last) l.opens.size (subst (λ held. SaysMostOf (g.sector_count l.old) held last) l.opens.held (l.opens.most.each last l.left))
  one_most sectors life first last (inr l) =
      let s = l.boots.state in
      let booted : s.most ≡ most_pages sectors first =
      subst (λ (n : ℕ). s.most ≡ most_pages n first) l.size
      (subst (λ (held : Image). s.most ≡ most_pages (g.sector_count l.store) held) l.held (l.boots.most l.kept)) in
      let left : most_pages sectors last ≡ s.most =
      subst (λ (n : ℕ). most_pages n last ≡ s.most) (l.same_size ∙ l.size) (l.runs.most l.keeps life.answered last l.left) in
      left ∙ booted

  -- and of any number of them
  pub lives_most : (sectors : ℕ) (lives : List Life) (first last : Image) → LeftInLives g h sectors lives first last → SaysMostOf sectors first last
  lives_most sectors [] first last row = ap (most_pages sectors) row
  lives_most sectors (life ∷ lives) first last row = lives_most sectors lives row.0 last row.2 ∙ one_most sectors life first row.0 row.1

  -- one more
  pub more_lives : (sectors : ℕ) (lives : List Life) (life : Life) (first image last : Image) → LeftInLives g h sectors lives first image
      → Lives g h sectors image life last → LeftInLives g h sectors (lives ++ life ∷ []) first last
  more_lives sectors [] life first image last row lived = (last, subst (λ (i : Image). Lives g h sectors i life last) row lived, refl)
  more_lives sectors (one ∷ lives) life first image last row lived = (row.0, row.1, more_lives sectors lives life row.0 image last row.2 lived)

  pub goes_on : (before : Contents) (lives : List Life) (life : Life) (store new : D) → (holds : HoldsLives g h before lives store)
      → g.sector_count new ≡ g.sector_count store → Lives g h (g.sector_count store) (g.content store) life (g.content new)
      → (more : HoldsLives g h before (lives ++ life ∷ []) new) × (more.first ≡ holds.first)
  goes_on before lives life store new holds size lived = (
    record {
      first = holds.first;
      stands = subst (λ (n : ℕ). StandsForContents n before holds.first) (sym size) holds.stands;
      lived = subst (λ (n : ℕ). LeftInLives g h n (lives ++ life ∷ []) holds.first (g.content new)) (sym size)
          (more_lives (g.sector_count store) lives life holds.first (g.content store) (g.content new) holds.lived lived);
    },
    refl,
  )

  -- what a device holds
  pub still_stands : (before : Contents) (lives : List Life) (store : D) → HoldsLives g h before lives store
      → StandsForSome (g.sector_count store) (IsLeftBy before lives) (g.content store)
  still_stands before lives store holds = lives_leave (g.sector_count store) before lives holds.first (g.content store) holds.stands holds.lived

  -- a start that a stop ends
  pub early_life : (store new : D) → g.keeps_model new → ((k : ℕ) → g.unsynced store k → ⊥) → LeavesOnly g store new (StandsAs (g.sector_count store) (g.content store))
      → LeavesOnly g store new (SaysMostOf (g.sector_count store) (g.content store))
      → (image : Image) → g.left_since new (g.moment store) image
      → Lives g h (g.sector_count store) (g.content store) (record { events = []; answered = 0 }) image
  early_life store new keeps synced stands most image left =
      inl (record { old = store; new = new; opens = record { size = refl; held = refl; synced = synced; stands = stands; most = most }; left = left; none = refl })

  -- the machine after all commands
  pub at_end : (old : Machine D E) (s : State) (commands : List Command) (replies : List Reply) (events : List Event) (new : Machine D E) (t : State)
      → (c : Chain g h old s commands replies events new t) → after g h old s commands replies events new t c (length commands) ≡ new
  at_end old s [] [] [] new t c = sym c.0
  at_end old s (x ∷ xs) (r ∷ rs) (e ∷ es) new t c = at_end c.0 c.1 xs rs es new t c.4
  at_end old s commands replies es new t c = absurd c

  -- a run
  abbrev pub ran : ((d : D) (t : ℕ) (image : Image) → g.keeps_model d → t ≤ g.moment d → MayLeave (g.content d) (g.unsynced d) image → g.left_since d t image)
      → (store : D) (old new : Machine D E) (commands : List Command) (replies : List Reply) → g.keeps_model (store_of old) → g.keeps_model (store_of new)
      → g.sector_count (store_of old) ≡ g.sector_count store
      → (((k : ℕ) → g.unsynced store k → ⊥) → LeavesOnly g store (store_of old) (StandsAs (g.sector_count store) (g.content store)))
      → (((k : ℕ) → g.unsynced store k → ⊥) → LeavesOnly g store (store_of old) (SaysMostOf (g.sector_count store) (g.content store)))
      → (boots : Boots g h store old) → Runs g h old new commands replies boots.state → RanSince g h store new commands replies
  ran counts_now store old new commands replies kept keeps size stands most boots runs =
      let later : (k : ℕ) (image : Image)
      → g.left_since (store_of new) (g.moment (store_of (after g h old boots.state commands replies runs.events new runs.last runs.chain k))) image
      → Lives g h (g.sector_count store) (g.content store) (record { events = runs.events; answered = k }) image =
      λ k image left. inr (record {
        store = store;
        size = refl;
        held = refl;
        old = old;
        same_size = size;
        kept = kept;
        boots = boots;
        new = new;
        keeps = keeps;
        commands = commands;
        replies = replies;
        runs = runs;
        events = refl;
        left = left;
      }) in
      let disk = store_of new in
      record {
        old = old;
        boots = boots;
        runs = runs;
        early = λ synced. early_life store (store_of old) kept synced (stands synced) (most synced);
        later = later;
        handed_on = later (length commands) (g.content disk)
            (subst (λ (m : Machine D E). g.left_since disk (g.moment (store_of m)) (g.content disk))
            (sym (at_end old boots.state commands replies runs.events new runs.last runs.chain))
            (counts_now disk (g.moment disk) (g.content disk) keeps (omega arith) (record { kept = λ k. inr refl })));
      }

-- A chain of commands, and what a stop in it leaves.
use Rattle.machine.proofs.Names.{ℕ, zero, suc, ◌≡◌, ◌≤◌, ◌⊎◌, inl, inr, ⊎_elim, List, [], ◌∷◌, ◌++◌, Option, Some, refl, sym, ap, ◌∙◌, subst, arith, Image, Ghosts, Command, Reply, Event, StandsForContents}
use Rattle.machine.proofs.{Face.{causes, shown, face}, Flat.{OnlyNow}, Names.{acknowledged, State, Contents}, Prefixes.{halted_event, halted_stays, left_after, left_during, left_first, left_here, left_in, left_none, none_acknowledged, step_most}}
use Rattle.msync.specs.Shows.{SaysMost}
use Rattle.machine.specs.{Chain.{event, Caused, Chain, after, Runs}, Engine.{MayStand, HoldsIn, StandsForSome}, Machine.{store_of, KeepsSizes, IsCausedBetween, Shows, Meets}, declared.machine.Machine.{Machine}}

-- the same image stands for contents of which Q holds
some_more : (n m : ℕ) (P Q : Contents → Type 0) (c : Image) → n ≡ m → ((p : Contents) → P p → Q p) → StandsForSome n P c → StandsForSome m Q c
some_more n m P Q c size more h = (h.0, more h.0 h.1, subst (λ (k : ℕ). StandsForContents k h.0 c) size h.2)

pub room_none : {D E : Type 0} (m : Machine D E) → KeepsSizes m m
room_none m = record { frames = refl; slots = refl; mode = refl }

pub room_then : {D E : Type 0} (a b c : Machine D E) → KeepsSizes a b → KeepsSizes b c → KeepsSizes a c
room_then a b c first second = record { frames = second.frames ∙ first.frames; slots = second.slots ∙ first.slots; mode = second.mode ∙ first.mode }

module _ {D E : Type 0} (g : Ghosts D) (h : Ghosts E) where
  -- one reply more
  pub caused_more : (old mid new : Machine D E) (replies : List Reply) (r : Reply) → Caused g h old replies mid → IsCausedBetween g h mid new r
      → Caused g h old (replies ++ r ∷ []) new
  caused_more old mid new [] r c is = (new, subst (λ (m : Machine D E). IsCausedBetween g h m new r) c is, refl)
  caused_more old mid new (q ∷ qs) r c is = (c.0, c.1, caused_more c.0 mid new qs r c.2 is)

  -- commands carried out so far
  pub record RanSoFar (old new : Machine D E) (s : State) (commands : List Command) (replies : List Reply) : Type 0 where
    pub last : State
    pub events : List Event
    pub chain : Chain g h old s commands replies events new last
    pub shows : Shows g h new last

  chain_kept : (old : Machine D E) (s : State) (commands : List Command) (replies : List Reply) (events : List Event) (new : Machine D E) (t : State)
      → Chain g h old s commands replies events new t → g.keeps_model (store_of new) → g.keeps_model (store_of old)
  chain_kept old s [] [] [] new t c k = subst (λ (m : Machine D E). g.keeps_model (store_of m)) c.0 k
  chain_kept old s (x ∷ xs) (r ∷ rs) (e ∷ es) new t c k = (face g h old c.0 s c.1 x r c.3).kept (chain_kept c.0 c.1 xs rs es new t c.4 k)
  chain_kept old s commands replies events new t c k = absurd c

  -- a chain keeps the numbers of frames and slots
  pub chain_room : (old : Machine D E) (s : State) (commands : List Command) (replies : List Reply) (events : List Event) (new : Machine D E) (t : State)
      → Chain g h old s commands replies events new t → KeepsSizes old new
  chain_room old s [] [] [] new t c = subst (λ (m : Machine D E). KeepsSizes old m) (sym c.0) (room_none old)
  chain_room old s (x ∷ xs) (r ∷ rs) (e ∷ es) new t c = room_then old c.0 new (face g h old c.0 s c.1 x r c.3).room (chain_room c.0 c.1 xs rs es new t c.4)
  chain_room old s commands replies events new t c = absurd c

  -- once it has halted, nothing is acknowledged
  none_after : (ends : List Contents) (old : Machine D E) (s : State) (commands : List Command) (replies : List Reply) (events : List Event) (new : Machine D E) (t : State)
      → Chain g h old s commands replies events new t → s.ends ≡ Some ends → (k : ℕ) → acknowledged events k ≡ 0
  none_after ends old s [] [] [] new t c is k = refl
  none_after ends old s (x ∷ xs) (r ∷ rs) (e ∷ es) new t c is zero = refl
  none_after ends old s (x ∷ xs) (r ∷ rs) (e ∷ es) new t c is (suc k) =
      let stays = halted_stays (causes g h old c.0 x) s x r c.1 ends (face g h old c.0 s c.1 x r c.3).step is in
      let rest = none_after ends c.0 c.1 xs rs es new t c.4 (ap (λ (y : State). y.ends) stays.1 ∙ is) k in
      subst (λ (first : Event). acknowledged (first ∷ es) (suc k) ≡ 0) (sym c.2) (halted_event s x r es k stays.0 rest)
  none_after ends old s commands replies events new t c is k = absurd c

  -- what stood since a moment before the chain stood then, or is left by its commands
  leaves : (old : Machine D E) (s : State) (commands : List Command) (replies : List Reply) (events : List Event) (new : Machine D E) (t : State)
      → Chain g h old s commands replies events new t → g.keeps_model (store_of new) → (m : ℕ) (image : Image) → m ≤ g.moment (store_of old) → g.left_since (store_of new) m image
      → g.left_since (store_of old) m image ⊎ StandsForSome (g.sector_count (store_of old)) (left_in s.ends s.durable events 0) image
  leaves old s [] [] [] new t c keeps m image le left = inl (subst (λ (x : Machine D E). g.left_since (store_of x) m image) c.0 left)
  leaves old s (x ∷ xs) (r ∷ rs) (e ∷ es) new t c keeps m image le left =
      let meets = face g h old c.0 s c.1 x r c.3 in
      let only = meets.moments (chain_kept c.0 c.1 xs rs es new t c.4 keeps) in
      subst (λ (first : Event). g.left_since (store_of old) m image ⊎ StandsForSome (g.sector_count (store_of old)) (left_in s.ends s.durable (first ∷ es) 0) image) (sym c.2)
      (⊎_elim
      (λ before. ⊎_elim (λ o. inl o) (λ p. inr (some_more _ _ (HoldsIn s x r) _ image refl (left_during s x r es) p)) (only.before m image le before))
      (λ p. inr (some_more _ _ (left_in c.1.ends c.1.durable es 0) _ image meets.size
      (λ q later. left_first s.ends s.durable (event s x r ∷ es) 1 q (left_after (causes g h old c.0 x) s x r c.1 es 0 q meets.step (λ ends is. none_acknowledged es) later)) p))
      (leaves c.0 c.1 xs rs es new t c.4 keeps m image (omega (arith, le, only.later)) left))
  leaves old s commands replies events new t c keeps m image le left = absurd c

  leaves_from : (old : Machine D E) (s : State) (commands : List Command) (replies : List Reply) (events : List Event) (new : Machine D E) (t : State)
      → Chain g h old s commands replies events new t → g.keeps_model (store_of new) → OnlyNow g → Shows g h old s
      → (image : Image) → g.left_since (store_of new) (g.moment (store_of old)) image → StandsForSome (g.sector_count (store_of old)) (left_in s.ends s.durable events 0) image
  leaves_from old s commands replies events new t c keeps only_now shows image left =
      let kept = chain_kept old s commands replies events new t c keeps in
      ⊎_elim
      (λ o. some_more _ _ (MayStand s) _ image refl (left_here s.ends s.durable events) ((shown g h old s shows).stands kept image (only_now (store_of old) image kept o)))
      (λ p. p)
      (leaves old s commands replies events new t c keeps (g.moment (store_of old)) image (omega arith) left)

  -- what a stop leaves that comes after the first k commands
  pub leaves_since : (old : Machine D E) (s : State) (commands : List Command) (replies : List Reply) (events : List Event) (new : Machine D E) (t : State)
      → (c : Chain g h old s commands replies events new t) → g.keeps_model (store_of new) → OnlyNow g → Shows g h old s
      → (k : ℕ) (image : Image) → g.left_since (store_of new) (g.moment (store_of (after g h old s commands replies events new t c k))) image
      → StandsForSome (g.sector_count (store_of old)) (left_in s.ends s.durable events k) image
  leaves_since old s [] [] [] new t c keeps only_now shows k image left =
      some_more _ _ (left_in s.ends s.durable [] 0) _ image refl (left_none s.ends s.durable k) (leaves_from old s [] [] [] new t c keeps only_now shows image left)
  leaves_since old s (x ∷ xs) (r ∷ rs) (e ∷ es) new t c keeps only_now shows zero image left =
      leaves_from old s (x ∷ xs) (r ∷ rs) (e ∷ es) new t c keeps only_now shows image left
  leaves_since old s (x ∷ xs) (r ∷ rs) (e ∷ es) new t c keeps only_now shows (suc k) image left =
      let meets = face g h old c.0 s c.1 x r c.3 in
      subst (λ (first : Event). StandsForSome (g.sector_count (store_of old)) (left_in s.ends s.durable (first ∷ es) (suc k)) image) (sym c.2)
      (some_more _ _ (left_in c.1.ends c.1.durable es k) _ image meets.size
      (λ q. left_after (causes g h old c.0 x) s x r c.1 es k q meets.step (λ ends is. none_after ends c.0 c.1 xs rs es new t c.4 is k))
      (leaves_since c.0 c.1 xs rs es new t c.4 keeps only_now meets.shows k image left))
  leaves_since old s commands replies events new t c keeps only_now shows k image left = absurd c

  -- what says the pages of an msync after a command says those before it
  same_most : (old mid : Machine D E) (s u : State) (image : Image) → g.sector_count (store_of mid) ≡ g.sector_count (store_of old) → u.most ≡ s.most
      → SaysMost (g.sector_count (store_of mid)) u.most image → SaysMost (g.sector_count (store_of old)) s.most image
  same_most old mid s u image size most says = subst (λ (n : ℕ). SaysMost n s.most image) size (says ∙ most)

  -- what stood since a moment before the chain stood then, or says as many pages of an msync as the state
  most_leaves : (old : Machine D E) (s : State) (commands : List Command) (replies : List Reply) (events : List Event) (new : Machine D E) (t : State)
      → Chain g h old s commands replies events new t → g.keeps_model (store_of new) → (m : ℕ) (image : Image) → m ≤ g.moment (store_of old) → g.left_since (store_of new) m image
      → g.left_since (store_of old) m image ⊎ SaysMost (g.sector_count (store_of old)) s.most image
  most_leaves old s [] [] [] new t c keeps m image le left = inl (subst (λ (x : Machine D E). g.left_since (store_of x) m image) c.0 left)
  most_leaves old s (x ∷ xs) (r ∷ rs) (e ∷ es) new t c keeps m image le left =
      let meets = face g h old c.0 s c.1 x r c.3 in
      let only = meets.most_moments (chain_kept c.0 c.1 xs rs es new t c.4 keeps) in
      ⊎_elim (λ before. only.before m image le before)
      (λ says. inr (same_most old c.0 s c.1 image meets.size (step_most (causes g h old c.0 x) s x r c.1 meets.step) says))
      (most_leaves c.0 c.1 xs rs es new t c.4 keeps m image (omega (arith, le, only.later)) left)
  most_leaves old s commands replies events new t c keeps m image le left = absurd c

  most_from : (old : Machine D E) (s : State) (commands : List Command) (replies : List Reply) (events : List Event) (new : Machine D E) (t : State)
      → Chain g h old s commands replies events new t → g.keeps_model (store_of new) → OnlyNow g → Shows g h old s
      → (image : Image) → g.left_since (store_of new) (g.moment (store_of old)) image → SaysMost (g.sector_count (store_of old)) s.most image
  most_from old s commands replies events new t c keeps only_now shows image left =
      let kept = chain_kept old s commands replies events new t c keeps in
      ⊎_elim (λ o. (shown g h old s shows).most_stands kept image (only_now (store_of old) image kept o)) (λ says. says)
      (most_leaves old s commands replies events new t c keeps (g.moment (store_of old)) image (omega arith) left)

  -- so does what a stop leaves that comes after the first k commands
  pub most_since : (old : Machine D E) (s : State) (commands : List Command) (replies : List Reply) (events : List Event) (new : Machine D E) (t : State)
      → (c : Chain g h old s commands replies events new t) → g.keeps_model (store_of new) → OnlyNow g → Shows g h old s
      → (k : ℕ) (image : Image) → g.left_since (store_of new) (g.moment (store_of (after g h old s commands replies events new t c k))) image
      → SaysMost (g.sector_count (store_of old)) s.most image
  most_since old s [] [] [] new t c keeps only_now shows k image left = most_from old s [] [] [] new t c keeps only_now shows image left
  most_since old s (x ∷ xs) (r ∷ rs) (e ∷ es) new t c keeps only_now shows zero image left = most_from old s (x ∷ xs) (r ∷ rs) (e ∷ es) new t c keeps only_now shows image left
  most_since old s (x ∷ xs) (r ∷ rs) (e ∷ es) new t c keeps only_now shows (suc k) image left =
      let meets = face g h old c.0 s c.1 x r c.3 in
      same_most old c.0 s c.1 image meets.size (step_most (causes g h old c.0 x) s x r c.1 meets.step)
      (most_since c.0 c.1 xs rs es new t c.4 keeps only_now meets.shows k image left)
  most_since old s commands replies events new t c keeps only_now shows k image left = absurd c

  -- one command more
  pub chain_more : (old : Machine D E) (s : State) (commands : List Command) (replies : List Reply) (events : List Event) (mid : Machine D E) (u : State) (new : Machine D E) (t : State) (x : Command) (r : Reply)
      → Chain g h old s commands replies events mid u → Meets g h mid new u t x r
      → Chain g h old s (commands ++ x ∷ []) (replies ++ r ∷ []) (events ++ event u x r ∷ []) new t
  chain_more old s [] [] [] mid u new t x r c meets = (
    new,
    t,
    ap (λ (y : State). event y x r) c.1,
    subst (λ (m : Machine D E). Meets g h m new s t x r) c.0 (subst (λ (y : State). Meets g h mid new y t x r) c.1 meets),
    (refl, refl),
  )
  chain_more old s (y ∷ ys) (q ∷ qs) (e ∷ es) mid u new t x r c meets = (c.0, c.1, c.2, c.3, chain_more c.0 c.1 ys qs es mid u new t x r c.4 meets)
  chain_more old s commands replies events mid u new t x r c meets = absurd c

  -- or one in front
  abbrev pub ran_first : (old mid new : Machine D E) (s u : State) (x : Command) (xs : List Command) (r : Reply) (rs : List Reply) → Meets g h old mid s u x r → RanSoFar mid new u xs rs
      → RanSoFar old new s (x ∷ xs) (r ∷ rs)
  ran_first old mid new s u x xs r rs met rest =
      record { last = rest.last; events = event s x r ∷ rest.events; chain = (mid, u, refl, met, rest.chain); shows = rest.shows }

  pub ran_more : (old mid new : Machine D E) (s : State) (commands : List Command) (replies : List Reply) (x : Command) (r : Reply)
      → RanSoFar old mid s commands replies → ((u : State) → Shows g h mid u → (t : State) × Meets g h mid new u t x r)
      → RanSoFar old new s (commands ++ x ∷ []) (replies ++ r ∷ [])
  ran_more old mid new s commands replies x r ran step =
      let m = step ran.last ran.shows in
      record {
        last = m.0;
        events = ran.events ++ event ran.last x r ∷ [];
        chain = chain_more old s commands replies ran.events mid ran.last new m.0 x r ran.chain m.1;
        shows = (face g h mid new ran.last m.0 x r m.1).shows;
      }

  abbrev pub all_ran : (old new : Machine D E) (s : State) (commands : List Command) (replies : List Reply)
      → OnlyNow g → Shows g h old s → RanSoFar old new s commands replies → Runs g h old new commands replies s
  all_ran old new s commands replies only_now shows ran = record {
    last = ran.last;
    events = ran.events;
    chain = ran.chain;
    shows = ran.shows;
    room = chain_room old s commands replies ran.events new ran.last ran.chain;
    prefixes = λ run keeps k image left.
        subst (λ (o : Option (List Contents)). StandsForSome (g.sector_count (store_of old)) (left_in o s.durable ran.events k) image) run
        (leaves_since old s commands replies ran.events new ran.last ran.chain keeps only_now shows k image left);
    most = λ keeps k image left. most_since old s commands replies ran.events new ran.last ran.chain keeps only_now shows k image left;
  }

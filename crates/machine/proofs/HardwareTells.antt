-- What `step` returns where hardware could have made the access, and that hardware can make it then.
use Rattle.vm_types.specs.declared.mode.Levels as Levels
use Rattle.std.proofs.Common.{ℕ, ◌%◌, ◌≡◌, true, false, inl, inr, Some, None, refl, sym, ap, ◌∙◌, subst, arith}
use Rattle.{disk_model.specs.declared.sector_disk.SectorDisk.{Ghosts}, fault.{proofs.Settling.{beside_around}, specs.Outcome.{IsWalked}}, residency.specs.{Parts.{IsFit}, Picture.{picture_of}, declared.kernel.Core.{Core}}, spaces.specs.{Accesses.{LetsThrough, MayWrite}, Calls.{causes}}}
use Rattle.frames.{proofs.FrameLemmas.{with_bytes-others}, specs.{FrameTable.{FrameTable, bytes_of, frame_count, role_of}, declared.role.Role.TheVariants.{Table}}}
use Rattle.vm_types.specs.declared.access.Access.TheVariants as Kinds
use Rattle.vm_types.specs.{Run.{Step, Answers, Fails, Lacks, Stalls, Stays}, Access.{with_number}, Stalls.{Causes, cause_of}, State.{State, IsRunning}, Step.{outcome, commits_lengths}, Width.{byte_count}}
use Rattle.vm_types.specs.declared.{access.{Access.{Access}, StoredValue.{StoredValue}}, command.Command.{Command, TheVariants.{Load, Store, Fetch}}, number.Phys.{Phys}, refusal.Stall.{Stall, TheVariants.{SwapDevice, StoreDevice}}, reply.Reply.{Reply, TheVariants.{Done, Value}}, width.{Width.{Width}, Width.TheVariants.{Four}}}
use Rattle.machine.proofs.{Flat.{OnlyNow, is_running}, Hardware.{made, reached}, HardwareWalks.{walks_same}}
use Rattle.machine.specs.{Commands.{DoesAsTold}, Engine.{EngineMayRead, EngineMeets, EngineShows, IsSoundEngine}, Hardware.{TakesStep, HardwareMakes, HardwareReads, IsGranted, IsGrantedBy, IsMadeByHardware}, Machine.{halted_of, IsSoundMachine, Shows, store_of, swap_of}}
use Rattle.machine.specs.declared.{engine.Engine.{Engine}, machine.Machine.{Machine, TheVariants.{Sv39, Sv48}}}
use Rattle.sized_stores.specs.Store.{disk_of}

no_cause : (c : Causes) (stall : Stall) → (c.refused → ⊥) → (c.swap → ⊥) → (c.store → ⊥) → cause_of c stall → ⊥
no_cause c SwapDevice refused swap store is = swap is
no_cause c StoreDevice refused swap store is = store is
no_cause c stall refused swap store is = refused is

-- where nothing failed and nothing was refused, the reply is that of the command's row, if that makes no lengths durable
by_row : (c : Causes) (s : State) (command : Command) (reply : Reply) (t : State) → IsRunning s → commits_lengths s command ≡ false → (c.refused → ⊥) → (c.swap → ⊥) → (c.store → ⊥)
    → Step c s command reply t → reply ≡ (outcome s command).reply
by_row c s command reply t run none refused swap store (Answers running is goes) = is
by_row c s command reply t run none refused swap store (Fails after running commits cause is goes) = absurd (store cause)
by_row c s command reply t run none refused swap store (Lacks running lengths cause is goes) = absurd (let never : false ≡ true = sym none ∙ lengths in cc)
by_row c s command reply t run none refused swap store (Stalls stall running may is goes) = absurd (no_cause c stall refused swap store may.cause)
by_row c s command reply t run none refused swap store (Stays ends halts is goes) = absurd (let never : ◌≡◌ {A = _} (Some ends) None = sym halts ∙ run in cc)

module _ {M : Type 0} {levels : Levels.Ghosts M} {D E : Type 0} (g : Ghosts D) (h : Ghosts E) where
  -- a command that left memory and the devices as they were
  still_told : (old new : Engine D E M levels) (s : State) (command : Command) (reply : Reply) → IsSoundEngine g h old → old.halted ≡ false → EngineShows g h old s
      → commits_lengths s command ≡ false → g.keeps_model (disk_of old.core.store) → h.keeps_model old.core.swap.pages.disk → new.core ≡ old.core
      → ((u : State) → EngineShows g h old u → EngineMayRead g h new u command → (t : State) × EngineMeets g h old new u t command reply) → reply ≡ (outcome s command).reply
  still_told old new s command reply sound runs shows none keeps swaps same meets =
      let met = meets s shows (record {
        files = λ _. subst (λ x. g.keeps_model (disk_of x.store)) (sym same) keeps;
        slots = λ _. subst (λ x. h.keeps_model x.swap.pages.disk) (sym same) swaps;
      }) in
      by_row (causes g h old.core old.core command) s command reply met.0 (is_running g h old s shows runs) none (λ e. omega (arith, e)) (λ e. omega (arith, e)) (λ e. omega (arith, e))
      (subst (λ c. Step (causes g h old.core c command) s command reply met.0) same met.1.step)

  -- a number that hardware could have read
  read_told : (only_now : OnlyNow g) (old new : Engine D E M levels) (s : State) (pid addr : ℕ) (width : Width) (kind : Access) (command : Command) (told reply : Reply)
      (is : HardwareReads old old pid addr width kind told) → HardwareMakes old old command told → IsSoundEngine g h old → EngineShows g h old s
      → commits_lengths s command ≡ false → g.keeps_model (disk_of old.core.store) → h.keeps_model old.core.swap.pages.disk → ((place : Phys) → IsWalked (picture_of old.core) pid addr width kind place → new.core ≡ old.core)
      → ((u : State) → EngineShows g h old u → EngineMayRead g h new u command → (t : State) × EngineMeets g h old new u t command reply) → reply ≡ told
  read_told only_now old new s pid addr width kind command told reply is makes sound shows none keeps swaps same meets =
      let placed = (reached g h old.core pid addr width kind is.place (sound.going is.runs) is.granted).placed in
      let walked : IsWalked (picture_of old.core) pid addr width kind is.place = record { seen = placed.seen; fine = placed.fine; root = placed.root; lives = placed.lives; place = placed.place } in
      still_told old new s command reply sound is.runs shows none keeps swaps (same is.place walked) meets
      ∙ sym (still_told old old s command told sound is.runs shows none keeps swaps refl (made g h only_now old old command told sound makes).meets)

module _ {M : Type 0} {levels : Levels.Ghosts M} {D E : Type 0} where
  -- what was read the tables grant
  granted : (mid new : Core D E M levels) (pid addr : ℕ) (width : Width) (kind : Access) → addr % byte_count width ≡ 0 → LetsThrough (picture_of mid) pid addr kind → new ≡ mid
      → (place : Phys) × IsGranted (picture_of new) pid addr width kind place
  granted mid new pid addr width kind aligned lets same =
      subst (λ c. (place : Phys) × IsGranted (picture_of c) pid addr width kind place) (sym same) (lets.1, record { aligned = aligned; root = lets.0; lives = lets.2; walk = lets.3 })

  -- and what was stored, which went beside the tables
  granted_still : (mid new : Core D E M levels) (pid addr : ℕ) (width : Width) → addr % byte_count width ≡ 0 → LetsThrough (picture_of mid) pid addr Kinds.Store → IsFit (picture_of new)
      → MayWrite Kinds.Store mid new → (place : Phys) × IsGranted (picture_of new) pid addr width Kinds.Store place
  granted_still mid new pid addr width aligned lets fit (inl same) = granted mid new pid addr width Kinds.Store aligned lets same
  granted_still mid new pid addr width aligned lets fit (inr wrote) =
      let writes = wrote.4 in
      let others = with_bytes-others mid.frames wrote.0 (with_number (bytes_of mid.frames wrote.0) wrote.1 (byte_count wrote.2.width) wrote.2.value) in
      let lives : (picture_of new).root pid ≡ Some lets.0 = (beside_around mid new writes.around).root pid ∙ lets.2 in
      let table : (m : ℕ) → role_of new.frames m ≡ Table → bytes_of mid.frames m ≡ bytes_of new.frames m = λ m is.
      sym (ap (λ (t : FrameTable). bytes_of t m) writes.frames ∙ others.bytes m (λ e. wrote.3 (ap (role_of mid.frames) (sym e) ∙ sym (ap (λ (t : FrameTable). role_of t m) writes.frames) ∙ is))) in
      let walk = walks_same new.frames mid.frames _ lets.0 addr Kinds.Store fit.rooted.forest (fit.rooted.roots pid lets.0 lives).table
      (sym (ap (λ (t : FrameTable). frame_count t) writes.frames ∙ others.frames)) table in
      (lets.1, record { aligned = aligned; root = lets.0; lives = lives; walk = sym walk ∙ lets.3 })

module _ {D E : Type 0} (g : Ghosts D) (h : Ghosts E) where
  pub load_granted : (old new : Machine D E) (pid addr n : ℕ) (width : Width) → addr % byte_count width ≡ 0 → TakesStep g h old new (Load pid addr width) (Value width n)
      → (place : Phys) × IsGrantedBy new pid addr width Kinds.Load place
  load_granted (Sv39 old) (Sv39 new) pid addr n width aligned done = granted _ _ pid addr width Kinds.Load aligned (done.does.accesses.0.grants refl (λ stall e. cc)) done.does.accesses.0.writes
  load_granted (Sv48 old) (Sv48 new) pid addr n width aligned done = granted _ _ pid addr width Kinds.Load aligned (done.does.accesses.0.grants refl (λ stall e. cc)) done.does.accesses.0.writes
  load_granted old new pid addr n width aligned done = absurd done.does.accesses

  pub fetch_granted : (old new : Machine D E) (pid addr n : ℕ) → addr % 4 ≡ 0 → TakesStep g h old new (Fetch pid addr) (Value Four n)
      → (place : Phys) × IsGrantedBy new pid addr Four Kinds.Fetch place
  fetch_granted (Sv39 old) (Sv39 new) pid addr n aligned done = granted _ _ pid addr Four Kinds.Fetch aligned (done.does.accesses.0.grants refl (λ stall e. cc)) done.does.accesses.0.writes
  fetch_granted (Sv48 old) (Sv48 new) pid addr n aligned done = granted _ _ pid addr Four Kinds.Fetch aligned (done.does.accesses.0.grants refl (λ stall e. cc)) done.does.accesses.0.writes
  fetch_granted old new pid addr n aligned done = absurd done.does.accesses

  pub store_granted : (old new : Machine D E) (pid addr : ℕ) (stored : StoredValue) (width : Width) → addr % byte_count width ≡ 0 → halted_of new ≡ false → IsSoundMachine g h new
      → DoesAsTold g h old new (Store pid addr stored) Done → (place : Phys) × IsGrantedBy new pid addr width Kinds.Store place
  store_granted (Sv39 old) (Sv39 new) pid addr stored width aligned runs sound does =
      let asks = does.accesses.0 in granted_still asks.granted new.core pid addr width aligned (asks.grants refl (λ stall e. cc)) (sound.going runs).fit asks.writes
  store_granted (Sv48 old) (Sv48 new) pid addr stored width aligned runs sound does =
      let asks = does.accesses.0 in granted_still asks.granted new.core pid addr width aligned (asks.grants refl (λ stall e. cc)) (sound.going runs).fit asks.writes
  store_granted old new pid addr stored width aligned runs sound does = absurd does.accesses

  -- no load is a store
  pub load_undone : (old new : Machine D E) (pid addr : ℕ) (width : Width) → DoesAsTold g h old new (Load pid addr width) Done → ⊥
  load_undone (Sv39 old) (Sv39 new) pid addr width does = let never : Kinds.Load ≡ Kinds.Store = does.accesses.0.done refl in cc
  load_undone (Sv48 old) (Sv48 new) pid addr width does = let never : Kinds.Load ≡ Kinds.Store = does.accesses.0.done refl in cc
  load_undone old new pid addr width does = absurd does.accesses

  pub load_told : (only_now : OnlyNow g) (old new : Machine D E) (s : State) (pid addr : ℕ) (width : Width) (told reply : Reply) → IsSoundMachine g h old → Shows g h old s
      → g.keeps_model (store_of old) → h.keeps_model (swap_of old) → IsMadeByHardware old old (Load pid addr width) told → TakesStep g h old new (Load pid addr width) reply → reply ≡ told
  load_told only_now (Sv39 old) (Sv39 new) s pid addr width told reply sound shows keeps swaps is done =
      read_told g h only_now old new s pid addr width Kinds.Load (Load pid addr width) told reply is is sound shows refl keeps swaps done.does.accesses.1 done.meets
  load_told only_now (Sv48 old) (Sv48 new) s pid addr width told reply sound shows keeps swaps is done =
      read_told g h only_now old new s pid addr width Kinds.Load (Load pid addr width) told reply is is sound shows refl keeps swaps done.does.accesses.1 done.meets
  load_told only_now old new s pid addr width told reply sound shows keeps swaps is done = absurd done.does.accesses

  pub fetch_told : (only_now : OnlyNow g) (old new : Machine D E) (s : State) (pid addr : ℕ) (told reply : Reply) → IsSoundMachine g h old → Shows g h old s
      → g.keeps_model (store_of old) → h.keeps_model (swap_of old) → IsMadeByHardware old old (Fetch pid addr) told → TakesStep g h old new (Fetch pid addr) reply → reply ≡ told
  fetch_told only_now (Sv39 old) (Sv39 new) s pid addr told reply sound shows keeps swaps is done =
      read_told g h only_now old new s pid addr Four Kinds.Fetch (Fetch pid addr) told reply is is sound shows refl keeps swaps done.does.accesses.1 done.meets
  fetch_told only_now (Sv48 old) (Sv48 new) s pid addr told reply sound shows keeps swaps is done =
      read_told g h only_now old new s pid addr Four Kinds.Fetch (Fetch pid addr) told reply is is sound shows refl keeps swaps done.does.accesses.1 done.meets
  fetch_told only_now old new s pid addr told reply sound shows keeps swaps is done = absurd done.does.accesses

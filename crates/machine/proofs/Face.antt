-- What the words on machines say, whatever the mode.
use Rattle.machine.proofs.Names.{◌+◌, ◌≡◌, ◌≤◌, ◌<◌, true, false, is_some, ap, rules, LeavesNow, LeavesOnly, Ghosts, is_idle, names_store, names_swap, refused_count, Command, EIO, SwapDevice, StoreDevice, Reply, Refused, Stalled, Step}
use Rattle.machine.{proofs.Names.{Causes, State}, specs.{Engine.{MayStand, HoldsIn, StandsForSome}, Machine.{store_of, swap_of, halted_of, past_of, refused_of, mode_of, bits_of, KeepsSizes, IsCausedBetween, LacksRoom, Shows, Meets, IsReadable}}}
use Rattle.{machine.specs.declared.machine.Machine.{Machine, TheVariants.{Sv39, Sv48}}, msync.specs.Shows.{SaysMost}}
use Rattle.stores.specs.Store as Durable
use Rattle.stores.specs.declared.store.Store.{Store}

module _ {D E : Type 0} (g : Ghosts D) (h : Ghosts E) where
  -- what came to pass between two machines, in a command
  abbrev pub causes : Machine D E → Machine D E → Command → Causes
  causes old new command = record {
    store = g.failures (store_of old) < g.failures (store_of new);
    swap = h.failures (swap_of old) < h.failures (swap_of new);
    refused = refused_of new ≡ refused_of old + 1;
    room = LacksRoom old command;
  }

  -- a machine in a state
  pub record IsShown (m : Machine D E) (s : State) : Type 0 where
    pub running : is_some s.ends ≡ halted_of m
    pub past : past_of m ≡ s.past
    pub same_mode : s.mode ≡ bits_of (mode_of m)
    pub stands : g.keeps_model (store_of m) → LeavesNow g (store_of m) (StandsForSome (g.sector_count (store_of m)) (MayStand s))
    pub most_stands : g.keeps_model (store_of m) → LeavesNow g (store_of m) (SaysMost (g.sector_count (store_of m)) s.most)

  pub shown : (m : Machine D E) (s : State) → Shows g h m s → IsShown m s
  shown (Sv39 m) s shows = record { running = shows.running; past = shows.past; same_mode = shows.pages.same_mode; stands = shows.stands; most_stands = shows.most_stands }
  shown (Sv48 m) s shows = record { running = shows.running; past = shows.past; same_mode = shows.pages.same_mode; stands = shows.stands; most_stands = shows.most_stands }

  -- of two devices that keep their models every command may read
  pub readable : (m : Machine D E) (s : State) (command : Command) → g.keeps_model (store_of m) → h.keeps_model (swap_of m) → IsReadable g h m s command
  readable (Sv39 m) s command keeps swap_keeps = record { files = λ _. keeps; slots = λ _. swap_keeps }
  readable (Sv48 m) s command keeps swap_keeps = record { files = λ _. keeps; slots = λ _. swap_keeps }

  -- a command that was carried out
  pub record IsMet (old new : Machine D E) (s t : State) (command : Command) (reply : Reply) : Type 0 where
    pub step : Step (causes old new command) s command reply t
    pub shows : Shows g h new t
    pub room : KeepsSizes old new
    pub size : g.sector_count (store_of new) ≡ g.sector_count (store_of old)
    pub swap_size : h.sector_count (swap_of new) ≡ h.sector_count (swap_of old)
    pub kept : g.keeps_model (store_of new) → g.keeps_model (store_of old)
    pub swap_kept : h.keeps_model (swap_of new) → h.keeps_model (swap_of old)
    pub idle : is_idle s command reply ≡ true → (store_of new ≡ store_of old) × (swap_of new ≡ swap_of old)
    pub moments : g.keeps_model (store_of new) → LeavesOnly g (store_of old) (store_of new) (StandsForSome (g.sector_count (store_of old)) (HoldsIn s command reply))
    pub most_moments : g.keeps_model (store_of new) → LeavesOnly g (store_of old) (store_of new) (SaysMost (g.sector_count (store_of old)) s.most)

  pub face : (old new : Machine D E) (s t : State) (command : Command) (reply : Reply) → Meets g h old new s t command reply → IsMet old new s t command reply
  face (Sv39 old) (Sv39 new) s t command reply meets =
      let idle : is_idle s command reply ≡ true → (store_of (Sv39 new) ≡ store_of (Sv39 old)) × (swap_of (Sv39 new) ≡ swap_of (Sv39 old)) = λ e.
      let keeps = meets.idle e in (ap (λ (store : Store D). Durable.disk_of store) keeps.store, ap (λ pages. pages.disk) keeps.pages) in
      search rules
  face (Sv48 old) (Sv48 new) s t command reply meets =
      let idle : is_idle s command reply ≡ true → (store_of (Sv48 new) ≡ store_of (Sv48 old)) × (swap_of (Sv48 new) ≡ swap_of (Sv48 old)) = λ e.
      let keeps = meets.idle e in (ap (λ (store : Store D). Durable.disk_of store) keeps.store, ap (λ pages. pages.disk) keeps.pages) in
      search rules
  face old new s t command reply meets = absurd meets

  -- what a reply comes from
  pub record HasCause (old new : Machine D E) (reply : Reply) : Type 0 where
    pub later : g.failures (store_of old) ≤ g.failures (store_of new)
    pub swap_later : h.failures (swap_of old) ≤ h.failures (swap_of new)
    pub calm : names_store reply ≡ false → g.failures (store_of new) ≡ g.failures (store_of old)
    pub swap_calm : names_swap reply ≡ false → h.failures (swap_of new) ≡ h.failures (swap_of old)
    pub counted : refused_of new ≡ refused_of old + refused_count reply
    pub failed : reply ≡ Refused EIO → g.failures (store_of old) < g.failures (store_of new)
    pub stalled : reply ≡ Stalled StoreDevice → g.failures (store_of old) < g.failures (store_of new)
    pub swap_stalled : reply ≡ Stalled SwapDevice → h.failures (swap_of old) < h.failures (swap_of new)

  pub cause_of : (old new : Machine D E) (reply : Reply) → IsCausedBetween g h old new reply → HasCause old new reply
  cause_of (Sv39 old) (Sv39 new) reply is =
      let stalled : reply ≡ Stalled StoreDevice → g.failures (store_of (Sv39 old)) < g.failures (store_of (Sv39 new)) = λ e. (is.stalled StoreDevice e).1 in
      let swap_stalled : reply ≡ Stalled SwapDevice → h.failures (swap_of (Sv39 old)) < h.failures (swap_of (Sv39 new)) = λ e. (is.stalled SwapDevice e).2 in
      search rules
  cause_of (Sv48 old) (Sv48 new) reply is =
      let stalled : reply ≡ Stalled StoreDevice → g.failures (store_of (Sv48 old)) < g.failures (store_of (Sv48 new)) = λ e. (is.stalled StoreDevice e).1 in
      let swap_stalled : reply ≡ Stalled SwapDevice → h.failures (swap_of (Sv48 old)) < h.failures (swap_of (Sv48 new)) = λ e. (is.stalled SwapDevice e).2 in
      search rules
  cause_of old new reply is = absurd is

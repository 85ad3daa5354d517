-- Room for what an msync takes: for as many pages as the store takes, for as many ranks as there are frames and slots, and for as many files as the store has places for.
use Rattle.vm_types.specs.declared.mode.Levels as Levels
use Rattle.msync.{proofs.Names.{ℕ, ◌+◌, ◌≡◌, ◌≤◌, ◌∙◌, length, sym, ap, arith, Ghosts, Core, State, frame_count, slots_of, always_free_in}, specs.{Rooms.{size_of}, Shows.{RoomSize, HasSyncRoom, CoreShows}}}
use Rattle.{msync.specs.declared.room.TakenLists.{TakenLists}, sized_stores.specs.Store.{kept_of}}

module _ {M : Type 0} {m : Levels.Ghosts M} {D E : Type 0} (g : Ghosts D) (core : Core D E M m) (lists : TakenLists) (room : RoomSize) (is : size_of lists ≡ room) (has : HasSyncRoom g core room) where
  pub ranks_for : frame_count core.frames + (slots_of core.swap).total ≤ length lists.ranks.items
  ranks_for = omega (arith, has.ranks, ap (λ (r : RoomSize). r.ranks) is)

  pub files_for : length core.store.sizes.items ≤ length lists.files.items
  files_for = omega (arith, has.files, ap (λ (r : RoomSize). r.files) is)

  -- an msync takes as many pages as the list has room for
  pub most_for : (s : State) → CoreShows g core s → s.most ≡ length lists.pages.items
  most_for s shows = shows.most ∙ sym has.most ∙ sym (ap (λ (r : RoomSize). r.most) is)

  -- so those that it lists are no more than the store takes
  pub few_for : (now : TakenLists) (count : ℕ) → size_of now ≡ size_of lists → count ≤ length now.pages.items → count ≤ always_free_in (kept_of core.store)
  few_for now count same few = omega (arith, few, ap (λ (r : RoomSize). r.most) same, ap (λ (r : RoomSize). r.most) is, has.most)

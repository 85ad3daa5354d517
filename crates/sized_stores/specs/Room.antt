-- Room for commits of lengths.
use Rattle.std.specs.Prelude.{ℕ, ◌*◌, ◌≤◌, Option, Some, None, vec_capacity}
use Rattle.pool_growth.specs.Front.{HasChangeRoom}
use Rattle.stores.specs.Store.{StoreKept}
use Rattle.sized_stores.specs.declared.room.{PageList.{PageList}, SizeRoom.{SizeRoom}}

-- room for so many pages
abbrev pub HasListRoom : ℕ → PageList → Type 0
HasListRoom n list = (n ≤ vec_capacity list.pages) × (n ≤ vec_capacity list.places)

-- Room for a commit of a store whose maps have m blocks, with a directory of d pages:
pub record HasSizeRoom (m d : ℕ) (room : SizeRoom) : Type 0 where
  -- for the lengths of all its files, and the changes that they take,
  pub sizes : 16 * d ≤ vec_capacity room.sizes
  pub changes : 16 * d ≤ vec_capacity room.changes
  -- for as many new pages as a commit may always take, and others,
  pub fresh : HasListRoom (504 * m) room.fresh
  pub kept : HasListRoom (504 * m) room.kept
  -- and for what goes into slots.
  pub slots : HasChangeRoom m d room.slots

abbrev pub IsRoomFor : StoreKept → Option SizeRoom → Type 0
IsRoomFor (StoreKept.OfJournal directory journal) room = Unit {0}
IsRoomFor (StoreKept.OfPool directory journal) None = ⊥
IsRoomFor (StoreKept.OfPool directory journal) (Some room) = HasSizeRoom journal.sizes.blocks directory.pages room

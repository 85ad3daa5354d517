-- What giving frames up does to entries, and which frames are given up.
use Rattle.std.specs.Prelude.{◌≡◌, ◌≢◌, ℕ, ◌⊎◌, true, false, Option, Some}
use Rattle.vm_types.specs.Limits.{top_level}
use Rattle.vm_types.specs.declared.object.PageKey.{PageKey}
use Rattle.frames.specs.declared.role.Role.TheVariants.{Free, Table}
use Rattle.frames.specs.FrameTable.{frame_count, role_of, IsFull}
use Rattle.sv39_walk.specs.Entry.{frame_of}
use Rattle.page_tables.specs.Tree.{IsPage, Points}
use Rattle.residency.specs.Seats.{is_private, is_swapped}
use Rattle.residency.specs.Picture.{Picture, entry, is_data}
use Rattle.residency.specs.Leaves.{concerns, IsChanged}
use Rattle.residency.specs.declared.leaves.Change.TheVariants.{Forget, ClearAccessed}

-- an entry lost its frame: that of an own copy names a slot now, and of any other there is none
abbrev pub LeavesFrame : ℕ → ℕ → Type 0
LeavesFrame e e' = ((is_private e ≡ true) × (is_swapped e' ≡ true)) ⊎ ((is_private e ≡ false) × (e' ≡ 0))

-- An entry is as it was, or lost A alone, or lost its frame, which is one of those given up.
pub data Ages (given : ℕ → Type 0) (e e' : ℕ) : Type 0 where
  Same : e' ≡ e → Ages given e e'
  Cleared : concerns ClearAccessed e ≡ true → IsChanged ClearAccessed e e' → Ages given e e'
  Left : concerns Forget e ≡ true → given (frame_of e) → LeavesFrame e e' → Ages given e e'

-- One frame may have been given up, or was tried: it held a page. No other frame came to another use, no other entry lost its
-- frame, and every pointer to a table stands.
module _ {mode : ℕ} where
  pub record GivesFrame (old new : Picture mode) (v : ℕ) : Type 0 where
    pub roles : (n : ℕ) → n ≢ v → role_of new.frames n ≡ role_of old.frames n
    pub entries : (pid page : ℕ) → IsPage (top_level mode) page
        → Ages (λ n. (n ≡ v) × (is_data (role_of old.frames n) ≡ true)) (entry old pid page) (entry new pid page)
    pub pointers : (n i m : ℕ) → Points old.frames n i m → Points new.frames n i m

-- A frame was wanted: it was free, or none was, and it may have been given up, or was tried.
module _ {mode : ℕ} where
  abbrev pub WantsFrame : Picture mode → Picture mode → ℕ → Type 0
  WantsFrame old new v = GivesFrame old new v × (IsFull old.frames ⊎ (role_of old.frames v ≡ Free))

-- a frame held a page, and holds none now, or is the one that was tried last
module _ {mode : ℕ} where
  abbrev pub IsGiven : Picture mode → Picture mode → Option ℕ → ℕ → Type 0
  IsGiven old new tried n = (is_data (role_of old.frames n) ≡ true) × ((is_data (role_of new.frames n) ≡ false) ⊎ (tried ≡ Some n))

-- no frame was given up: each that held a page has its use, every entry is as it was, and every file page lies where it lay
module _ {mode : ℕ} where
  pub record GivesNone (old new : Picture mode) : Type 0 where
    pub roles : (n : ℕ) → is_data (role_of old.frames n) ≡ true → role_of new.frames n ≡ role_of old.frames n
    pub entries : (pid page : ℕ) → IsPage (top_level mode) page → entry new pid page ≡ entry old pid page
    pub places : (p : PageKey) → new.place p ≡ old.place p

-- Frames became tables, and some of them were given up for that; of the others none has another use. Only entries over those
-- that were given up lost their frames, every pointer to a table stands, and none was given up unless no frame is free now.
module _ {mode : ℕ} where
  pub record GivesForTables (old new : Picture mode) (tried : Option ℕ) : Type 0 where
    pub count : frame_count new.frames ≡ frame_count old.frames
    pub roles : (n : ℕ) → (role_of new.frames n ≡ role_of old.frames n)
        ⊎ ((role_of new.frames n ≡ Table) × ((role_of old.frames n ≡ Free) ⊎ (is_data (role_of old.frames n) ≡ true)))
    pub entries : (pid page : ℕ) → IsPage (top_level mode) page → Ages (IsGiven old new tried) (entry old pid page) (entry new pid page)
    pub pointers : (n i m : ℕ) → Points old.frames n i m → Points new.frames n i m
    pub needed : IsFull new.frames ⊎ GivesNone old new

-- every frame but one has the use that it had
module _ {mode : ℕ} where
  abbrev pub KeepsRolesBut : Picture mode → Picture mode → ℕ → Type 0
  KeepsRolesBut old new v = (n : ℕ) → n ≢ v → role_of new.frames n ≡ role_of old.frames n

-- every frame has the use that it had
module _ {mode : ℕ} where
  abbrev pub KeepsRoles : Picture mode → Picture mode → Type 0
  KeepsRoles old new = (n : ℕ) → role_of new.frames n ≡ role_of old.frames n

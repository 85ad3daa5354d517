-- When an access to a page wants a frame, and which one it keeps meanwhile, or its file page from the store.
use Rattle.std.specs.Prelude.{◌≡◌, ◌≢◌, ◌⊎◌, ℕ, true, false, Option, Some, None}
use Rattle.vm_types.specs.Limits.{top_level}
use Rattle.vm_types.specs.declared.access.Access.{Access}
use Rattle.vm_types.specs.declared.access.Access.TheVariants.{Store}
use Rattle.vm_types.specs.declared.file.FilePage.{FilePage}
use Rattle.vm_types.specs.declared.object.PageKey.{PageKey}
use Rattle.vm_types.specs.declared.object.PageKey.TheVariants.{File}
use Rattle.vm_types.specs.declared.number.FrameNo.{FrameNo}
use Rattle.vm_types.specs.declared.refusal.Stall.{Stall}
use Rattle.vm_types.specs.declared.region.Attr.{Attr}
use Rattle.vm_types.specs.declared.region.Backing.{Backing}
use Rattle.vm_types.specs.Attributes.{stands_on}
use Rattle.frames.specs.declared.role.Role.TheVariants.{Free}
use Rattle.frames.specs.FrameTable.{FrameTable, IsFrame, IsFull, role_of}
use Rattle.page_tables.specs.Tree.{missing_of}
use Rattle.page_cache.specs.declared.place.Place.TheVariants.{Home, Frame}
use Rattle.residency.specs.Ages.{GivesForTables}
use Rattle.residency.specs.Calls.{Refuses}
use Rattle.residency.specs.Seats.{InFrame, seat, is_swapped}
use Rattle.residency.specs.Picture.{Picture, entry}
use Rattle.residency.specs.Parts.{IsBehind, is_shared}
use Rattle.fault.specs.Changes.{is_sole, LinksTables}
use Rattle.residency.specs.Ways.{IsWhole}

-- a table is missing on the way to a page of a process
module _ {mode : ℕ} where
  pub record LacksTable (c : Picture mode) (pid page : ℕ) : Type 0 where
    pub root : ℕ
    pub lives : c.root pid ≡ Some root
    pub missing : missing_of c.frames (top_level mode) root page ≢ 0

-- a page on that backing is of that page of a file or an object
abbrev pub IsOfFile : Backing → PageKey → Type 0
IsOfFile b p = stands_on b ≡ Some p

-- a page of a process shows that page of a file or an object: it is mapped on it, and has no copy of its own, in a frame or in a slot
module _ {mode : ℕ} where
  pub record ShowsFile (c : Picture mode) (pid page : ℕ) (p : PageKey) : Type 0 where
    pub attr : Attr
    pub mapped : c.at pid page ≡ Some attr
    pub behind : IsOfFile attr.backing p
    pub none : seat (entry c pid page) ≡ None

-- An access to a page wants a frame: for a table on its way, for its own copy that lies in a slot, for the page of a file or an object that it
-- shows and that lies in no frame, or for a store to a page that isn't shared and of which the process hasn't its frame alone.
module _ {mode : ℕ} where
  pub data Wants (c : Picture mode) (pid page : ℕ) (access : Access) : Type 0 where
    ForTable : LacksTable c pid page → Wants c pid page access
    ForSlot : is_swapped (entry c pid page) ≡ true → Wants c pid page access
    ForFile : (p : PageKey) → ShowsFile c pid page p → ((n : FrameNo) → c.place p ≢ Frame n) → Wants c pid page access
    ForStore : (attr : Attr) → access ≡ Store → c.at pid page ≡ Some attr → is_shared attr.backing ≡ false
        → is_sole c (entry c pid page) ≡ false → Wants c pid page access

-- frame n holds what a page with that entry shows: its own copy, or what stands behind it, where it has none in a frame or in a slot
module _ {mode : ℕ} where
  abbrev pub HoldsShown : Picture mode → ℕ → Backing → ℕ → Type 0
  HoldsShown c e backing n = (seat e ≡ Some (InFrame n)) ⊎ ((seat e ≡ None) × IsBehind c backing n)

-- An access is a store that is to copy frame n, which holds what its page shows: the page isn't shared, and no table is missing on its way.
module _ {mode : ℕ} where
  pub record Copies (c : Picture mode) (pid page : ℕ) (access : Access) (n : FrameNo) : Type 0 where
    pub attr : Attr
    pub stores : access ≡ Store
    pub mapped : c.at pid page ≡ Some attr
    pub not_shared : is_shared attr.backing ≡ false
    pub whole : IsWhole c pid page
    pub shown : HoldsShown c (entry c pid page) attr.backing n.0

-- The frame that isn't given up for an access to a page: the one that it is to copy, or else none.
module _ {mode : ℕ} where
  abbrev pub KeepsOwnFrame : Picture mode → ℕ → ℕ → Access → Option FrameNo → Type 0
  KeepsOwnFrame c pid page access None = (n : FrameNo) → Copies c pid page access n → ⊥
  KeepsOwnFrame c pid page access (Some n) = Copies c pid page access n

-- Why an access to a page was refused a frame, by memory as it is left: of all frames but the one that it keeps none could be given up.
-- Nothing is said where the swap device failed.
module _ {mode : ℕ} where
  pub record RefusesAccess (c : Picture mode) (pid page : ℕ) (access : Access) (stall : Stall) : Type 0 where
    pub keep : Option FrameNo
    pub keeps : KeepsOwnFrame c pid page access keep
    pub refuses : Refuses c keep stall

-- Tables are missing on a page's way, and no frame is free once they are made: those frames, the tables on this way alone, may
-- be had by giving up one that holds the file page.
module _ {mode : ℕ} where
  pub record FillsMemory (c : Picture mode) (pid page : ℕ) : Type 0 where
    pub lacks : LacksTable c pid page
    pub linked : Picture mode
    pub gives : GivesForTables c linked None
    pub tables : LinksTables c linked pid page
    pub full : IsFull linked.frames

-- The page shows a file page that nobody has touched, and that is to be read from its home: it lies there, or the frame that it
-- lies in may be given up for the tables that are missing on the page's way.
module _ {mode : ℕ} where
  pub record ReadsHome (c : Picture mode) (pid page : ℕ) : Type 0 where
    pub file : FilePage
    pub shows : ShowsFile c pid page (File file)
    pub untouched : c.touched (File file) ≡ false
    pub home : (c.place (File file) ≡ Home) ⊎ FillsMemory c pid page

-- no frame is free but that one
abbrev pub IsFullBut : FrameTable → ℕ → Type 0
IsFullBut t last = (n : ℕ) → IsFrame t n → n ≢ last → role_of t n ≢ Free

-- A store is to copy a page of a file that lies in no frame, and one frame at most is free, which that page takes.
module _ {mode : ℕ} where
  pub record WantsTwo (c : Picture mode) (pid page : ℕ) (access : Access) : Type 0 where
    pub stores : access ≡ Store
    pub file : PageKey
    pub shows : ShowsFile c pid page file
    pub away : (n : FrameNo) → c.place file ≢ Frame n
    pub last : ℕ
    pub full : IsFullBut c.frames last

-- Tables were missing on a page's way, and frames were taken for them, and for no others.
module _ {mode : ℕ} where
  pub record MakesTables (c linked : Picture mode) (pid page : ℕ) : Type 0 where
    pub lacks : LacksTable c pid page
    pub tried : Option ℕ
    pub gives : GivesForTables c linked tried
    pub tables : LinksTables c linked pid page

-- A frame has to be given up for an access to a page, at once or once the tables are made that are missing on its way: none is free,
-- or one alone where it wants two.
module _ {mode : ℕ} where
  pub record RunsOut (c : Picture mode) (pid page : ℕ) (access : Access) : Type 0 where
    pub linked : Picture mode
    pub made : (linked ≡ c) ⊎ MakesTables c linked pid page
    pub short : IsFull linked.frames ⊎ WantsTwo linked pid page access

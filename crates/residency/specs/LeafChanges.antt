-- The entries over one frame, looked for and changed.
use Rattle.vm_types.specs.declared.mode.Levels as Levels
use Rattle.std.specs.Prelude.{◌≡◌, ℕ, ◌<◌, ◌≤◌, true, Option, Some, IfSome, IfNone}
use Rattle.vm_types.specs.Limits.{top_level, user_end}
use Rattle.frames.specs.declared.role.Role.TheVariants.{Cache}
use Rattle.frames.specs.FrameTable.{IsFrame, role_of}
use Rattle.page_tables.specs.Tree.{IsPage}
use Rattle.residency.specs.declared.kernel.Core.{Core}
use Rattle.residency.specs.declared.leaves.Change.{Change}
use Rattle.residency.specs.declared.leaves.Change.TheVariants.{Forget}
use Rattle.residency.specs.declared.searches.LeafSearch.{LeafSearch}
use Rattle.residency.specs.declared.searches.LiveProcess.{LiveProcess}
use Rattle.residency.specs.Picture.{Picture, picture_of, is_data}
use Rattle.residency.specs.Parts.{IsFit}
use Rattle.residency.specs.Contents.{HasContent}
use Rattle.residency.specs.Leaves.{AreKinds, IsOver, IsFirstOver, IsClear, ChangesLeaves, KeepsAllButFrames}

-- frame n of memory that is fit holds a page of a process, a file or an object
module _ {mode : ℕ} where
  pub record HasData (c : Picture mode) (n : ℕ) : Type 0 where
    pub fit : IsFit c
    pub inside : IsFrame c.frames n
    pub role : is_data (role_of c.frames n) ≡ true

-- memory is fit, and the frame over which entries are looked for holds what it is said to
module _ {mode : ℕ} where
  pub record IsSearchIn (c : Picture mode) (s : LeafSearch) : Type 0 where
    pub has : HasData c s.frame.0
    pub holds : HasContent c s.frame.0 s.content

-- the process lives in memory that is fit
module _ {mode : ℕ} where
  pub record LivesIn (c : Picture mode) (p : LiveProcess) : Type 0 where
    pub fit : IsFit c
    pub root : c.root p.pid ≡ Some p.root.0

-- In memory that is fit all entries that are looked for are in the trees of roots of these kinds.
module _ {mode : ℕ} where
  pub record IsAmong (c : Picture mode) (s : LeafSearch) (kinds : ℕ) : Type 0 where
    pub fit : IsFit c
    pub roots : AreKinds c s.change s.frame.0 kinds

-- no page of the process but this one may have an entry that is looked for
module _ {mode : ℕ} where
  pub record IsOnlyOver (c : Picture mode) (s : LeafSearch) (pid page : ℕ) : Type 0 where
    pub user : page < user_end mode
    pub one : (k : ℕ) → IsPage (top_level mode) k → IsOver c s.change s.frame.0 pid k → k ≡ page

-- the frame holds what it is said to, and entries are forgotten only over one that holds a page of a file or an object
module _ {mode : ℕ} where
  pub record IsChangeable (c : Picture mode) (s : LeafSearch) : Type 0 where
    pub holds : HasContent c s.frame.0 s.content
    pub filed : s.change ≡ Forget → role_of c.frames s.frame.0 ≡ Cache

-- the first page of a process from a page on that has an entry which is looked for, or none where no page has
module _ {mode : ℕ} where
  pub record FindsFirst (c : Picture mode) (s : LeafSearch) (pid low : ℕ) (result : Option ℕ) : Type 0 where
    pub some : IfSome result (λ k. IsFirstOver c s.change s.frame.0 pid low k)
    pub none : IfNone result ((k : ℕ) → low ≤ k → IsPage (top_level mode) k → IsOver c s.change s.frame.0 pid k → ⊥)

module _ {M : Type 0} {m : Levels.Ghosts M} {D E : Type 0} where
  -- entries over frame n that the change is for
  pub record ChangesEntries (change : Change) (n : ℕ) (old new : Core D E M m) : Type 0 where
    -- were changed so, and memory is fit as before,
    pub changes : ChangesLeaves change n (picture_of old) (picture_of new)
    pub fit : IsFit (picture_of new)
    -- and nothing but frames changed
    pub beside : KeepsAllButFrames old new

  -- the page of the process has no such entry any more
  pub record ClearsPage (change : Change) (n pid page : ℕ) (old new : Core D E M m) : Type 0 where
    pub clear : IsOver (picture_of new) change n pid page → ⊥
    pub entries : ChangesEntries change n old new
    pub open entries use *

  -- no page of the process has one
  pub record ClearsProcess (change : Change) (n pid : ℕ) (old new : Core D E M m) : Type 0 where
    pub clear : (page : ℕ) → IsPage (top_level m.mode) page → IsOver (picture_of new) change n pid page → ⊥
    pub entries : ChangesEntries change n old new
    pub open entries use *

  -- no page of any process has one, and the frame isn't the zero page
  pub record ClearsFrame (change : Change) (n : ℕ) (old new : Core D E M m) : Type 0 where
    pub clear : IsClear (picture_of new) change n
    pub above : 0 < n
    pub entries : ChangesEntries change n old new
    pub open entries use *

-- The entries over one frame, and what becomes of them.
use Rattle.vm_types.specs.declared.mode.Levels as Levels
use Rattle.std.specs.Prelude.{◌≡◌, ◌≢◌, ◌⊎◌, ℕ, ◌==◌, ◌+◌, ◌-◌, ◌<◌, ◌≤◌, Bool, true, false, not, ◌&&◌, Some}
use Rattle.vm_types.specs.Limits.{top_level, user_end}
use Rattle.vm_types.specs.declared.object.PageKey.{PageKey}
use Rattle.vm_types.specs.declared.object.PageKey.TheVariants.{File, Object}
use Rattle.vm_types.specs.Attributes.{attr_after, file_page_after, object_page_after, stands_on}
use Rattle.frames.specs.declared.role.Role.TheVariants as Role
use Rattle.frames.specs.FrameTable.{frame_count, bytes_of, role_of, count_of}
use Rattle.sv39_walk.specs.Entry.{is_valid, can_read, can_write, can_execute, is_accessed, is_dirty, frame_of}
use Rattle.page_tables.specs.Tree.{IsPage, Points, last_table}
use Rattle.regions.specs.declared.run.Run.{Run}
use Rattle.memory.specs.Notes.{HasKind}
use Rattle.residency.specs.declared.kernel.Core.{Core}
use Rattle.residency.specs.declared.leaves.Change.{Change}
use Rattle.residency.specs.declared.leaves.Change.TheVariants.{Forget, ClearAccessed, ClearDirty}
use Rattle.residency.specs.Seats.{is_private, is_swapped}
use Rattle.residency.specs.Picture.{Picture, entry, view}
use Rattle.residency.specs.Steps.{SameBeside}

-- whether the change is for that entry
abbrev pub concerns : Change → ℕ → Bool
concerns Forget e = not (e == 0) && not (is_swapped e)
concerns ClearAccessed e = is_valid e && is_accessed e
concerns ClearDirty e = is_valid e && is_dirty e

-- the page has such an entry over frame n
module _ {mode : ℕ} where
  pub record IsOver (c : Picture mode) (change : Change) (n pid page : ℕ) : Type 0 where
    pub concerned : concerns change (entry c pid page) ≡ true
    pub frame : frame_of (entry c pid page) ≡ n

-- no process has one
module _ {mode : ℕ} where
  abbrev pub IsClear : Picture mode → Change → ℕ → Type 0
  IsClear c change n = (pid page : ℕ) → IsPage (top_level mode) page → IsOver c change n pid page → ⊥

-- some process has one
module _ {mode : ℕ} where
  abbrev pub HasEntryOver : Picture mode → Change → ℕ → Type 0
  HasEntryOver c change n = (pid : ℕ) × (page : ℕ) × IsPage (top_level mode) page × IsOver c change n pid page

-- all that have one are in the trees of roots of these kinds
module _ {mode : ℕ} where
  abbrev pub AreKinds : Picture mode → Change → ℕ → ℕ → Type 0
  AreKinds c change n kinds = (pid r page : ℕ) → c.root pid ≡ Some r → IsPage (top_level mode) page → IsOver c change n pid page → HasKind kinds r

-- the first page of a process from a page on that has one
module _ {mode : ℕ} where
  pub record IsFirstOver (c : Picture mode) (change : Change) (n pid low k : ℕ) : Type 0 where
    pub from : low ≤ k
    pub user : k < user_end mode
    pub over : IsOver c change n pid k
    pub before : (j : ℕ) → low ≤ j → j < k → IsOver c change n pid j → ⊥

-- a leaf lost a bit that grants nothing
pub record Drops (old new : ℕ) : Type 0 where
  pub valid : is_valid new ≡ is_valid old
  pub reads : can_read new ≡ can_read old
  pub writes : can_write new ≡ can_write old
  pub executes : can_execute new ≡ can_execute old
  pub private : is_private new ≡ is_private old
  pub frame : frame_of new ≡ frame_of old

-- there is none, or A or D, which was set, is clear and every other bit as it was: the number is 64 or 128 less
abbrev pub IsChanged : Change → ℕ → ℕ → Type 0
IsChanged Forget e e' = e' ≡ 0
IsChanged ClearAccessed e e' = Drops e e' × (is_dirty e' ≡ is_dirty e) × (is_accessed e' ≡ false) × (e' + 64 ≡ e)
IsChanged ClearDirty e e' = Drops e e' × (is_accessed e' ≡ is_accessed e) × (is_dirty e' ≡ false) × (e' + 128 ≡ e)

-- entries over frame n were changed so, and nothing else was
module _ {mode : ℕ} where
  pub record ChangesLeaves (change : Change) (n : ℕ) (old new : Picture mode) : Type 0 where
    pub beside : SameBeside old new
    pub frames : frame_count new.frames ≡ frame_count old.frames
    pub bytes : (m : ℕ) → role_of old.frames m ≢ Role.Table → bytes_of new.frames m ≡ bytes_of old.frames m
    pub roles : (m : ℕ) → role_of new.frames m ≡ role_of old.frames m
    pub counts : (m : ℕ) → count_of new.frames m ≡ count_of old.frames m
    pub views : (pid page : ℕ) → view new pid page ≡ view old pid page
    pub ends : (pid r page : ℕ) → old.root pid ≡ Some r → last_table new.frames page (top_level mode) r ≡ last_table old.frames page (top_level mode) r
    pub pointers : (n i m : ℕ) → Points old.frames n i m → Points new.frames n i m
    pub entries : (pid page : ℕ) → IsPage (top_level mode) page
        → (entry new pid page ≡ entry old pid page) ⊎ (IsOver old change n pid page × IsChanged change (entry old pid page) (entry new pid page))

module _ {M : Type 0} {m : Levels.Ghosts M} {D E : Type 0} where
  -- all but frames is as it was
  pub record KeepsAllButFrames (old new : Core D E M m) : Type 0 where
    pub store : new.store ≡ old.store
    pub swap : new.swap ≡ old.swap
    pub cache : new.cache ≡ old.cache
    pub roots : new.roots ≡ old.roots
    pub regions : new.regions ≡ old.regions
    pub page_of : new.page_of ≡ old.page_of
    pub clock : new.clock ≡ old.clock
    pub keep : new.keep ≡ old.keep
    pub looks : new.looks ≡ old.looks
    pub refused : new.refused ≡ old.refused

-- the page of a file or an object so many pages further on
abbrev pub key_after : PageKey → ℕ → PageKey
key_after (File page) count = File (file_page_after page count)
key_after (Object page) count = Object (object_page_after page count)

-- page k of the run stands on that page of a file or an object
pub record IsPageOver (run : Run) (p : PageKey) (k : ℕ) : Type 0 where
  pub from : run.first ≤ k
  pub below : k < run.end
  pub is : stands_on (attr_after run.attr (k - run.first)).backing ≡ Some p

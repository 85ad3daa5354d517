-- The steps on the way to pages of a file that are dropped past a length.
use Rattle.vm_types.specs.declared.mode.Levels as Levels
use Rattle.std.specs.Prelude.{◌≡◌, ◌⊎◌, ℕ, ◌-◌, ◌<◌, ◌≤◌, Bool, true, false, Some}
use Rattle.vm_types.specs.Attributes.{attr_after}
use Rattle.vm_types.specs.Limits.{top_level, user_start, user_end}
use Rattle.vm_types.specs.declared.object.PageKey.{PageKey}
use Rattle.frames.specs.declared.role.Role.TheVariants.{Free}
use Rattle.frames.specs.FrameTable.{frame_count, role_of}
use Rattle.swap.specs.Slots.{IsInUse}
use Rattle.page_tables.specs.Tree.{IsPage}
use Rattle.regions.specs.declared.run.Run.{Run}
use Rattle.page_cache.specs.declared.place.Place.TheVariants.{Home}
use Rattle.residency.specs.declared.kernel.Core.{Core}
use Rattle.residency.specs.Picture.{Picture, picture_of, is_live, entry, view, held}
use Rattle.residency.specs.Parts.{IsFit}
use Rattle.residency.specs.Calls.{KeepsBesidePlaces}
use Rattle.ranges.specs.Steps.{KeepsBesideMemory}
use Rattle.truncation.specs.Cuts.{is_past_key, stands_past, is_mapped_past}

module _ {mode : ℕ} where
  -- A step leaves processes and files alone:
  pub record KeepsMaps (old new : Picture mode) : Type 0 where
    -- the same live, with the same pages, and every file has the length that it had.
    pub root : (pid : ℕ) → new.root pid ≡ old.root pid
    pub at : (pid page : ℕ) → new.at pid page ≡ old.at pid page
    pub files : (f : ℕ) → new.files f ≡ old.files f

  -- A step takes no memory and no swap:
  pub record TakesNone (old new : Picture mode) : Type 0 where
    -- each frame has the use that it had, or is free,
    pub frames : frame_count new.frames ≡ frame_count old.frames
    pub roles : (n : ℕ) → (role_of new.frames n ≡ role_of old.frames n) ⊎ (role_of new.frames n ≡ Free)
    -- and shares of slots were given back alone: each that is still in use has its bytes.
    pub total : new.slots.total ≡ old.slots.total
    pub fewer : (k : ℕ) → new.slots.count k ≤ old.slots.count k
    pub bytes : (k : ℕ) → IsInUse new.slots k → new.slots.bytes k ≡ old.slots.bytes k

  -- A page of a file or an object lies where it lay, with the bytes that it had, and touched or not as it was.
  pub record KeepsKey (old new : Picture mode) (p : PageKey) : Type 0 where
    pub place : new.place p ≡ old.place p
    pub touched : new.touched p ≡ old.touched p
    pub held : held new p ≡ held old p

  -- a page of a process has the entry that it had, and is seen as it was
  abbrev pub KeepsPage : Picture mode → Picture mode → ℕ → ℕ → Type 0
  KeepsPage old new pid page = (entry new pid page ≡ entry old pid page) × (view new pid page ≡ view old pid page)

  -- a page over a page of the file that begins at or past the length has no entry any more
  abbrev pub LosesEntry : Picture mode → Picture mode → ℕ → ℕ → ℕ → ℕ → Type 0
  LosesEntry old new file length pid page = (is_mapped_past file length (old.at pid page) ≡ true) × (entry new pid page ≡ 0)

  -- Pages of processes that stand on pages of a file past a length lose their entries, some of them:
  pub record ClearsSome (old new : Picture mode) (file length : ℕ) : Type 0 where
    -- each page is such a page, and has none, or is as it was;
    pub pages : (pid page : ℕ) → IsPage (top_level mode) page → KeepsPage old new pid page ⊎ LosesEntry old new file length pid page
    -- every page of a file or an object is as it was, and so are all processes and files, and no memory is taken.
    pub keys : (p : PageKey) → KeepsKey old new p
    pub maps : KeepsMaps old new
    pub takes : TakesNone old new

  -- those of the pages from low up to, not including, high of a process that stand on such a page have no entries
  abbrev pub IsBareIn : Picture mode → ℕ → ℕ → ℕ → ℕ → ℕ → Type 0
  IsBareIn c file length pid low high =
      (page : ℕ) → IsPage (top_level mode) page → low ≤ page → page < high → is_mapped_past file length (c.at pid page) ≡ true → entry c pid page ≡ 0

  -- no page of a process that stands on such a page has an entry
  abbrev pub IsBarePast : Picture mode → ℕ → ℕ → Type 0
  IsBarePast c file length = (pid page : ℕ) → IsPage (top_level mode) page → is_mapped_past file length (c.at pid page) ≡ true → entry c pid page ≡ 0

  -- A run is one of a live process:
  pub record IsRunOf (c : Picture mode) (pid : ℕ) (run : Run) : Type 0 where
    -- memory is fit,
    pub fit : IsFit c
    pub live : is_live c pid ≡ true
    -- and its pages, which are some of the user's, are mapped as it says.
    pub low : user_start ≤ run.first
    pub some : run.first < run.end
    pub high : run.end ≤ user_end mode
    pub mapped : (k : ℕ) → run.first ≤ k → k < run.end → c.at pid k ≡ Some (attr_after run.attr (k - run.first))

  -- Pages of a file past a length go home, some of them:
  pub record ForgetsSome (old new : Picture mode) (file length : ℕ) : Type 0 where
    -- each page of a file or an object lies where it lay, or is at home, and each that is no such page is as it was;
    pub place : (p : PageKey) → (new.place p ≡ old.place p) ⊎ (new.place p ≡ Home)
    pub keys : (p : PageKey) → is_past_key file length p ≡ false → KeepsKey old new p
    -- every page of a process has the entry that it had, and is seen as it was,
    pub entries : (pid page : ℕ) → IsPage (top_level mode) page → entry new pid page ≡ entry old pid page
    pub views : (pid page : ℕ) → view new pid page ≡ view old pid page
    -- and all processes and files are as they were, and no memory is taken.
    pub maps : KeepsMaps old new
    pub takes : TakesNone old new

-- whether page k of the run stands on a page of the file that begins at or past the length
abbrev pub is_run_past : Run → ℕ → ℕ → ℕ → Bool
is_run_past run file length k = stands_past file length (attr_after run.attr (k - run.first)).backing

-- the pages of a run from that one on are all that stand on such a page of the file
pub record IsFirstPast (run : Run) (file length first : ℕ) : Type 0 where
  pub from : run.first ≤ first
  pub within : first < run.end
  pub past : (k : ℕ) → first ≤ k → k < run.end → is_run_past run file length k ≡ true
  pub before : (k : ℕ) → run.first ≤ k → k < first → is_run_past run file length k ≡ false

module _ {M : Type 0} {m : Levels.Ghosts M} {D E : Type 0} where
  -- Pages of processes that stand on pages of a file past a length lose their entries, some of them,
  pub record ClearsMore (old new : Core D E M m) (file length : ℕ) : Type 0 where
    pub some : ClearsSome (picture_of old) (picture_of new) file length
    -- memory is fit, and nothing but frames and the share counts of slots changes.
    pub fit : IsFit (picture_of new)
    pub rest : KeepsBesideMemory old new
    pub refused : new.refused ≡ old.refused

  -- Of the pages of a process from one up to, not including, another all such pages lose their entries.
  pub record ClearsIn (old new : Core D E M m) (file length pid low high : ℕ) : Type 0 where
    pub more : ClearsMore old new file length
    pub bare : IsBareIn (picture_of new) file length pid low high

  -- All such pages of all processes do.
  pub record ClearsPast (old new : Core D E M m) (file length : ℕ) : Type 0 where
    pub more : ClearsMore old new file length
    pub bare : IsBarePast (picture_of new) file length

  -- Pages of a file past a length go home, some of them,
  pub record ForgetsMore (old new : Core D E M m) (file length : ℕ) : Type 0 where
    pub some : ForgetsSome (picture_of old) (picture_of new) file length
    -- memory is fit, and nothing but places of pages, frames and slots changes.
    pub fit : IsFit (picture_of new)
    pub rest : KeepsBesidePlaces old new

  -- All of them do.
  pub record ForgetsPast (old new : Core D E M m) (file length : ℕ) : Type 0 where
    pub more : ForgetsMore old new file length
    pub gone : (p : PageKey) → is_past_key file length p ≡ true → (picture_of new).place p ≡ Home

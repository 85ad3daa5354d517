-- What the looks of the clock leave.
use Rattle.vm_types.specs.declared.mode.Levels as Levels
use Rattle.std.specs.Prelude.{◌≡◌, ◌≢◌, ◌⊎◌, ℕ, ◌+◌, ◌*◌, ◌≤◌, true, Option, Result, IfOk, OnErr, MatchResult}
use Rattle.vm_types.specs.Limits.{top_level}
use Rattle.sv39_walk.specs.Entry.{frame_of}
use Rattle.page_tables.specs.Tree.{IsPage}
use Rattle.std.specs.declared.result.Result.TheVariants.{Ok, Err}
use Rattle.clock_replace.specs.declared.clock.Clock.{Clock}
use Rattle.clock_replace.specs.declared.clock.NoVictim.{NoVictim}
use Rattle.clock_replace.specs.declared.frame_view.FrameView as FrameView
use Rattle.clock_replace.specs.Choice.{GoesRound}
use Rattle.frames.specs.FrameTable.{frame_count, IsFrame, IsFull}
use Rattle.vm_types.specs.declared.number.FrameNo.{FrameNo}
use Rattle.vm_types.specs.declared.refusal.Stall.{Stall}
use Rattle.vm_types.specs.declared.refusal.Stall.TheVariants.{NoFrames, NoSwap, SwapDevice, StoreDevice}
use Rattle.residency.specs.declared.kernel.Core.{Core}
use Rattle.residency.specs.Picture.{Picture, picture_of, entry, is_swapped}
use Rattle.residency.specs.Parts.{IsFit}
use Rattle.residency.specs.Calls.{Frees}
use Rattle.residency.specs.Evictions.{ClearsMarks, IsAccessed, IsEvictable, Looked}

module _ {M : Type 0} {m : Levels.Ghosts M} {D E : Type 0} where
  pub record Follows (old new : Core D E M m) (keep keep' : Option FrameNo) : Type 0 where
    pub kept : keep' ≡ keep
    pub frees : (s : Picture m.mode) → Frees s (picture_of old) keep → Frees s (picture_of new) keep'
    pub marks : (s : Picture m.mode) → ClearsMarks s (picture_of old) → ClearsMarks s (picture_of new)
    pub full : IsFull old.frames → IsFull new.frames
    pub looked : Looked old new

  -- frames as the clock sees them
  abbrev pub seen : FrameView.Ghosts (Core D E M m)
  seen = record {
    total = λ c. frame_count c.frames;
    looks = λ c. c.looks.number;
    evictable_at = λ c n. IsEvictable (picture_of c) c.keep n;
    marked = λ c n. IsAccessed (picture_of c) n;
    is_open = λ c. IsFit (picture_of c);
    follows = λ a b. Follows a b a.keep b.keep;
  }

  -- The clock was asked for a frame, but not this one: it went round the frames from where its hand stood, and came to that
  -- choice, and to stand so.
  pub record AsksClock (old : Core D E M m) (keep : Option FrameNo) (choice : Result FrameNo NoVictim) (clock : Clock) : Type 0 where
    -- memory as it was asked, and as it left it
    pub asked : Core D E M m
    pub left : Core D E M m
    pub same : picture_of asked ≡ picture_of old
    pub keeps : asked.keep ≡ keep
    pub round : GoesRound seen asked left old.clock clock choice

  -- The same, and memory is left as the clock left it: it alone cleared marks.
  pub record LeftByClock (old new : Core D E M m) (keep : Option FrameNo) (choice : Result FrameNo NoVictim) : Type 0 where
    pub asked : Core D E M m
    pub same : picture_of asked ≡ picture_of old
    pub keeps : asked.keep ≡ keep
    pub round : GoesRound seen asked new old.clock new.clock choice

  -- Memory is as the clock left it, but for what lay in the frame that it chose: no other entry was changed.
  pub record IsLeftBut (old new : Core D E M m) (keep : Option FrameNo) (n : FrameNo) : Type 0 where
    pub left : Core D E M m
    pub clock : LeftByClock old left keep (Ok n)
    pub entries : (pid page : ℕ) → IsPage (top_level m.mode) page
        → (is_swapped (entry (picture_of left) pid page) ≡ true) ⊎ (frame_of (entry (picture_of left) pid page) ≢ n.0)
        → entry (picture_of new) pid page ≡ entry (picture_of left) pid page

  -- what the clock came to where no frame is to be had: to none, or to one that was tried
  abbrev pub TurnsFor : Core D E M m → Option FrameNo → Clock → Stall → Type 0
  TurnsFor old keep clock NoFrames = (none : NoVictim) × AsksClock old keep (Err none) clock
  TurnsFor old keep clock NoSwap = (none : NoVictim) × AsksClock old keep (Err none) clock
  TurnsFor old keep clock SwapDevice = (tried : FrameNo) × AsksClock old keep (Ok tried) clock
  TurnsFor old keep clock StoreDevice = (tried : FrameNo) × AsksClock old keep (Ok tried) clock

  -- A frame is asked for, but not this one. Where one is free, the clock stands as it stood; where none is, it chooses the one
  -- that is returned. It looks at each frame twice at most.
  pub record TurnsClock (old new : Core D E M m) (keep : Option FrameNo) (result : Result FrameNo Stall) : Type 0 where
    pub stands : (IsFull old.frames → ⊥) → new.clock ≡ old.clock
    pub turns : IsFull old.frames → MatchResult result (λ n. AsksClock old keep (Ok n) new.clock) (TurnsFor old keep new.clock)
    pub looks : new.looks.number ≤ old.looks.number + 2 * frame_count old.frames

  -- The same, told as one fact, which is opened where it is asked for.
  unfoldable pub ChoosesByClock : Core D E M m → Core D E M m → Option FrameNo → Result FrameNo Stall → Type 0
  ChoosesByClock old new keep result = TurnsClock old new keep result

  -- A frame is looked for that may be given up, but not this one:
  pub record FindsVictim (old new : Core D E M m) (keep : Option FrameNo) (result : Result FrameNo NoVictim) : Type 0 where
    -- it is returned, or there is none;
    pub found : IfOk result (λ n. IsEvictable (picture_of new) keep n.0)
    pub none : OnErr result ((n : ℕ) → IsFrame new.frames n → IsEvictable (picture_of new) keep n → ⊥)
    -- memory is fit, no page is seen otherwise, marks of accesses alone were cleared, no frame came free,
    pub fit : IsFit (picture_of new)
    pub frees : Frees (picture_of old) (picture_of new) keep
    pub marks : ClearsMarks (picture_of old) (picture_of new)
    pub looked : Looked old new
    pub full : IsFull old.frames → IsFull new.frames
    -- and the clock chose it, which looked at each frame twice at most.
    pub clock : AsksClock old keep result new.clock
    pub left : LeftByClock old new keep result
    pub looks : new.looks.number ≤ old.looks.number + 2 * frame_count old.frames

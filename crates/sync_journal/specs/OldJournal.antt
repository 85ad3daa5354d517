-- The journal of a store of layout 1, 2 or 3 from which an upgrade makes one of a later layout, and which is only read.
use Rattle.std.specs.Prelude.{ℕ, ◌≡◌, ◌≤◌, ◌⊎◌, true, false, List, length, take, Result, IfOk, OnOk, IsErrOf}
use Rattle.disk_model.specs.Stop.{Image, NamesOnce}
use Rattle.disk_model.specs.Moments.{AsksOnly}
use Rattle.disk_model.specs.declared.sector_disk.SectorDisk.{Ghosts}
use Rattle.sync_journal.specs.Layout.{Sizes, IsMapIn}
use Rattle.sync_journal.specs.Map.{home_rank}
use Rattle.sync_journal.specs.OldLayouts.{old_gate, sizes_under, sizes_in, holds_in, old_place, IsBadOld}
use Rattle.sync_journal.specs.Standing.{place_or_home_in}
use Rattle.sync_journal.specs.Steps.{LooksOnly}
use Rattle.sync_journal.specs.declared.faults.RecoverFault.{RecoverFault}
use Rattle.sync_journal.specs.declared.faults.RecoverFault.TheVariants.{BadJournal}
use Rattle.sync_journal.specs.declared.version.Version.{Version}
use Rattle.sync_journal.specs.declared.old_journal.OldJournal.{OldJournal}

-- the homes of the pages in the body, and where that lies
abbrev pub old_homes : OldJournal → List ℕ
old_homes journal = take journal.count journal.homes

abbrev pub old_sizes : OldJournal → Sizes
old_sizes journal = sizes_under journal.version journal.is_open

-- A page stands in the journal's body at its place in the list of its homes, and in its home where the list doesn't name it.
pub record StandsAsFound (journal : OldJournal) (image : Image) : Type 0 where
  pub at : (h : ℕ) → old_place journal.version image h ≡ place_or_home_in (old_sizes journal) h (home_rank (old_homes journal) h)

-- a sector of the gate, or of a map
abbrev pub IsOldTable : Version → ℕ → Type 0
IsOldTable layout k = (k ≡ old_gate layout) ⊎ (IsMapIn (sizes_under layout true) k ⊎ IsMapIn (sizes_under layout false) k)

-- the gate, and where pages stand in the journal its map
abbrev pub IsLookedAtIn : Version → Image → ℕ → Type 0
IsLookedAtIn layout image k = (k ≡ old_gate layout) ⊎ ((holds_in layout image ≡ true) × IsMapIn (sizes_in layout image) k)

module _ {D : Type 0} (g : Ghosts D) where
  -- The journal of a store of this layout is looked for:
  pub record FindsOld (layout : Version) (old new : D) (result : Result OldJournal RecoverFault) : Type 0 where
    -- it is that of this layout, names no more homes than it has room for, and says where each page stands,
    pub version : IfOk result (λ journal. journal.version ≡ layout)
    pub few : IfOk result (λ journal. length (old_homes journal) ≤ (old_sizes journal).most)
    pub found : g.keeps_model new → IfOk result (λ journal. StandsAsFound journal (g.content old))
    -- nothing is written, and nothing but gate and map asked for, each sector once, and the map only where pages stand in the journal,
    pub looks : LooksOnly g old new result
    pub open looks use *
    pub asks : AsksOnly g (IsOldTable layout) old new
    pub once : g.keeps_model new → NamesOnce (IsLookedAtIn layout (g.content old)) (g.asked old) (g.asked new)
    -- and it is refused exactly where it is bad, unless the device failed.
    pub good : g.keeps_model new → OnOk result (IsBadOld layout (g.sector_count old) (g.content old) → ⊥)
    pub bad : g.keeps_model new → IsErrOf result BadJournal → IsBadOld layout (g.sector_count old) (g.content old)

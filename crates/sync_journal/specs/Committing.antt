-- What a commit comes to, of any layout, and of layout 2.
use Rattle.std.specs.Prelude.{ℕ, List, [], length, ◌≡◌, Result, OnOk, IsErrOf}
use Rattle.disk_model.specs.Stop.{Image, NamesOnce}
use Rattle.disk_model.specs.Moments.{LeavesOnly, AsksOnly}
use Rattle.disk_model.specs.declared.sector_disk.SectorDisk.{Ghosts}
use Rattle.sync_journal.specs.Layout.{gate_sector, IsPublished, IsOpened, IsCommitted}
use Rattle.sync_journal.specs.Gate.{closed_gate}
use Rattle.sync_journal.specs.Map.{map_bytes}
use Rattle.sync_journal.specs.Standing.{map_of}
use Rattle.sync_journal.specs.Commit.{changed, IsLive, one_journal}
use Rattle.sync_journal.specs.Journal.{live_homes}
use Rattle.sync_journal.specs.Steps.{TakesPages}
use Rattle.sync_journal.specs.declared.faults.CommitFault.{CommitFault}
use Rattle.sync_journal.specs.declared.faults.CommitFault.TheVariants.{Source}
use Rattle.sync_journal.specs.declared.source.PageSource as Pages
use Rattle.sync_journal.specs.declared.journal.Journal.{Journal}
use Rattle.sync_journal.specs.Layouts.{Layout, HomesStandAs, IsKept, IsSettled, StandsForEitherPages}

-- The image stands for the home pages of the old one, or for those with these put for these homes.
abbrev pub HomesStandOr : {J : Type 0} → Layout J → ℕ → List ℕ → (ℕ → List ℕ) → Image → Image → Type 0
HomesStandOr layout sectors homes pages old image = IsKept layout sectors old (StandsForEitherPages layout (layout.standing old) (changed (layout.standing old) homes pages)) image

module _ {D S : Type 0} (g : Ghosts D) (s : Pages.Ghosts S) where
  -- The pages that a source gives stand for homes, all at once; the journal is in one state after it, and in the other where the source failed:
  pub record PutsPages {J : Type 0} (layout : Layout J) (Written : ℕ → Type 0) (Once : Type 0) (after back : J) (homes : List ℕ) (old new : D) (from left : S) (result : Result (Unit {0}) CommitFault) : Type 0 where
    -- the device stands for the pages of after, now and after every stop;
    pub ok : g.keeps_model new → s.keeps_model left
        → OnOk result (IsSettled layout g (g.sector_count old) (g.content old) after new (changed (layout.standing (g.content old)) homes (s.pages from)))
    -- whatever the source gives, it is at rest then, and outside as it was.
    pub rest : g.keeps_model new → OnOk result (layout.IsRest g after new)
    pub outside : g.keeps_model new → OnOk result ((k : ℕ) → layout.IsOutside (g.content old) (g.sector_count old) k → g.content new k ≡ g.content old k)
    -- Every image of a stop at any moment of the call stands for the pages before or after,
    pub any_moment : g.keeps_model new → s.keeps_model left → LeavesOnly g old new (HomesStandOr layout (g.sector_count old) homes (s.pages from) (g.content old))
    -- and no sector is asked for more often than it takes;
    pub once : Once
    -- or device or source failed, and where the source did, for the pages before.
    pub takes : TakesPages g s Written old new from left result
    pub open takes use *
    pub source : g.keeps_model new → IsErrOf result Source → IsSettled layout g (g.sector_count old) (g.content old) back new (layout.standing (g.content old))
    pub source_moments : g.keeps_model new → IsErrOf result Source → LeavesOnly g old new (HomesStandAs layout (g.sector_count old) (g.content old))

  -- A commit over a journal in this state:
  abbrev pub CommitsOver : {J : Type 0} → Layout J → J → J → J → List ℕ → D → D → S → S → Result (Unit {0}) CommitFault → Type 0
  CommitsOver layout was after back homes old new from left result = PutsPages layout (layout.IsCommitted was) (layout.AsksOnce g was homes old new) after back homes old new from left result

  -- Pages stand in the journal of a closed gate:
  pub record Publishes (homes : List ℕ) (old new : D) (from left : S) (result : Result (Unit {0}) CommitFault) : Type 0 where
    pub puts : PutsPages one_journal IsPublished (NamesOnce (IsOpened (length homes)) (g.asked old) (g.asked new)) homes [] homes old new from left result
    pub open puts use *
    -- it is live with these homes, all of it synced: its map names them, and where the source failed its gate holds what it did.
    pub lives : g.keeps_model new → OnOk result (IsLive g homes new)
    pub map : g.keeps_model new → OnOk result (map_of (g.content new) ≡ map_bytes homes)
    pub source_gate : g.keeps_model new → IsErrOf result Source → g.content new gate_sector ≡ g.content old gate_sector

  -- The journal of layout 2 commits:
  pub record CommitsOne (was now : Journal) (homes : List ℕ) (old new : D) (from left : S) (result : Result (Unit {0}) CommitFault) : Type 0 where
    pub puts : CommitsOver one_journal (live_homes was) homes [] homes old new from left result
    pub open puts use *
    -- it is live with these homes, which its map names, all of it synced;
    pub live : OnOk result (live_homes now ≡ homes)
    pub map : g.keeps_model new → OnOk result (map_of (g.content new) ≡ map_bytes homes)
    pub synced : g.keeps_model new → OnOk result ((k : ℕ) → g.unsynced new k → ⊥)
    -- the gate, the journal and the homes of the commit before are asked for alone;
    pub asks_device : AsksOnly g (IsCommitted (live_homes was)) old new
    -- where the source failed the pages of the commit before are home, the gate is closed, and no journal is live.
    pub not_live : IsErrOf result Source → live_homes now ≡ []
    pub source_gate : g.keeps_model new → IsErrOf result Source → g.content new gate_sector ≡ closed_gate (g.content old)

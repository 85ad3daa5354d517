-- What a recovery comes to, of any layout, and of layout 2.
use Rattle.std.specs.Prelude.{ℕ, ◌≡◌, [], Result, IfOk, OnOk, IsErrOf}
use Rattle.disk_model.specs.Stop.{Image}
use Rattle.disk_model.specs.Moments.{LeavesOnly, Touches, AsksOnly, Nothing}
use Rattle.disk_model.specs.declared.sector_disk.SectorDisk.{Ghosts}
use Rattle.sync_journal.specs.Layout.{gate_sector}
use Rattle.sync_journal.specs.Gate.{closed_gate}
use Rattle.sync_journal.specs.Runs.{RunsOnDevice}
use Rattle.sync_journal.specs.Steps.{BlamesJournal}
use Rattle.sync_journal.specs.declared.faults.RecoverFault.{RecoverFault}
use Rattle.sync_journal.specs.declared.faults.RecoverFault.TheVariants.{BadJournal}
use Rattle.sync_journal.specs.Commit.{one_journal}
use Rattle.sync_journal.specs.Layouts.{Layout, HomesStandAs, IsSettled}

module _ {D : Type 0} (g : Ghosts D) where
  -- Where nothing is unsynced, as after a stop,
  pub record StaysThrough (StandsAs : Image → Image → Type 0) (old new : D) : Type 0 where
    -- every image of a stop at any moment of the call stands for the same pages,
    pub any_moment : g.keeps_model new → ((k : ℕ) → g.unsynced old k → ⊥) → LeavesOnly g old new (StandsAs (g.content old))
    -- and for what stood before an earlier stop, whose image the device holds.
    pub in_a_row : g.keeps_model new → ((k : ℕ) → g.unsynced old k → ⊥) → (first : Image) → StandsAs first (g.content old) → LeavesOnly g old new (StandsAs first)

  -- A recovery restores what stood, and the journal is in the state that its result tells:
  pub record Restores {S T : Type 0} (layout : Layout S) (state : T → S) (old new : D) (result : Result T RecoverFault) : Type 0 where
    -- the device is at rest, stands for what it did, and has nothing unsynced,
    pub ok : g.keeps_model new → IfOk result (λ found. IsSettled layout g (g.sector_count old) (g.content old) (state found) new (layout.standing (g.content old)))
    pub synced : g.keeps_model new → OnOk result ((k : ℕ) → g.unsynced new k → ⊥)
    -- as it stood for at every moment;
    pub stays : StaysThrough (HomesStandAs layout (g.sector_count old)) old new
    pub open stays use *
    -- what a recovery writes is written alone, and nothing where the journal is bad or no page stands in it;
    pub run : RunsOnDevice g (layout.IsRecovered (g.content old) (g.sector_count old)) old new
    pub open run use *
    pub bad_unwritten : g.keeps_model new → layout.IsBad (g.sector_count old) (g.content old) → Touches g Nothing old new
    pub closed_unwritten : g.keeps_model new → layout.IsClosed (g.content old) → Touches g Nothing old new
    -- what it looks at and copies alone is asked for;
    pub asks : g.keeps_model new → AsksOnly g (layout.IsAsked (g.content old)) old new
    -- or the device failed, or the journal is bad, and with a bad one there is no other end.
    pub blames : BlamesJournal g old new result
    pub open blames use *
    pub good : g.keeps_model new → OnOk result (layout.IsBad (g.sector_count old) (g.content old) → ⊥)
    pub bad : g.keeps_model new → IsErrOf result BadJournal → layout.IsBad (g.sector_count old) (g.content old)

  -- A recovery, after which the journal is in the state that its result tells:
  pub record RecoversBy {S T : Type 0} (layout : Layout S) (state : T → S) (old new : D) (result : Result T RecoverFault) : Type 0 where
    -- what stood is restored,
    pub restores : Restores layout state old new result
    pub open restores use *
    -- and no page stands in a journal alone.
    pub emptied : g.keeps_model new → OnOk result (layout.IsClosed (g.content new))

  -- The journal of layout 2 is recovered:
  pub record RecoversOne (old new : D) (result : Result (Unit {0}) RecoverFault) : Type 0 where
    pub recovers : RecoversBy one_journal (λ done. []) old new result
    pub open recovers use *
    -- its gate holds zeros where it was open.
    pub gate : g.keeps_model new → OnOk result (g.content new gate_sector ≡ closed_gate (g.content old))

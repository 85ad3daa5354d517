-- What a commit does to its source, and when it tells which fault.
use Rattle.std.specs.Prelude.{ℕ, ◌<◌, ◌≤◌, ◌≡◌, ◌⊎◌, List, length, Result, OnOk, IsErrOf}
use Rattle.sync_journal.specs.Map.{AreHomes}
use Rattle.sync_journal.specs.declared.faults.CommitFault.{CommitFault}
use Rattle.sync_journal.specs.declared.faults.CommitFault.TheVariants.{Source, Device}
use Rattle.sync_journal.specs.declared.source.PageSource.{Ghosts}

-- Pages were asked of the source, and nothing else was done to it.
pub record Asks {S : Type 0} (g : Ghosts S) (old new : S) : Type 0 where
  pub kept : g.keeps_model new → g.keeps_model old
  pub later : g.failures old ≤ g.failures new
  pub same : g.keeps_model new → (k : ℕ) → g.pages new k ≡ g.pages old k
  pub sure : (k : ℕ) → g.sure old k → g.sure new k × (g.pages new k ≡ g.pages old k)
  pub still : (k : ℕ) → g.gives old k → g.gives new k
  pub follows : g.follows old new

-- What a source gives for page k, over some calls, is that page: what it stands on kept its model, or it is sure of it.
abbrev pub IsTold : {S : Type 0} → Ghosts S → S → S → ℕ → Type 0
IsTold g old new k = g.keeps_model new ⊎ g.sure old k

-- Pages are given for homes: each is one of so many and named once, and the source gives a page for it.
pub record GivesFor {S : Type 0} (g : Ghosts S) (limit : ℕ) (homes : List ℕ) (source : S) : Type 0 where
  pub homes_are : AreHomes limit homes
  pub gives : (i : ℕ) → i < length homes → g.gives source i

-- A fault is told exactly where the one that it names failed in this call: whatever is told, the other one didn't fail.
pub record HasCauses (device_before device_now source_before source_now : ℕ) (result : Result (Unit {0}) CommitFault) : Type 0 where
  pub device_later : device_before ≤ device_now
  pub source_later : source_before ≤ source_now
  pub device : IsErrOf result Device → device_before < device_now
  pub source : IsErrOf result Source → source_before < source_now
  pub device_calm : OnOk result (device_now ≡ device_before)
  pub device_still : IsErrOf result Source → device_now ≡ device_before
  pub source_calm : OnOk result (source_now ≡ source_before)
  pub source_still : IsErrOf result Device → source_now ≡ source_before

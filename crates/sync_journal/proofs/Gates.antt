-- Which gates are open.
use Rattle.disk_model.{proofs.Moments.{after_write}, specs.Stop.{ChangesOnly}}
use Rattle.sync_journal.{proofs.Names.{◌≡◌, ◌≤◌, ◌⊎◌, ℕ, true, false, List, refl, ap, ◌∙◌, replicate, bytes_eq-Decides, Elapses, Ghosts}, specs.{Gate.{open_sector, is_open_sector}, Runs.{RunsOnDevice}}}

pub open_is_open : is_open_sector open_sector ≡ true
unfolding is_open_sector
open_is_open = (bytes_eq-Decides open_sector open_sector).1 refl

-- a gate of zeros is closed
pub zeros_are_closed : is_open_sector (replicate 512 0) ≡ false
unfolding is_open_sector open_sector
zeros_are_closed = refl

pub opened : (sector : List ℕ) → sector ≡ open_sector → is_open_sector sector ≡ true
opened sector e = ap is_open_sector e ∙ open_is_open

pub closed : (sector : List ℕ) → sector ≡ replicate 512 0 → is_open_sector sector ≡ false
closed sector e = ap is_open_sector e ∙ zeros_are_closed

-- one sector is written
pub sector_run : {D : Type 0} (g : Ghosts D) (n : ℕ) (old new : D) → g.sector_count new ≡ g.sector_count old → (g.keeps_model new → g.keeps_model old) → g.failures old ≤ g.failures new
    → (g.keeps_model new → ChangesOnly n (g.content old) (g.content new)) → (g.keeps_model new → (k : ℕ) → g.unsynced new k → g.unsynced old k ⊎ (k ≡ n))
    → (g.keeps_model new → Elapses (g.moment old) (g.moment new) (g.left_since old) (g.left_since new) (g.content new) (g.unsynced new)) → RunsOnDevice g (λ k. k ≡ n) old new
sector_run g n old new size kept later changes marks time =
    record { size = size; kept = kept; later = later; touches = λ h. after_write g (λ k. k ≡ n) n old new refl (changes h) (marks h) (time h) }

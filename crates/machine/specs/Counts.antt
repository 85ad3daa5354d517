-- How often devices failed and requests for a frame were refused in a run, by its replies. Our own.
use Rattle.std.specs.Prelude.{ℕ, ◌+◌, ◌≡◌, ◌≤◌, List, sum_by, if◌then◌else◌}
use Rattle.disk_model.specs.declared.sector_disk.SectorDisk.{Ghosts}
use Rattle.vm_types.specs.declared.reply.Reply.{Reply}
use Rattle.spaces.specs.Idle.{names_store, names_swap, refused_count}
use Rattle.machine.specs.declared.machine.Machine.{Machine}
use Rattle.machine.specs.Machine.{store_of, swap_of, refused_of}

-- how often the store failed, at the least, where a command returns this
abbrev pub failed_count : Reply → ℕ
failed_count reply = if names_store reply then 1 else 0

-- how often the swap device failed, at the least, where a command returns this
abbrev pub swap_failed_count : Reply → ℕ
swap_failed_count reply = if names_swap reply then 1 else 0

module _ {D E : Type 0} (g : Ghosts D) (h : Ghosts E) where
  -- As many requests for a frame were refused as replies say. Each device failed for each reply that names it, and where
  -- none does, not at all.
  pub record Counts (old new : Machine D E) (replies : List Reply) : Type 0 where
    pub refused : refused_of new ≡ refused_of old + sum_by refused_count replies
    pub failed : g.failures (store_of old) + sum_by failed_count replies ≤ g.failures (store_of new)
    pub swap_failed : h.failures (swap_of old) + sum_by swap_failed_count replies ≤ h.failures (swap_of new)
    pub calm : sum_by failed_count replies ≡ 0 → g.failures (store_of new) ≡ g.failures (store_of old)
    pub swap_calm : sum_by swap_failed_count replies ≡ 0 → h.failures (swap_of new) ≡ h.failures (swap_of old)

-- What a plan says of the device that it is for.
use Rattle.std.specs.Prelude.{ℕ, ◌+◌, ◌<◌, ◌⊎◌, List}
use Rattle.disk_model.specs.Asked.{times_named}
use Rattle.disk_model.specs.Stop.{Image, MayLeave}
use Rattle.sync_plans.specs.declared.plan_disk.PlanDisk.{PlanDisk}
use Rattle.sync_plans.specs.Pages.{lent_page}
use Rattle.sync_plans.specs.Plans.{row, image_after, IsLeftUnsynced}
use Rattle.sync_plans.specs.Device.{PlanLeftSince}

-- the pages that calls may name
abbrev pub pages_of : PlanDisk → ℕ → List ℕ
pages_of d = lent_page d.lent.pages.now

-- what the device holds once the listed calls are made
abbrev pub content_of : PlanDisk → Image
content_of d = image_after d.calls.now d.rows.now (pages_of d) (row d.image.now) d.used

-- the sectors that the listed calls leave unsynced, and those for whose writes there was no room
abbrev pub listed_unsynced : PlanDisk → ℕ → Type 0
listed_unsynced d = IsLeftUnsynced d.calls.now d.used

abbrev pub IsLost : PlanDisk → ℕ → Type 0
IsLost d k = 0 < times_named d.lost k

abbrev pub unsynced_in : PlanDisk → ℕ → Type 0
unsynced_in d k = listed_unsynced d k ⊎ IsLost d k

abbrev pub plan_moment : PlanDisk → ℕ
plan_moment d = d.used + 2

-- what a stop within the listed calls leaves, or within one for which there was no room
abbrev pub listed_left : PlanDisk → ℕ → Image → Type 0
listed_left d = PlanLeftSince d.calls.now d.rows.now (pages_of d) (row d.image.now) d.room d.used

abbrev pub left_in : PlanDisk → ℕ → Image → Type 0
left_in d t c = listed_left d t c ⊎ MayLeave (content_of d) (unsynced_in d) c

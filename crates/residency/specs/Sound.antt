-- Memory is sound in one way at most, and files are bounded in one way at most.
use Rattle.std.specs.Prelude.{ℕ, Option}
use Rattle.std.specs.Coded.{Coded-set}
use Rattle.std.proofs.Props.{props}
use Rattle.vm_types.specs.declared.file.FileInfo.{FileInfo}
use Rattle.file_store.specs.Standing.{AreBounded}
use Rattle.frames.specs.contracts.role.Role as role
use Rattle.frames.specs.declared.role.Role.{Role}
use Rattle.frames.specs.declared.role.Role.TheVariants.{Free, Zero, Table, Private, Cache}
use Rattle.frames.specs.FrameTable.{FrameTable, IsCountFor, IsSound}

Role-set : IsSet Role
Role-set = Coded-set role.the_row.coded

IsCountFor-prop : (r : Role) (c : ℕ) → IsProp (IsCountFor r c)
IsCountFor-prop Free c = hlevel props
IsCountFor-prop Zero c = hlevel props
IsCountFor-prop Table c = hlevel props
IsCountFor-prop Private c = hlevel props
IsCountFor-prop Cache c = hlevel props

pub IsSound-prop : (t : FrameTable) → IsProp (IsSound t)
IsSound-prop t = hlevel (IsCountFor-prop, Role-set, props)

pub AreBounded-prop : (files : ℕ → Option FileInfo) → IsProp (AreBounded files)
AreBounded-prop files = hlevel props

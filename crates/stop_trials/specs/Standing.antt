-- What files hold, and after how many msyncs they do.
use Rattle.std.specs.Prelude.{◌≡◌, ◌≤◌, ◌<◌, ◌++◌, ℕ, List, [], Option, Some, None, slice_get}
use Rattle.std.specs.Int.{to_le_bytes, w64}
use Rattle.vm_types.specs.{Limits.{file_limit}, declared.file.FileInfo.{FileInfo}}
use Rattle.std.specs.Option.{option_map, unwrap_or}
use Rattle.std.specs.declared.alloc.Global.{Global}
use Rattle.std.specs.declared.vec.Vec.{Vec}
use Rattle.disk_model.specs.Stop.{Image}
use Rattle.disk_model.specs.Sectors.{joined}
use Rattle.stores.specs.Images.{file_info, standing_file, IsBadLayout, IsBadJournal}
use Rattle.stores.specs.declared.faults.OpenFault.TheVariants.{BadLayout, BadJournal}
use Rattle.stop_trials.specs.declared.faults.TrialFault.{TrialFault}
use Rattle.stop_trials.specs.declared.faults.TrialFault.TheVariants.{Open}

-- the length of a file in eight bytes, the lowest first; none where there is no such file
abbrev pub length_bytes : Option FileInfo → List ℕ
length_bytes None = []
length_bytes (Some info) = to_le_bytes w64 info.length

-- the length of file f and its bytes, as they stand; none where there is no such file
abbrev pub standing_bytes : ℕ → Image → ℕ → List ℕ
standing_bytes sectors image f = length_bytes (file_info sectors image f) ++ unwrap_or (standing_file sectors image f) []

-- those of all files as they stand, one file after another
abbrev pub standing_contents : ℕ → Image → List ℕ
standing_contents sectors image = joined (standing_bytes sectors image) file_limit

-- what the files hold after so many msyncs
abbrev pub state_after : List (Vec ℕ Global) → ℕ → Option (List ℕ)
state_after states n = option_map (λ v. v.items) (slice_get states n)

-- The files hold what they do after n msyncs, the acknowledged ones among them, and after no fewer of those.
pub record IsStanding (states : List (Vec ℕ Global)) (acknowledged : ℕ) (bytes : List ℕ) (n : ℕ) : Type 0 where
  pub whole : acknowledged ≤ n
  pub same : state_after states n ≡ Some bytes
  pub least : (m : ℕ) → acknowledged ≤ m → m < n → state_after states m ≡ Some bytes → ⊥

-- An image is refused as no store only where its layout is bad, or its journal.
abbrev pub IsUnopenedFor : ℕ → Image → TrialFault → Type 0
IsUnopenedFor sectors image (Open BadLayout) = IsBadLayout sectors image
IsUnopenedFor sectors image (Open BadJournal) = IsBadJournal sectors image
IsUnopenedFor sectors image fault = Unit {0}

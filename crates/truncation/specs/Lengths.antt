-- A file that gets another length.
use Rattle.std.specs.Prelude.{◌≡◌, ◌≢◌, ℕ, Some}
use Rattle.vm_types.specs.Files.{Files}
use Rattle.vm_types.specs.declared.file.FileInfo.{FileInfo}

-- One file is so many bytes long, and every other is as it was.
pub record SetsLength (old new : Files) (file length : ℕ) : Type 0 where
  pub info : FileInfo
  pub there : new file ≡ Some info
  pub bytes : info.length ≡ length
  pub others : (f : ℕ) → f ≢ file → new f ≡ old f

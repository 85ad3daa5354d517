-- Files as they are now.
use Rattle.std.specs.Prelude.{◌≡◌, ℕ, Some}
use Rattle.sized_stores.specs.Store.{SizedDirectory, files_in, is_resized_in, shortest_in}
use Rattle.inspection.specs.declared.files.FileView.{FileView}

-- A file as it is:
pub record IsFileView (d : SizedDirectory) (file : ℕ) (view : FileView) : Type 0 where
  -- there is one, so long and perhaps only to be read,
  pub there : files_in d file ≡ Some (record { length = view.length; read_only = view.is_read_only })
  -- which has been so short since its length was made durable,
  pub shortest : view.shortest ≡ shortest_in d file
  -- and has got another one since, or not.
  pub resized : view.is_resized ≡ is_resized_in d.sizes file

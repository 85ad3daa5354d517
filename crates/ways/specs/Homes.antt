-- What pages of files and objects show that lie in no frame and in no slot.
use Rattle.std.specs.Prelude.{ℕ, ◌*◌, Bool, nat_le, if◌then◌else◌, Option, None, Some}
use Rattle.sized_stores.specs.Store.{SizedDirectory, files_in, shortest_in}
use Rattle.vm_types.specs.Files.{is_past_end_of}
use Rattle.vm_types.specs.declared.object.PageKey.{PageKey}
use Rattle.vm_types.specs.declared.object.PageKey.TheVariants.{File, Object}
use Rattle.inspection.specs.declared.files.FileView.{FileView}
use Rattle.ways.specs.declared.homes.HomeView.{HomeView}
use Rattle.ways.specs.declared.homes.HomeView.TheVariants.{Image, Zeros, PastEnd}

-- a page of a file that begins past its end or not, where nothing is left of what the file had from that length on
abbrev pub home_at : Bool → ℕ → ℕ → HomeView
home_at past shortest page = if past then PastEnd else (if nat_le shortest (4096 * page) then Zeros else Image)

-- the same, by a file as it is
abbrev pub home_by : Option FileView → ℕ → HomeView
home_by None page = PastEnd
home_by (Some file) page = home_at (nat_le file.length (4096 * page)) file.shortest page

-- and of any page, by what a store keeps of files: one of an object is zeros
abbrev pub home_of : SizedDirectory → PageKey → HomeView
home_of d (File p) = home_at (is_past_end_of (files_in d p.file) p.page) (shortest_in d p.file) p.page
home_of d (Object p) = Zeros

-- What the entry of a page in a frame allows.
use Rattle.std.specs.Prelude.{ℕ, Bool, true, false, ◌&&◌, ◌==◌}
use Rattle.vm_types.specs.declared.object.PageKey.TheVariants.{File, Object}
use Rattle.vm_types.specs.declared.region.Attr.{Attr}
use Rattle.vm_types.specs.declared.region.Backing.{Backing}
use Rattle.vm_types.specs.declared.region.Backing.TheVariants.{Anon, Private, Shared, Common}
use Rattle.vm_types.specs.Permission as Permission
use Rattle.frames.specs.FrameTable.{count_of}
use Rattle.page_tables.specs.Leaves.{IsEntryOver}
use Rattle.residency.specs.Picture.{Picture}
use Rattle.residency.specs.Parts.{is_shared}

-- whether stores through a page reach a touched page of a file or an object
module _ {mode : ℕ} where
  abbrev pub is_touched_behind : Picture mode → Backing → Bool
  is_touched_behind c Anon = false
  is_touched_behind c (Private p) = false
  is_touched_behind c (Shared p) = c.touched (File p)
  is_touched_behind c (Common p) = c.touched (Object p)

-- W in the fullest entry of a page over a frame: where the permission has it, over a frame that nobody else has, or that
-- of a shared page
module _ {mode : ℕ} where
  abbrev pub full_write : Picture mode → Attr → ℕ → Bool → Bool
  full_write c attr frame true = (count_of c.frames frame == 1) && Permission.can_write attr.prot
  full_write c attr frame false = is_shared attr.backing && Permission.can_write attr.prot

-- and D: of an own frame with W, and of a touched page of a file or an object with W
module _ {mode : ℕ} where
  abbrev pub full_dirty : Picture mode → Attr → ℕ → Bool → Bool
  full_dirty c attr frame true = full_write c attr frame true
  full_dirty c attr frame false = is_touched_behind c attr.backing && Permission.can_write attr.prot

-- the entry that lets be done all that the page's permission and the sharing of its frame allow
module _ {mode : ℕ} where
  abbrev pub IsFullEntry : Picture mode → Attr → ℕ → Bool → ℕ → Type 0
  IsFullEntry c attr frame private e = IsEntryOver e attr.prot frame private (full_write c attr frame private) (full_dirty c attr frame private)

-- The entry of a page that lies in a frame.
use Rattle.std.specs.Prelude.{◌≡◌, ℕ, ◌+◌, ◌*◌, Bool, true, false, ◌||◌, not, if◌then◌else◌}
use Rattle.vm_types.specs.declared.permission.Prot.{Prot}
use Rattle.vm_types.specs.Permission as Permission
use Rattle.sv39_walk.specs.Entry.{has_bit, is_valid, can_read, can_write, can_execute, is_user, is_accessed, is_dirty, is_private, is_leaf, is_reserved, frame_of}
use Rattle.page_tables.specs.Entry.{number_of}
use Rattle.page_tables.specs.declared.forms.Entry.TheVariants.{Parked}

-- whether a permission lets nothing be done
abbrev pub is_barred : Prot → Bool
is_barred prot = not (Permission.can_read prot || Permission.can_execute prot)

-- A leaf of a user page that was accessed: R and X are as the permission has them, W and D as said.
pub record IsLeaf (e : ℕ) (prot : Prot) (write stored : Bool) : Type 0 where
  pub valid : is_valid e ≡ true
  pub reads : can_read e ≡ Permission.can_read prot
  pub writes : can_write e ≡ write
  pub executes : can_execute e ≡ Permission.can_execute prot
  pub user : is_user e ≡ true
  pub global : has_bit e 5 ≡ false
  pub accessed : is_accessed e ≡ true
  pub dirty : is_dirty e ≡ stored
  pub leaf : is_leaf e ≡ true
  pub unreserved : is_reserved e ≡ false

-- The entry of a page of that permission that lies in the frame, the process's own or not: a leaf with W and D as said,
-- or, where the permission lets nothing be done, a parked frame.
pub record IsEntryOver (e : ℕ) (prot : Prot) (frame : ℕ) (private write stored : Bool) : Type 0 where
  pub names : frame_of e ≡ frame
  pub owned : is_private e ≡ private
  pub leaf : is_barred prot ≡ false → IsLeaf e prot write stored
  pub parked : is_barred prot ≡ true → e ≡ number_of (Parked (record { 0 = frame }) private)

-- a bit of that weight where it is set
abbrev pub weight : Bool → ℕ → ℕ
weight set n = if set then n else 0

-- the number of such a leaf: bits 0, 4 and 6 are V, U and A
unfoldable pub leaf_number : Prot → ℕ → Bool → Bool → Bool → ℕ
leaf_number prot frame private write stored =
    frame * 1024 + weight private 256 + weight stored 128 + weight (Permission.can_execute prot) 8 + weight write 4 + weight (Permission.can_read prot) 2 + 81

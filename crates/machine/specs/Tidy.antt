-- What no page of a process names is kept nowhere: the bytes of a page of shared anonymous memory go with its last name.
use Rattle.std.specs.Prelude.{◌≡◌, ℕ, false, None}
use Rattle.vm_types.specs.Objects.{is_named, maps_of}
use Rattle.vm_types.specs.State.{State}

-- no bytes are kept of a page of an object that no process has
abbrev pub IsTidy : State → Type 0
IsTidy s = (object page : ℕ) → is_named (maps_of s.views) object page ≡ false → s.objects object page ≡ None

-- The numbers of refusals.
use Rattle.std.specs.Prelude.{ℕ}
use Rattle.vm_types.specs.declared.refusal.Errno.{Errno}
use Rattle.vm_types.specs.declared.refusal.Errno.TheVariants.{ESRCH, EIO, EBADF, EAGAIN, ENOMEM, EACCES, EEXIST, EINVAL, EFBIG, ENOSPC, EOVERFLOW}
use Rattle.vm_types.specs.declared.refusal.Stall.{Stall}
use Rattle.vm_types.specs.declared.refusal.Stall.TheVariants.{NoFrames, NoSwap, SwapDevice, StoreDevice}

-- Linux, errno-base.h and errno.h
abbrev pub errno_number : Errno → ℕ
errno_number ESRCH = 3
errno_number EIO = 5
errno_number EBADF = 9
errno_number EAGAIN = 11
errno_number ENOMEM = 12
errno_number EACCES = 13
errno_number EEXIST = 17
errno_number EINVAL = 22
errno_number EFBIG = 27
errno_number ENOSPC = 28
errno_number EOVERFLOW = 75

-- our own
abbrev pub stall_number : Stall → ℕ
stall_number NoFrames = 1
stall_number NoSwap = 2
stall_number SwapDevice = 3
stall_number StoreDevice = 4

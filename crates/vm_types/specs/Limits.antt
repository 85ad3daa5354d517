-- Sizes. The user half of an address space in two modes: RISC-V Privileged Specification, "Sv39: Page-Based 39-bit Virtual-Memory System": three levels of
-- tables, and the addresses below 2 ^ 38 by their sign; "Sv48: Page-Based 48-bit Virtual-Memory System": four levels, and the addresses below 2 ^ 47. A mode is
-- known by the bits of its addresses: 39 is Sv39, and every other number is Sv48. The lowest pages stay free, as on Linux (vm.mmap_min_addr in proc_sys_vm(5)).
use Rattle.std.specs.Prelude.{ℕ, ◌+◌, ◌*◌, ◌^◌, ◌==◌, if◌then◌else◌}

-- the level of a root table
unfoldable pub top_level : ℕ → ℕ
top_level mode = if mode == 39 then 2 else 3

-- the entries of a table
abbrev pub table_entries : ℕ
table_entries = 512

-- the first page that may be mapped
abbrev pub user_start : ℕ
user_start = 16

-- one past the last page that may be mapped
unfoldable pub user_end : ℕ → ℕ
user_end mode = if mode == 39 then 2 ^ 26 else 2 ^ 35

-- one past the last page that may be mapped in any mode
abbrev pub widest_end : ℕ
widest_end = 2 ^ 35

-- the most files of an image
abbrev pub file_limit : ℕ
file_limit = 4096

-- the most pages of a file: an image has no more homes
abbrev pub file_page_limit : ℕ
file_page_limit = 2 ^ 30

-- the most bytes of a file, 4,096 for each of those pages
abbrev pub longest_file : ℕ
longest_file = 2 ^ 42

-- the most objects that processes name at once: each of 64 has at most 256 runs, and a run names one
abbrev pub named_limit : ℕ
named_limit = 64 * 256

-- objects have numbers below this one, of which one is always free
abbrev pub object_limit : ℕ
object_limit = named_limit + 1

-- the most faults that are remembered
abbrev pub fault_limit : ℕ
fault_limit = 16

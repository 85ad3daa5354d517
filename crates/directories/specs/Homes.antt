-- The homes of files.
use Rattle.std.specs.Prelude.{ℕ, ◌+◌, ◌/◌, ◌≡◌, List, take, get_or, slice_get, Option, Some, None}
use Rattle.std.specs.List.{range_with_len, flat_map}
use Rattle.directories.specs.declared.entry.Extent.{Extent}
use Rattle.directories.specs.declared.entry.Entry.{Entry}

-- the extents of a file, in order
abbrev pub extents_of : Entry → List Extent
extents_of e = take e.extent_count e.extents

-- the homes of extents: those of each, one extent after the other
abbrev pub homes_of : List Extent → List ℕ
homes_of extents = flat_map (λ x. range_with_len x.first x.count) extents

-- the home of page p of a file: the p-th home of its extents, counted from 0; none past them
abbrev pub home_of_page : Entry → ℕ → Option ℕ
home_of_page e p = slice_get (homes_of (extents_of e)) p

-- how many pages of 4,096 bytes a file of so many bytes has, the last one in part perhaps
abbrev pub pages_of_length : ℕ → ℕ
pages_of_length length = (length + 4095) / 4096

-- Page p of file f has this home.
pub record HasHome (entries : List (Option Entry)) (f p h : ℕ) : Type 0 where
  pub entry : Entry
  pub file : get_or entries f None ≡ Some entry
  pub home : home_of_page entry p ≡ Some h

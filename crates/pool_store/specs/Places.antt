-- The pages of a commit, in the order of their homes, and with zeros past their files' ends.
use Rattle.std.specs.Prelude.{ℕ, ◌+◌, ◌≡◌, List, [], ◌∷◌, length, take, map, slice_get, slice_index_or, Option, Some, None}
use Rattle.std.specs.List.Sorted.{IsPermutation, IsNonDecreasingBy}
use Rattle.vm_types.specs.{Files.{inside_of}, declared.file.FilePage.{FilePage}}
use Rattle.file_store.specs.Layout.{padded_page}
use Rattle.pool_store.specs.Store.{info_by, home_of}
use Rattle.pool_store.specs.declared.{directory.Directory.{Directory}, room.Place.{Place}}

-- the number of a home
abbrev pub number_of : Option ℕ → ℕ
number_of None = 0
number_of (Some h) = h

-- the homes of pages, one after the other
abbrev pub homes_of_pages : Directory → List FilePage → List ℕ
homes_of_pages directory pages = map (λ p. number_of (home_of directory p)) pages

-- pages with their homes, of which the first has this index
abbrev pub places_from : Directory → ℕ → List FilePage → List Place
places_from directory i [] = []
places_from directory i (p ∷ pages) = record { home = number_of (home_of directory p); index = i } ∷ places_from directory (i + 1) pages

-- the index of the page at a place
abbrev pub index_at : List Place → ℕ → ℕ
index_at places i = (slice_index_or places i (record { home = 0; index = 0 })).index

-- Pages are put into the order of their homes:
pub record PutsInOrder (directory : Directory) (pages : List FilePage) (places : List Place) (homes : List ℕ) : Type 0 where
  -- the first places are those of the pages,
  pub same : IsPermutation (places_from directory 0 pages) (take (length pages) places)
  -- by their homes,
  pub rising : IsNonDecreasingBy (λ place. place.home) (take (length pages) places)
  -- which are listed beside them.
  pub listed : take (length pages) homes ≡ map (λ place. place.home) (take (length pages) places)

-- how many bytes of a page lie inside its file
abbrev pub inside_by : Directory → Option FilePage → ℕ
inside_by directory None = 0
inside_by directory (Some p) = inside_of (info_by directory p.file) p.page

-- and of that at an index of a list
abbrev pub inside_at : Directory → List FilePage → ℕ → ℕ
inside_at directory pages k = inside_by directory (slice_get pages k)

-- what is given for the pages of a list, with zeros past their files' ends
abbrev pub cut_pages : Directory → List FilePage → (ℕ → List ℕ) → ℕ → List ℕ
cut_pages directory pages given k = padded_page (inside_at directory pages k) (given k)

-- The extents of all files in one list, and in the order of their first homes.
use Rattle.std.specs.Prelude.{ℕ, ◌+◌, ◌<◌, ◌≡◌, List, [], ◌∷◌, ◌++◌, length, get_or, Option, Some, None}
use Rattle.std.specs.List.{AllPairs}
use Rattle.std.specs.List.Sorted.{IsPermutation, IsNonDecreasingBy}
use Rattle.directories.specs.declared.entry.Extent.{Extent}
use Rattle.directories.specs.declared.entry.Entry.{Entry}
use Rattle.directories.specs.declared.pieces.Piece.{Piece}
use Rattle.directories.specs.Homes.{extents_of}
use Rattle.directories.specs.Layouts.{ShareHome}

-- extents of file f from place i on, each with its file and place
abbrev pub pieces_in : ℕ → ℕ → List Extent → List Piece
pieces_in f i [] = []
pieces_in f i (x ∷ xs) = record { extent = x; file = f; place = i } ∷ pieces_in f (i + 1) xs

-- those of a file, if there is one
abbrev pub pieces_at : ℕ → Option Entry → List Piece
pieces_at f None = []
pieces_at f (Some e) = pieces_in f 0 (extents_of e)

-- those of all files from file f on
abbrev pub pieces_of : ℕ → List (Option Entry) → List Piece
pieces_of f [] = []
pieces_of f (entry ∷ entries) = pieces_at f entry ++ pieces_of (f + 1) entries

-- The extents of all files by their first homes:
pub record AreSorted (entries : List (Option Entry)) (pieces : List Piece) : Type 0 where
  -- these they are, in another order,
  pub same : IsPermutation (pieces_of 0 entries) pieces
  -- which is that of their first homes.
  pub rising : IsNonDecreasingBy (λ p. p.extent.first) pieces

-- no two of these extents have a home in common
abbrev pub AreApart : List Piece → Type 0
AreApart pieces = AllPairs (λ p q. ShareHome p.extent q.extent → ⊥) pieces

-- These two, of two places of the list, have one.
pub record Meet (pieces : List Piece) (p q : Piece) : Type 0 where
  pub low : ℕ
  pub high : ℕ
  pub order : low < high
  pub inside : high < length pieces
  pub first : get_or pieces low p ≡ p
  pub second : get_or pieces high q ≡ q
  pub shared : ShareHome p.extent q.extent

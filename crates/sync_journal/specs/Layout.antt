-- Where the parts of a store lie, in sectors. The format is our own: stores are made and opened in layout 2, and an upgrade reads those of
-- layouts 1, 2 and 3.
-- What it has to keep is failure-atomic msync (Park, Kelly and Shen, "Failure-Atomic msync()", EuroSys 2013).
use Rattle.std.specs.Prelude.{ℕ, ◌+◌, ◌-◌, ◌*◌, ◌/◌, ◌^◌, ◌<◌, ◌≤◌, ◌⊎◌, ◌≡◌, Bool, true, false, List, length, slice_index, min}

-- What layouts have in different sizes and places.
pub record Sizes : Type 0 where
  -- the first sector of the journal map
  pub map : ℕ
  -- how many sectors it has
  pub map_sectors : ℕ
  -- the most pages of one commit: what the map has room for
  pub most : ℕ
  -- the first sector of the journal body
  pub body : ℕ
  -- the first sector of the first home page
  pub homes : ℕ

-- those of layout 1
abbrev pub sizes_1 : Sizes
sizes_1 = record { map = 3; map_sectors = 1; most = 127; body = 4; homes = 1020 }

-- the most pages of one commit
abbrev pub page_limit : ℕ
page_limit = 1023

-- the most home pages of a store, however large its device is
abbrev pub home_limit : ℕ
home_limit = 2 ^ 30

-- the gate: open or closed
abbrev pub gate_sector : ℕ
gate_sector = 2

-- the first sector of the journal map: which homes the body's pages belong to
abbrev pub map_sector : ℕ
map_sector = 3

-- how many sectors the map has
abbrev pub map_sectors : ℕ
map_sectors = 8

-- the first sector of the journal body
abbrev pub first_body_sector : ℕ
first_body_sector = 11

-- the first sector of the first home page
abbrev pub first_home_sector : ℕ
first_home_sector = 8195

-- those of layout 2
abbrev pub sizes_2 : Sizes
sizes_2 = record { map = map_sector; map_sectors = map_sectors; most = page_limit; body = first_body_sector; homes = first_home_sector }

-- those of the first and of the second journal of layout 3, which has two
abbrev pub sizes_3 : Bool → Sizes
sizes_3 false = record { map = 24; map_sectors = 8; most = 1023; body = 32; homes = 16408 }
sizes_3 true = record { map = 8216; map_sectors = 8; most = 1023; body = 8224; homes = 16408 }

-- the first sector of page j of the journal body
abbrev pub body_at : Sizes → ℕ → ℕ
body_at sizes j = sizes.body + 8 * j

abbrev pub body_sector : ℕ → ℕ
body_sector j = first_body_sector + 8 * j

-- the first sector of home page h
abbrev pub home_at : Sizes → ℕ → ℕ
home_at sizes h = sizes.homes + 8 * h

abbrev pub home_sector : ℕ → ℕ
home_sector h = first_home_sector + 8 * h

-- how many home pages a device of so many sectors has
abbrev pub home_count_in : Sizes → ℕ → ℕ
home_count_in sizes sectors = min ((sectors - sizes.homes) / 8) home_limit

abbrev pub home_count : ℕ → ℕ
home_count sectors = min ((sectors - first_home_sector) / 8) home_limit

-- one of the eight sectors of the page that begins at this sector
abbrev pub IsPageSector : ℕ → ℕ → Type 0
IsPageSector first k = (first ≤ k) × (k < first + 8)

-- a sector of one of these homes
abbrev pub IsHomeSector : List ℕ → ℕ → Type 0
IsHomeSector homes k = (j : ℕ) × (j < length homes) × IsPageSector (home_sector (slice_index homes j)) k

-- the gate
abbrev pub IsGate : ℕ → Type 0
IsGate k = k ≡ gate_sector

-- a sector of the map
abbrev pub IsMapIn : Sizes → ℕ → Type 0
IsMapIn sizes k = (sizes.map ≤ k) × (k < sizes.map + sizes.map_sectors)

-- the gate and the sectors of these homes
abbrev pub IsReplayed : List ℕ → ℕ → Type 0
IsReplayed homes k = IsGate k ⊎ IsHomeSector homes k

-- a sector of the first n pages of the body
abbrev pub IsBodySector : ℕ → ℕ → Type 0
IsBodySector n k = (first_body_sector ≤ k) × (k < body_sector n)

-- a sector of the map, or of the first n pages of the body
abbrev pub IsStaged : ℕ → ℕ → Type 0
IsStaged n k = (map_sector ≤ k) × (k < body_sector n)

-- the gate, a sector of the map, or of the first n pages of the body
abbrev pub IsOpened : ℕ → ℕ → Type 0
IsOpened n k = (gate_sector ≤ k) × (k < body_sector n)

-- a sector of the first n pages of the body, or of the homes that they are copied to
abbrev pub IsCopied : List ℕ → ℕ → ℕ → Type 0
IsCopied homes n k = IsBodySector n k ⊎ ((j : ℕ) × (j < n) × IsPageSector (home_sector (slice_index homes j)) k)

-- the gate, and what is copied from and to where the journal is live with these homes
abbrev pub IsFinished : List ℕ → ℕ → Type 0
IsFinished homes k = IsGate k ⊎ IsCopied homes (length homes) k

-- the same where a home is live, and otherwise nothing
abbrev pub IsMovedHome : List ℕ → ℕ → Type 0
IsMovedHome homes k = (0 < length homes) × IsFinished homes k

-- journal map and body
abbrev pub IsJournalSector : ℕ → Type 0
IsJournalSector k = (map_sector ≤ k) × (k < first_home_sector)

-- what a commit of new pages writes: the gate, the map and the body
abbrev pub IsPublished : ℕ → Type 0
IsPublished k = IsGate k ⊎ IsJournalSector k

-- what a commit over these live homes writes: its own part, and those homes
abbrev pub IsCommitted : List ℕ → ℕ → Type 0
IsCommitted homes k = IsPublished k ⊎ IsHomeSector homes k

-- what a recovery of a device of so many sectors writes: the gate, and homes
abbrev pub IsRecovered : ℕ → ℕ → Type 0
IsRecovered sectors k = IsGate k ⊎ ((first_home_sector ≤ k) × (k < home_sector (home_count sectors)))

-- the layout mark, the directory, and what lies after the last home page
abbrev pub IsOutside : ℕ → ℕ → Type 0
IsOutside sectors k = (k < gate_sector) ⊎ (home_sector (home_count sectors) ≤ k)

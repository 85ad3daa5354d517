-- What a commit changes, and layout 2: one journal, as it is between two commits.
-- All or nothing over all pages at once: failure-atomic msync (Park, Kelly and Shen, EuroSys 2013).
use Rattle.std.specs.Prelude.{ℕ, ◌≡◌, false, List, [], ◌∷◌, length, Option, Some, None}
use Rattle.disk_model.specs.Stop.{NamesOnce}
use Rattle.disk_model.specs.declared.sector_disk.SectorDisk.{Ghosts}
use Rattle.sync_journal.specs.Layout.{IsJournalSector, IsOutside, IsRecovered, IsCommitted, IsMovedHome, IsOpened}
use Rattle.sync_journal.specs.Gate.{is_open}
use Rattle.sync_journal.specs.Map.{home_rank}
use Rattle.sync_journal.specs.Standing.{standing_single, place_or_home, IsAskedIn, IsOpenFor, IsBadSingle}
use Rattle.sync_journal.specs.Layouts.{Layout}
use Rattle.disk_model.specs.Sectors.{part_of}

-- sector i of a page: of page j where there is a place j, otherwise the old one
abbrev pub sector_or : (ℕ → List ℕ) → List ℕ → ℕ → Option ℕ → List ℕ
sector_or pages old i None = old
sector_or pages old i (Some j) = part_of (pages j) i

-- the pages of before, but that the home at place j of the list holds page j
unfoldable pub changed : (ℕ → ℕ → List ℕ) → List ℕ → (ℕ → List ℕ) → ℕ → ℕ → List ℕ
changed before homes pages h i = sector_or pages (before h i) i (home_rank homes h)

module _ {D : Type 0} (g : Ghosts D) where
  -- The gate is closed, and nothing is unsynced but in map and body.
  pub record IsQuiet (d : D) : Type 0 where
    pub closed : is_open (g.content d) ≡ false
    pub synced : (k : ℕ) → g.unsynced d k → IsJournalSector k

  -- The gate is open before a map that names these homes, whose pages stand in the body, and nothing is unsynced.
  pub record IsLive (homes : List ℕ) (d : D) : Type 0 where
    pub opened : IsOpenFor homes (g.content d)
    pub synced : (k : ℕ) → g.unsynced d k → ⊥

  -- What the device holds between two commits of a journal with these live homes.
  abbrev pub IsAtRest : List ℕ → D → Type 0
  IsAtRest [] d = IsQuiet d
  IsAtRest (home ∷ homes) d = IsLive (home ∷ homes) d

  -- A commit of so many pages over these live homes asks, where there are any, once at most for the gate and for each sector that
  -- it copies from and to, and then once at most for the gate, the map and each sector of as many pages of the body.
  pub record AsksInTwo (live : List ℕ) (pages : ℕ) (old new : D) : Type 0 where
    pub between : ℕ → ℕ
    pub copies : NamesOnce (IsMovedHome live) (g.asked old) between
    pub opens : NamesOnce (IsOpened pages) between (g.asked new)

-- Layout 2, of one journal, which is live with a list of homes.
abbrev pub one_journal : Layout (List ℕ)
one_journal = record {
  standing = standing_single;
  IsBad = IsBadSingle;
  IsClosed = λ image. is_open image ≡ false;
  IsOutside = λ image sectors k. IsOutside sectors k;
  IsRecovered = λ image sectors k. IsRecovered sectors k;
  IsAsked = IsAskedIn;
  IsRest = λ g live d. IsAtRest g live d;
  IsCommitted = IsCommitted;
  AsksOnce = λ g live homes old new. AsksInTwo g live (length homes) old new;
  stands_at = λ live h. place_or_home h (home_rank live h);
}

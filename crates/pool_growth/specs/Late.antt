-- The pages that a commit of changes puts into slots: the changed ones of the directory, and behind them pages of files in the order of their homes.
use Rattle.std.specs.Prelude.{ℕ, ◌+◌, ◌-◌, ◌<◌, ◌≤◌, ◌≡◌, ◌⊎◌, ◌&&◌, Bool, List, [], ◌++◌, length, get_or, map, nat_le, nat_lt, if◌then◌else◌}
use Rattle.std.specs.List.{range_with_len}
use Rattle.vm_types.specs.declared.file.FilePage.{FilePage}
use Rattle.file_store.specs.Layout.{padded_page}
use Rattle.growth.specs.declared.changes.Change.{Change}
use Rattle.pool_growth.specs.{Asked.{changed_pages, AreFileChanges, AreKeptPages, AreNewPages}, Files.{given_page}, Putting.{home_then, inside_then}}
use Rattle.pool_journal.specs.{Journal.{free_count}, Maps.{entries_of}}
use Rattle.pool_store.specs.{Places.{index_at, number_of}, Store.{files_of}}
use Rattle.pool_store.specs.declared.{directory.Directory.{Directory}, room.Place.{Place}, store.PoolStore.{PoolStore}}

-- how many pages of files go into slots, where the first `put` that the source gives are put where they are to stand
abbrev pub late_count : List FilePage → List FilePage → ℕ → ℕ
late_count fresh list put = length fresh + length list - put

-- how many slots all of a commit takes then, with the changed pages of the directory
abbrev pub slot_count : Directory → List Change → List FilePage → List FilePage → ℕ → ℕ
slot_count directory changes fresh list put = late_count fresh list put + length (changed_pages changes directory.pages)

-- the new pages that are given go into slots: they are no more than 128, and slots are free for all of the commit
abbrev pub take_slots : {D : Type 0} → PoolStore D → List Change → List FilePage → List FilePage → Bool
take_slots store changes fresh list = nat_le (length fresh) 128
    && nat_le (slot_count store.directory changes fresh list 0) (free_count store.journal.sizes.blocks (entries_of store.journal.map))

-- how many of them are put where they are to stand: none, where they go into slots, and otherwise all
abbrev pub put_count : {D : Type 0} → PoolStore D → List Change → List FilePage → List FilePage → ℕ
put_count store changes fresh list = if take_slots store changes fresh list then 0 else length fresh

-- slots are free for all pages of the commit
abbrev pub HasSlotsForAll : {D : Type 0} → PoolStore D → List Change → List FilePage → List FilePage → Type 0
HasSlotsForAll store changes fresh list = slot_count store.directory changes fresh list 0 ≤ free_count store.journal.sizes.blocks (entries_of store.journal.map)

-- so many of the new pages may be put: all, or none where slots are free for all pages of the commit
abbrev pub MayPut : {D : Type 0} → PoolStore D → List Change → List FilePage → List FilePage → ℕ → Type 0
MayPut store changes fresh list put = (put ≡ length fresh) ⊎ ((put ≡ 0) × HasSlotsForAll store changes fresh list)

-- Files of a store may be changed, with pages of theirs, of which the first `put` are put where they are to stand:
pub record MayCommit {D : Type 0} (store : PoolStore D) (changes : List Change) (fresh list : List FilePage) (put : ℕ) : Type 0 where
  -- the store takes the changes,
  pub are : AreFileChanges store.journal.sizes.homes store.directory changes
  -- the first list gives new pages,
  pub new_ones : AreNewPages (files_of store) changes fresh
  -- the second one others,
  pub kept : AreKeptPages store changes list
  -- and so many may be put.
  pub may : MayPut store changes fresh list put

-- a source gives page k for changes that a directory may have
abbrev pub IsGiven : Directory → List Change → List FilePage → List FilePage → ℕ → Type 0
IsGiven directory changes fresh list k = ((homes : ℕ) × AreFileChanges homes directory changes) × (k < length fresh + length list)

-- what is given for page k, with zeros past its file's end after changes
abbrev pub cut_given : Directory → List Change → List FilePage → List FilePage → (ℕ → List ℕ) → ℕ → List ℕ
cut_given directory changes fresh list given k = padded_page (inside_then directory changes (given_page fresh list k)) (given k)

-- page j of those that go into slots
abbrev pub late_page : Directory → List Change → List FilePage → List FilePage → List (List ℕ) → List Place → ℕ → (ℕ → List ℕ) → ℕ → List ℕ
late_page directory changes fresh list front places put given j = if nat_lt j (length front) then get_or front j []
    else cut_given directory changes fresh list given (put + index_at places (j - length front))

-- the homes of these pages
abbrev pub late_homes : Directory → List Change → List Place → List ℕ
late_homes directory changes places = changed_pages changes directory.pages ++ map (λ place. place.home) places

-- the home of page k of those that a source gives, after changes
abbrev pub given_home : Directory → List Change → List FilePage → List FilePage → ℕ → ℕ
given_home directory changes fresh list k = number_of (home_then directory changes (given_page fresh list k))

-- page i of those behind the first `put`, with its home
abbrev pub given_place : Directory → List Change → List FilePage → List FilePage → ℕ → ℕ → Place
given_place directory changes fresh list put i = record { home = given_home directory changes fresh list (put + i); index = i }

-- all of these, as the source gives them
abbrev pub given_places : Directory → List Change → List FilePage → List FilePage → ℕ → List Place
given_places directory changes fresh list put = map (given_place directory changes fresh list put) (range_with_len 0 (late_count fresh list put))

-- the homes of all that goes into slots, as the source gives them
abbrev pub given_homes : Directory → List Change → List FilePage → List FilePage → ℕ → List ℕ
given_homes directory changes fresh list put = changed_pages changes directory.pages ++ map (given_home directory changes fresh list) (range_with_len put (late_count fresh list put))

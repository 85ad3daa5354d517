-- What an export returns.
use Rattle.std.specs.Prelude.{ℕ, ◌≡◌, ◌≢◌, ◌≤◌, ◌⊎◌, List, length}
use Rattle.vm_types.specs.declared.file.FilePage.{FilePage}
use Rattle.pool_growth.specs.declared.sizes.FileSize.{FileSize}
use Rattle.pool_store.specs.Resume.{HasPoolHead, IsNoPool}
use Rattle.stores.specs.Images.{file_info}
use Rattle.sync_plans.specs.{Plans.{row, AreCalls}, Resizing.{AreResizable, HasReadOnlyPage, HasReadOnlySize, LacksHomesIn}}
use Rattle.sync_plans.specs.declared.{call.Call.{Call}, resizing.ResizeRefusal.{ResizeRefusal}}
use Rattle.sync_plans.specs.declared.resizing.ResizeRefusal.TheVariants as Resize
use Rattle.sync_plans.specs.declared.requests.Refusal.{Refusal}
use Rattle.sync_plans.specs.declared.requests.Refusal.TheVariants.{Device, BadLayout, BadJournal, BadPages, ReadOnly, Memory}

abbrev pub done : ℕ
done = 0

abbrev pub out_of_turn : ℕ
out_of_turn = 1

abbrev pub bad_layout : ℕ
bad_layout = 2

abbrev pub bad_journal : ℕ
bad_journal = 3

abbrev pub bad_pages : ℕ
bad_pages = 4

abbrev pub read_only : ℕ
read_only = 5

abbrev pub no_room : ℕ
no_room = 6

abbrev pub no_memory : ℕ
no_memory = 7

abbrev pub no_pool : ℕ
no_pool = 8

abbrev pub no_homes : ℕ
no_homes = 9

-- the states of a handle
abbrev pub closed : ℕ
closed = 0

abbrev pub ready : ℕ
ready = 1

abbrev pub pending : ℕ
pending = 2

-- A result tells a refusal:
pub record TellsRefusal (refusal : Refusal) (result : ℕ) : Type 0 where
  -- it is one of those of a request in turn that was not done,
  pub answers : result ≤ 7
  pub done : result ≢ done
  pub turn : result ≢ out_of_turn
  -- and each of them comes for its refusal alone.
  pub layout : result ≡ bad_layout → refusal ≡ BadLayout
  pub journal : result ≡ bad_journal → refusal ≡ BadJournal
  pub pages : result ≡ bad_pages → refusal ≡ BadPages
  pub read_only : result ≡ read_only → refusal ≡ ReadOnly
  pub room : result ≡ no_room → refusal ≡ Device
  pub memory : result ≡ no_memory → refusal ≡ Memory

-- A result tells a refusal of sizes:
pub record TellsResizing (refusal : ResizeRefusal) (result : ℕ) : Type 0 where
  -- it is one of those of a request in turn that was not done,
  pub answers : result ≤ 9
  pub done : result ≢ done
  pub turn : result ≢ out_of_turn
  pub layout : result ≢ bad_layout
  pub journal : result ≢ bad_journal
  -- and each of them comes for its refusal alone.
  pub pages : result ≡ bad_pages → refusal ≡ Resize.BadPages
  pub read_only : result ≡ read_only → refusal ≡ Resize.ReadOnly
  pub room : result ≡ no_room → refusal ≡ Resize.Device
  pub memory : result ≡ no_memory → refusal ≡ Resize.Memory
  pub none : result ≡ no_pool → refusal ≡ Resize.NoPool
  pub homes : result ≡ no_homes → refusal ≡ Resize.NoHomes

-- Sizes that were asked for in turn are not done:
pub record RefusesResizing (image : List (List ℕ)) (places : ℕ) (sizes : List FileSize) (fresh list : List FilePage) (count : ℕ) (calls : List Call) (result : ℕ) : Type 0 where
  -- the result is `no_room` only where as many calls are listed as the lists have places,
  pub room : result ≡ no_room → AreCalls (length image) calls places
  -- `no_memory` only where mark and kind are those of a store with a pool,
  pub memory : result ≡ no_memory → HasPoolHead (length image) (row image)
  -- `no_pool` only where the image is of no such store,
  pub none : result ≡ no_pool → IsNoPool (length image) (row image)
  -- `bad_pages` only where no commit takes the sizes with these pages,
  pub pages : result ≡ bad_pages → AreResizable (length image) (row image) sizes fresh list count → ⊥
  -- `read_only` only where one of their files may only be read, or that of a page,
  pub read_only : result ≡ read_only → HasReadOnlySize (file_info (length image) (row image)) sizes ⊎ HasReadOnlyPage (file_info (length image) (row image)) list
  -- and `no_homes` only where there are none for a file;
  pub homes : result ≡ no_homes → LacksHomesIn (length image) (row image) sizes
  -- it is no other.
  pub layout : result ≢ bad_layout
  pub journal : result ≢ bad_journal
  pub answers : result ≤ 9

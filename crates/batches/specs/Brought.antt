-- A batch that is brought a page at a time.
use Rattle.std.specs.Prelude.{ℕ, ◌-◌, ◌<◌, ◌≡◌, if◌then◌else◌, List, [], ◌∷◌, ◌++◌, length}
use Rattle.vm_types.specs.declared.file.FilePage.{FilePage}
use Rattle.batches.specs.declared.batch.Batch.{Batch}

-- the pages that a batch holds, and the bytes of each: none where more were brought than it has room for
abbrev pub pages_in : Batch → List FilePage
pages_in batch = if batch.over then [] else batch.pages.items

abbrev pub bytes_in : Batch → List (List ℕ)
bytes_in batch = if batch.over then [] else batch.bytes.items

-- how many more it has room for
abbrev pub room_in : Batch → ℕ
room_in batch = batch.most - length batch.pages.items

-- A batch of which no page was brought:
pub record IsBegunAnew (most : ℕ) (batch : Batch) : Type 0 where
  -- it holds none, and has room for so many.
  pub pages : pages_in batch ≡ []
  pub bytes : bytes_in batch ≡ []
  pub room : room_in batch ≡ most
  pub most_is : batch.most ≡ most

-- A page is brought:
pub record BringsPage (old new : Batch) (page : FilePage) (given : List ℕ) : Type 0 where
  -- while there is room the batch holds it behind the others, with its bytes,
  pub pages : 0 < room_in old → pages_in new ≡ pages_in old ++ page ∷ []
  pub bytes : 0 < room_in old → bytes_in new ≡ bytes_in old ++ given ∷ []
  -- and otherwise no page at all.
  pub none : room_in old ≡ 0 → pages_in new ≡ []
  pub room : room_in new ≡ room_in old - 1
  pub most : new.most ≡ old.most

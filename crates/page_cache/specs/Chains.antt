-- The hash table over the nodes. The nodes of a bucket are chained by rising number, so each link can be said by itself:
-- it names the first node of its bucket from some number on.
use Rattle.std.specs.Prelude.{◌≡◌, ℕ, ◌+◌, ◌*◌, ◌/◌, ◌%◌, ◌^◌, ◌<◌, ◌≤◌, ◌⊎◌, Bool, true, false, ◌==◌, List, length, replicate, Option, Some, None, slice_index}
use Rattle.std.specs.Int.RustNames.{bit_and}
use Rattle.vm_types.specs.declared.object.PageKey.{PageKey}
use Rattle.vm_types.specs.declared.object.PageKey.TheVariants.{File, Object}
use Rattle.page_cache.specs.Nodes.{page_at}

-- a number for a page; no page of a file has that of a page of an object with a number below 2 ^ 32
abbrev pub page_number_of : PageKey → ℕ
page_number_of (File page) = page.file * 4294967296 + page.page
page_number_of (Object page) = ((page.object + 256) * 4294967296 + page.page) % 2 ^ 64

-- the bucket of a page, at most `mask`: the upper half of its number times an odd constant, 2 ^ 64 over the golden ratio
-- (Knuth, The Art of Computer Programming, volume 3, section 6.4)
unfoldable pub bucket_of : ℕ → PageKey → ℕ
bucket_of mask page = bit_and (page_number_of page * 11400714819323198485 % 2 ^ 64 / 2 ^ 32) mask

-- whether a node holds a page of the bucket
abbrev pub is_in_bucket : ℕ → ℕ → Option PageKey → Bool
is_in_bucket mask bucket None = false
is_in_bucket mask bucket (Some page) = bucket_of mask page == bucket

-- n is the first node of the bucket from `low` on, or the number of nodes where there is none
pub record IsNext (pages : List (Option PageKey)) (mask bucket low n : ℕ) : Type 0 where
  pub within : n ≤ length pages
  pub least : low ≤ n
  pub there : n < length pages → is_in_bucket mask bucket (page_at pages n) ≡ true
  pub passed : (m : ℕ) → low ≤ m → m < n → is_in_bucket mask bucket (page_at pages m) ≡ false

-- the link at this index is the bucket's that leads to its first node from `low` on: the bucket's own, or that of a node
abbrev pub IsLinkOf : List (Option PageKey) → ℕ → ℕ → ℕ → ℕ → Type 0
IsLinkOf pages mask bucket low at =
    ((at ≡ bucket) × (low ≡ 0))
    ⊎ ((m : ℕ) × (at ≡ mask + 1 + m) × (low ≡ m + 1) × (is_in_bucket mask bucket (page_at pages m) ≡ true))

-- the links of all buckets, and then those of all nodes
pub record AreChained (pages : List (Option PageKey)) (links : List ℕ) (mask : ℕ) : Type 0 where
  pub few : length pages ≤ 131072
  pub count : length links ≡ mask + 1 + length pages
  pub link : (bucket low at : ℕ) → bucket ≤ mask → IsLinkOf pages mask bucket low at → IsNext pages mask bucket low (slice_index links at)

-- the link at which the node stands in the chain of its bucket, or would
pub record IsSeat (pages : List (Option PageKey)) (links : List ℕ) (mask bucket node at : ℕ) : Type 0 where
  pub low : ℕ
  pub link : IsLinkOf pages mask bucket low at
  pub before : low ≤ node

-- the index of so many nodes that hold nothing
pub record IsEmptyIndex (pages : List (Option PageKey)) (links : List ℕ) (mask nodes : ℕ) : Type 0 where
  pub chained : AreChained pages links mask
  pub empty : pages ≡ replicate nodes None

-- Lists of the touched pages of rows: a row is so many pages of one file, from some page on.
use Rattle.std.specs.Prelude.{◌≡◌, ◌≢◌, ℕ, ◌+◌, ◌<◌, ◌≤◌, ◌⊎◌, Bool, true, not, ◌&&◌, List, length, Option, Some, None, Result, IfOk, OnErr, slice_index, slice_index_or, slice_set}
use Rattle.vm_types.specs.declared.file.FilePage.{FilePage}
use Rattle.vm_types.specs.declared.object.PageKey.{PageKey}
use Rattle.vm_types.specs.declared.object.PageKey.TheVariants.{File, Object}
use Rattle.vm_types.specs.Attributes.{file_page_eq}
use Rattle.vm_types.specs.Counting.{any_below, count_below}
use Rattle.page_cache.specs.CacheTable.{CacheTable, cache_frames, slot_count, is_touched}
use Rattle.page_cache.specs.Nodes.{first_node}

-- the file page that a node holds, where it holds one
abbrev pub filed : Option PageKey → Option FilePage
filed None = None
filed (Some (File page)) = Some page
filed (Some (Object page)) = None

abbrev pub IsInRow : ℕ → ℕ → ℕ → FilePage → Type 0
IsInRow file first count page = (page.file ≡ file) × (first ≤ page.page) × (page.page < first + count)

-- a touched page of the row
pub record IsTouchedIn (t : CacheTable) (file first count : ℕ) (page : FilePage) : Type 0 where
  pub row : IsInRow file first count page
  pub touched : is_touched t (File page) ≡ true

-- the page at that place of a list
abbrev pub index_entry : List FilePage → ℕ → FilePage
index_entry list i = slice_index_or list i (record { file = 0; page = 0 })

-- the page is one of the first n
abbrev pub IsListed : List FilePage → ℕ → FilePage → Type 0
IsListed list n page = (i : ℕ) × (i < n) × (index_entry list i ≡ page)

abbrev pub is_listed : List FilePage → ℕ → FilePage → Bool
is_listed list n page = any_below (λ i. file_page_eq (index_entry list i) page) n

-- whether the page is touched and isn't among the first `used`
abbrev pub is_fresh : CacheTable → List FilePage → ℕ → FilePage → Bool
is_fresh t list used page = is_touched t (File page) && not (is_listed list used page)

-- how many such pages the row has
unfoldable pub fresh_count : CacheTable → ℕ → ℕ → ℕ → List FilePage → ℕ → ℕ
fresh_count t file first count list used = count_below (λ k. is_fresh t list used (record { file = file; page = first + k })) count

-- Each of the first n pages is held by a node, and its rank in the list is noted there. Nothing is known of what other nodes have noted.
abbrev pub AreRanked : CacheTable → List FilePage → List ℕ → ℕ → Type 0
AreRanked t list ranks n = (i : ℕ) → i < n → (node : ℕ) × (first_node t.pages (File (index_entry list i)) ≡ Some node) × (slice_index ranks node ≡ i)

-- A list in the middle of its gathering: n entries are used,
pub record IsGathering (t : CacheTable) (list : List FilePage) (ranks : List ℕ) (n : ℕ) : Type 0 where
  pub room : n ≤ length list
  -- each frame and each slot has a place for a rank,
  pub nodes : cache_frames t + slot_count t ≤ length ranks
  -- and the used ones have their ranks noted.
  pub ranked : AreRanked t list ranks n

-- The list was lengthened from `used` to n entries, at most all, by touched pages of the row: each once, and none that
-- was among the first `used`. All other entries are as they were.
pub record Gathers (t : CacheTable) (file first count used : ℕ) (old new : List FilePage) (ranks : List ℕ) (n : ℕ) : Type 0 where
  pub size : length new ≡ length old
  pub longer : used ≤ n
  pub most : n ≤ length old
  pub kept : (i : ℕ) → i < used → index_entry new i ≡ index_entry old i
  pub rest : (i : ℕ) → n ≤ i → index_entry new i ≡ index_entry old i
  pub touched : (i : ℕ) → used ≤ i → i < n → IsTouchedIn t file first count (index_entry new i)
  pub once : (i j : ℕ) → i < j → used ≤ j → j < n → index_entry new i ≢ index_entry new j
  -- so the gathering may go on
  pub next : IsGathering t new ranks n

-- each touched page of the row is among the first n
abbrev pub HasAll : CacheTable → ℕ → ℕ → ℕ → List FilePage → ℕ → Type 0
HasAll t file first count list n = (page : FilePage) → IsTouchedIn t file first count page → IsListed list n page

-- all entries of the list are used, and a touched page of the row isn't among them
pub record Overflows (t : CacheTable) (file first count used : ℕ) (old new : List FilePage) (ranks : List ℕ) : Type 0 where
  pub full : Gathers t file first count used old new ranks (length old)
  pub missing : FilePage
  pub touched : IsTouchedIn t file first count missing
  pub absent : IsListed new (length old) missing → ⊥

-- A row was gathered:
pub record GathersRow {E : Type 0} (t : CacheTable) (file first count used : ℕ) (old new : List FilePage) (ranks : List ℕ) (result : Result ℕ E) : Type 0 where
  -- the list was lengthened by touched pages of the row,
  pub gathered : IfOk result (λ n. Gathers t file first count used old new ranks n)
  -- and has all of these,
  pub all : IfOk result (λ n. HasAll t file first count new n)
  -- or has no room for one.
  pub too_many : OnErr result (Overflows t file first count used old new ranks)

-- a touched page, and the node that holds it
pub record IsTouchedAt (t : CacheTable) (page : PageKey) (node : ℕ) : Type 0 where
  pub touched : is_touched t page ≡ true
  pub first : first_node t.pages page ≡ Some node

-- the page is one of the first n, at the rank that the node has noted
abbrev pub IsAtRank : List FilePage → List ℕ → ℕ → ℕ → FilePage → Type 0
IsAtRank list ranks n node page = (slice_index ranks node < n) × (index_entry list (slice_index ranks node) ≡ page)

-- the page was among the first n, and nothing changed, or it is the entry n now, and its node has that noted
abbrev pub Pushes : List FilePage → List FilePage → List ℕ → List ℕ → ℕ → ℕ → FilePage → ℕ → Type 0
Pushes old new ranks_old ranks_new n node page m =
    ((m ≡ n) × (new ≡ old) × (ranks_new ≡ ranks_old) × IsAtRank old ranks_old n node page)
    ⊎ ((m ≡ n + 1) × (n < length old) × (new ≡ slice_set old n page) × (ranks_new ≡ slice_set ranks_old node n) × (IsAtRank old ranks_old n node page → ⊥))

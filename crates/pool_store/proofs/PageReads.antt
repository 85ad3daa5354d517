-- The pages of a directory, read one after the other.
use Rattle.std.proofs.Common.{ℕ, [], ◌≡◌, ◌<◌, ◌+◌, ◌*◌, List, length, Bool, refl, sym, ap, ◌∙◌, arith, Option, Vec, Global, Result, Ok, Err}
use Rattle.std.specs.Prelude.{IsErrAnd}
use Rattle.disk_model.{proofs.{Naming.{once_apart, once_named, once_none, once_wider}, Moments.{stays}, Pieces.{joined-same}}, specs.{Moments.{Nothing, Touches}, Sectors.{joined}, Stop.{Image, Names, NamesOnce}}}
use Rattle.disk_model.specs.declared.sector_disk.SectorDisk.{Ghosts}
use Rattle.sync_journal.{proofs.{Runs.{one_more}, Sectors.{same_image, reads_unsynced}}, specs.{Layout.{IsPageSector}, Runs.{RunsOnDevice}}}
use Rattle.pool_journal.proofs.Loose.{stood}
use Rattle.pool_journal.specs.{Maps.{entries_of}, Pools.{pool, pool_entry, pool_named, pool_stands, pool_standing, slot_by, IsPoolRest}, Recovering.{state_of}, declared.pool.PoolJournal.{PoolJournal}}
use Rattle.directories.specs.declared.entry.Entry.{Entry}
use Rattle.pool_store.{proofs.{Entries.{said_more, none_said}, Homes.{homes_apart}}, specs.{Pools.{AreSaid, IsDirectory}, Reading.{IsDirectorySector, AppendsPage, HasNoEntry, LooksFor, ReadsEntries, ReadsDirectory, standing_under}}}
use Rattle.pool_store.specs.declared.{directory.Directory.{Directory}, faults.OpenFault.{OpenFault}}

-- the first sector of the page that stands for a home
abbrev pub home_sector : PoolJournal → ℕ → ℕ
home_sector journal h = (pool journal.sizes.blocks journal.sizes.homes).stands_at (state_of journal) h

-- the sectors of one home more
pub once_more : (journal : PoolJournal) (i : ℕ) (before mid now : ℕ → ℕ) → NamesOnce (IsDirectorySector journal i) before mid
    → Names (IsPageSector (home_sector journal i)) mid now → NamesOnce (IsDirectorySector journal (i + 1)) before now
once_more journal i before mid now once names =
    let Here : ℕ → Type 0 = IsPageSector (home_sector journal i) in
    once_apart (IsDirectorySector journal i) Here (IsDirectorySector journal (i + 1)) before mid now
    (λ k was. (was.0, omega (arith, was.1), was.2)) (λ k here. (i, omega arith, here))
    (λ k was here. (let same = homes_apart journal.sizes.blocks (entries_of journal.map) was.0 i k was.2 here in omega (arith, same, was.1)))
    once (once_named Here Here mid now (λ k here. here) names)

pub once_all : (journal : PoolJournal) (i d : ℕ) (before now : ℕ → ℕ) → i < d → NamesOnce (IsDirectorySector journal (i + 1)) before now → NamesOnce (IsDirectorySector journal d) before now
once_all journal i d before now less = once_wider (IsDirectorySector journal (i + 1)) (IsDirectorySector journal d) before now (λ k was. (was.0, omega (arith, was.1, less), was.2))

module _ {D : Type 0} (g : Ghosts D) (old new : D) (reads : Touches g Nothing old new) where
  -- a device at rest stays so
  pub still_rest : (m n : ℕ) (second : Bool) (entries : Bool → ℕ → ℕ) → IsPoolRest g m n second entries old → IsPoolRest g m n second entries new
  still_rest m n second entries rest =
      let same = same_image g old new reads in record {
        gate = ap pool_named same ∙ rest.gate;
        map = λ body r below. ap (λ (image : Image). pool_entry m n second image body r) same ∙ rest.map body r below;
        synced = λ k u. rest.synced k (reads_unsynced g old new reads k u);
      }

  -- and the page that is read later is the one that stood
  pub page_stood : (m n : ℕ) (second : Bool) (entries : Bool → ℕ → ℕ) (h : ℕ) (page : List ℕ) → IsPoolRest g m n second entries old
      → page ≡ joined (λ i. g.content new (pool_stands m h (slot_by m entries h) + i)) 8 → page ≡ joined (pool_standing m n (g.content old) h) 8
  page_stood m n second entries h page rest is = is ∙ joined-same 8 (λ i. g.content new (pool_stands m h (slot_by m entries h) + i)) (pool_standing m n (g.content old) h)
      (λ i small. ap (λ (image : Image). image (pool_stands m h (slot_by m entries h) + i)) (same_image g old new reads) ∙ sym (stood g m n second entries old rest h i))

-- The first i pages of a directory are read under a journal:
pub record HaveRead {D : Type 0} (g : Ghosts D) (journal : PoolJournal) (old new : D) (i : ℕ) (entries : List (Option Entry)) : Type 0 where
  pub run : RunsOnDevice g Nothing old new
  pub calm : g.failures new ≡ g.failures old
  pub size : length entries ≡ 16 * i
  pub said : g.keeps_model new → AreSaid i (standing_under journal (g.content old)) entries
  pub once : NamesOnce (IsDirectorySector journal i) (g.asked old) (g.asked new)

module _ {D : Type 0} (g : Ghosts D) (journal : PoolJournal) (old : D) where
  pub none_read : HaveRead g journal old old 0 []
  none_read = record {
    run = record { size = refl; kept = λ keeps. keeps; later = omega arith; touches = λ keeps. stays g Nothing old };
    calm = refl;
    size = refl;
    said = λ keeps f below. absurd (omega (arith, below));
    once = once_none (IsDirectorySector journal 0) (g.asked old) (g.asked old) (λ k. refl);
  }

  -- one page more
  module _ (rest : g.keeps_model old → IsPoolRest g journal.sizes.blocks journal.sizes.homes journal.second (entries_of journal.map) old)
      (mid new : D) (i : ℕ) (entries : List (Option Entry)) (so_far : HaveRead g journal old mid i entries) (run : RunsOnDevice g Nothing mid new)
      (page : List ℕ) (is : g.keeps_model new → page ≡ joined (λ k. g.content mid (home_sector journal i + k)) 8) where
    this_page : g.keeps_model new → page ≡ joined (standing_under journal (g.content old) i) 8
    this_page keeps = (
        let before = run.kept keeps in
        page_stood g old mid (so_far.run.touches before) journal.sizes.blocks journal.sizes.homes journal.second (entries_of journal.map) i page (rest (so_far.run.kept before)) (is keeps))

    pub read_more : (more : List (Option Entry)) → AppendsPage page 16 entries more → g.failures new ≡ g.failures mid
        → Names (IsPageSector (home_sector journal i)) (g.asked mid) (g.asked new) → HaveRead g journal old new (i + 1) more
    read_more more appends calm names = record {
      run = one_more g Nothing old mid new so_far.run run;
      calm = calm ∙ so_far.calm;
      size = (let was = so_far.size in let now = appends.size in omega (arith, was, now));
      said = λ keeps. said_more (standing_under journal (g.content old)) page i entries more so_far.size (this_page keeps) appends (so_far.said (run.kept keeps));
      once = once_more journal i (g.asked old) (g.asked mid) (g.asked new) so_far.once names;
    }

    -- or none, where it is of no directory
    pub none_more : (d : ℕ) → i < d → HasNoEntry page → g.keeps_model new → (others : List (Option Entry)) → AreSaid d (standing_under journal (g.content old)) others → ⊥
    none_more d below bad keeps = none_said (standing_under journal (g.content old)) page i d below (this_page keeps) bad

-- Nothing is read:
module _ {D : Type 0} (g : Ghosts D) (journal : PoolJournal) (d : ℕ) (old new : D) (once : NamesOnce (IsDirectorySector journal d) (g.asked old) (g.asked new)) where
  pub no_entries : (e : OpenFault) (r : Result (Vec (Option Entry) Global) OpenFault) → IsErrAnd r (λ f. f ≡ e)
      → LooksFor g ((entries : List (Option Entry)) → AreSaid d (standing_under journal (g.content old)) entries → ⊥) old new r → ReadsEntries g journal d old new r
  no_entries e (Ok x) none looks = absurd none
  no_entries e (Err f) is looks = record { size = tt; said = λ keeps. tt; looks = looks; once = once }

  pub no_directory : (e : OpenFault) (r : Result Directory OpenFault) → IsErrAnd r (λ f. f ≡ e)
      → LooksFor g ((entries : List (Option Entry)) → IsDirectory d journal.sizes.homes (standing_under journal (g.content old)) entries → ⊥) old new r → ReadsDirectory g journal d old new r
  no_directory e (Ok x) none looks = absurd none
  no_directory e (Err f) is looks = record { directory = tt; pages = tt; said = λ keeps. tt; looks = looks; once = once }

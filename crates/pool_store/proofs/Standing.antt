-- Images that stand for the same homes stand for the same files.
use Rattle.std.proofs.Common.{◌≡◌, ◌*◌, ◌/◌, ◌%◌, ◌<◌, ℕ, false, List, Option, Some, None, refl, sym, ap, subst, ◌∙◌, ⊎_elim, inl, arith, if◌then◌else◌}
use Rattle.std.{proofs.lemmas.Bool.{cases_lt, Decides.{nat_tests}}, specs.{Option.{option_map}, Prelude.{nat_lt}}}
use Rattle.vm_types.specs.Files.{bytes_inside}
use Rattle.disk_model.{proofs.Pieces.{joined-same}, specs.{Stop.{Image}}}
use Rattle.directories.specs.{Entries.{SaysEntry, entry_bytes, entry_said}, Homes.{home_of_page}, Kinds.{IsKind}, Layouts.{entry_in}, declared.entry.Entry.{Entry}}
use Rattle.file_store.specs.Layout.{padded_page}
use Rattle.pool_journal.specs.Pools.{pool, pool_standing}
use Rattle.sync_journal.specs.Layouts.{HomesStandAs}
use Rattle.pool_store.specs.Files.{StandsAs, info_of, page_at, page_of}
use Rattle.pool_store.specs.Pools.{AreSaid, IsDirectory, IsBadPool, IsBadPool.{Unmarked, OtherKind, TooSmall, NoDirectory}, entry_by, entry_standing, files_in_pool}

-- the sectors of two pages are the same
abbrev pub AreAlike : (ℕ → ℕ → List ℕ) → (ℕ → ℕ → List ℕ) → ℕ → Type 0
AreAlike before after h = (i : ℕ) → i < 8 → after h i ≡ before h i

-- a page is then the same
pub page_at_same : (before after : ℕ → ℕ → List ℕ) (inside : ℕ) (home : Option ℕ) → ((h : ℕ) → home ≡ Some h → AreAlike before after h) → page_at after inside home ≡ page_at before inside home
page_at_same before after inside None alike = refl
page_at_same before after inside (Some h) alike = ap (padded_page inside) (joined-same 8 (after h) (before h) (alike h refl))

pub page_of_same : (before after : ℕ → ℕ → List ℕ) (k : ℕ) (entry : Option Entry) → ((h : ℕ) → AreAlike before after h) → page_of after k entry ≡ page_of before k entry
page_of_same before after k None alike = refl
page_of_same before after k (Some e) alike = page_at_same before after (bytes_inside e.length k) (home_of_page e k) (λ h is. alike h)

-- A directory of d pages, each of which stands as it did:
module _ (d : ℕ) (before after : ℕ → ℕ → List ℕ) (alike : (h : ℕ) → h < d → AreAlike before after h) where
  bytes_same : (f : ℕ) → f < 16 * d → entry_standing after f ≡ entry_standing before f
  bytes_same f below = ap (λ (page : List ℕ). entry_bytes page (f % 16)) (joined-same 8 (after (f / 16)) (before (f / 16)) (alike (f / 16) (omega (arith, below))))

  -- it says the same of each file,
  pub entry_same : (f : ℕ) → entry_by d after f ≡ entry_by d before f
  entry_same f = ⊎_elim (λ below. ap (λ (bytes : List ℕ). if nat_lt f (16 * d) then entry_said bytes else None) (bytes_same f below))
      (λ past. (let out : nat_lt f (16 * d) ≡ false = grind (arith, nat_tests) in
      ap (λ b. if b then entry_said (entry_standing after f) else None) out ∙ sym (ap (λ b. if b then entry_said (entry_standing before f) else None) out)))
      (cases_lt f (16 * d))

  -- and the same entries are what it says.
  pub said_same : (entries : List (Option Entry)) → AreSaid d before entries → AreSaid d after entries
  said_same entries said f below = subst (λ (bytes : List ℕ). SaysEntry bytes (entry_in entries f)) (sym (bytes_same f below)) (said f below)

  pub directory_same : (n : ℕ) (entries : List (Option Entry)) → IsDirectory d n before entries → IsDirectory d n after entries
  directory_same n entries is = record { may = is.may; said = said_same entries is.said }

-- Mark, kind and directory of an image are those of another one.
pub record SameHead (m d n : ℕ) (old image : Image) : Type 0 where
  pub mark : image 0 ≡ old 0
  pub kind : image 1 ≡ old 1
  pub directory : (h : ℕ) → h < d → AreAlike (pool_standing m n old) (pool_standing m n image) h

-- it is then bad only where that is
pub bad_moves : (m d n sectors : ℕ) (old image : Image) → SameHead m d n old image → IsBadPool m d n sectors image → IsBadPool m d n sectors old
bad_moves m d n sectors old image same (Unmarked other) = Unmarked (λ is. other (same.mark ∙ is))
bad_moves m d n sectors old image same (OtherKind other) = OtherKind (λ is. other (subst (λ (sector : List ℕ). IsKind m d sector) (sym same.kind) is))
bad_moves m d n sectors old image same (TooSmall few) = TooSmall few
bad_moves m d n sectors old image same (NoDirectory none) =
    NoDirectory (λ entries is. none entries (directory_same d (pool_standing m n old) (pool_standing m n image) same.directory n entries is))

-- what stands for the same homes, with all outside of gate, maps, slots and homes as it was, has the same head
pub head_kept : (m d n sectors : ℕ) (old image : Image) → HomesStandAs (pool m n) sectors old image → SameHead m d n old image
head_kept m d n sectors old image kept = record {
  mark = kept.outside 0 (inl (omega arith));
  kind = kept.outside 1 (inl (omega arith));
  directory = λ h below i inside. kept.stands.each h i inside;
}

-- and stands for the same files
pub stands_kept : (m d n sectors : ℕ) (old image : Image) → HomesStandAs (pool m n) sectors old image → StandsAs (files_in_pool m d n) sectors old image
stands_kept m d n sectors old image kept files pages was =
    let stands = pool_standing m n old in
    let left = pool_standing m n image in
    let head = head_kept m d n sectors old image kept in
    let same = entry_same d stands left head.directory in
    record {
      good = λ bad. was.good (bad_moves m d n sectors old image head bad);
      journal = λ bad. bad;
      facts = λ f. ap (option_map info_of) (same f) ∙ was.facts f;
      same = λ f k inside. ap (page_of left k) (same f) ∙ page_of_same stands left k (entry_by d stands f) (λ h i below. kept.stands.each h i below) ∙ was.same f k inside;
    }

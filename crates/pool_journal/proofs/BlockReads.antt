-- A map read block by block.
use Rattle.std.proofs.Common.{◌≡◌, ◌<◌, ◌≤◌, ◌+◌, ◌-◌, ◌*◌, ◌/◌, ◌%◌, ◌⊎◌, ◌∙◌, ℕ, Bool, true, false, List, sym, ap, subst, ⊎_elim, inl, inr, arith, if◌then◌else◌}
use Rattle.std.specs.Prelude.{nat_lt}
use Rattle.std.proofs.lemmas.Bool.{cases_eq, cases_lt, Decides.{nat_tests}}
use Rattle.disk_model.proofs.Naming.{once_apart, once_named}
use Rattle.disk_model.specs.Stop.{Image, Names, NamesOnce}
use Rattle.pool_journal.specs.{Blocks.{TakesBlock, IsRestOfMap, IsCountedMap}, Maps.{entries_of}, Pools.{pool_start, pool_block, pool_counted, pool_entry, block_number, within, IsPoolMap}, declared.map.SlotMap.{SlotMap}}
use Rattle.sync_journal.specs.Layout.{IsPageSector}

is_less : (a b : ℕ) → a < b → nat_lt a b ≡ true
is_less a b less = grind (arith, nat_tests)

is_not_less : (a b : ℕ) → b ≤ a → nat_lt a b ≡ false
is_not_less a b most = grind (arith, nat_tests)

-- a number that is looked at is none past the last
within_few : (n number : ℕ) → within n number ≤ n
within_few n number = ⊎_elim
    (λ past. (let e : within n number ≡ 0 = ap (λ b. if b then 0 else number) (is_less n number past) in omega (arith, e)))
    (λ few. (let e : within n number ≡ number = ap (λ b. if b then 0 else number) (is_not_less n number few) in omega (arith, e, few)))
    (cases_lt n number)

-- the sectors of the blocks before the q-th but the first
abbrev pub IsRead : ℕ → ℕ → ℕ → ℕ → Type 0
IsRead m start q k = (start + 8 * (m - q) ≤ k) × (k + 8 < start + 8 * m)

-- block q is taken
module _ (m n : ℕ) (second : Bool) (image : Image) (q : ℕ) (was new : SlotMap) (page : List ℕ) (takes : TakesBlock q page n was new) where
  pub few_more : ((body : Bool) (r : ℕ) → entries_of was body r ≤ n) → (body : Bool) (r : ℕ) → entries_of new body r ≤ n
  few_more few body r = ⊎_elim
      (λ before. subst (λ x. x ≤ n) (sym (takes.others body r (inl before))) (few body r))
      (λ from. ⊎_elim
      (λ inside. (let place : 504 * q + (r - 504 * q) ≡ r = omega (arith, from) in
      subst (λ x. x ≤ n) (sym (takes.taken body (r - 504 * q) (omega (arith, inside, from))) ∙ ap (λ p. entries_of new body p) place) (within_few n (block_number body (r - 504 * q) page))))
      (λ past. subst (λ x. x ≤ n) (sym (takes.others body r (inr past))) (few body r))
      (cases_lt r (504 * q + 504)))
      (cases_lt r (504 * q))

  pub zero_more : 1 ≤ q → ((body : Bool) (r : ℕ) → (r < 504) ⊎ (504 * q ≤ r) → entries_of was body r ≡ 0) → (body : Bool) (r : ℕ) → (r < 504) ⊎ (504 * (q + 1) ≤ r) → entries_of new body r ≡ 0
  zero_more some rest body r = ⊎_elim
      (λ low. takes.others body r (inl (omega (arith, low, some))) ∙ rest body r (inl low))
      (λ past. takes.others body r (inr (omega (arith, past))) ∙ rest body r (inr (omega (arith, past))))

  pub entries_more : pool_block m second image q ≡ page
      → ((body : Bool) (p i : ℕ) → 1 ≤ p → p < q → i < 504 → entries_of was body (504 * p + i) ≡ within n (block_number body i (pool_block m second image p)))
      → (body : Bool) (p i : ℕ) → 1 ≤ p → p < q + 1 → i < 504 → entries_of new body (504 * p + i) ≡ within n (block_number body i (pool_block m second image p))
  entries_more is before body p i some below small = ⊎_elim
      (λ same. subst (λ k. entries_of new body (504 * k + i) ≡ within n (block_number body i (pool_block m second image k))) (sym same)
      (takes.taken body i small ∙ ap (λ b. within n (block_number body i b)) (sym is)))
      (λ other. takes.others body (504 * p + i) (inl (omega (arith, below, other, small))) ∙ before body p i some (omega (arith, below, other)) small)
      (cases_eq p q)

-- all blocks that count are
module _ (m n : ℕ) (second : Bool) (image : Image) (counted : ℕ) (was : SlotMap) (is : pool_counted m second image ≡ counted)
    (rest : (body : Bool) (r : ℕ) → (r < 504) ⊎ (504 * counted ≤ r) → entries_of was body r ≡ 0) where
  past_all : (body : Bool) (r : ℕ) → counted ≤ r / 504 → 0 ≡ pool_entry m n second image body r
  unfolding pool_entry
  past_all body r past = sym (ap (λ b. if b then within n (block_number body (r % 504) (pool_block m second image (r / 504))) else 0) (is_not_less (r / 504) (pool_counted m second image) (omega (arith, past, is))))

  counts : (body : Bool) (r : ℕ) → r / 504 < counted → within n (block_number body (r % 504) (pool_block m second image (r / 504))) ≡ pool_entry m n second image body r
  unfolding pool_entry
  counts body r inside = sym (ap (λ b. if b then within n (block_number body (r % 504) (pool_block m second image (r / 504))) else 0) (is_less (r / 504) (pool_counted m second image) (omega (arith, inside, is))))

  pub none_read : counted ≡ 0 → (body : Bool) (r : ℕ) → entries_of was body r ≡ pool_entry m n second image body r
  none_read none body r = rest body r (inr (omega (arith, none))) ∙ past_all body r (omega (arith, none))

  pub all_read : (new : SlotMap)
      → ((body : Bool) (q i : ℕ) → 1 ≤ q → q < counted → i < 504 → entries_of was body (504 * q + i) ≡ within n (block_number body i (pool_block m second image q)))
      → TakesBlock 0 (pool_block m second image 0) n was new → 0 < counted → (body : Bool) (r : ℕ) → entries_of new body r ≡ pool_entry m n second image body r
  all_read new entries takes some body r = ⊎_elim
      (λ inside. ⊎_elim
      (λ first. (let at : 504 * 0 + r % 504 ≡ r = omega (arith, first) in let zeroth : r / 504 ≡ 0 = omega (arith, first) in let here = takes.taken body (r % 504) (omega arith) in
      ap (λ p. entries_of new body p) (sym at) ∙ here ∙ ap (λ q. within n (block_number body (r % 504) (pool_block m second image q))) (sym zeroth) ∙ counts body r inside))
      (λ later. (let place : 504 * (r / 504) + r % 504 ≡ r = omega arith in
      takes.others body r (inr later) ∙ ap (λ p. entries_of was body p) (sym place) ∙ entries body (r / 504) (r % 504) (omega (arith, later)) inside (omega arith) ∙ counts body r inside))
      (cases_lt r 504))
      (λ past. takes.others body r (inr (omega (arith, past, some))) ∙ rest body r (inr (omega (arith, past))) ∙ past_all body r past)
      (cases_lt (r / 504) counted)

-- a block more is asked for
pub read_next : (m start q first : ℕ) (before mid now : ℕ → ℕ) → first ≡ start + 8 * (m - 1 - q) → 1 ≤ q → q < m
    → NamesOnce (IsRead m start q) before mid → Names (IsPageSector first) mid now → NamesOnce (IsRead m start (q + 1)) before now
read_next m start q first before mid now at some below so_far page = once_apart (IsRead m start q) (IsPageSector first) (IsRead m start (q + 1)) before mid now
    (λ k was. (omega (arith, was.0), was.1)) (λ k here. (omega (arith, here.0, at), omega (arith, here.1, at, some, below))) (λ k was here. omega (arith, was.0, here.1, at, some, below))
    so_far (once_named (IsPageSector first) (IsPageSector first) mid now (λ k here. here) page)

-- the first block, and then the rest of those that count
pub read_first : (m : ℕ) (second : Bool) (counted first : ℕ) (before mid now : ℕ → ℕ) → first ≡ pool_start m second + 8 * (m - 1 - 0) → 1 ≤ m → Names (IsPageSector first) before mid
    → NamesOnce (IsRestOfMap m second counted) mid now → NamesOnce (IsCountedMap m second counted) before now
read_first m second counted first before mid now at some page rest = once_apart (IsPageSector first) (IsRestOfMap m second counted) (IsCountedMap m second counted) before mid now
    (λ k here. (inr (omega (arith, here.0, at)), omega (arith, here.1, at, some))) (λ k was. (inl was.0, omega (arith, was.1))) (λ k here was. omega (arith, was.1, here.0, at, some))
    (once_named (IsPageSector first) (IsPageSector first) before mid (λ k here. here) page) rest

-- all of them are the map's
pub of_counted : (m : ℕ) (second : Bool) (counted k : ℕ) → IsCountedMap m second counted k → IsPoolMap m second k
of_counted m second counted k map = (⊎_elim (λ rest. omega (arith, rest)) (λ first. omega (arith, first)) map.0, map.1)

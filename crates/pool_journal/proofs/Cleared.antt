-- An empty pool gives no slot to a home.
use Rattle.std.proofs.Common.{◌≡◌, ◌<◌, ◌≤◌, ◌+◌, ◌-◌, ◌*◌, ◌/◌, ◌%◌, ◌∙◌, ℕ, Bool, false, length, replicate, refl, sym, ap, inl, inr, arith, if◌then◌else◌}
use Rattle.std.specs.Prelude.{nat_lt, min}
use Rattle.std.proofs.lemmas.Bool.{Decides.{nat_tests}}
use Rattle.byteorder.specs.Endian.{little_number}
use Rattle.disk_model.{proofs.Naming.{once_apart, once_named}, specs.{Sectors.{part_of}, Stop.{ChangesOnly, Image, Names, NamesOnce}}}
use Rattle.pool_journal.{proofs.BlockWrites.{block_is}, specs.{Clearing.{IsEmptyPool, IsHeadOfPool}, Pools.{pool, pool_gate, pool_start, pool_block, pool_counted, pool_entry, block_number, within}}}
use Rattle.sync_journal.{proofs.Gates.{closed}, specs.Layout.{IsPageSector}}

not_less : (a b : ℕ) → b ≡ 0 → nat_lt a b ≡ false
not_less a b none = grind (arith, nat_tests)

none_given : (m n : ℕ) (image : Image) (body : Bool) (r : ℕ) → pool_counted m false image ≡ 0 → pool_entry m n false image body r ≡ 0
unfolding pool_entry
none_given m n image body r none = ap (λ b. if b then within n (block_number body (r % 504) (pool_block m false image (r / 504))) else 0) (not_less (r / 504) (pool_counted m false image) none)

pub empty_closed : (m n : ℕ) (image : Image) → IsEmptyPool m image → (pool m n).IsClosed image
empty_closed m n image empty body r below = ap (λ b. pool_entry m n b image body r) empty.gate ∙ none_given m n image body r empty.count

-- a block of zeros says that none counts
zeros : little_number 4 (replicate 4096 0) ≡ 0
zeros = refl

none_counted : (m : ℕ) (image : Image) → ((i : ℕ) → i < 8 → image (pool_start m false + 8 * (m - 1 - 0) + i) ≡ part_of (replicate 4096 0) i) → pool_counted m false image ≡ 0
none_counted m image holds = ap (λ b. min (little_number 4 b) m) (block_is m false image 0 (replicate 4096 0) long holds) ∙ ap (λ k. min k m) zeros ∙ omega arith
  where
    long : length {A = ℕ} (replicate 4096 0) ≡ 4096
    long = refl

-- the block and then the gate are written
pub emptied : (m first : ℕ) (mid new : Image) → first ≡ pool_start m false + 8 * (m - 1 - 0) → 1 ≤ m → ChangesOnly pool_gate mid new → new pool_gate ≡ replicate 512 0
    → ((i : ℕ) → i < 8 → mid (first + i) ≡ part_of (replicate 4096 0) i) → IsEmptyPool m new
emptied m first mid new at some changes gate holds = record {
  gate = closed (new pool_gate) gate;
  count = none_counted m new (λ i below. changes.others (pool_start m false + 8 * (m - 1 - 0) + i) (λ is. omega (arith, is)) ∙ ap (λ k. mid (k + i)) (sym at) ∙ holds i below);
}

-- the block and the gate, each sector once
pub head_once : (m first : ℕ) (before mid now : ℕ → ℕ) → first ≡ pool_start m false + 8 * (m - 1 - 0) → Names (IsPageSector first) before mid → Names (λ k. k ≡ pool_gate) mid now → NamesOnce (IsHeadOfPool m) before now
head_once m first before mid now at page gate = once_apart (IsPageSector first) (λ k. k ≡ pool_gate) (IsHeadOfPool m) before mid now
    (λ k here. inr (omega (arith, here.0, at), omega (arith, here.1, at))) (λ k is. inl is) (λ k here is. omega (arith, here.0, at, is))
    (once_named (IsPageSector first) (IsPageSector first) before mid (λ k here. here) page) (once_named (λ k. k ≡ pool_gate) (λ k. k ≡ pool_gate) mid now (λ k is. is) gate)

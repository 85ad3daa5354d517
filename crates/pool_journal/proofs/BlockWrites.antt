-- A map written block by block.
use Rattle.std.proofs.Common.{◌≡◌, ◌<◌, ◌≤◌, ◌+◌, ◌-◌, ◌*◌, ◌/◌, ◌%◌, ◌∙◌, ℕ, Bool, true, false, List, length, sym, ap, subst, ⊎_elim, inl, inr, arith, if◌then◌else◌}
use Rattle.std.specs.Prelude.{nat_lt, min}
use Rattle.std.proofs.lemmas.Bool.{cases_eq, cases_lt, Decides.{nat_tests}}
use Rattle.disk_model.proofs.{Naming.{once_apart, once_named}, Pieces.{joined-same, joined_parts}}
use Rattle.disk_model.specs.{Sectors.{part_of}, Stop.{Image, Names, NamesOnce}}
use Rattle.disk_model.specs.declared.sector_disk.SectorDisk.{Ghosts}
use Rattle.pool_journal.specs.{Blocks.{HasCount, NotesBlock, IsNotedMap}, Pools.{pool_start, pool_block, pool_counted, pool_entry, block_number, within, IsPoolMap}}
use Rattle.sync_journal.{proofs.Runs.{one_more, of_more}, specs.{Layout.{IsPageSector}, Runs.{RunsOnDevice}}}

-- a block as it was written
pub block_is : (m : ℕ) (second : Bool) (image : Image) (q : ℕ) (page : List ℕ) → length page ≡ 4096
    → ((i : ℕ) → i < 8 → image (pool_start m second + 8 * (m - 1 - q) + i) ≡ part_of page i) → pool_block m second image q ≡ page
block_is m second image q page long holds = joined-same 8 (λ i. image (pool_start m second + 8 * (m - 1 - q) + i)) (part_of page) holds ∙ joined_parts page long

nat_lt_true : (a b : ℕ) → a < b → nat_lt a b ≡ true
nat_lt_true a b less = grind (arith, nat_tests)

nat_lt_false : (a b : ℕ) → b ≤ a → nat_lt a b ≡ false
nat_lt_false a b most = grind (arith, nat_tests)

-- what the map says when all blocks that count are written
pub entries_read : (m n : ℕ) (second : Bool) (image : Image) (entries : Bool → ℕ → ℕ) (counted : ℕ) → HasCount m entries counted → ((body : Bool) (r : ℕ) → entries body r ≤ n)
    → ((j : ℕ) → j < counted → NotesBlock j counted entries (pool_block m second image j)) → (body : Bool) (r : ℕ) → r < 504 * m → pool_entry m n second image body r ≡ entries body r
unfolding pool_entry
entries_read m n second image entries counted has few notes body r below = ⊎_elim
    (λ inside. ap (λ b. if b then within n number else 0) (nat_lt_true (r / 504) (pool_counted m second image) (omega (arith, inside, is)))
    ∙ ap (within n) ((notes (r / 504) inside).numbers body (r % 504) (omega arith) ∙ ap (entries body) place) ∙ ap (λ b. if b then 0 else entries body r) (nat_lt_false n (entries body r) (few body r)))
    (λ after. ap (λ b. if b then within n number else 0) (nat_lt_false (r / 504) (pool_counted m second image) (omega (arith, after, is))) ∙ sym (has.rest body r (omega (arith, after)) below))
    (cases_lt (r / 504) counted)
  where
    number : ℕ
    number = block_number body (r % 504) (pool_block m second image (r / 504))

    is : pool_counted m second image ≡ counted
    is = ap (λ k. min k m) (notes 0 has.some).count ∙ omega (arith, has.most)

    place : 504 * (r / 504) + r % 504 ≡ r
    place = omega arith

module _ {D : Type 0} (g : Ghosts D) (m : ℕ) (second : Bool) (old mid new : D) (q counted first : ℕ) (some : 1 ≤ q) (most : q ≤ counted) (few : counted ≤ m)
    (at : first ≡ pool_start m second + 8 * (m - 1 - (q - 1))) (run : RunsOnDevice g (IsPageSector first) mid new) where
  inside : (k : ℕ) → IsPageSector first k → IsPoolMap m second k
  inside k here = (omega (arith, here.0, at), omega (arith, here.1, at, some, most, few))

  -- a block more is written
  pub run_more : RunsOnDevice g (IsPoolMap m second) old mid → RunsOnDevice g (IsPoolMap m second) old new
  run_more before = one_more g (IsPoolMap m second) old mid new before (of_more g (IsPageSector first) (IsPoolMap m second) mid new inside run)

  pub notes_more : (entries : Bool → ℕ → ℕ) (page : List ℕ) → length page ≡ 4096 → NotesBlock (q - 1) counted entries page → ((i : ℕ) → i < 8 → g.content new (first + i) ≡ part_of page i) → g.keeps_model new
      → ((j : ℕ) → q ≤ j → j < counted → NotesBlock j counted entries (pool_block m second (g.content mid) j))
      → (j : ℕ) → q - 1 ≤ j → j < counted → NotesBlock j counted entries (pool_block m second (g.content new) j)
  notes_more entries page long notes written keeps before j from below = ⊎_elim
      (λ same. (let is : pool_block m second (g.content new) j ≡ page = block_is m second (g.content new) j page long (λ i small.
      ap (λ k. g.content new (k + i)) (omega (arith, same, at)) ∙ written i small) in
      subst (λ b. NotesBlock j counted entries b) (sym is) (subst (λ p. NotesBlock p counted entries page) (sym same) notes)))
      (λ other. (let is : pool_block m second (g.content mid) j ≡ pool_block m second (g.content new) j = joined-same 8 (λ i. g.content mid (pool_start m second + 8 * (m - 1 - j) + i)) (λ i. g.content new (pool_start m second + 8 * (m - 1 - j) + i)) (λ i small.
      sym (⊎_elim (λ here. absurd (omega (arith, here.0, here.1, at, other, from, below, small, some, few))) (λ e. e) ((run.touches keeps).content (pool_start m second + 8 * (m - 1 - j) + i)))) in
      subst (λ b. NotesBlock j counted entries b) is (before j (omega (arith, from, other)) below)))
      (cases_eq j (q - 1))

  abbrev Since : ℕ → ℕ → Type 0
  Since p k = (pool_start m second + 8 * (m - counted) ≤ k) × (k + 8 * p < pool_start m second + 8 * m)

  pub once_more : NamesOnce (Since q) (g.asked old) (g.asked mid) → Names (IsPageSector first) (g.asked mid) (g.asked new) → NamesOnce (Since (q - 1)) (g.asked old) (g.asked new)
  once_more before page = once_apart (Since q) (IsPageSector first) (Since (q - 1)) (g.asked old) (g.asked mid) (g.asked new)
      (λ k v. (v.0, omega (arith, v.1))) (λ k w. (omega (arith, w.0, at, some, most, few), omega (arith, w.1, at, some, most, few))) (λ k v w. omega (arith, v.1, w.0, at, some, most, few))
      before (once_named (IsPageSector first) (IsPageSector first) (g.asked mid) (g.asked new) (λ k here. here) page)

-- the blocks that count are those that the map takes,
pub are_noted : (m : ℕ) (second : Bool) (entries : Bool → ℕ → ℕ) (counted : ℕ) → HasCount m entries counted → (k : ℕ) → pool_start m second + 8 * (m - counted) ≤ k
    → k < pool_start m second + 8 * m → IsNotedMap m second entries k
are_noted m second entries counted has k from to =
    let d = (k - pool_start m second) / 8 in
    let q = m - 1 - d in (
      q,
      omega (arith, has.some, has.most),
      (omega (arith, from, to), omega (arith, from, to)),
      ⊎_elim
          (λ one. inl (omega (arith, one, from, to)))
          (λ given. inr (given.0, given.1, omega (arith, given.2, from, to, has.some, has.most), given.3, given.4))
          has.least,
    )

-- and lie in its place
pub of_noted : (m : ℕ) (second : Bool) (entries : Bool → ℕ → ℕ) (k : ℕ) → IsNotedMap m second entries k → IsPoolMap m second k
of_noted m second entries k map = (omega (arith, map.2.0), omega (arith, map.2.1, map.1))

-- What a device counts over sectors that are read or written in a row.
use Rattle.disk_model.{proofs.Names.{◌≡◌, ◌<◌, ◌+◌, ◌-◌, ℕ, suc, Bool, true, false, if◌then◌else◌, ap, ◌∙◌, arith}, specs.SimDisk.{DiskCounts, fails_next, after_read, after_reads, after_write, after_writes}}

-- the first read decides how it goes on
by_first : (n : ℕ) (c : DiskCounts) (b : Bool) → fails_next c ≡ b → after_reads (suc n) c ≡ (if b then after_read c else after_reads n (after_read c))
by_first n c b is = ap (λ fails. if fails then after_read c else after_reads n (after_read c)) is

-- a read that fails is the last
pub last_read : (n i : ℕ) (c : DiskCounts) → i < n → fails_next c ≡ true → after_reads (n - i) c ≡ after_read c
last_read n i c below fails =
    let left : n - i ≡ suc (n - (i + 1)) = omega (arith, below) in
    ap (λ k. after_reads k c) left ∙ by_first (n - (i + 1)) c true fails

-- after one that doesn't fail it goes on
pub next_read : (n i : ℕ) (c : DiskCounts) → i < n → fails_next c ≡ false → after_reads (n - i) c ≡ after_reads (n - (i + 1)) (after_read c)
next_read n i c below goes =
    let left : n - i ≡ suc (n - (i + 1)) = omega (arith, below) in
    ap (λ k. after_reads k c) left ∙ by_first (n - (i + 1)) c false goes

-- one write more
pub one_write : (i : ℕ) (c : DiskCounts) → after_write (after_writes i c) ≡ after_writes (i + 1) c
one_write i c = let next : suc i ≡ i + 1 = omega arith in ap (λ k. after_writes k c) next

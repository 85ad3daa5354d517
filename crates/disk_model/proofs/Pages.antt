-- A page written sector by sector.
use Rattle.disk_model.proofs.Names.{◌≡◌, ◌≤◌, ◌<◌, ◌+◌, ◌*◌, ℕ, zero, suc, List, [], length, take, drop, get_or, inl, inr, ⊎_elim, sym, ap, subst, ◌∙◌, arith, drop-drop, refl, length-append, length-take, length-drop, cases_eq, drop-take}
use Rattle.disk_model.{proofs.Names.{drop_at, length-take-le, take-put_mid, take-put_mid_below, put_mid-paste, first_chunks, put_mid}, specs.{Sectors.{part_of}, Stop.{Image, MayLeave, ChangesOnly, Elapses}}}

-- no time passes
pub no_time : (now : ℕ) (since : ℕ → Image → Type 0) (content : Image) (unsynced : ℕ → Type 0) → Elapses now now since since content unsynced
no_time now since content unsynced = record { later = omega arith; nothing_else = λ t c le left. inl left; keeps = λ t c le past. past }

-- what a stop may leave before a write it may leave after it
pub carried : (n : ℕ) (old new : Image) (was is : ℕ → Type 0) → ChangesOnly n old new → ((k : ℕ) → was k → is k) → is n
    → (c : Image) → MayLeave old was c → MayLeave new is c
carried n old new was is changes still here c may = record {
  kept = λ k. ⊎_elim (λ e. inl (subst is (sym e) here))
      (λ other. ⊎_elim (λ u. inl (still k u)) (λ e. inr (e ∙ sym (changes.others k other))) (may.kept k))
      (cases_eq k n);
}

-- time goes on
pub more_time : (a b d : ℕ) (past mid since : ℕ → Image → Type 0) (old new : Image) (was is : ℕ → Type 0) → Elapses a b past mid old was → Elapses b d mid since new is
    → ((c : Image) → MayLeave old was c → MayLeave new is c) → Elapses a d past since new is
more_time a b d past mid since old new was is first second carry = record {
  later = omega (arith, first.later, second.later);
  nothing_else = λ t c le left. ⊎_elim
      (λ one. ⊎_elim (λ before. inl before) (λ may. inr (carry c may)) (first.nothing_else t c le one))
      (λ may. inr may)
      (second.nothing_else t c (omega (arith, le, first.later)) left);
  keeps = λ t c le before. second.keeps t c (omega (arith, le, first.later)) (first.keeps t c le before);
}

further : (n i : ℕ) (xs : List ℕ) → drop (n * i) (drop n xs) ≡ drop (n * suc i) xs
further n i xs = let on : n + n * i ≡ n * suc i = omega arith in drop-drop (n * i) n xs ∙ ap (λ k. drop k xs) on

-- chunk i of a page
pub chunk_at : (n k i : ℕ) (xs : List ℕ) → i < k → get_or (first_chunks n k xs) i [] ≡ take n (drop (n * i) xs)
chunk_at n zero i xs below = absurd (omega arith)
chunk_at n (suc k) zero xs below = let none : 0 ≡ n * 0 = omega arith in ap (λ j. take n (drop j xs)) none
chunk_at n (suc k) (suc i) xs below = chunk_at n k i (drop n xs) (omega arith) ∙ ap (take n) (further n i xs)

-- a page with sector i put in place
pub put_here : (page sector : List ℕ) (i k : ℕ) → length page ≡ 4096 → length sector ≡ 512 → i < 8 → part_of (put_mid (512 * i) k page sector) i ≡ sector
put_here page sector i k long size below =
    sym (drop-take (512 * i) 512 (put_mid (512 * i) k page sector))
    ∙ ap (drop (512 * i)) (take-put_mid (512 * i) k page sector (512 * i + 512) (omega (arith, size)) (omega (arith, long, below)))
    ∙ drop_at (take (512 * i) page) sector (512 * i) (length-take-le (512 * i) page (omega (arith, long, below)))

pub put_there : (page sector : List ℕ) (i j k : ℕ) → length page ≡ 4096 → length sector ≡ 512 → i < 8 → j < i → part_of (put_mid (512 * i) k page sector) j ≡ part_of page j
put_there page sector i j k long size below before =
    sym (drop-take (512 * j) 512 (put_mid (512 * i) k page sector))
    ∙ ap (drop (512 * j)) (take-put_mid_below (512 * i) k page sector (512 * j + 512) (omega (arith, before)) (omega (arith, long, below)))
    ∙ drop-take (512 * j) 512 page

pub length_put : (page sector : List ℕ) (a k : ℕ) → a + k ≤ length page → length sector ≡ k → length (put_mid a k page sector) ≡ length page
length_put page sector a k room size =
    ap length (put_mid-paste a k page sector sector k refl refl (sym size)) ∙ simp (length-append, length-take, length-drop) (omega (arith, room, size))

-- what a stop may leave before a read it may leave after it
pub carried_by_read : (old new : Image) (was is : ℕ → Type 0) → new ≡ old → ((k : ℕ) → was k → is k) → (c : Image) → MayLeave old was c → MayLeave new is c
carried_by_read old new was is same still c may = record {
  kept = λ k. ⊎_elim (λ u. inl (still k u)) (λ e. inr (e ∙ sym (ap (λ (f : Image). f k) same))) (may.kept k);
}

-- Homes made zeros, some after others.
use Rattle.std.proofs.Common.{ℕ, ◌≡◌, ◌+◌, ◌⊎◌, ◌∙◌, Result, Ok, Err, IsErrAnd, refl, subst, ⊎_elim, arith}
use Rattle.std.proofs.lemmas.Result.{on_ok_weaker}
use Rattle.disk_model.proofs.{Moments.{stays}, Naming.{once_none, once_wider, once_apart}}
use Rattle.disk_model.specs.Stop.{NamesOnce}
use Rattle.disk_model.specs.declared.sector_disk.{DiskFault.{DiskFault}, SectorDisk.{Ghosts}}
use Rattle.directories.specs.declared.entry.Extent.{Extent}
use Rattle.pool_growth.proofs.Owning.{at_home, own_place, own_once}
use Rattle.pool_growth.specs.Putting.{AreZeros, BlanksHomes, BlanksPart, IsHomeOfPart, IsSectorFor}
use Rattle.pool_journal.specs.{Blanking.{AreBlank, IsBlanked}, Maps.{entries_of}}
use Rattle.pool_journal.specs.declared.pool.PoolJournal.{PoolJournal}
use Rattle.sync_journal.{proofs.Runs.{of_more, one_more}, specs.{Runs.{RunsOnDevice}, Steps.{WritesInto}}}

module _ {D : Type 0} (g : Ghosts D) (journal : PoolJournal) where
  -- sectors of more homes
  pub for_more : (A B : ℕ → Type 0) → ((h : ℕ) → A h → B h) → (k : ℕ) → IsSectorFor journal A k → IsSectorFor journal B k
  for_more A B more k of = (of.0, more of.0 of.1, of.2)

  -- No home, and no call.
  pub blanked_none : (A : ℕ → Type 0) → ((h : ℕ) → A h → ⊥) → (old : D) → BlanksHomes g journal A old old (Ok (tt {0}))
  blanked_none A none old = record {
    done = λ keeps h j some. absurd (none h some);
    run = record { size = refl; kept = λ keeps. keeps; later = omega arith; touches = λ keeps. stays g (IsSectorFor journal A) old };
    once = once_none (IsSectorFor journal A) (g.asked old) (g.asked old) (λ k. refl);
    failed = λ is. cc;
    calm = refl;
  }

  -- The same homes, told otherwise.
  pub blanked_as : (A B : ℕ → Type 0) → ((h : ℕ) → A h → B h) → ((h : ℕ) → B h → A h) → (old new : D) (result : Result (Unit {0}) DiskFault)
      → BlanksHomes g journal A old new result → BlanksHomes g journal B old new result
  blanked_as A B to back old new result first = record {
    done = λ keeps. on_ok_weaker result (λ zeros h j some. zeros h j (back h some)) (first.done keeps);
    run = of_more g (IsSectorFor journal A) (IsSectorFor journal B) old new (for_more A B to) first.run;
    once = once_wider (IsSectorFor journal A) (IsSectorFor journal B) (g.asked old) (g.asked new) (for_more A B to) first.once;
    failed = first.failed;
    calm = first.calm;
  }

  -- Some homes, and then others:
  module _ (A B C : ℕ → Type 0) (one : (h : ℕ) → A h → C h) (two : (h : ℕ) → B h → C h) (apart : (h : ℕ) → A h → B h → ⊥) (old mid new : D) (first : BlanksHomes g journal A old mid (Ok (tt {0}))) where
    two_apart : (k : ℕ) → IsSectorFor journal A k → IsSectorFor journal B k → ⊥
    two_apart k of also = apart also.0 (subst A (own_once journal.sizes.blocks (entries_of journal.map) of.0 also.0 k of.2 also.2) of.1) also.1

    both_run : (result : Result (Unit {0}) DiskFault) → BlanksHomes g journal B mid new result → RunsOnDevice g (IsSectorFor journal C) old new
    both_run result then' = one_more g (IsSectorFor journal C) old mid new
        (of_more g (IsSectorFor journal A) (IsSectorFor journal C) old mid (for_more A C one) first.run)
        (of_more g (IsSectorFor journal B) (IsSectorFor journal C) mid new (for_more B C two) then'.run)

    both_once : (result : Result (Unit {0}) DiskFault) → BlanksHomes g journal B mid new result → NamesOnce (IsSectorFor journal C) (g.asked old) (g.asked new)
    both_once result then' = once_apart (IsSectorFor journal A) (IsSectorFor journal B) (IsSectorFor journal C) (g.asked old) (g.asked mid) (g.asked new)
        (for_more A C one) (for_more B C two) two_apart first.once then'.once

    still_zeros : (result : Result (Unit {0}) DiskFault) → BlanksHomes g journal B mid new result → g.keeps_model new → AreZeros g journal A new
    still_zeros result then' keeps h j some below =
        let k = at_home journal.sizes.blocks (entries_of journal.map) h + j in
        ⊎_elim
        (λ of. absurd (two_apart k (h, some, own_place journal.sizes.blocks (entries_of journal.map) h k (omega arith, omega (arith, below))) of))
        (λ same. same ∙ first.done (then'.run.kept keeps) h j some below)
        ((then'.run.touches keeps).content k)

    -- all of them,
    pub blanked_both : ((h : ℕ) → C h → A h ⊎ B h) → BlanksHomes g journal B mid new (Ok (tt {0})) → BlanksHomes g journal C old new (Ok (tt {0}))
    blanked_both each then' = record {
      done = λ keeps h j some below. ⊎_elim (λ a. still_zeros (Ok (tt {0})) then' keeps h j a below) (λ b. then'.done keeps h j b below) (each h some);
      run = both_run (Ok (tt {0})) then';
      once = both_once (Ok (tt {0})) then';
      failed = λ is. cc;
      calm = then'.calm ∙ first.calm;
    }

    -- or the device failed.
    pub blanked_failed : (fault : DiskFault) (result : Result (Unit {0}) DiskFault) → IsErrAnd result (λ e. e ≡ fault) → BlanksHomes g journal B mid new (Err fault) → BlanksHomes g journal C old new result
    blanked_failed fault (Ok x) told then' = absurd told
    blanked_failed fault (Err e) told then' = record {
      done = λ keeps. tt;
      run = both_run (Err fault) then';
      once = both_once (Err fault) then';
      failed = λ is. (let failed = then'.failed refl in let calm = first.calm in omega (arith, failed, calm));
      calm = tt;
    }

  -- A row of homes is a part of an extent.
  pub blanked_row : (extent : Extent) (low high first count : ℕ) (old new : D) (result : Result (Unit {0}) DiskFault) → first ≡ extent.first + low → first + count ≡ extent.first + high
      → WritesInto g (IsBlanked journal.sizes.blocks (entries_of journal.map) first count) (IsBlanked journal.sizes.blocks (entries_of journal.map) first count)
      (AreBlank journal.sizes.blocks (entries_of journal.map) first count (g.content new)) old new result
      → BlanksPart g journal extent low high old new result
  blanked_row extent low high first count old new result from to row =
      let Row = IsBlanked journal.sizes.blocks (entries_of journal.map) first count in
      let Part = IsSectorFor journal (IsHomeOfPart extent low high) in
      let inside : (k : ℕ) → Row k → Part k = λ k of. (of.0, (omega (arith, of.1, from), omega (arith, of.2, to)), of.3) in record {
        done = λ keeps. on_ok_weaker result (λ zeros h j some below. zeros h j (omega (arith, some.0, from)) (omega (arith, some.1, to)) below) (row.done keeps);
        run = of_more g Row Part old new inside row.run;
        once = once_wider Row Part (g.asked old) (g.asked new) inside row.once;
        failed = row.failed;
        calm = row.calm;
      }

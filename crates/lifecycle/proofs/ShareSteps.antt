-- How the steps of the second pass add up.
use Rattle.vm_types.specs.declared.mode.Levels as Levels
use Rattle.lifecycle.proofs.Names.{top_level, ◌≡◌, ◌≢◌, ℕ, inr, ◌<◌, ◌≤◌, None, refl, ap, ◌∙◌, arith, IsPage, Core, seat, Picture, picture_of, entry, IsFit, seat-none, rest-refl, rest_then}
use Rattle.lifecycle.{specs.ChildShares.{AwaitsShares, GivesShares, IsReadyForShares}, proofs.CopySteps.{forking_still}, proofs.SharedRows.{shares_none, shares_then, seats_kept, tables_shared}}

-- fewer pages are awaited too
pub awaits_within : {mode : ℕ} (c : Picture mode) (parent child low high from stop : ℕ) → AwaitsShares c parent child low high → low ≤ from → stop ≤ high → AwaitsShares c parent child from stop
awaits_within c parent child low high from stop awaits least most = record {
  forking = awaits.forking;
  apart = awaits.apart;
  bare = λ p h after below. awaits.bare p h (omega (arith, least, after)) (omega (arith, below, most));
}

module _ {M : Type 0} {m : Levels.Ghosts M} {D E : Type 0} where
  -- nothing is to be given where the parent has no copy
  pub gives_none : (core : Core D E M m) (parent child low high : ℕ) → AwaitsShares (picture_of core) parent child low high
      → ((p : ℕ) → IsPage (top_level m.mode) p → low ≤ p → p < high → seat (entry (picture_of core) parent p) ≡ None) → GivesShares core core parent child low high
  gives_none core parent child low high awaits none = record {
    shares = shares_none (picture_of core) parent child low high awaits.same awaits.bare none;
    keeps = record { fit = awaits.fit; places = λ q row n at. at; rest = rest-refl core; refused = refl };
  }

  -- nor where it has no entry
  pub gives_bare : (core : Core D E M m) (parent child low high : ℕ) → AwaitsShares (picture_of core) parent child low high
      → ((p : ℕ) → IsPage (top_level m.mode) p → low ≤ p → p < high → entry (picture_of core) parent p ≡ 0) → GivesShares core core parent child low high
  gives_bare core parent child low high awaits none = gives_none core parent child low high awaits (λ p h least under. ap seat (none p h least under) ∙ seat-none)

  -- nor of no page at all
  pub gives_no_row : (core : Core D E M m) (parent child low high page : ℕ) → AwaitsShares (picture_of core) parent child low high → page ≡ low → low ≤ high → GivesShares core core parent child low page
  gives_no_row core parent child low high page awaits same order =
      gives_none core parent child low page (awaits_within (picture_of core) parent child low high low page awaits (omega arith) (omega (arith, same, order)))
      (λ p h least under. absurd (omega (arith, same, least, under)))

  -- one row after the other
  pub gives_then : (a b c : Core D E M m) (parent child low mid high : ℕ) → IsFit (picture_of a) → parent ≢ child → low ≤ mid → mid ≤ high → GivesShares a b parent child low mid → GivesShares b c parent child mid high
      → GivesShares a c parent child low high
  gives_then a b c parent child low mid high fit apart le le' one two = record {
    shares = shares_then (picture_of a) (picture_of b) (picture_of c) parent child low mid high fit apart le le' one.shares two.shares;
    keeps = record {
      fit = two.fit;
      places = λ q row n at. two.places q row n (one.places q row n at);
      rest = rest_then a b c one.rest two.rest;
      refused = two.refused ∙ one.refused;
    };
  }

  -- those of the pages past a row are still awaited
  pub awaits_rest : (a b : Core D E M m) (parent child low mid high from stop : ℕ) → AwaitsShares (picture_of a) parent child low high → GivesShares a b parent child low mid → low ≤ from → mid ≤ from → stop ≤ high
      → AwaitsShares (picture_of b) parent child from stop
  awaits_rest a b parent child low mid high from stop awaits gives least past most =
      record {
        forking = forking_still (picture_of a) (picture_of b) parent child awaits.forking gives.fit (record { root = gives.shares.beside.root; at = gives.shares.beside.at });
        apart = awaits.apart;
        bare = λ p h after below. gives.shares.others child p h (inr (inr (omega (arith, past, after)))) ∙ awaits.bare p h (omega (arith, least, after)) (omega (arith, below, most));
      }

  -- and no table is missing
  pub ready_rest : (a b : Core D E M m) (parent child low mid high from stop : ℕ) → IsReadyForShares (picture_of a) parent child low high → GivesShares a b parent child low mid → low ≤ from → mid ≤ from → stop ≤ high
      → IsReadyForShares (picture_of b) parent child from stop
  ready_rest a b parent child low mid high from stop ready gives least past most = record {
    awaits = awaits_rest a b parent child low mid high from stop ready.awaits gives least past most;
    linked = tables_shared (picture_of a) (picture_of b) parent child low mid ready.awaits.apart gives.shares (seats_kept (picture_of a) (picture_of b) parent child low mid gives.shares) ready.linked;
  }

-- The steps on one page, whose entry of the parent names a seat, together.
use Rattle.vm_types.specs.declared.mode.Levels as Levels
use Rattle.lifecycle.proofs.{Given.{fit_shared, shares_one}, Live.{live_root, some_of}, Lowered.{places_set}, Names.{top_level, user_pages_fit, ◌≡◌, ℕ, inl, ◌/◌, ◌%◌, ◌+◌, ◌<◌, Some, sym, ap, ◌∙◌, arith, SetsEntry}}
use Rattle.lifecycle.proofs.{Names.{number_of, IsTableOf, IsPage, IsForest, IsRoot, IsTable, Entry, Core, Seat, seat, Picture, picture_of, entry, IsFitBut, seat-none, place_at, rest_then}, Passed.{in_row}, Sharers.{may_share}}
use Rattle.{ranges.specs.Steps.{KeepsBesideMemory}, residency.specs.Steps.{SameBeside}}
use Rattle.lifecycle.{proofs.Sharers.{unwritten_all}, specs.{ChildShares.{AddsShare, AwaitsShares, GivesShares, HoldsEntries, WithdrawsWrite}, Shares.{IsTableFor, MayShare, RaisesSeat}}}

module _ {M : Type 0} {m : Levels.Ghosts M} {D E : Type 0} (was low : Core D E M m) (parent child first index to : ℕ) (after : Entry) (below : index < 512)
    (awaits : AwaitsShares (picture_of was) parent child (first + index) (first + index + 1)) (holds : HoldsEntries (picture_of was) child first (index + 1) to)
    (withdraws : WithdrawsWrite was low parent (first + index) after) where
  h : IsPage (top_level m.mode) (first + index)
  h = omega (arith, holds.user, user_pages_fit m.mode)

  bare : entry (picture_of was) child (first + index) ≡ 0
  bare = awaits.bare (first + index) h (omega arith) (omega arith)

  lives : (r : ℕ) × ((picture_of was).root child ≡ Some r)
  lives = live_root ((picture_of was).root child) awaits.child_lives

  root_low : (picture_of low).root child ≡ Some lives.0
  root_low = withdraws.withdrawn.sets.beside.root child ∙ lives.1

  -- the seat of the parent's page may have one more share, for the child
  pub may_give : (y : Seat) → seat (number_of after) ≡ Some y → MayShare (picture_of low) y
  may_give y is =
      let number = withdraws.fit.rooted.numbers child lives.0 root_low in
      let source = withdraws.withdrawn.sets.changed in
      let named : seat (entry (picture_of low) parent (first + index)) ≡ Some y = ap seat source ∙ is in
      let none : entry (picture_of low) child (first + index) ≡ 0 = withdraws.withdrawn.sets.others child (first + index) h (inl (λ same. awaits.apart (sym same))) ∙ bare in
      record {
        owned = withdraws.fit.counted.1.named parent (first + index) y h named;
        few = may_share (picture_of low) parent (first + index) child y withdraws.fit h named (omega (arith, number.0)) number.1 (ap seat none ∙ seat-none);
        unwritten = unwritten_all (picture_of low) parent (first + index) (number_of after) y withdraws.fit h source is withdraws.withdrawn.unwritten;
      }

  module _ (mid : Core D E M m) (adds : AddsShare low mid (number_of after)) where
    shared : (y : Seat) × (seat (number_of after) ≡ Some y)
    shared = some_of (seat (number_of after)) withdraws.own

    fit : IsFitBut (picture_of mid) shared.0 1 0
    fit = adds.fit shared.0 shared.1

    raised : RaisesSeat (picture_of low) (picture_of mid) shared.0
    raised = adds.raises shared.0 shared.1

    root : (picture_of mid).root child ≡ Some lives.0
    root = raised.beside.root child ∙ root_low

    place : IsTableFor (picture_of was) child ((first + index) / 512) to
    place = in_row (picture_of was) child to first index holds.begins below holds.place

    place_mid : IsTableOf mid.frames (top_level m.mode) lives.0 ((first + index) / 512) to
    place_mid = raised.rows child lives.0 ((first + index) / 512) to root_low (withdraws.places child ((first + index) / 512) to place lives.0 root_low)

    -- its table is one still, in which the page stands
    pub placed_raised : IsForest mid.frames × IsTable mid.frames to
        × ((r : ℕ) × (p : ℕ) × IsRoot (top_level m.mode) mid.frames r × IsPage (top_level m.mode) p × IsTableOf mid.frames (top_level m.mode) r (p / 512) to × (p % 512 ≡ index))
    placed_raised = (fit.rooted.forest, place_mid.table, (lives.0, first + index, fit.rooted.roots child lives.0 root, h, place_mid, place_at first index holds.begins below))

    -- the child's entry is set
    module _ (now : Core D E M m) (beside : SameBeside (picture_of mid) (picture_of now)) (set : (r p : ℕ) → IsRoot (top_level m.mode) mid.frames r → IsPage (top_level m.mode) p
        → IsTableOf mid.frames (top_level m.mode) r (p / 512) to → p % 512 ≡ index → SetsEntry mid.frames now.frames (top_level m.mode) r p (number_of after)) where
      abbrev new : Picture m.mode
      new = picture_of now

      sets : SetsEntry mid.frames now.frames (top_level m.mode) lives.0 (first + index) (number_of after)
      sets = set lives.0 (first + index) (fit.rooted.roots child lives.0 root) h place_mid (place_at first index holds.begins below)

      raised_place : (q row n : ℕ) → IsTableFor (picture_of low) q row n → IsTableFor (picture_of mid) q row n
      raised_place q row n at r is = (let before : (picture_of low).root q ≡ Some r = sym (raised.beside.root q) ∙ is in raised.rows q r row n before (at r before))

      pub page_shared : KeepsBesideMemory mid now → now.refused ≡ mid.refused → GivesShares was now parent child (first + index) (first + index + 1)
      page_shared rest refused = record {
        shares = shares_one (picture_of was) (picture_of low) (picture_of mid) new parent child lives.0 (first + index) (number_of after) shared.0 fit h awaits.apart withdraws.withdrawn shared.1 raised bare
            (awaits.same (first + index)) root sets beside;
        keeps = record {
          fit = fit_shared (picture_of was) (picture_of low) (picture_of mid) new parent child lives.0 (first + index) (number_of after) shared.0 fit h awaits.apart withdraws.withdrawn shared.1 raised bare
              (awaits.same (first + index)) root sets beside;
          places = λ q row n at. places_set (picture_of mid) new 0 lives.0 (first + index) (number_of after) fit.rooted beside.root sets q row n (raised_place q row n (withdraws.places q row n at));
          rest = rest_then was mid now (rest_then was low mid withdraws.rest adds.rest) rest;
          refused = refused ∙ adds.refused ∙ withdraws.refused;
        };
      }

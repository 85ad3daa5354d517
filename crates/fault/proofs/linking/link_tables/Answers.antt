use Rattle.{fault.proofs.Names.{top_level, Attr, missing_of, ◌≡◌, ℕ, inl, ◌/◌, Option, Some, refl, sym, ◌∙◌, subst, arith, same_Some, IsSome, on_err, picture_of, IsWhole}, page_tables.specs.Places.{IsTableOf}}
use Rattle.fault.proofs.{Steps.{slotted_then, slotted_same}, WaySteps.{links_on, takes_none, takes_then, takes_done, takes_stall, nothing_on, nothing_if}}
use Rattle.fault.proofs.linking.link_tables.Goals as goal

pub table_of-requires-clause-root : goal.table_of-requires-clause-root
table_of-requires-clause-root g c = c.loop-table.invariant.takes.moves.fit.rooted.roots c.args.pid c.root_of-root.result.0 c.loop-table.invariant.root

pub loop-table-init : goal.loop-table-init
loop-table-init g c = record {
  takes = takes_none g.E.SectorDisk c.args.core.now tt c.requires.fit c.requires.swap;
  tables = λ n table. inl table;
  slotted = slotted_same (λ p. ⊥) (λ q p. ⊥) (picture_of c.args.core.now) (picture_of c.args.core.now) (λ p. refl) (λ q p h. refl);
  root = c.root_of-root.ensures;
  mapped = c.requires.mapped;
  fewer = omega arith;
  idle = λ none. refl;
}

pub loop-table-preserved : goal.loop-table-preserved
loop-table-preserved g c =
    let k = c.loop-table.invariant in
    let step = c.in_ok-link_one-in-Err.ensures.links in
    let lowered = c.in_ok-link_one-in-Err.ensures.lowered in
    let first = c.args.core.now in
    let mid = c.loop-table.core in
    let last = c.link_one.new.core in
    record {
      takes = takes_then g.E.SectorDisk first mid last tt _ k.takes step.takes;
      tables = links_on (picture_of first) (picture_of mid) (picture_of last) c.args.pid c.args.page (step.moves.spaces.root c.args.pid) step.gives.pointers k.tables step.tables;
      slotted = slotted_then (λ p. ⊥) (λ q p. ⊥) (picture_of first) (picture_of mid) (picture_of last) k.slotted step.slotted;
      root = step.moves.spaces.root c.args.pid ∙ k.root;
      mapped = subst (λ (x : Option Attr). IsSome x) (sym (step.moves.spaces.at c.args.pid c.args.page)) k.mapped;
      fewer = omega (arith, lowered, k.fewer);
      idle = λ none. absurd (omega (arith, none, lowered, k.fewer));
    }

pub returns-in-Ok : goal.returns-in-Ok
returns-in-Ok g c =
    let k = c.loop-table.invariant in
    let P : ℕ → Type 0 = λ x. missing_of c.loop-table.core.frames (top_level g.M.Levels.mode) x c.args.page ≡ 0 in
    let Q : ℕ → Type 0 = λ x. IsTableOf c.loop-table.core.frames (top_level g.M.Levels.mode) x (c.args.page / 512) c.in-Ok.table.0 in
    record {
      links = record { takes = takes_done g.E.SectorDisk c.args.core.now c.loop-table.core tt _ k.takes; tables = k.tables; slotted = k.slotted; wanted = tt };
      idle = λ whole. (k.idle (whole c.root_of-root.result.0 c.root_of-root.ensures), tt);
      whole = λ r lives. subst P (same_Some c.root_of-root.result.0 r (sym k.root ∙ lives)) (c.in-Ok.ensures.found.whole c.args.page refl);
      table = λ r lives. subst Q (same_Some c.root_of-root.result.0 r (sym k.root ∙ lives)) c.in-Ok.ensures.found;
    }

pub returns-in_err-link_one-in-Err : goal.returns-in_err-link_one-in-Err
returns-in_err-link_one-in-Err g c =
    let k = c.loop-table.invariant in
    let first = c.args.core.now in
    let mid = c.loop-table.core in
    let last = c.link_one.new.core in
    let stall = c.in_err-link_one-in-Err.field-0.0 in
    let step = c.in_err-link_one-in-Err.ensures.links in
    let takes = takes_then g.E.SectorDisk first mid last tt _ k.takes step.takes in
    let r = c.from_residual.result in
    let is = c.from_residual.ensures.1 in
    record {
      links = record {
        takes = takes_stall g.E.SectorDisk first last stall r is takes;
        tables = links_on (picture_of first) (picture_of mid) (picture_of last) c.args.pid c.args.page (step.moves.spaces.root c.args.pid) step.tried.1.pointers k.tables step.tables;
        slotted = slotted_then (λ p. ⊥) (λ q p. ⊥) (picture_of first) (picture_of mid) (picture_of last) k.slotted step.slotted;
        wanted = on_err r (IsWhole (picture_of last) c.args.pid c.args.page → ⊥) step.wanted;
      };
      idle = λ whole. absurd (step.wanted (λ root lives.
          let was : (picture_of first).root c.args.pid ≡ Some root = sym (takes.moves.spaces.root c.args.pid) ∙ lives in
          let none = whole root was in
          let less = takes.moves.tables c.args.pid root c.args.page was in
          omega (arith, none, less)));
      whole = nothing_on r stall _ is;
      table = nothing_if r stall _ is;
    }

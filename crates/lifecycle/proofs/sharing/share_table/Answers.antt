use Rattle.lifecycle.proofs.Names.{user_end, ◌≡◌, ℕ, ◌+◌, ◌-◌, ◌/◌, ◌%◌, ◌≤◌, sym, subst, arith, picture_of}
use Rattle.lifecycle.{specs.{ChildShares.{GivesShares}, Shares.{IsTableFor}}, proofs.{Names.{same_table}, ShareSteps.{awaits_rest, gives_none, gives_no_row, gives_then}, SharedRows.{none_of_row}}}
use Rattle.lifecycle.proofs.sharing.share_table.Goals as goal

pub returns-in_default : goal.returns-in_default
returns-in_default g c =
    gives_none c.args.core.now c.args.part.now.pid c.args.child c.args.part.now.first c.args.part.now.end c.requires.ready.awaits
    (λ p h least under. none_of_row (picture_of c.args.core.now) c.args.part.now.pid c.args.child c.args.part.now.first p c.requires.ready.linked c.in_default.ensures.missing
    (sym (same_table c.args.part.now.first p c.args.part.now.end least under c.requires.part.one_table)) h)

pub loop-index-init : goal.loop-index-init
loop-index-init g c =
    let get = c.get.ensures.number in
    let index : c.table_start-first.result + (c.get.result - c.table_start-first.result) ≡ c.args.part.now.first = omega (arith, c.table_start-first.ensures, get) in
    record {
      least = omega (arith, index);
      within = omega (arith, get, c.requires.part.further);
      gives = gives_no_row c.args.core.now c.args.part.now.pid c.args.child c.args.part.now.first c.args.part.now.end (c.table_start-first.result + (c.get.result - c.table_start-first.result)) c.requires.ready.awaits index
          (omega (arith, c.requires.part.further));
    }

pub share_at-index-requires : goal.share_at-index-requires
share_at-index-requires g c =
    let k = c.loop-index.invariant in
    let first = c.table_start-first.result in
    let is = c.table_start-first.ensures in
    let row : c.args.part.now.first / 512 ≡ first / 512 = omega (arith, is) in
    let at : first % 512 ≡ 0 = omega (arith, is) in
    let user : first + (c.args.part.now.end - first) ≤ user_end g.M.Levels.mode = omega (arith, is, c.requires.part.further, c.requires.part.high) in
    let P : ℕ → Type 0 = λ x. IsTableFor (picture_of c.args.core.now) c.args.part.now.pid x c.args.part.now.table.0 in
    let Q : ℕ → Type 0 = λ x. IsTableFor (picture_of c.args.core.now) c.args.child x c.in-Some.to.0 in
    record {
      awaits = awaits_rest c.args.core.now c.loop-index.core c.args.part.now.pid c.args.child c.args.part.now.first (first + c.loop-index.index) c.args.part.now.end (first + c.loop-index.index) (first + (c.args.part.now.end - first))
          c.requires.ready.awaits k.gives k.least (omega arith) (omega (arith, is, c.requires.part.further));
      from = record { place = k.gives.places c.args.part.now.pid (first / 512) c.args.part.now.table.0 (subst P row c.requires.part.table); begins = at; user = user };
      to = record { place = k.gives.places c.args.child (first / 512) c.in-Some.to.0 (subst Q row c.in-Some.ensures.found); begins = at; user = user };
      below = c.loop-index-test.true;
      in_table = omega (arith, is, c.requires.part.one_table);
    }

pub loop-index-preserved : goal.loop-index-preserved
loop-index-preserved g c =
    let k = c.loop-index.invariant in
    let step = c.share_at-index.ensures in
    let least = k.least in
    let further = step.next.further in
    let first = c.table_start-first.result in
    record {
      least = omega (arith, least, further);
      within = step.next.within;
      gives = gives_then c.args.core.now c.loop-index.core c.share_at-index.new.core c.args.part.now.pid c.args.child c.args.part.now.first (first + c.loop-index.index) (first + c.share_at-index.result)
          c.requires.ready.awaits.fit c.requires.ready.awaits.apart least (omega (arith, further)) k.gives step.gives;
    }

pub returns : goal.returns
returns g c =
    let first = c.table_start-first.ensures in
    let within = c.loop-index.invariant.within in
    let end : c.table_start-first.result + c.loop-index.index ≡ c.args.part.now.end = omega (arith, first, within, c.loop-index-test.false, c.requires.part.further) in
    subst (λ (x : ℕ). GivesShares c.args.core.now c.loop-index.core c.args.part.now.pid c.args.child c.args.part.now.first x) end c.loop-index.invariant.gives

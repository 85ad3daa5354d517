use Rattle.inspection.proofs.{Names.{sizes, ◌<◌, subst, sym, ap, ◌∙◌, arith, FrameNo, IsTable, picture_of}, Steps.{below, leads}}
use Rattle.inspection.proofs.walks.next_step.Goals as goal

pub frame_number-table-requires : goal.frame_number-table-requires
frame_number-table-requires g c =
    let pointer = sym c.is_pointer.ensures ∙ c.if-is_pointer.true in
    let table = below (picture_of c.args.core.now) c.requires.step.0 c.args.page c.args.step c.requires.fit c.requires.step.1 pointer in
    omega (arith, table.inside, c.args.core.now.sound.most)

pub step_in-requires-clause-table : goal.step_in-requires-clause-table
step_in-requires-clause-table g c =
    let pointer = sym c.is_pointer.ensures ∙ c.if-is_pointer.true in
    let table = below (picture_of c.args.core.now) c.requires.step.0 c.args.page c.args.step c.requires.fit c.requires.step.1 pointer in
    subst (IsTable c.args.core.now.frames) (sym c.frame_number-table.ensures) table

pub step_in-requires-clause-level : goal.step_in-requires-clause-level
step_in-requires-clause-level g c = let levels = (sizes g.M.Levels.mode).levels.1 in let least = c.requires.step.1.level in omega (arith, least, levels)

pub returns-then-is_pointer-clause-some : goal.returns-then-is_pointer-clause-some
returns-then-is_pointer-clause-some g c =
    let some : 0 < c.args.step.level = omega (arith, c.if-step-gt0.true) in
    let pointer = sym c.is_pointer.ensures ∙ c.if-is_pointer.true in
    let number = ap (λ (n : FrameNo). n.0) c.step_in.ensures.table ∙ c.frame_number-table.ensures in (
      c.requires.step.0,
      leads (picture_of c.args.core.now) c.requires.step.0 c.args.page c.args.step c.requires.fit c.requires.step.1 pointer c.step_in.result some
          c.step_in.ensures.level number c.step_in.ensures.step,
    )

pub returns-then-is_pointer-clause-next : goal.returns-then-is_pointer-clause-next
returns-then-is_pointer-clause-next g c =
    let some : 0 < c.args.step.level = omega (arith, c.if-step-gt0.true) in
    let pointer = sym c.is_pointer.ensures ∙ c.if-is_pointer.true in
    let number = ap (λ (n : FrameNo). n.0) c.step_in.ensures.table ∙ c.frame_number-table.ensures in
    record {
      each = λ pid is. leads (picture_of c.args.core.now) pid c.args.page c.args.step c.requires.fit is pointer c.step_in.result some c.step_in.ensures.level
          number c.step_in.ensures.step;
      lower = let level = c.step_in.ensures.level in omega (arith, level, some);
    }

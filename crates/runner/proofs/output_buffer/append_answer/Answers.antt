use Rattle.{std.proofs.Common.{◌≡◌, ◌++◌, length, take, ap, ◌∙◌, arith, rules}, runner.proofs.Bytes.{in_part}}
use Rattle.runner.proofs.output_buffer.append_answer.Goals as goal

pub returns-clause-bytes : goal.returns-clause-bytes
returns-clause-bytes c =
    let long : length c.answer_at_front.new.room ≡ 1024 = search rules in
    in_part c.args.bytes.now c.answer_at_front.new.room c.args.len _ c.answer_at_front.result (omega arith) (omega (arith, long, c.answer_at_front.ensures.within))
    ∙ ap (λ t. take c.args.len c.args.bytes.now ++ t) c.answer_at_front.ensures.text

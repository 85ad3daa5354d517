use Rattle.{std.{proofs.Common.{ℕ, List, MatchResult, ap, subst, ◌∙◌}, specs.Io.KnownBytes.{Appends}}, runner.specs.Bytes.{WritesBeginning}, serving.specs.Responses.{number_bytes}}
use Rattle.serving.proofs.responses.Response.write.Goals as goal

pub returns : goal.returns
returns g c =
    let before = g.W.Write.contents c.args.writer.now in
    let after = g.W.Write.contents c.write_bytes.new.writer in
    subst (λ (bytes : List ℕ). MatchResult c.write_bytes.result (λ _. Appends before after bytes) (λ _. WritesBeginning before after bytes)) (c.bytes.ensures ∙ ap number_bytes c.numbers.ensures) c.write_bytes.ensures

use Rattle.{std.proofs.Common.{◌++◌, List, ℕ, ap, sym, ◌∙◌, arith, take_all}, byteorder.specs.Endian.{little_bytes}}
use Rattle.serving.proofs.responses.ReplyNumbers.bytes.Goals as goal

pub returns : goal.returns
returns c =
    let n = c.args.self.now in
    let behind : ℕ → List ℕ → List ℕ = λ number front. front ++ little_bytes 8 number in
    sym (take_all 40 c.put_number-5.new.bytes (omega (arith, c.put_number-5.array_long)))
    ∙ c.put_number-5.ensures
    ∙ ap (behind n.root) (c.put_number-4.ensures ∙ ap (behind n.third) (c.put_number-3.ensures ∙ ap (behind n.second) (c.put_number-2.ensures ∙ ap (behind n.first) c.put_number.ensures)))

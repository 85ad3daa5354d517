use Rattle.{std.proofs.{Common.{◌≤◌, ◌+◌, ◌++◌, length, take, ap, ◌∙◌, arith}, lemmas.{List.{length-take-le}, Slice.{take-put_mid}}}, runner.proofs.Bytes.{extended}}
use Rattle.runner.proofs.line_buffer.LineBuffer.extend.Goals as goal

pub returns : goal.returns
returns c =
    let len = c.self.inside.len in
    let bytes = c.self.inside.bytes in
    let more = c.args.bytes.now in
    let inside : len ≤ length bytes = omega (arith, c.self.told, c.self.invariant) in
    let copied = c.copy_from_slice.ensures.after in
    take-put_mid len _ bytes c.copy_from_slice.new.self (len + c.min-count.result) (omega arith) inside ∙ ap (λ l. take len bytes ++ l) copied
    ∙ extended (take len bytes) more len c.min-count.result (length-take-le len bytes inside) c.self.invariant c.min-count.ensures
    ∙ ap (λ k. take 257 (k ++ more)) c.self.view_is

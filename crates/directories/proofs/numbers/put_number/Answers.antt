use Rattle.std.proofs.Common.{ℕ, List, ◌++◌, ◌∙◌, ap, drop}
use Rattle.std.proofs.lemmas.List.{take_rest}
use Rattle.byteorder.specs.{Endian.{little_bytes}, Numbers.{length-bytes_low_first}}
use Rattle.directories.proofs.Bytes.{beside}
use Rattle.directories.proofs.numbers.put_number.Goals as goal

pub returns-clause-others : goal.returns-clause-others
returns-clause-others c =
    let bytes = c.args.bytes.now in
    let written = little_bytes 4 c.args.number in
    beside 4 c.args.at bytes written c.write_u32.new.buf
    (c.write_u32.ensures ∙ ap (λ (xs : List ℕ). written ++ drop 4 xs) (take_rest bytes c.args.at))
    (length-bytes_low_first 0 4 c.args.number) c.requires

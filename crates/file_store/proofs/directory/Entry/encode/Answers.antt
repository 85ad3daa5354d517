use Rattle.file_store.proofs.{Encoded.{encoded}, Names.{◌≡◌, ◌+◌, ◌-◌, ◌++◌, List, length, take, drop, cond, ℕ, refl, sym, ap, ◌∙◌, rules, cond-true, cond-false, post_of, little_bytes}, directory.Entry.encode.Goals.{then-self, else-self}}
use Rattle.file_store.proofs.directory.Entry.encode.Goals as goal

pub returns-clause-entry : goal.returns-clause-entry
returns-clause-entry c =
    let e = c.args.self.now in
    let word = 2147483648 + c.if-self.read_only + e.first in
    let behind = length c.write_u32.new.buf - 4 in
    let bit : c.if-self.read_only ≡ cond e.info.read_only 1073741824 0 = elim c.if-self.branch [
      | then-self w ↦ w.read_only-is ∙ sym (cond-true e.info.read_only 1073741824 0 w.if-self.true)
      | else-self w ↦ w.read_only-is ∙ sym (cond-false e.info.read_only 1073741824 0 w.if-self.false)
    ] in
    encoded e word c.if-self.read_only
    (take 4 c.write_u32.new.buf ++ (c.write_u32-2.new.buf ++ post_of 4 behind c.write_u32.new.buf))
    (drop 4 (take behind (drop 4 c.write_u32.new.buf)) ++ post_of 4 behind c.write_u32.new.buf)
    c.requires.first (search rules) bit refl
    (ap (λ (front : List ℕ). take 4 front ++ (c.write_u32-2.new.buf ++ post_of 4 behind c.write_u32.new.buf)) c.write_u32.ensures
    ∙ ap (λ (part : List ℕ). little_bytes 4 word ++ (part ++ post_of 4 behind c.write_u32.new.buf)) c.write_u32-2.ensures)

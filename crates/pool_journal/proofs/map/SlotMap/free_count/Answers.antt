use Rattle.std.proofs.Common.{true, false, length, ap, arith}
use Rattle.pool_journal.{proofs.{AllFree.{in_all}, Found.{body_free}}, specs.Maps.{entries_of}}
use Rattle.pool_journal.proofs.map.SlotMap.free_count.Goals as goal

pub returns : goal.returns
returns c = λ m fits.
    let map = c.args.self.now in
    let one = ap (λ xs. length xs) (body_free map false c.deref.result.now m fits (λ e. c.deref.ensures.value) (λ e. cc)) in
    let two = ap (λ xs. length xs) (body_free map true c.deref-2.result.now m fits (λ e. cc) (λ e. c.deref-2.ensures.value)) in
    let all = in_all m (entries_of map) in
    omega (arith, c.free_in.ensures.counted false, c.free_in-2.ensures.counted true, one, two, all)

use Rattle.std.proofs.Common.{ℕ, ◌+◌, take, get_or, set, sym, subst}
use Rattle.sized_stores.specs.{Commit.{settled, AreSettled}, Listing.{no_size}}
use Rattle.sized_stores.proofs.Settled.{settled_next}
use Rattle.sized_stores.proofs.settling.settle.Goals as goal

pub loop-file-preserved : goal.loop-file-preserved
loop-file-preserved c =
    let files = c.args.files.now in
    let old = c.args.sizes.now in
    let new = c.loop-file.sizes in
    let n = c.loop-file.file-index in
    subst (λ (f : ℕ). AreSettled (take (n + 1) files) old (set new f (settled (get_or new f no_size)))) (sym c.from.ensures)
    (settled_next files old new n c.loop-file-test.true (c.requires n c.loop-file-test.true) c.loop-file.invariant)

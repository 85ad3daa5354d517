use Rattle.std.proofs.Common.{◌∙◌, length, subst, sym, ap, arith}
use Rattle.pool_journal.proofs.Round.{taken_free, taken_apart, taken_long}
use Rattle.pool_journal.specs.{Giving.{AreApart, AreFree}, Maps.{entries_of}}
use Rattle.pool_journal.proofs.taking.TakenSlots.list.Goals as goal

pub returns-clause-free : goal.returns-clause-free
returns-clause-free c = λ m fits.
    let start = c.row_for.result in
    subst (AreFree m (entries_of c.args.map.now)) (sym (c.go_round.ensures.listed m fits))
    (taken_free m (entries_of c.args.map.now) start.second start.place (let low = c.row_for.ensures in omega (arith, low, fits.0)) c.args.most)

pub returns-clause-apart : goal.returns-clause-apart
returns-clause-apart c = λ m fits.
    let start = c.row_for.result in
    subst AreApart (sym (c.go_round.ensures.listed m fits))
    (taken_apart m (entries_of c.args.map.now) start.second start.place (let low = c.row_for.ensures in omega (arith, low, fits.0)) c.args.most)

pub returns-clause-long : goal.returns-clause-long
returns-clause-long c = λ m fits.
    let start = c.row_for.result in
    ap (λ l. length l) (c.go_round.ensures.listed m fits)
    ∙ taken_long m (entries_of c.args.map.now) start.second start.place (let low = c.row_for.ensures in omega (arith, low, fits.0)) c.args.most

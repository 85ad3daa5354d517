use Rattle.{std.proofs.Common.{◌+◌, arith, rules}, regions.{proofs.{MapLemmas.{front_end_low, middle_end, protected_is}, ResultLemmas.{made, protected_longer, protects, too_long}}, specs.RunList.{list_protected}}}
use Rattle.regions.proofs.table.Regions.protect_into.Goals as goal

pub returns-in_err-paste : goal.returns-in_err-paste
returns-in_err-paste g c =
    too_long g.M.Levels.mode c.args.self.now _ _ (protects g.M.Levels.mode c.args.self.now c.args.first c.args.pages c.as_slice.ensures.maximal c.args.prot) _ _ c.from_residual.result (search rules)
    (protected_longer g.M.Levels.mode c.args.self.now c.args.first c.args.pages c.as_slice.ensures.maximal c.args.prot)
    (rw (c.clear.ensures.none, c.as_slice.ensures.runs) at c.in_err-paste.ensures.err)

pub paste-requires-2-clause-behind : goal.paste-requires-2-clause-behind
paste-requires-2-clause-behind g c =
    rw (c.in_ok-paste.ensures.ok, c.clear.ensures.none, c.as_slice.ensures.runs)
    (front_end_low g.M.Levels.mode c.args.self.now c.as_slice.ensures.maximal c.args.first (c.args.first + c.args.pages) (omega arith))

pub returns-in_err-paste-2 : goal.returns-in_err-paste-2
returns-in_err-paste-2 g c =
    too_long g.M.Levels.mode c.args.self.now _ _ (protects g.M.Levels.mode c.args.self.now c.args.first c.args.pages c.as_slice.ensures.maximal c.args.prot) _ _ c.from_residual-in_err-paste-2.result (search rules)
    (protected_is g.M.Levels.mode c.args.self.now c.as_slice.ensures.maximal c.args.first (c.args.first + c.args.pages) (omega arith) c.args.prot).longer
    (rw (c.in_ok-paste.ensures.ok, c.clear.ensures.none, c.as_slice.ensures.runs, c.as_slice-2.ensures.runs) at c.in_err-paste-2.ensures.err)

pub paste-requires-3-clause-behind : goal.paste-requires-3-clause-behind
paste-requires-3-clause-behind g c =
    rw (c.in_ok-paste-2.ensures.ok, c.in_ok-paste.ensures.ok, c.clear.ensures.none, c.as_slice.ensures.runs, c.as_slice-2.ensures.runs)
    (middle_end g.M.Levels.mode c.args.self.now c.as_slice.ensures.maximal c.args.first (c.args.first + c.args.pages) (omega arith) c.args.prot)

pub returns-in_err-paste-3 : goal.returns-in_err-paste-3
returns-in_err-paste-3 g c =
    too_long g.M.Levels.mode c.args.self.now _ _ (protects g.M.Levels.mode c.args.self.now c.args.first c.args.pages c.as_slice.ensures.maximal c.args.prot) (list_protected c.args.self.now c.args.first (c.args.first + c.args.pages) c.args.prot) _ c.from_residual-in_err-paste-3.result (search rules)
    (omega arith)
    (rw (c.in_ok-paste-2.ensures.ok, c.in_ok-paste.ensures.ok, c.clear.ensures.none, c.as_slice.ensures.runs, c.as_slice-2.ensures.runs, c.as_slice-3.ensures.runs) at c.in_err-paste-3.ensures.err)

pub returns : goal.returns
returns g c =
    made g.M.Levels.mode c.args.self.now _ _ (protects g.M.Levels.mode c.args.self.now c.args.first c.args.pages c.as_slice.ensures.maximal c.args.prot) _ _
    (rw (c.in_ok-paste-2.ensures.ok, c.in_ok-paste.ensures.ok, c.clear.ensures.none, c.as_slice.ensures.runs, c.as_slice-2.ensures.runs, c.as_slice-3.ensures.runs) at c.in_ok-paste-3.ensures.ok)
    c.in_ok-paste-3.ensures.few

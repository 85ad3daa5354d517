use Rattle.{std.proofs.Common.{◌+◌, arith, rules}, regions.{proofs.{MapLemmas.{front_end_high, removed_is}, ResultLemmas.{made, removes, too_long}}, specs.RunList.{list_removed}}}
use Rattle.regions.proofs.table.Regions.remove_into.Goals as goal

pub returns-in_err-paste : goal.returns-in_err-paste
returns-in_err-paste g c =
    too_long g.M.Levels.mode c.args.self.now _ _ (removes g.M.Levels.mode c.args.self.now c.args.first c.args.pages c.as_slice.ensures.maximal) _ _ c.from_residual.result (search rules)
    (removed_is g.M.Levels.mode c.args.self.now c.as_slice.ensures.maximal c.args.first (c.args.first + c.args.pages) (omega arith)).longer
    (rw (c.clear.ensures.none, c.as_slice.ensures.runs) at c.in_err-paste.ensures.err)

pub paste-requires-2-clause-behind : goal.paste-requires-2-clause-behind
paste-requires-2-clause-behind g c =
    rw (c.in_ok-paste.ensures.ok, c.clear.ensures.none, c.as_slice.ensures.runs)
    (front_end_high g.M.Levels.mode c.args.self.now c.as_slice.ensures.maximal c.args.first (c.args.first + c.args.pages) (omega arith))

pub returns-in_err-paste-2 : goal.returns-in_err-paste-2
returns-in_err-paste-2 g c =
    too_long g.M.Levels.mode c.args.self.now _ _ (removes g.M.Levels.mode c.args.self.now c.args.first c.args.pages c.as_slice.ensures.maximal) (list_removed c.args.self.now c.args.first (c.args.first + c.args.pages)) _ c.from_residual-in_err-paste-2.result (search rules)
    (omega arith)
    (rw (c.in_ok-paste.ensures.ok, c.clear.ensures.none, c.as_slice.ensures.runs, c.as_slice-2.ensures.runs) at c.in_err-paste-2.ensures.err)

pub returns : goal.returns
returns g c =
    made g.M.Levels.mode c.args.self.now _ _ (removes g.M.Levels.mode c.args.self.now c.args.first c.args.pages c.as_slice.ensures.maximal) _ _
    (rw (c.in_ok-paste.ensures.ok, c.clear.ensures.none, c.as_slice.ensures.runs, c.as_slice-2.ensures.runs) at c.in_ok-paste-2.ensures.ok)
    c.in_ok-paste-2.ensures.few

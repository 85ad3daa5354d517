use Rattle.page_tables.proofs.{Names.{top_level, arith}, Pruning.{Prunes-refl, Prunes-trans}}
use Rattle.page_tables.proofs.tables.prune.Goals as goal

pub loop-root-init : goal.loop-root-init
loop-root-init g c = (c.requires.forest, c.requires.root, Prunes-refl c.args.frames.now (top_level g.M.Levels.mode) c.args.root.0 c.args.page c.requires.forest)

pub loop-root-preserved : goal.loop-root-preserved
loop-root-preserved g c = let p = c.prune_last.ensures.prunes in (p.forest, p.roots c.args.root.0 c.loop-root.invariant.1, Prunes-trans _ _ _ (top_level g.M.Levels.mode) c.args.root.0 c.args.page c.loop-root.invariant.2 p)

pub loop-root-smaller : goal.loop-root-smaller
loop-root-smaller g c = omega (arith, c.prune_last.ensures.higher c.loop-root-test.true, c.prune_last.ensures.in_levels)

pub returns-clause-prunes : goal.returns-clause-prunes
returns-clause-prunes g c = Prunes-trans _ _ _ (top_level g.M.Levels.mode) c.args.root.0 c.args.page c.loop-root.invariant.2 c.prune_last.ensures.prunes

use Rattle.memory.proofs.{Names.{◌≢◌, arith, top_level, missing_of}, Walks.{missing_fault}}
use Rattle.memory.proofs.walking.walk_way.Goals as goal

pub returns-in-Err-clause-walked : goal.returns-in-Err-clause-walked
returns-in-Err-clause-walked g c =
    let t = c.args.frames.now in
    let ne : missing_of t (top_level g.M.Levels.mode) c.args.root.0 c.args.page ≢ 0 = λ z. omega (arith, z, c.in-Err.ensures.missing.0, c.in-Err.ensures.missing.1) in
    (λ addr at. missing_fault g.M.Levels.mode t c.args.root.0 c.args.page addr c.args.access c.requires.forest c.requires.root c.requires.small ne at, ne)

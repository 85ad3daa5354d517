use Rattle.residency.{specs.Picture.{picture_of}, proofs.{LeafSteps.{over_lives, entries_none}, Lives.{dead_process, live_process}}}
use Rattle.residency.proofs.leaves.change_of.Goals as goal

pub returns-in-None : goal.returns-in-None
returns-in-None g c =
    let core = c.args.core.now in
    let none = entries_none c.args.search.now.change c.args.search.now.frame.0 core c.requires.among.fit in
    record {
      entries = none;
      clear = λ page h over. over_lives (picture_of core) c.args.search.now.change c.args.search.now.frame.0 c.args.pid page
          (dead_process core c.args.pid c.requires.number c.index.result.now c.index.ensures c.in-None.is) over;
    }

pub returns-else-is_kind : goal.returns-else-is_kind
returns-else-is_kind g c =
    let core = c.args.core.now in
    let lives = live_process core c.args.pid c.requires.number c.index.result.now c.index.ensures c.in-Some.root c.in-Some.is in
    let none = entries_none c.args.search.now.change c.args.search.now.frame.0 core c.requires.among.fit in
    record { entries = none; clear = λ page h over. c.is_kind.ensures.other c.if-is_kind.false (c.requires.among.roots c.args.pid c.in-Some.root.0 page lives h over) }

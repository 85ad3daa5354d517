use Rattle.residency.{proofs.{Entries.{entry-of}, Lives.{dead_process, live_process}, Names.{sym, ap, ◌∙◌}, Passing.{dead_seat, passes_none}}, specs.{Picture.{picture_of}, Seats.{InFrame, seat}}}
use Rattle.residency.proofs.shares.hand_one.Goals as goal

pub returns-in_default : goal.returns-in_default
returns-in_default g c =
    let core = c.args.core.now in
    passes_none g.E.SectorDisk c.args.frame.0 c.args.slot.0 c.args.pid c.args.page core c.requires.hands.ready c.requires.hands.handing (dead_seat (picture_of core) c.args.pid c.args.page (InFrame c.args.frame.0)
    (dead_process core c.args.pid c.requires.number c.index.result.now c.index.ensures c.in_default.is))

pub entry_number-requires-clause-root : goal.entry_number-requires-clause-root
entry_number-requires-clause-root g c =
    let core = c.args.core.now in
    c.requires.hands.handing.share.fit.rooted.roots c.args.pid c.in-Some.root.0
    (live_process core c.args.pid c.requires.number c.index.result.now c.index.ensures c.in-Some.root c.in-Some.is)

pub returns-then-not-is_own : goal.returns-then-not-is_own
returns-then-not-is_own g c =
    let core = c.args.core.now in
    let lives = live_process core c.args.pid c.requires.number c.index.result.now c.index.ensures c.in-Some.root c.in-Some.is in
    let is = c.entry_number.ensures ∙ sym (entry-of (picture_of core) c.args.pid c.in-Some.root.0 c.args.page lives) in
    passes_none g.E.SectorDisk c.args.frame.0 c.args.slot.0 c.args.pid c.args.page core c.requires.hands.ready c.requires.hands.handing (λ there. c.is_own.ensures.other c.if-not-is_own.true (ap seat is ∙ there))

pub pass_share-requires-clause-has : goal.pass_share-requires-clause-has
pass_share-requires-clause-has g c =
    let core = c.args.core.now in
    let lives = live_process core c.args.pid c.requires.number c.index.result.now c.index.ensures c.in-Some.root c.in-Some.is in
    let is = c.entry_number.ensures ∙ sym (entry-of (picture_of core) c.args.pid c.in-Some.root.0 c.args.page lives) in
    record { lives = lives; user = c.requires.user; from = ap seat (sym is) ∙ c.is_own.ensures.own c.if-not-is_own.false }

use Rattle.{std.proofs.Common.{length, sym, ◌∙◌, eqb-true}, looking.proofs.Session.{no_line, takes_ended, whole_line}}
use Rattle.looking.proofs.viewer.Viewer.end_line.Goals as goal

pub returns-then-bytes-le-MAX_LINE_BYTES-clause-takes : goal.returns-then-bytes-le-MAX_LINE_BYTES-clause-takes
returns-then-bytes-le-MAX_LINE_BYTES-clause-takes g c =
    let kept = c.args.self.now.line in
    let none = eqb-true (length kept) 0 (sym c.is_empty.ensures ∙ c.if-is_empty.true) in
    takes_ended g.D.SectorDisk g.E.SectorDisk _ _ kept c.args.bytes.now c.args.bytes.now _ c.requires.unbroken
    (whole_line kept c.args.bytes.now none c.if-bytes-le-MAX_LINE_BYTES.true) (no_line kept none)
    (record { aside = c.take_line.ensures.aside; answers = c.take_line.ensures.answers })

pub returns-clause-takes : goal.returns-clause-takes
returns-clause-takes g c =
    takes_ended g.D.SectorDisk g.E.SectorDisk _ _ _ c.args.bytes.now _ _ c.requires.unbroken c.extend.ensures c.take_open_line.ensures.cleared c.take_open_line.ensures.takes

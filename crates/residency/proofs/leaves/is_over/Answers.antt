use Rattle.residency.{proofs.{Entries.{entry-of}, Names.{◌≡◌, ap, sym, ◌∙◌, eq-eqb, false≢true, eqb-true, frame_of}}, specs.{Leaves.{concerns}, Picture.{picture_of}}}
use Rattle.residency.proofs.leaves.is_over.Goals as goal

pub entry_number-entry-requires-clause-root : goal.entry_number-entry-requires-clause-root
entry_number-entry-requires-clause-root g c = c.requires.lives.fit.rooted.roots c.args.process.pid c.args.process.root.0 c.requires.lives.root

pub returns-then-is_concerned-clause-over : goal.returns-then-is_concerned-clause-over
returns-then-is_concerned-clause-over g c = λ same.
    let is = entry-of (picture_of c.args.core.now) c.args.process.pid c.args.process.root.0 c.args.page c.requires.lives.root ∙ sym c.entry_number-entry.ensures in
    record {
      concerned = ap (concerns c.args.search.now.change) is ∙ sym c.is_concerned.ensures ∙ c.if-is_concerned.true;
      frame = ap frame_of is ∙ sym c.frame.ensures.frame ∙ eqb-true c.frame.result c.from.result same ∙ c.from.ensures;
    }

pub returns-then-is_concerned-clause-other : goal.returns-then-is_concerned-clause-other
returns-then-is_concerned-clause-other g c = λ differ over.
    let is = entry-of (picture_of c.args.core.now) c.args.process.pid c.args.process.root.0 c.args.page c.requires.lives.root ∙ sym c.entry_number-entry.ensures in
    let same : c.frame.result ≡ c.from.result = c.frame.ensures.frame ∙ sym (ap frame_of is) ∙ over.frame ∙ sym c.from.ensures in
    false≢true (sym differ ∙ eq-eqb c.frame.result c.from.result same)

pub returns-else-is_concerned-clause-other : goal.returns-else-is_concerned-clause-other
returns-else-is_concerned-clause-other g c = λ not_so over.
    let is = entry-of (picture_of c.args.core.now) c.args.process.pid c.args.process.root.0 c.args.page c.requires.lives.root ∙ sym c.entry_number-entry.ensures in
    false≢true (sym not_so ∙ c.is_concerned.ensures ∙ sym (ap (concerns c.args.search.now.change) is) ∙ over.concerned)

use Rattle.{std.proofs.Common.{◌∙◌, ap, sym, Some}, vm_types.specs.declared.region.Attr.{Attr}, regions.proofs.RunLemmas.{attr_in-inside}}
use Rattle.regions.proofs.run.Run.at.Goals as goal

pub returns-then-page-self : goal.returns-then-page-self
returns-then-page-self g c = ap (λ (a : Attr). Some a) c.attr_after.ensures ∙ sym (attr_in-inside c.args.self.now c.args.page c.if-self-page.true c.if-page-self.true)

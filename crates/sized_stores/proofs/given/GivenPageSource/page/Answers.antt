use Rattle.std.proofs.Common.{◌≡◌, replicate, refl, sym, ap, ◌∙◌}
use Rattle.vm_types.specs.View.{zero_page}
use Rattle.sized_stores.specs.Given.{page_in}
use Rattle.sized_stores.proofs.given.GivenPageSource.page.Goals as goal

zeros_alike : replicate 4096 0 ≡ zero_page
unfolding zero_page
zeros_alike = refl

pub returns-in-None-clause-sure : goal.returns-in-None-clause-sure
returns-in-None-clause-sure g c =
    (λ _. zeros_alike ∙ sym (ap (page_in (g.S.PageSource.pages c.args.self.now.source.now)) (sym c.place.ensures ∙ c.in-None.is)), λ k is. (is, refl))

pub returns-in-None-clause-given : goal.returns-in-None-clause-given
returns-in-None-clause-given g c = λ _. zeros_alike ∙ sym (ap (page_in (g.S.PageSource.pages c.args.self.now.source.now)) (sym c.place.ensures ∙ c.in-None.is))

use Rattle.{ranges.{proofs.Names.{sym, ap, ◌∙◌, false≢true, count_of}, specs.Leaves.{is_mapped_shared}}, std.proofs.lemmas.Bool.{eqb-true, eq-eqb}}
use Rattle.ranges.proofs.permitting.takes_stores.Goals as goal

pub returns-then-is_private : goal.returns-then-is_private
returns-then-is_private g c =
    let own = sym c.is_private.ensures ∙ c.if-is_private.true in
    let count = c.count.ensures ∙ ap (count_of c.args.core.now.frames) c.frame_number.ensures in (
      λ one. record {
        permitted = sym c.is_writable.ensures ∙ c.if-not-is_writable.false;
        sole = λ _. sym count ∙ eqb-true c.count.result 1 one;
        common = λ shared. absurd (false≢true (sym shared ∙ own));
      },
      λ takes. eq-eqb c.count.result 1 (count ∙ takes.sole own),
    )

pub returns-in-Some : goal.returns-in-Some
returns-in-Some g c =
    let attr = sym c.in-Some.is ∙ c.at.ensures.value ∙ c.regions.ensures c.args.page in
    let shared = c.is_shared.ensures ∙ ap is_mapped_shared attr in
    let common = sym c.is_private.ensures ∙ c.if-is_private.false in (
      λ it. record { permitted = sym c.is_writable.ensures ∙ c.if-not-is_writable.false; sole = λ own. absurd (false≢true (sym common ∙ own)); common = λ _. sym shared ∙ it },
      λ takes. shared ∙ takes.common common,
    )

pub returns-in-None : goal.returns-in-None
returns-in-None g c =
    let attr = sym c.in-None.is ∙ c.at.ensures.value ∙ c.regions.ensures c.args.page in
    (λ it. absurd (false≢true it), λ takes. ap is_mapped_shared attr ∙ takes.common (sym c.is_private.ensures ∙ c.if-is_private.false))

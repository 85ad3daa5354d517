use Rattle.residency.{proofs.{Lives.{live_process}, Names.{rules, ◌≡◌, ◌<◌, ℕ, Some, ◌∙◌, subst, arith}}, specs.Picture.{picture_of}}
use Rattle.residency.proofs.kernel.Core.remove_process.Goals as goal

pub release_root-requires : goal.release_root-requires
release_root-requires g c =
    let inside : c.from-place.result < 65 = omega (arith, c.from-place.ensures, c.get.ensures) in
    let P : ℕ → Type 0 = λ n. (picture_of c.args.self.now).root n ≡ Some c.in-Some.root.0 in
    c.requires.spare c.in-Some.root.0
    (subst P (c.from-place.ensures ∙ c.get.ensures.number) (live_process c.args.self.now c.from-place.result inside c.index.result.now c.index.ensures c.in-Some.root c.in-Some.is))

pub returns-in-Some-clause-exits : goal.returns-in-Some-clause-exits
returns-in-Some-clause-exits g c =
    let inside : c.from-place.result < 65 = omega (arith, c.from-place.ensures, c.get.ensures) in
    let P : ℕ → Type 0 = λ n. (picture_of c.args.self.now).root n ≡ Some c.in-Some.root.0 in
    let lived =
    subst P (c.from-place.ensures ∙ c.get.ensures.number) (live_process c.args.self.now c.from-place.result inside c.index.result.now c.index.ensures c.in-Some.root c.in-Some.is) in (
      c.in-Some.root.0,
      search (rules, lived, c.requires.spare c.in-Some.root.0 lived),
    )

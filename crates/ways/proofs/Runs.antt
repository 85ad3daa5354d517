-- What a page is, by the run that comes first from it on.
use Rattle.std.proofs.{Common.{◌≡◌, ◌≢◌, ◌-◌, ℕ, Option, Some, None, sym, ap, ◌∙◌, arith}}
use Rattle.{vm_types.specs.{Attributes.{attr_after}, declared.region.Attr.{Attr}}, regions.{proofs.AttrLemmas.{attr_after-zero}, specs.{RunList.{IsNextRun}, declared.run.Run.{Run}}}}

-- the page at which a run begins, and one before it
pub run_begins : (mode : ℕ) (map : ℕ → Option Attr) (page : ℕ) (run : Run) → IsNextRun mode map page run → run.first ≡ page → Some run.attr ≡ map page
run_begins mode map page run next is =
    let some = next.nonempty in
    let none : page - run.first ≡ 0 = omega (arith, is) in
    sym (next.mapped page (omega (arith, is)) (omega (arith, is, some)) ∙ ap (λ (k : ℕ). Some (attr_after run.attr k)) none ∙ ap (λ (a : Attr). Some a) (attr_after-zero run.attr))

pub run_is_behind : (mode : ℕ) (map : ℕ → Option Attr) (page : ℕ) (run : Run) → IsNextRun mode map page run → run.first ≢ page → None ≡ map page
run_is_behind mode map page run next other =
    let from = next.from in
    sym (next.none_before page (omega arith) (omega (arith, from, other)))

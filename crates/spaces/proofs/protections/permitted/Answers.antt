use Rattle.spaces.proofs.Names.{ℕ, ◌≡◌, ◌<◌, ◌≤◌, true, false, nat_lt, None, sym, ◌∙◌, subst, arith, nat_tests, Prot, kept, denies_stores, is_covered, protected, run_count, files_of, attr_at}
use Rattle.spaces.{specs.Space.{space_of}, proofs.Protects.{tested_is, hole, denied, many_parts, none_holds, covered_inside}}
use Rattle.spaces.proofs.protections.permitted.Goals as goal

pub returns-then-not-covers-clause-err : goal.returns-then-not-covers-clause-err
returns-then-not-covers-clause-err g c =
    tested_is g.M.Levels.mode (files_of c.args.store.now) c.args.regions.now c.args.range.first c.args.range.pages c.args.prot _
    (hole (is_covered (attr_at c.args.regions.now) c.args.range.first c.args.range.pages) _ _ (sym c.covers.ensures ∙ c.if-not-covers.true))

pub returns-then-denies_stores-clause-err : goal.returns-then-denies_stores-clause-err
returns-then-denies_stores-clause-err g c =
    tested_is g.M.Levels.mode (files_of c.args.store.now) c.args.regions.now c.args.range.first c.args.range.pages c.args.prot _
    (denied (is_covered (attr_at c.args.regions.now) c.args.range.first c.args.range.pages) (denies_stores (files_of c.args.store.now) (space_of c.args.regions.now) c.args.range.first c.args.range.pages c.args.prot) _
    (sym c.covers.ensures ∙ c.if-not-covers.false) (sym c.denies_stores.ensures ∙ c.if-denies_stores.true))

pub returns-in-Ok-clause-ok : goal.returns-in-Ok-clause-ok
returns-in-Ok-clause-ok g c =
    let runs = c.args.regions.now in
    let covered : is_covered (attr_at runs) c.args.range.first c.args.range.pages ≡ true = sym c.covers.ensures ∙ c.if-not-covers.false in
    let few : run_count g.M.Levels.mode (protected (attr_at runs) c.args.range.first c.args.range.pages (kept c.args.prot)) ≤ 256 =
    subst (λ (prot : Prot). run_count g.M.Levels.mode (protected (attr_at runs) c.args.range.first c.args.range.pages prot) ≤ 256) c.kept.ensures c.in-Ok.ensures.few in
    let map : (page : ℕ) → attr_at c.protect_into.new.next page ≡ protected (attr_at runs) c.args.range.first c.args.range.pages (kept c.args.prot) page =
    subst (λ (prot : Prot). (page : ℕ) → attr_at c.protect_into.new.next page ≡ protected (attr_at runs) c.args.range.first c.args.range.pages prot page) c.kept.ensures c.in-Ok.ensures.ok in
    let under : nat_lt 256 (run_count g.M.Levels.mode (protected (attr_at runs) c.args.range.first c.args.range.pages (kept c.args.prot))) ≡ false = grind (arith, nat_tests, few) in
    record {
      fine = tested_is g.M.Levels.mode (files_of c.args.store.now) runs c.args.range.first c.args.range.pages c.args.prot None
          (none_holds (is_covered (attr_at runs) c.args.range.first c.args.range.pages) (denies_stores (files_of c.args.store.now) (space_of runs) c.args.range.first c.args.range.pages c.args.prot) _
          covered (sym c.denies_stores.ensures ∙ c.if-denies_stores.false) under);
      high = covered_inside g.M.Levels.mode (attr_at runs) (attr_at c.protect_into.new.next) c.args.range.first c.args.range.pages (kept c.args.prot) c.in-Ok.ensures.user_after c.requires map covered;
      map = map;
    }

pub returns-in-Err-clause-err : goal.returns-in-Err-clause-err
returns-in-Err-clause-err g c =
    let runs = c.args.regions.now in
    let many : 256 < run_count g.M.Levels.mode (protected (attr_at runs) c.args.range.first c.args.range.pages (kept c.args.prot)) =
    subst (λ (prot : Prot). 256 < run_count g.M.Levels.mode (protected (attr_at runs) c.args.range.first c.args.range.pages prot)) c.kept.ensures c.in-Err.ensures.too_many in
    let over : nat_lt 256 (run_count g.M.Levels.mode (protected (attr_at runs) c.args.range.first c.args.range.pages (kept c.args.prot))) ≡ true = grind (arith, nat_tests, many) in
    tested_is g.M.Levels.mode (files_of c.args.store.now) runs c.args.range.first c.args.range.pages c.args.prot _
    (many_parts (is_covered (attr_at runs) c.args.range.first c.args.range.pages) (denies_stores (files_of c.args.store.now) (space_of runs) c.args.range.first c.args.range.pages c.args.prot) _
    (sym c.covers.ensures ∙ c.if-not-covers.false) (sym c.denies_stores.ensures ∙ c.if-denies_stores.false) over)

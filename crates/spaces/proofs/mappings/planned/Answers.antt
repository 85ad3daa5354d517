use Rattle.spaces.proofs.Names.{sizes, ℕ, ◌<◌, ◌≤◌, ◌≡◌, sym, subst, arith, attr_at, picture_of, Attr, backing_fits, replaced, run_count}
use Rattle.spaces.{specs.{Mappings.{attr_there}, Space.{space_of}}, proofs.Planning.{taken_place, many_runs, fine_place, fits_backing}}
use Rattle.spaces.proofs.mappings.planned.Goals as goal

pub is_taken-requires : goal.is_taken-requires
is_taken-requires g c = omega (arith, c.in-Some.ensures.user.1, (sizes g.M.Levels.mode).most)

pub returns-then-is_taken-clause-err : goal.returns-then-is_taken-clause-err
returns-then-is_taken-clause-err g c =
    let a = c.args in
    taken_place g.M.Levels.mode a.mapping.placing (space_of a.regions.now) a.mapping.addr a.mapping.pages (attr_there (picture_of a.core.now).at a.pid a.mapping.pages a.mapping.source a.mapping.prot) c.in-Some.first c.in-Some.ensures.place
    c.is_taken.result c.is_taken.ensures c.if-is_taken.true

pub replace_into-requires-clause-file_pages : goal.replace_into-requires-clause-file_pages
replace_into-requires-clause-file_pages g c =
    let a = c.args in
    let high = c.in-Some.ensures.user.1 in
    subst (λ (x : Attr). backing_fits x.backing a.mapping.pages) (sym c.first_attr-attr.ensures.attr) (fits_backing g.M.Levels.mode a.mapping.source _ a.mapping.pages c.requires.fits (omega (arith, high)))

pub returns-in-Err-clause-err : goal.returns-in-Err-clause-err
returns-in-Err-clause-err g c =
    let a = c.args in
    many_runs g.M.Levels.mode a.mapping.placing a.regions.now a.mapping.addr a.mapping.pages (attr_there (picture_of a.core.now).at a.pid a.mapping.pages a.mapping.source a.mapping.prot) c.in-Some.first c.in-Some.ensures.place
    c.is_taken.result c.is_taken.ensures c.if-is_taken.false
    (subst (λ (x : Attr). 256 < run_count g.M.Levels.mode (replaced (attr_at a.regions.now) c.in-Some.first a.mapping.pages x)) c.first_attr-attr.ensures.attr c.in-Err.ensures.too_many)

pub returns-in-Ok-clause-ok : goal.returns-in-Ok-clause-ok
returns-in-Ok-clause-ok g c =
    let a = c.args in
    let attrs = attr_there (picture_of a.core.now).at a.pid a.mapping.pages a.mapping.source a.mapping.prot in
    record {
      place = sym c.in-Some.ensures.place;
      fine = fine_place g.M.Levels.mode a.mapping.placing a.regions.now a.mapping.addr a.mapping.pages attrs c.in-Some.first
          c.is_taken.result c.is_taken.ensures c.if-is_taken.false
          (subst (λ (x : Attr). run_count g.M.Levels.mode (replaced (attr_at a.regions.now) c.in-Some.first a.mapping.pages x) ≤ 256) c.first_attr-attr.ensures.attr c.in-Ok.ensures.few);
      high = c.in-Some.ensures.user.1;
      map = subst (λ (x : Attr). (page : ℕ) → attr_at c.replace_into.new.next page ≡ replaced (attr_at a.regions.now) c.in-Some.first a.mapping.pages x page)
          c.first_attr-attr.ensures.attr c.in-Ok.ensures.ok;
      user = c.in-Ok.ensures.user_after;
    }

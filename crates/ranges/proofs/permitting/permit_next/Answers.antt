use Rattle.ranges.{proofs.{Names.{◌≡◌, ℕ, inl, inr, refl, sym, ap, ◌∙◌, subst, arith, entry, Picture, picture_of}, PermittedRows.{left_row, pages_then}}, specs.RowsPermitted.{IsPermissible, PermitsPages}}
use Rattle.ranges.proofs.permitting.permit_next.Goals as goal

pub returns-in_default : goal.returns-in_default
returns-in_default g c =
    let none = c.in_default.ensures.none in
    record {
      leaves = left_row c.args.core.now c.args.pid c.args.start c.args.end c.args.prot c.requires.may (λ page h from below. inl (none.gap page from below));
      further = c.requires.row.some;
      within = omega arith;
      ends = record { linked = c.args.end; from = omega (arith, c.requires.row.some); passed = none.passed; ends = inl (refl, refl) };
    }

pub permit_table-requires-clause-may : goal.permit_table-requires-clause-may
permit_table-requires-clause-may g c = subst (λ (q : ℕ). IsPermissible (picture_of c.args.core.now) q c.args.prot) (sym c.in-Some.ensures.some.of) c.requires.may

pub returns : goal.returns
returns g c =
    let old : Picture g.M.Levels.mode = picture_of c.args.core.now in
    let part = c.in-Some.part in
    let finds = c.in-Some.ensures.some in
    let none = finds.unlinked in
    record {
      leaves = subst (λ (q : ℕ). PermitsPages c.args.core.now c.permit_table.new.core q c.args.start part.end c.args.prot) finds.of (
          pages_then c.args.core.now c.args.core.now c.permit_table.new.core part.pid c.args.start part.first part.end c.args.prot finds.from (omega (arith, finds.further))
          (left_row c.args.core.now part.pid c.args.start part.first c.args.prot (subst (λ (q : ℕ). IsPermissible old q c.args.prot) (sym finds.of) c.requires.may)
          (λ page h from below. inl (subst (λ (q : ℕ). entry old q page ≡ 0) (sym finds.of) (none.gap page from below)))) c.permit_table.ensures);
      further = omega (arith, finds.from, finds.further);
      within = omega (arith, finds.ends);
      ends = record {
        linked = part.first;
        from = finds.from;
        passed = none.passed;
        ends = inr (λ r root. (finds.table r (ap (λ (q : ℕ). old.root q) finds.of ∙ root)).whole part.first refl, finds.ends);
      };
    }

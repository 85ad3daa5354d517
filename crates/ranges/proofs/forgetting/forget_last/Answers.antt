use Rattle.ranges.proofs.{Emptied.{in_row_from, row_parts}, LastName.{named_without, last_there}, Names.{sizes, inl, refl, arith, Object, picture_of}}
use Rattle.ranges.proofs.forgetting.forget_last.Goals as goal

pub returns-in_default : goal.returns-in_default
returns-in_default g c = record {
  fit = c.requires.bare.row.fit;
  last = inl (
    refl,
    named_without g.M.Levels.mode (picture_of c.args.core.now).at c.args.pid c.args.first c.args.pages c.args.page (c.requires.bare.row.fit.places.inside (Object c.args.page) c.requires.away)
        (λ k inside. (let parts = row_parts c.args.first c.args.pages k inside in c.in_default.ensures.none k parts.0 parts.1)),
  );
}

pub returns : goal.returns
returns g c =
    let some = c.in-Some.ensures.some in
    record {
      fit = c.forget_there.ensures.fit;
      last = last_there c.args.core.now c.forget_there.new.core c.args.pid c.args.first c.args.pages c.in-Some.at c.args.page c.requires.bare.row.fit.granting.objects c.requires.bare.row.row some.0 some.1 some.2
          c.forget_there.ensures.there;
    }

pub forget_there-requires : goal.forget_there-requires
forget_there-requires g c =
    let some = c.in-Some.ensures.some in
    record { fit = c.requires.bare.row.fit; named = some.2; bare = c.requires.bare.bare c.in-Some.at (in_row_from c.args.first c.args.pages c.in-Some.at some.0 some.1) }

pub overflow_add-first : goal.overflow_add-first
overflow_add-first g c = omega (arith, c.requires.bare.row.row, (sizes g.M.Levels.mode).most)

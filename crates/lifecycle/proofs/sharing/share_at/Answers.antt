use Rattle.lifecycle.proofs.Names.{◌≡◌, ℕ, ◌+◌, sym, ap, ◌∙◌, subst, arith, number_of, seat, Picture, picture_of, entry, seat-none, none_at, past}
use Rattle.lifecycle.{specs.ChildShares.{GivesShares}, proofs.{Live.{live_root}, Passed.{number_in_row, page_form}, ShareSteps.{awaits_within, gives_none}}}
use Rattle.lifecycle.proofs.sharing.share_at.Goals as goal

pub decode-before-requires : goal.decode-before-requires
decode-before-requires g c =
    let t = c.args.tables.now in
    let q = c.requires in
    page_form (picture_of c.args.core.now) t.parent (t.first + c.args.index) c.number_in.result.0 q.awaits.fit.rooted q.awaits.parent_lives
    (number_in_row (picture_of c.args.core.now) t.parent t.from.0 t.first c.args.index c.number_in.result.0 q.awaits.parent_lives q.from.begins
    (omega (arith, q.below, q.in_table)) q.from.place c.number_in.ensures)

pub share_page-requires : goal.share_page-requires
share_page-requires g c =
    let t = c.args.tables.now in
    let q = c.requires in
    let from = q.from in
    let to = q.to in
    let page = t.first + c.args.index in
    record {
      awaits = awaits_within (picture_of c.args.core.now) t.parent t.child page (t.first + c.args.end) page (page + 1) q.awaits (omega arith) (omega (arith, q.below));
      from = record { place = from.place; begins = from.begins; user = (let user = from.user in omega (arith, user, q.below)) };
      to = record { place = to.place; begins = to.begins; user = (let user = to.user in omega (arith, user, q.below)) };
      in_table = omega (arith, q.below, q.in_table);
      before = c.decode-before.ensures.number
          ∙ number_in_row (picture_of c.args.core.now) t.parent t.from.0 t.first c.args.index c.number_in.result.0 q.awaits.parent_lives from.begins
          (omega (arith, q.below, q.in_table)) from.place c.number_in.ensures;
      own = record { form = c.decode-before.ensures.form; own = c.is_own.ensures.own c.if-is_own.true };
    }

pub returns-then-is_own-clause-gives : goal.returns-then-is_own-clause-gives
returns-then-is_own-clause-gives g c =
    let t = c.args.tables.now in
    let page = t.first + c.args.index in
    let next : page + 1 ≡ t.first + (c.args.index + 1) = omega arith in
    subst (λ (x : ℕ). GivesShares c.args.core.now c.share_page.new.core t.parent t.child page x) next c.share_page.ensures

pub returns-in-None : goal.returns-in-None
returns-in-None g c =
    let old : Picture g.M.Levels.mode = picture_of c.args.core.now in
    let t = c.args.tables.now in
    let q = c.requires in
    let r = live_root (old.root t.parent) q.awaits.parent_lives in
    let next = c.next_place.ensures in
    let within = next.within in
    let page = t.first + c.args.index in
    record {
      next = record {
        further = past old r.0 t.from.0 t.first c.args.index c.args.end c.number_in.result.0 c.next_place.result (q.from.place r.0 r.1) q.from.begins q.below q.in_table
            c.number_in.ensures (sym c.decode-before.ensures.number ∙ ap number_of c.in-None.is) next.from next.found;
        within = within;
      };
      gives = gives_none c.args.core.now t.parent t.child page (t.first + c.next_place.result)
          (awaits_within old t.parent t.child page (t.first + c.args.end) page (t.first + c.next_place.result) q.awaits (omega arith) (omega (arith, within)))
          (λ p h least under. ap seat (none_at old t.parent r.0 t.from.0 t.first c.args.index c.next_place.result r.1 (q.from.place r.0 r.1) q.from.begins
          (omega (arith, within, q.in_table)) next.passed p least under) ∙ seat-none);
    }

pub returns-clause-gives : goal.returns-clause-gives
returns-clause-gives g c =
    let old : Picture g.M.Levels.mode = picture_of c.args.core.now in
    let t = c.args.tables.now in
    let q = c.requires in
    let is = number_in_row old t.parent t.from.0 t.first c.args.index c.number_in.result.0 q.awaits.parent_lives q.from.begins
    (omega (arith, q.below, q.in_table)) q.from.place c.number_in.ensures in
    let page = t.first + c.args.index in
    gives_none c.args.core.now t.parent t.child page (t.first + (c.args.index + 1))
    (awaits_within old t.parent t.child page (t.first + c.args.end) page (t.first + (c.args.index + 1)) q.awaits (omega arith) (omega (arith, q.below)))
    (λ p h least under. (let same : p ≡ page = omega (arith, least, under) in ap (λ x. seat (entry old t.parent x)) same) ∙ ap seat (sym (c.decode-before.ensures.number ∙ is)) ∙ c.is_own.ensures.other c.if-is_own.false)

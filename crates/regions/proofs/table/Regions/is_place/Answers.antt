use Rattle.{std.proofs.Common.{inl, inr, sym, ◌∙◌, arith}, regions.proofs.{SearchLemmas.{is_place-clear, is_place-not}, table.Regions.is_place.Goals.{then-first-lt-USER_START-via-then-first-lt-USER_START}}}
use Rattle.regions.{proofs.table.Regions.is_place.Goals.{then-first-lt-USER_START-via-else-first-lt-USER_START+then-first-end, then-first-lt-USER_START-via-else-first-lt-USER_START+else-first-end+then-pages-end}, specs.RunList.{attr_at}}
use Rattle.regions.proofs.table.Regions.is_place.Goals as goal

pub returns-then-first-lt-USER_START : goal.returns-then-first-lt-USER_START
returns-then-first-lt-USER_START g c =
    sym (is_place-not g.M.Levels.mode (attr_at c.args.self.now) c.args.pages c.args.first
    (elim c.then-first-lt-USER_START.branch [
      | then-first-lt-USER_START-via-then-first-lt-USER_START w ↦ inl (omega arith)
      | then-first-lt-USER_START-via-else-first-lt-USER_START+then-first-end w ↦ inr (omega arith)
      | then-first-lt-USER_START-via-else-first-lt-USER_START+else-first-end+then-pages-end w ↦ inr (omega arith)
    ]))

pub returns : goal.returns
returns g c = c.is_clear.ensures.found ∙ sym (is_place-clear g.M.Levels.mode c.args.self.now c.args.pages c.args.first c.is_clear.ensures.maximal c.requires (omega arith) (omega arith))

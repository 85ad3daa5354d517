use Rattle.ranges.{proofs.Names.{user_end, is_named, names, ObjectPage, Object, ◌≡◌, ◌⊎◌, true, ℕ, ◌-◌, ◌<◌, ◌≤◌, Home, KeepsBesidePlaces, IsFit, picture_of}, specs.Rows.{ForgetsMore, without_maps}}
use Rattle.ranges.proofs.forgetting.forget_pages.Given as goal

abbrev pub invariant-loop-named : goal.invariant-loop-named
invariant-loop-named g l = record {
  fit : IsFit (picture_of l.core);
  low : l.first ≤ l.from;
  more : ForgetsMore (picture_of l.initial.core) (picture_of l.core) l.pid l.first l.pages;
  gone : (k : ℕ) (p : ObjectPage) → l.first ≤ k → k < l.from → names ((picture_of l.initial.core).at l.pid k) p.object p.page ≡ true
      → ((picture_of l.core).place (Object p) ≡ Home) ⊎ (is_named (without_maps (picture_of l.initial.core).at l.pid l.first l.pages) p.object p.page ≡ true);
  rest : KeepsBesidePlaces l.initial.core l.core;
}

abbrev pub decreases-loop-named : goal.decreases-loop-named
decreases-loop-named g l = user_end g.M.Levels.mode - l.from

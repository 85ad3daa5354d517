use Rattle.ranges.{proofs.Names.{◌≡◌, true, Some, ℕ, ◌<◌, is_named, ObjectPage, Object, cache_frames, KeepsBesidePlaces, IsFit, picture_of}, specs.Rows.{ForgetsMore, node_of, without_maps}}
use Rattle.ranges.proofs.forgetting.forget_nodes.Given as goal

abbrev pub invariant-loop-node : goal.invariant-loop-node
invariant-loop-node g l = record {
  fit : IsFit (picture_of l.core);
  more : ForgetsMore (picture_of l.initial.core) (picture_of l.core) l.pid l.first l.pages;
  gone : (p : ObjectPage) (m : ℕ) → node_of (cache_frames l.core.cache) ((picture_of l.core).place (Object p)) ≡ Some m → m < l.node
      → is_named (without_maps (picture_of l.initial.core).at l.pid l.first l.pages) p.object p.page ≡ true;
  rest : KeepsBesidePlaces l.initial.core l.core;
}

use Rattle.ranges.proofs.{Emptied.{pages_inside}, LastName.{more_last, gone_none, gone_named, gone_forgot, forgets_all}, Names.{◌≡◌, ℕ, ◌+◌, ◌<◌, inl, inr, true, Some, None, sym, ap, ◌∙◌, subst, arith, rules}}
use Rattle.ranges.proofs.{Names.{same_Some, is_named, ObjectPage, Object, Place, Home, Frame, Slot, CacheTable, cache_frames, slot_count, IsInside, Core, Picture, picture_of}, forgetting.forget_nodes.Goals.{in-Some}}
use Rattle.ranges.{proofs.forgetting.forget_nodes.Goals.{in_default}, specs.Rows.{node_of, without_maps}}
use Rattle.ranges.proofs.forgetting.forget_nodes.Goals as goal

-- a node of a place is one of the nodes
node_inside : (t : CacheTable) (x : Place) (m : ℕ) → IsInside t x → node_of (cache_frames t) x ≡ Some m → m < cache_frames t + slot_count t
node_inside t Home m inside is = absurd (let bad : None ≡ Some m = is in (cc))
node_inside t (Frame n) m inside is = let e : n.0 ≡ m = same_Some n.0 m is in omega (arith, inside, e)
node_inside t (Slot k) m inside is = let e : cache_frames t + k.0 ≡ m = same_Some (cache_frames t + k.0) m is in omega (arith, inside, e)

pub loop-node-preserved : goal.loop-node-preserved
loop-node-preserved g c =
    let a : Picture g.M.Levels.mode = picture_of c.args.core.now in
    let b : Picture g.M.Levels.mode = picture_of c.loop-node.core in
    let k = c.loop-node.invariant in
    let frames = cache_frames c.loop-node.core.cache in
    elim c.match-object_at.branch [
      | in_default w ↦ rw w.core-is (record {
        fit = k.fit;
        more = k.more;
        gone = gone_none a b c.args.pid c.args.first c.args.pages frames c.loop-node.node k.more k.gone c.object_at.result c.object_at.ensures.found w.in_default.is;
        rest = k.rest;
      })
      | in-Some w ↦ (
          let new = w.forget_last.new.core in
          let on = more_last c.args.core.now c.loop-node.core new c.args.pid c.args.first c.args.pages w.in-Some.page k.fit k.more k.rest w.forget_last.ensures.last in
          rw w.core-is (record {
            fit = w.forget_last.ensures.fit;
            more = on.0;
            gone = elim w.forget_last.ensures.last [
              | inl same ↦ (
                  let Q : Core _ _ g.row.M.Denot g.M.Levels → Type 0 = λ x. (p : ObjectPage) (m : ℕ) → node_of (cache_frames x.cache) ((picture_of x).place (Object p)) ≡ Some m → m < c.loop-node.node + 1
                  → is_named (without_maps a.at c.args.pid c.args.first c.args.pages) p.object p.page ≡ true in
                  subst Q (sym same.0) (gone_named a b c.args.pid c.args.first c.args.pages frames c.loop-node.node k.more k.gone c.object_at.result c.object_at.ensures.found w.in-Some.page w.in-Some.is same.1))
              | inr gone ↦ (
                  let count : cache_frames new.cache ≡ frames = new.node_count ∙ gone.0.frames ∙ sym c.loop-node.core.node_count in
                  let Q : ℕ → Type 0 = λ x. (p : ObjectPage) (m : ℕ) → node_of x ((picture_of new).place (Object p)) ≡ Some m → m < c.loop-node.node + 1
                  → is_named (without_maps a.at c.args.pid c.args.first c.args.pages) p.object p.page ≡ true in
                  subst Q (sym count) (gone_forgot a b c.args.pid c.args.first c.args.pages frames c.loop-node.node k.more k.gone c.object_at.result c.object_at.ensures.found (picture_of new) w.in-Some.page w.in-Some.is gone.0))
            ];
            rest = on.1;
          }))
    ]

pub returns : goal.returns
returns g c =
    let k = c.loop-node.invariant in
    let t = c.args.core.now.cache in
    let count : cache_frames c.loop-node.core.cache ≡ cache_frames t = c.loop-node.core.node_count ∙ k.more.frames ∙ sym c.args.core.now.node_count in
    let forgets = forgets_all (picture_of c.args.core.now) (picture_of c.loop-node.core) c.args.pid c.args.first c.args.pages (cache_frames t) (cache_frames t + slot_count t) c.requires.row.fit k.more
    (λ p m at. node_inside t ((picture_of c.args.core.now).place (Object p)) m (c.frames.ensures.sound.inside (Object p)) at)
    (λ p m at below. k.gone p m (ap (λ x. node_of x ((picture_of c.loop-node.core).place (Object p))) count ∙ at)
    (let frames = c.frames.ensures.count in let slots = c.slots.ensures in let end = c.loop-node-test.false in omega (arith, below, frames, slots, end))) in
    search rules

pub forget_last-requires-clause-bare : goal.forget_last-requires-clause-bare
forget_last-requires-clause-bare g c =
    let k = c.loop-node.invariant in
    record {
      row = record { fit = k.fit; live = search rules; row = c.requires.row.row };
      bare = λ page inside. k.more.entries c.args.pid page (pages_inside g.M.Levels.mode c.args.first c.args.pages page c.requires.row.row inside) ∙ c.requires.bare page inside;
    }

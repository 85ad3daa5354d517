use Rattle.std.proofs.Common.{◌≡◌, true, Some, sym, ap, ◌∙◌, arith}
use Rattle.vm_types.specs.declared.{file.FilePage.{FilePage}, object.PageKey.TheVariants.{File}}
use Rattle.page_cache.specs.CacheTable.{cache_frames}
use Rattle.residency.specs.Picture.{picture_of}
use Rattle.ranges.specs.Rows.{node_of}
use Rattle.truncation.{specs.Cuts.{is_past}, proofs.Forgot.{forgot-refl, forgot_next, forgot_all, bare_page, gone_none, gone_forgot}}
use Rattle.truncation.proofs.forgetting.forget_past.Goals.{in-Some, in_default}
use Rattle.truncation.proofs.forgetting.forget_past.Goals as goal

pub loop-node-init : goal.loop-node-init
loop-node-init g c = record { more = forgot-refl c.args.file c.args.length c.args.core.now c.requires.fit; gone = λ p m at below. absurd (omega (arith, below)) }

pub loop-node-preserved : goal.loop-node-preserved
loop-node-preserved g c =
    let k = c.loop-node.invariant in
    let b = picture_of c.loop-node.core in
    let frames = cache_frames c.args.core.now.cache in
    let count : cache_frames c.loop-node.core.cache ≡ frames = c.loop-node.core.node_count ∙ k.more.some.takes.frames ∙ sym c.args.core.now.node_count in
    let found : (p : FilePage) → node_of frames (b.place (File p)) ≡ Some c.loop-node.node → is_past c.args.file c.args.length p ≡ true → c.past_at.result ≡ Some p = λ p at past.
    c.past_at.ensures.found p (ap (λ x. node_of x (b.place (File p))) count ∙ at) past in
    elim c.match-past_at.branch [
      | in_default w ↦ rw w.core-is (record {
        more = k.more;
        gone = gone_none c.args.file c.args.length b frames c.loop-node.node k.gone c.past_at.result found w.in_default.is;
      })
      | in-Some w ↦ rw w.core-is (record {
        more = forgot_next c.args.file c.args.length c.args.core.now c.loop-node.core w.forget.new.self w.in-Some.page k.more w.in-Some.ensures.past w.forget.ensures;
        gone = gone_forgot c.args.file c.args.length b frames c.loop-node.node k.gone c.past_at.result found (picture_of w.forget.new.self) w.in-Some.page w.in-Some.is w.forget.ensures.forgets;
      })
    ]

pub forget-requires-clause-bare : goal.forget-requires-clause-bare
forget-requires-clause-bare g c =
    bare_page c.args.file c.args.length (picture_of c.args.core.now) (picture_of c.loop-node.core) c.in-Some.page c.loop-node.invariant.more.some c.requires.bare c.in-Some.ensures.past

pub returns : goal.returns
returns g c =
    let k = c.loop-node.invariant in
    forgot_all c.args.file c.args.length c.args.core.now c.loop-node.core c.frames.ensures.sound.inside k.more (λ p m at below.
    k.gone p m at (let frames = c.frames.ensures.count in let slots = c.slots.ensures in let end = c.loop-node-test.false in omega (arith, below, frames, slots, end)))

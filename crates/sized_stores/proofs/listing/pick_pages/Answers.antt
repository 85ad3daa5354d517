use Rattle.std.proofs.Common.{◌≡◌, ◌<◌, length, get_or, sym, ◌∙◌, arith}
use Rattle.std.proofs.lemmas.Option.{slice_get-get_or}
use Rattle.vm_types.specs.declared.file.FilePage.{FilePage}
use Rattle.pool_store.specs.Store.{info_by}
use Rattle.sized_stores.proofs.Picked.{other_tests, picks_all, picks_next, picks_other, picks_too_many, same_tests}
use Rattle.sized_stores.proofs.listing.pick_pages.Goals as goal

abbrev no_page : FilePage
no_page = record { file = 0; page = 0 }

pub returns-then-len-limit-clause-many : goal.returns-then-len-limit-clause-many
returns-then-len-limit-clause-many c =
    let n = c.loop-i.i in
    let list = c.args.pages.now in
    let picked = c.loop-i.list in
    let full : length picked.pages.items ≡ c.args.limit = omega (arith, c.len.ensures, c.if-len-limit.true, picked.pages.ok.0) in
    λ _. picks_too_many (info_by c.args.directory.now) c.args.new list n c.args.limit (get_or list n no_page) picked.pages.items picked.places.items (slice_get-get_or list n no_page c.loop-i-test.true)
    (sym c.is_new.ensures ∙ same_tests c.is_new.result c.args.new c.if-is_new-new.false) full c.loop-i.invariant.0

pub loop-i-preserved-then-is_new-new : goal.loop-i-preserved-then-is_new-new
loop-i-preserved-then-is_new-new c =
    let n = c.loop-i.i in
    let list = c.args.pages.now in (
      picks_other (info_by c.args.directory.now) c.args.new list n c.args.limit (get_or list n no_page) c.loop-i.list.pages.items c.loop-i.list.places.items
          (slice_get-get_or list n no_page c.loop-i-test.true) (λ is. other_tests c.is_new.result c.args.new c.if-is_new-new.true (c.is_new.ensures ∙ is)) c.loop-i.invariant.0,
      c.loop-i.invariant.1,
      c.loop-i.invariant.2,
    )

pub loop-i-preserved : goal.loop-i-preserved
loop-i-preserved c =
    let n = c.loop-i.i in
    let list = c.args.pages.now in
    let picked = c.loop-i.list in
    let room : length picked.pages.items < c.args.limit = (let few = c.loop-i.invariant.0.few in omega (arith, c.len.ensures, c.if-len-limit.false, picked.pages.ok.0, few)) in (
      picks_next (info_by c.args.directory.now) c.args.new list n c.args.limit (get_or list n no_page) picked.pages.items c.push_reserved.new.self.items picked.places.items
          c.push_reserved-in-loop-i.new.self.items (slice_get-get_or list n no_page c.loop-i-test.true) (sym c.is_new.ensures ∙ same_tests c.is_new.result c.args.new c.if-is_new-new.false) room
          c.push_reserved.ensures.items c.push_reserved-in-loop-i.ensures.items c.loop-i.invariant.0,
      c.push_reserved.ensures.capacity ∙ c.loop-i.invariant.1,
      c.push_reserved-in-loop-i.ensures.capacity ∙ c.loop-i.invariant.2,
    )

pub returns-clause-picks : goal.returns-clause-picks
returns-clause-picks c =
    λ _. picks_all (info_by c.args.directory.now) c.args.new c.args.pages.now c.loop-i.i c.args.limit c.loop-i.list.pages.items c.loop-i.list.places.items (omega (arith, c.loop-i-test.false)) c.loop-i.invariant.0

use Rattle.std.proofs.Common.{ℕ, Global, Vec, ◌≡◌, ◌+◌, ◌-◌, Bool, true, false, length, get_or, refl, sym, subst, arith}
use Rattle.pool_store.specs.Store.{info_by}
use Rattle.sized_stores.specs.Listing.{ListsZeros, PicksPages}
use Rattle.sized_stores.specs.declared.room.{PageList.{PageList}, SizeRoom.{SizeRoom}}
use Rattle.sized_stores.proofs.Gathered.{gathers_all, gathers_next, gathers_too_many, keeps_beside, keeps_room, others_too_many, picked_too_many, with_new}
use Rattle.sized_stores.proofs.room.SizeRoom.list_pages.Goals as goal

pub returns-then-not-pick_pages-clause-many : goal.returns-then-not-pick_pages-clause-many
returns-then-not-pick_pages-clause-many c =
    let asked = c.args.asked in
    λ _. picked_too_many (info_by asked.directory.now) asked.sizes.now asked.files.now asked.pages.now true c.args.limit c.requires.distinct (c.pick_pages.ensures.many c.if-not-pick_pages.true)

pub returns-then-not-pick_pages-2-clause-many : goal.returns-then-not-pick_pages-2-clause-many
returns-then-not-pick_pages-2-clause-many c =
    let asked = c.args.asked in
    let files = info_by asked.directory.now in
    let rest : ℕ = c.args.limit - c.len.result in
    let fresh = c.pick_pages.new.list in
    let all : c.args.limit ≡ length fresh.pages.items + rest = omega (arith, c.len.ensures, c.pick_pages.ensures.few) in
    λ _. with_new files asked.sizes.now asked.files.now asked.pages.now c.args.limit rest fresh.pages.items fresh.places.items all c.requires.distinct
    (c.pick_pages.ensures.picks c.if-not-pick_pages.false)
    (others_too_many files asked.sizes.now asked.files.now asked.pages.now rest c.requires.distinct (c.pick_pages-2.ensures.many c.if-not-pick_pages-2.true))

pub returns-then-not-list_zeros-clause-many : goal.returns-then-not-list_zeros-clause-many
returns-then-not-list_zeros-clause-many c =
    let asked = c.args.asked in
    let files = info_by asked.directory.now in
    let n = c.loop-file.file-index in
    let rest : ℕ = c.args.limit - c.len.result in
    let fresh = c.pick_pages.new.list in
    let all : c.args.limit ≡ length fresh.pages.items + rest = omega (arith, c.len.ensures, c.pick_pages.ensures.few) in
    let lists : ListsZeros asked.directory.now asked.sizes.now (get_or asked.files.now n 0) asked.pages.now rest c.loop-file.self.kept.pages.items c.list_zeros.new.kept.items false =
    subst (λ (b : Bool). ListsZeros asked.directory.now asked.sizes.now (get_or asked.files.now n 0) asked.pages.now rest c.loop-file.self.kept.pages.items c.list_zeros.new.kept.items b)
    c.if-not-list_zeros.true c.list_zeros.ensures.lists in
    λ _. with_new files asked.sizes.now asked.files.now asked.pages.now c.args.limit rest fresh.pages.items fresh.places.items all c.requires.distinct
    (c.pick_pages.ensures.picks c.if-not-pick_pages.false)
    (gathers_too_many asked.directory.now asked.sizes.now asked.files.now asked.pages.now c.requires.sized.rising rest n c.pick_pages-2.new.list.pages.items c.loop-file.self.kept.pages.items
    c.list_zeros.new.kept.items c.pick_pages-2.new.list.places.items c.loop-file-test.true c.requires.distinct (c.pick_pages-2.ensures.picks c.if-not-pick_pages-2.false) c.loop-file.invariant.0 lists)

pub returns-then-not-list_zeros-clause-room : goal.returns-then-not-list_zeros-clause-room
returns-then-not-list_zeros-clause-room c =
    let old = c.args.self.now in
    let picked : SizeRoom = record old { fresh = c.pick_pages.new.list; kept = c.pick_pages-2.new.list } in
    keeps_room old picked (record c.loop-file.self { kept = record { pages = c.list_zeros.new.kept; places = c.loop-file.self.kept.places } }) refl refl refl c.pick_pages.ensures.room
    c.pick_pages-2.ensures.room
    (keeps_beside picked c.loop-file.self (record { pages = c.list_zeros.new.kept; places = c.loop-file.self.kept.places }) refl c.list_zeros.ensures.room c.loop-file.invariant.1)

pub loop-file-preserved : goal.loop-file-preserved
loop-file-preserved c =
    let asked = c.args.asked in
    let n = c.loop-file.file-index in
    let rest : ℕ = c.args.limit - c.len.result in
    let lists : ListsZeros asked.directory.now asked.sizes.now (get_or asked.files.now n 0) asked.pages.now rest c.loop-file.self.kept.pages.items c.list_zeros.new.kept.items true =
    subst (λ (b : Bool). ListsZeros asked.directory.now asked.sizes.now (get_or asked.files.now n 0) asked.pages.now rest c.loop-file.self.kept.pages.items c.list_zeros.new.kept.items b)
    c.if-not-list_zeros.false c.list_zeros.ensures.lists in (
      gathers_next asked.directory.now asked.sizes.now asked.files.now asked.pages.now c.requires.sized.rising rest n c.pick_pages-2.new.list.pages.items c.loop-file.self.kept.pages.items
          c.list_zeros.new.kept.items c.loop-file-test.true c.loop-file.invariant.0 lists,
      keeps_beside (record c.args.self.now { fresh = c.pick_pages.new.list; kept = c.pick_pages-2.new.list }) c.loop-file.self
          (record { pages = c.list_zeros.new.kept; places = c.loop-file.self.kept.places }) refl c.list_zeros.ensures.room c.loop-file.invariant.1,
    )

pub returns-clause-lists : goal.returns-clause-lists
returns-clause-lists c =
    let asked = c.args.asked in
    let list = asked.pages.now in
    let files = info_by asked.directory.now in
    let keeps = c.loop-file.invariant.1 in
    let rest : ℕ = c.args.limit - c.len.result in
    let all : c.args.limit ≡ length c.pick_pages.new.list.pages.items + rest = omega (arith, c.len.ensures, c.pick_pages.ensures.few) in
    let whole : c.args.limit ≡ length c.loop-file.self.fresh.pages.items + rest = subst (λ (l : PageList). c.args.limit ≡ length l.pages.items + rest) (sym keeps.fresh) all in
    let new : PicksPages files true list c.loop-file.self.fresh.pages.items c.loop-file.self.fresh.places.items =
    subst (λ (l : PageList). PicksPages files true list l.pages.items l.places.items) (sym keeps.fresh) (c.pick_pages.ensures.picks c.if-not-pick_pages.false) in
    let front = c.pick_pages-2.new.list.pages.items in
    let old : PicksPages files false list front c.loop-file.self.kept.places.items =
    subst (λ (v : Vec ℕ Global). PicksPages files false list front v.items) (sym keeps.places) (c.pick_pages-2.ensures.picks c.if-not-pick_pages-2.false) in
    λ _. gathers_all asked.directory.now asked.sizes.now asked.files.now list c.requires.sized.rising c.args.limit rest c.loop-file.file-index c.loop-file.self.fresh c.loop-file.self.kept front
    c.loop-file-test.false whole new old c.loop-file.invariant.0

pub returns-clause-room : goal.returns-clause-room
returns-clause-room c =
    let old = c.args.self.now in
    keeps_room old (record old { fresh = c.pick_pages.new.list; kept = c.pick_pages-2.new.list }) c.loop-file.self refl refl refl c.pick_pages.ensures.room c.pick_pages-2.ensures.room
    c.loop-file.invariant.1

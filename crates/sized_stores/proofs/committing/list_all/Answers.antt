use Rattle.std.proofs.Common.{ℕ, ◌≡◌, ◌≤◌, ◌-◌, List, length, map, IfErr, OnOk, refl, sym, ap, subst, ◌∙◌, arith}
use Rattle.std.proofs.lemmas.List.{length-map}
use Rattle.pool_growth.specs.Sizes.{AreSizesRefused, ProposesChanges}
use Rattle.pool_growth.specs.declared.sizes.FileSize.{FileSize}
use Rattle.sized_stores.specs.Commit.{size_asked}
use Rattle.sized_stores.proofs.TakenLists.{files_few, lacks_homes, lacks_slots, lists_all, room_kept, room_stays}
use Rattle.sized_stores.proofs.committing.list_all.Goals as goal

pub list_sizes-requires-clause-room : goal.list_sizes-requires-clause-room
list_sizes-requires-clause-room g c =
    let few = files_few g.D.SectorDisk c.args.store.now c.requires.ready c.args.sizes.now c.args.files.now c.args.pages.now c.requires.asked in
    let room = c.requires.room.sizes in
    omega (arith, few, room)

pub propose_into-requires-clause-room : goal.propose_into-requires-clause-room
propose_into-requires-clause-room g c =
    let few = files_few g.D.SectorDisk c.args.store.now c.requires.ready c.args.sizes.now c.args.files.now c.args.pages.now c.requires.asked in
    let same = c.deref.ensures.value ∙ c.list_sizes.ensures.items in
    let room = c.requires.room.changes in
    long c.args.files.now (size_asked c.args.sizes.now) c.deref.result.now same few room
  where
    long : (files : List ℕ) (f : ℕ → FileSize) (sizes : List FileSize) → sizes ≡ map f files → {n k : ℕ} → length files ≤ n → n ≤ k → length sizes ≤ k
    long files f sizes same few room = (let size = ap (λ (xs : List FileSize). length xs) same in let all = length-map files f in omega (arith, size, all, few, room))

pub returns-then-is_err-clause-lacks : goal.returns-then-is_err-clause-lacks
returns-then-is_err-clause-lacks g c =
    let store = c.args.store.now in
    let same = c.deref.ensures.value ∙ c.list_sizes.ensures.items in (
      refl,
      lacks_homes g.D.SectorDisk store c.requires.ready c.args.sizes.now c.args.files.now c.args.pages.now c.requires.asked c.propose_into.result (sym c.is_err.ensures.value ∙ c.if-is_err.true)
          (subst (λ (sizes : List FileSize). IfErr c.propose_into.result (AreSizesRefused store.journal.sizes.homes store.directory sizes)) same c.propose_into.ensures.refused) c.propose_into.ensures.memory,
    )

pub returns-then-list_pages-clause-lists : goal.returns-then-list_pages-clause-lists
returns-then-list_pages-clause-lists g c =
    let store = c.args.store.now in
    let same = c.deref.ensures.value ∙ c.list_sizes.ensures.items in
    let beside : ℕ = store.directory.pages in
    let body = c.body_pages.ensures in
    let slots = c.requires.ready.is_journal.sized.0 in
    let pages = c.requires.ready.is_directory.sized.1 in
    lists_all g.D.SectorDisk store c.requires.ready c.args.sizes.now c.args.files.now c.args.pages.now c.requires.asked c.propose_into.result (sym c.is_err.ensures.value ∙ c.if-is_err.false) c.propose_into.new.changes.items
    (subst (λ (sizes : List FileSize). OnOk c.propose_into.result (ProposesChanges store.journal.sizes.homes store.directory sizes c.propose_into.new.changes.items)) same c.propose_into.ensures.proposes)
    c.list_pages.new.self (ap (λ changes. changes.items) c.list_pages.ensures.room.changes) (c.body_pages.result - beside) (omega (arith, body, slots, pages)) (c.list_pages.ensures.lists c.if-list_pages.true)

pub returns-then-list_pages-clause-room : goal.returns-then-list_pages-clause-room
returns-then-list_pages-clause-room g c =
    room_kept _ _ _ c.list_pages.new.self (room_stays _ _ c.args.room.now _ c.requires.room c.list_sizes.ensures.room c.propose_into.ensures.room refl refl refl) c.list_pages.ensures.room

pub returns-else-list_pages-clause-lacks : goal.returns-else-list_pages-clause-lacks
returns-else-list_pages-clause-lacks g c =
    let store = c.args.store.now in
    let beside : ℕ = store.directory.pages in
    let body = c.body_pages.ensures in
    let slots = c.requires.ready.is_journal.sized.0 in
    let pages = c.requires.ready.is_directory.sized.1 in (
      refl,
      lacks_slots g.D.SectorDisk store c.requires.ready c.args.sizes.now c.args.files.now c.args.pages.now c.requires.asked (c.body_pages.result - beside) (omega (arith, body, slots, pages)) (c.list_pages.ensures.many c.if-list_pages.false),
    )

pub returns-else-list_pages-clause-room : goal.returns-else-list_pages-clause-room
returns-else-list_pages-clause-room g c =
    room_kept _ _ _ c.list_pages.new.self (room_stays _ _ c.args.room.now _ c.requires.room c.list_sizes.ensures.room c.propose_into.ensures.room refl refl refl) c.list_pages.ensures.room

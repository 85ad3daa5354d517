use Rattle.std.proofs.Common.{◌<◌, ℕ, List, length, get_or, Result, Ok, Err, Some, refl, sym, ap, subst, ◌∙◌}
use Rattle.std.{proofs.lemmas.List.{with_items_is}, specs.Vec.{with_items}}
use Rattle.stores.specs.declared.store.Store.TheVariants.{Pool}
use Rattle.sized_stores.proofs.Taken.{are_pool, commits_all, now_pool, not_ok, ready_pool, refuses_all, roomy_pool, told_again}
use Rattle.sized_stores.proofs.TakenAsked.{are_asked, file_placed, gives_listed, may_commit, not_journal}
use Rattle.sized_stores.specs.{Commit.{AreSettled}, Listed.{CommitsListed, ListsCommit}}
use Rattle.sized_stores.specs.declared.{faults.SizeFault.{SizeFault}, sizes.Size.{Size}}
use Rattle.sized_stores.proofs.store.SizedStore.commit_sizes.Goals as goal

pub unreachable-requires : goal.unreachable-requires
unreachable-requires g c = not_journal g.D.SectorDisk c.args.self.now c.args.files.now c.requires.ready c.requires.files c.in_default.field-0 c.in_default.is

pub list_all-requires-clause-asked : goal.list_all-requires-clause-asked
list_all-requires-clause-asked g c =
    let p = c.in-Pool in
    let d = g.D.SectorDisk in
    let self = c.args.self.now in
    let n = c.requires in
    let files = c.args.files.now in
    let list = c.args.pages.now in
    are_asked d self p.store (ready_pool d g.S.PageSource g.met.D.SectorDisk.only_now self p.store p.is n.ready n.room files list n.files n.pages) files list
    (are_pool d g.S.PageSource g.met.D.SectorDisk.only_now self p.store p.is n.ready n.room files list n.files n.pages)
    (now_pool d g.S.PageSource g.met.D.SectorDisk.only_now self p.store p.is n.ready n.room files list n.files n.pages) c.deref.result.now c.deref.ensures.value

pub returns-in_err-list_all : goal.returns-in_err-list_all
returns-in_err-list_all g c =
    let p = c.in-Pool in
    let n = c.requires in
    refuses_all g.D.SectorDisk g.S.PageSource g.met.D.SectorDisk.only_now c.args.self.now p.store p.is n.ready n.room c.args.files.now c.args.pages.now n.files n.pages
    c.deref.result.now c.deref.ensures.value c.list_all.new.room c.list_all.ensures.room c.args.source.now (g.met.S.PageSource.stays c.args.source.now) c.in_err-list_all.ensures.lacks.1
    _ refl _ refl c.from_residual.result (told_again _ c.from_residual.result c.from_residual.ensures.1 ∙ ap (λ (e : SizeFault). Err e) c.in_err-list_all.ensures.lacks.0)

pub commit_listed-requires-clause-listed : goal.commit_listed-requires-clause-listed
commit_listed-requires-clause-listed g c =
    let p = c.in-Pool in
    let d = g.D.SectorDisk in
    let self = c.args.self.now in
    let n = c.requires in
    let files = c.args.files.now in
    let list = c.args.pages.now in
    may_commit d self p.store (ready_pool d g.S.PageSource g.met.D.SectorDisk.only_now self p.store p.is n.ready n.room files list n.files n.pages) files list
    (are_pool d g.S.PageSource g.met.D.SectorDisk.only_now self p.store p.is n.ready n.room files list n.files n.pages)
    (now_pool d g.S.PageSource g.met.D.SectorDisk.only_now self p.store p.is n.ready n.room files list n.files n.pages)
    (roomy_pool d g.S.PageSource g.met.D.SectorDisk.only_now self p.store p.is n.ready n.room files list n.files n.pages) c.list_all.new.room
    (subst (λ (sizes : List Size). ListsCommit p.store sizes files list c.list_all.new.room) c.deref.ensures.value c.in_ok-list_all.ensures.lists)

pub commit_listed-requires-clause-gives : goal.commit_listed-requires-clause-gives
commit_listed-requires-clause-gives g c =
    gives_listed c.in-Pool.store.directory c.deref.result.now c.args.files.now c.args.pages.now c.in_ok-list_all.ensures.lists.limit c.list_all.new.room c.in_ok-list_all.ensures.lists.pages
    (g.S.PageSource.gives c.args.source.now) c.requires.gives

pub returns-in_err-commit_listed : goal.returns-in_err-commit_listed
returns-in_err-commit_listed g c =
    let p = c.in-Pool in
    let n = c.requires in
    let told = told_again c.in_err-commit_listed.field-0.0 c.from_residual-in_err-commit_listed.result c.from_residual-in_err-commit_listed.ensures.1 in
    commits_all g.D.SectorDisk g.S.PageSource g.met.D.SectorDisk.only_now c.args.self.now p.store p.is n.ready n.room c.args.files.now c.args.pages.now n.files n.pages
    c.deref.result.now c.deref.ensures.value c.list_all.new.room c.commit_listed.new.room c.in_ok-list_all.ensures.lists c.commit_listed.ensures.room c.commit_listed.new.store c.args.self.now
    c.args.source.now c.commit_listed.new.source c.from_residual-in_err-commit_listed.result
    (subst (λ (r : Result (Unit {0}) SizeFault). CommitsListed g.D.SectorDisk g.S.PageSource p.store c.commit_listed.new.store c.list_all.new.room c.args.source.now c.commit_listed.new.source r) (sym told) c.in_err-commit_listed.ensures.commits)
    (not_ok _ c.from_residual-in_err-commit_listed.result c.from_residual-in_err-commit_listed.ensures.0) (λ err. refl) _ refl _ refl

pub settle-requires : goal.settle-requires
settle-requires g c =
    let p = c.in-Pool in
    let d = g.D.SectorDisk in
    let self = c.args.self.now in
    let n = c.requires in
    let files = c.args.files.now in
    let list = c.args.pages.now in
    subst (λ (sizes : List Size). (i : ℕ) → i < length files → get_or files i 0 < length sizes) (sym c.deref_mut.ensures.value)
    (file_placed d self p.store (ready_pool d g.S.PageSource g.met.D.SectorDisk.only_now self p.store p.is n.ready n.room files list n.files n.pages) files list
    (are_pool d g.S.PageSource g.met.D.SectorDisk.only_now self p.store p.is n.ready n.room files list n.files n.pages)
    (now_pool d g.S.PageSource g.met.D.SectorDisk.only_now self p.store p.is n.ready n.room files list n.files n.pages))

pub returns : goal.returns
returns g c =
    let p = c.in-Pool in
    let n = c.requires in
    commits_all g.D.SectorDisk g.S.PageSource g.met.D.SectorDisk.only_now c.args.self.now p.store p.is n.ready n.room c.args.files.now c.args.pages.now n.files n.pages
    c.deref.result.now c.deref.ensures.value c.list_all.new.room c.commit_listed.new.room c.in_ok-list_all.ensures.lists c.commit_listed.ensures.room c.commit_listed.new.store
    (record { store = Pool c.commit_listed.new.store; sizes = with_items c.args.self.now.sizes c.settle.new.sizes; room = Some c.commit_listed.new.room })
    c.args.source.now c.commit_listed.new.source (Ok (tt {0})) c.in_ok-commit_listed.ensures.commits
    (subst (λ (sizes : List Size). AreSettled c.args.files.now c.args.self.now.sizes.items sizes) (sym (with_items_is c.args.self.now.sizes c.settle.new.sizes (c.settle.ensures.long ∙ c.deref_mut.ensures.len)))
    (subst (λ (sizes : List Size). AreSettled c.args.files.now sizes c.settle.new.sizes) c.deref_mut.ensures.value c.settle.ensures)) (λ err. cc) _ refl _ refl

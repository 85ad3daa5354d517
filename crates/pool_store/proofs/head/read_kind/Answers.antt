use Rattle.std.proofs.Common.{◌≡◌, ◌<◌, ℕ, List, Err, refl, sym, subst, ◌∙◌, arith}
use Rattle.std.proofs.lemmas.Bool.{false≢true}
use Rattle.disk_model.{proofs.{Moments.{stays}, Naming.{once_apart, once_named, once_none}}, specs.{Moments.{Nothing}, Stop.{Image, Names, NamesOnce}}}
use Rattle.directories.specs.Kinds.{IsKind}
use Rattle.sync_journal.{proofs.{Runs.{no_write, one_more}}}
use Rattle.pool_store.proofs.Looking.{looks_bad, looks_failed, looks_found}
use Rattle.pool_store.specs.{Pools.{IsBadPool.{OtherKind, TooSmall, Unmarked}}, declared.faults.OpenFault.TheVariants.{BadLayout}}
use Rattle.pool_store.proofs.head.read_kind.Goals as goal

pub returns-then-sectors-le-KIND_SECTOR-clause-looks : goal.returns-then-sectors-le-KIND_SECTOR-clause-looks
returns-then-sectors-le-KIND_SECTOR-clause-looks g c =
    let d = g.D.SectorDisk in
    let old = c.args.disk.now in
    looks_bad d _ old old (record { size = refl; kept = λ keeps. keeps; later = omega arith; touches = λ keeps. stays d Nothing old }) (Err BadLayout) refl refl
    (λ keeps m pages. TooSmall (omega (arith, c.if-sectors-le-KIND_SECTOR.true, c.sectors.ensures)))

pub returns-in_err-read-clause-looks : goal.returns-in_err-read-clause-looks
returns-in_err-read-clause-looks g c =
    let d = g.D.SectorDisk in
    let s = c.read.ensures in
    let old = c.args.disk.now in
    looks_failed d _ old c.read.new.self (no_write d Nothing old c.read.new.self s.size s.kept s.cause.later s.same s.unsynced s.time) c.from_residual.result c.from_residual.ensures.1 (c.in_err-read.ensures.cause.failed refl)

pub returns-then-not-is_pool_mark-clause-looks : goal.returns-then-not-is_pool_mark-clause-looks
returns-then-not-is_pool_mark-clause-looks g c =
    let d = g.D.SectorDisk in
    let s = c.in_ok-read.ensures in
    let old = c.args.disk.now in
    looks_bad d _ old c.read.new.self (no_write d Nothing old c.read.new.self s.size s.kept s.cause.later s.same s.unsynced s.time) (Err BadLayout) refl s.cause.calm
    (λ keeps m pages. Unmarked (λ same. absurd (false≢true (sym c.if-not-is_pool_mark.true ∙ c.is_pool_mark.ensures.1 (s.gives keeps ∙ same)))))

pub returns-in_err-read-2-clause-looks : goal.returns-in_err-read-2-clause-looks
returns-in_err-read-2-clause-looks g c =
    let d = g.D.SectorDisk in
    let s = c.in_ok-read.ensures in
    let t = c.read-2.ensures in
    let old = c.args.disk.now in
    let mid = c.read.new.self in
    let new = c.read-2.new.self in
    let run = one_more d Nothing old mid new (no_write d Nothing old mid s.size s.kept s.cause.later s.same s.unsynced s.time) (no_write d Nothing mid new t.size t.kept t.cause.later t.same t.unsynced t.time) in
    looks_failed d _ old new run c.from_residual-in_err-read-2.result c.from_residual-in_err-read-2.ensures.1 (let failed = c.in_err-read-2.ensures.cause.failed refl in let calm = s.cause.calm in omega (arith, failed, calm))

pub returns-in_err-kind-clause-looks : goal.returns-in_err-kind-clause-looks
returns-in_err-kind-clause-looks g c =
    let d = g.D.SectorDisk in
    let s = c.in_ok-read.ensures in
    let t = c.in_ok-read-2.ensures in
    let old = c.args.disk.now in
    let mid = c.read.new.self in
    let new = c.read-2.new.self in
    let run = one_more d Nothing old mid new (no_write d Nothing old mid s.size s.kept s.cause.later s.same s.unsynced s.time) (no_write d Nothing mid new t.size t.kept t.cause.later t.same t.unsynced t.time) in
    looks_bad d _ old new run c.from_residual-in_err-kind.result c.from_residual-in_err-kind.ensures.1 (t.cause.calm ∙ s.cause.calm)
    (λ keeps m pages. OtherKind (λ is. c.in_err-kind.ensures.none m pages (subst (λ (sector : List ℕ). IsKind m pages sector) (sym (t.gives keeps)) (subst (λ (image : Image). IsKind m pages (image 1)) (sym (s.same (t.kept keeps))) is))))

pub returns-clause-looks : goal.returns-clause-looks
returns-clause-looks g c =
    let d = g.D.SectorDisk in
    let s = c.in_ok-read.ensures in
    let t = c.in_ok-read-2.ensures in
    let old = c.args.disk.now in
    let mid = c.read.new.self in
    let new = c.read-2.new.self in
    let run = one_more d Nothing old mid new (no_write d Nothing old mid s.size s.kept s.cause.later s.same s.unsynced s.time) (no_write d Nothing mid new t.size t.kept t.cause.later t.same t.unsynced t.time) in
    looks_found d _ old new run c.in_ok-kind.kind (t.cause.calm ∙ s.cause.calm)

pub returns-clause-kind : goal.returns-clause-kind
returns-clause-kind g c = λ keeps.
    let s = c.in_ok-read.ensures in
    let t = c.in_ok-read-2.ensures in
    subst (λ (image : Image). IsKind c.in_ok-kind.kind.map_blocks c.in_ok-kind.kind.directory_pages (image 1)) (s.same (t.kept keeps))
    (subst (λ (sector : List ℕ). IsKind c.in_ok-kind.kind.map_blocks c.in_ok-kind.kind.directory_pages sector) (t.gives keeps) c.in_ok-kind.ensures.kind)

-- one sector, and then the other
both_once : (before mid now : ℕ → ℕ) → Names (λ k. k ≡ 0) before mid → Names (λ k. k ≡ 1) mid now → NamesOnce (λ k. k < 2) before now
both_once before mid now mark kind = once_apart (λ k. k ≡ 0) (λ k. k ≡ 1) (λ k. k < 2) before mid now (λ k at. omega (arith, at)) (λ k at. omega (arith, at)) (λ k first second. omega (arith, first, second))
    (once_named (λ k. k ≡ 0) (λ k. k ≡ 0) before mid (λ k at. at) mark) (once_named (λ k. k ≡ 1) (λ k. k ≡ 1) mid now (λ k at. at) kind)

pub returns-then-sectors-le-KIND_SECTOR-clause-once : goal.returns-then-sectors-le-KIND_SECTOR-clause-once
returns-then-sectors-le-KIND_SECTOR-clause-once g c = once_none (λ k. k < 2) (g.D.SectorDisk.asked c.args.disk.now) (g.D.SectorDisk.asked c.args.disk.now) (λ k. refl)

pub returns-in_err-read-clause-once : goal.returns-in_err-read-clause-once
returns-in_err-read-clause-once g c = once_named (λ k. k < 2) (λ k. k ≡ 0) (g.D.SectorDisk.asked c.args.disk.now) (g.D.SectorDisk.asked c.read.new.self) (λ k at. omega (arith, at)) c.read.ensures.asks

pub returns-then-not-is_pool_mark-clause-once : goal.returns-then-not-is_pool_mark-clause-once
returns-then-not-is_pool_mark-clause-once g c = once_named (λ k. k < 2) (λ k. k ≡ 0) (g.D.SectorDisk.asked c.args.disk.now) (g.D.SectorDisk.asked c.read.new.self) (λ k at. omega (arith, at)) c.read.ensures.asks

pub returns-in_err-read-2-clause-once : goal.returns-in_err-read-2-clause-once
returns-in_err-read-2-clause-once g c = (let d = g.D.SectorDisk in both_once (d.asked c.args.disk.now) (d.asked c.read.new.self) (d.asked c.read-2.new.self) c.read.ensures.asks c.read-2.ensures.asks)

pub returns-in_err-kind-clause-once : goal.returns-in_err-kind-clause-once
returns-in_err-kind-clause-once g c = (let d = g.D.SectorDisk in both_once (d.asked c.args.disk.now) (d.asked c.read.new.self) (d.asked c.read-2.new.self) c.read.ensures.asks c.read-2.ensures.asks)

pub returns-clause-once : goal.returns-clause-once
returns-clause-once g c = (let d = g.D.SectorDisk in both_once (d.asked c.args.disk.now) (d.asked c.read.new.self) (d.asked c.read-2.new.self) c.read.ensures.asks c.read-2.ensures.asks)

use Rattle.file_store.{proofs.{Asking.{one_once, then_once}, Making.{written_synced, makes_more, makes_write, makes_synced}, Names.{◌≡◌, ℕ, inl, inr, ap, refl, ◌∙◌, arith, rules, once_still}, NewStores.{new_head}}, specs.Format.{IsLayoutSector}}
use Rattle.file_store.proofs.formatting.write_layout.Goals as goal

pub returns-in_err-write-clause-writes : goal.returns-in_err-write-clause-writes
returns-in_err-write-clause-writes g c =
    let d = g.D.SectorDisk in
    let W : ℕ → Type 0 = IsLayoutSector in
    written_synced d _ _ _ _ (makes_write d W 1 c.args.disk.now c.write.new.self (inl refl) c.write.ensures.size c.write.ensures.kept c.write.ensures.cause.later c.write.ensures.asks c.write.ensures.others c.write.ensures.unsynced c.write.ensures.time)
    (one_once W 1 _ _ (inl refl) c.write.ensures.asks) (search rules) (search rules) (search rules)

pub returns-in_err-write-2-clause-writes : goal.returns-in_err-write-2-clause-writes
returns-in_err-write-2-clause-writes g c =
    let d = g.D.SectorDisk in
    let W : ℕ → Type 0 = IsLayoutSector in
    written_synced d _ _ _ _ (makes_more d W c.args.disk.now c.write.new.self c.write-2.new.self
    (makes_write d W 1 c.args.disk.now c.write.new.self (inl refl) c.write.ensures.size c.write.ensures.kept c.write.ensures.cause.later c.write.ensures.asks c.write.ensures.others c.write.ensures.unsynced c.write.ensures.time)
    (makes_write d W 2 c.write.new.self c.write-2.new.self (inr refl) c.write-2.ensures.size c.write-2.ensures.kept c.write-2.ensures.cause.later c.write-2.ensures.asks c.write-2.ensures.others c.write-2.ensures.unsynced c.write-2.ensures.time))
    (then_once (λ k. k ≡ 1) W 2 _ _ _ (λ k at. inl at) (inr refl) (λ at. omega (arith, at)) (one_once (λ k. k ≡ 1) 1 _ _ refl c.write.ensures.asks) c.write-2.ensures.asks) (search rules) (search rules) (search rules)

pub returns-clause-writes : goal.returns-clause-writes
returns-clause-writes g c =
    let d = g.D.SectorDisk in
    let W : ℕ → Type 0 = IsLayoutSector in
    written_synced d _ _ _ _ (makes_synced d W c.args.disk.now c.write-2.new.self c.sync.new.self
    (makes_more d W c.args.disk.now c.write.new.self c.write-2.new.self
    (makes_write d W 1 c.args.disk.now c.write.new.self (inl refl) c.write.ensures.size c.write.ensures.kept c.write.ensures.cause.later c.write.ensures.asks c.write.ensures.others c.write.ensures.unsynced c.write.ensures.time)
    (makes_write d W 2 c.write.new.self c.write-2.new.self (inr refl) c.write-2.ensures.size c.write-2.ensures.kept c.write-2.ensures.cause.later c.write-2.ensures.asks c.write-2.ensures.others c.write-2.ensures.unsynced c.write-2.ensures.time))
    c.sync.ensures.size c.sync.ensures.kept c.sync.ensures.cause.later c.sync.ensures.asks c.sync.ensures.same c.sync.ensures.unsynced c.sync.ensures.time)
    (once_still W _ _ _ (then_once (λ k. k ≡ 1) W 2 _ _ _ (λ k at. inl at) (inr refl) (λ at. omega (arith, at)) (one_once (λ k. k ≡ 1) 1 _ _ refl c.write.ensures.asks) c.write-2.ensures.asks) c.sync.ensures.asks) (search rules) (search rules) (search rules)

pub returns-clause-head : goal.returns-clause-head
returns-clause-head g c = λ keeps.
    let k2 = c.sync.ensures.kept keeps in
    let k1 = c.write-2.ensures.kept k2 in
    new_head c.sync.result c.args.directory.now (g.D.SectorDisk.content c.sync.new.self)
    (ap (λ image. image 1) (c.sync.ensures.same keeps) ∙ (c.write-2.ensures.others k2).others 1 (λ e. omega (arith, e)) ∙ c.in_ok-write.ensures.written k1)
    (ap (λ image. image 2) (c.sync.ensures.same keeps) ∙ c.in_ok-write-2.ensures.written k2)

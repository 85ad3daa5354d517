use Rattle.machine.proofs.{Accesses.{refused_so}, Causes.{msync_caused}, Commits.{msync_meets}, Flat.{room_still}, Names.{◌≡◌, true, false, rules, inl, inr, ⊎_elim, refl, sym, ap, subst, ◌∙◌, picture_of, KeepsRoom, EIO, reply_of}}
use Rattle.{msync.specs.Shows.{HasSyncRoom}, vm_types.specs.declared.reply.Answer.TheVariants.{Refused}}
use Rattle.machine.proofs.engine.Engine.msync.Goals as goal

pub returns : goal.returns
returns g c =
    let e = c.msync-answer.ensures.syncs in
    let left = c.msync-answer.ensures.room in
    let is : c.eq-self.result ≡ true → c.msync-answer.result ≡ Refused EIO = λ r. search rules in
    let is_not : c.eq-self.result ≡ false → c.msync-answer.result ≡ Refused EIO → ⊥ = λ r. search rules in
    let still = subst (HasSyncRoom g.D.SectorDisk c.msync-answer.new.core) (sym left) in
    let sizes : KeepsRoom (picture_of c.args.self.now.core) (picture_of c.msync-answer.new.core) = record { frames = e.frames; slots = e.slots } in
    record {
      does = record {
        sound = record { going = λ r. e.ready (is_not r); room = still (room_still g.D.SectorDisk g.E.SectorDisk c.args.self.now.core c.msync-answer.new.core _ e.always e.places sizes c.requires.room) };
        keeps = record { kept = e.kept; swap_kept = e.device.kept; room = sizes };
        caused =
            msync_caused g.D.SectorDisk g.E.SectorDisk c.args.self.now.core c.msync-answer.new.core c.msync-answer.result
            e.later e.device.later e.cause e.calm e.stalled e.still e.refused;
        accesses = (e.memory, e.asks);
        denied = record {
          refused = λ errno is other. ⊎_elim (λ same. inl same) (λ lacks. inr (refl, lacks.0, lacks.1)) (e.unasked errno (refused_so c.msync-answer.result errno is) other);
          faulted = λ other. absurd (let never : true ≡ false = other in cc);
          halted = λ stopped. absurd (let never : false ≡ true = sym c.requires.running ∙ stopped in cc);
        };
      };
      meets = λ s shows readable.
          msync_meets g.D.SectorDisk g.E.SectorDisk (λ d i k left. g.met.D.SectorDisk.only_now d i k left) (λ d t i k le may. g.met.D.SectorDisk.counts_now d t i k le may)
          c.args.self.now c.msync-answer.new.core c.eq-self.result c.msync-answer.new.room s c.args.pid c.args.addr c.args.len c.args.mode (reply_of c.msync-answer.result) shows c.requires.running
          c.requires.room left sizes e.device
          (λ core_shows. record {
            passes = e.passes s core_shows;
            commits_so = λ after. e.commits s after core_shows;
            back = λ after commit away. readable.slots (ap Rattle.std.specs.Option.is_some commit);
          })
          (λ r. ap reply_of (is r)) (λ r failed. is_not r (refused_so c.msync-answer.result EIO failed));
    }

use Rattle.std.proofs.lemmas.Grind.{common_steps}
use Rattle.machine.proofs.Names.{rules, arith, refl, ap, reply_of, Spawn, Fork, Exit, Mmap, Munmap, Mprotect, Dontneed, Truncate, Load, Store, Fetch}
use Rattle.machine.proofs.{Accesses.{apart, carries_out, faults_live, given_back, lives, on_page}, Flat.{halted_accesses, stays_halted}, Steps.{outcome_keeps}, Resizing.{ends_asked, resized}}
use Rattle.machine.proofs.engine.Engine.carry_out.Goals as goal

pub returns-then-self : goal.returns-then-self
returns-then-self g c = record {
  does = record {
    sound = c.requires.sound;
    keeps = search rules;
    caused = search rules;
    accesses = halted_accesses g.D.SectorDisk g.E.SectorDisk c.args.self.now.core c.args.command;
    denied = search rules;
  };
  meets = λ s shows readable. stays_halted g.D.SectorDisk g.E.SectorDisk (λ d i k left. g.met.D.SectorDisk.only_now d i k left) c.args.self.now s c.args.command shows c.if-self.true;
}

pub returns-in-Spawn : goal.returns-in-Spawn
returns-in-Spawn g c =
    rw c.in-Spawn.is (carries_out g.D.SectorDisk g.E.SectorDisk (λ d i k left. g.met.D.SectorDisk.only_now d i k left) c.args.self.now _ c.spawn.new.core Spawn _ _ c.requires.sound c.if-self.false (λ s. refl) refl refl refl refl (λ s comes. refl)
    (apart g.D.SectorDisk g.E.SectorDisk _ _ _ _ (refl, λ s. refl) c.spawn.ensures.keeps c.spawn.ensures.comes (λ s idle. idle)) (c.spawn.ensures.takes, c.spawn.ensures.keeps.store, c.spawn.ensures.asks))

pub returns-in-Fork : goal.returns-in-Fork
returns-in-Fork g c =
    rw c.in-Fork.is (carries_out g.D.SectorDisk g.E.SectorDisk (λ d i k left. g.met.D.SectorDisk.only_now d i k left) c.args.self.now _ c.fork.new.core (Fork c.in-Fork.pid) _ _ c.requires.sound c.if-self.false (λ s. refl) refl refl refl refl (λ s comes. refl)
    (apart g.D.SectorDisk g.E.SectorDisk _ _ _ _ (refl, λ s. refl) c.fork.ensures.keeps c.fork.ensures.comes (λ s idle. idle)) (c.fork.ensures.takes, c.fork.ensures.keeps.store, c.fork.ensures.asks))

pub returns-in-Exit : goal.returns-in-Exit
returns-in-Exit g c =
    rw c.in-Exit.is (carries_out g.D.SectorDisk g.E.SectorDisk (λ d i k left. g.met.D.SectorDisk.only_now d i k left) c.args.self.now _ c.exit.new.core (Exit c.in-Exit.pid) _ _ c.requires.sound c.if-self.false (λ s. refl) refl refl refl refl (λ s comes. refl)
    (given_back g.D.SectorDisk g.E.SectorDisk _ _ _ _ _ _ _ (refl, λ s. refl) c.exit.ensures.keeps c.exit.ensures.comes) c.exit.ensures.keeps.takes)

pub returns-in-Mmap : goal.returns-in-Mmap
returns-in-Mmap g c =
    rw c.in-Mmap.is (carries_out g.D.SectorDisk g.E.SectorDisk (λ d i k left. g.met.D.SectorDisk.only_now d i k left) c.args.self.now _ c.mmap.new.core (Mmap c.in-Mmap.pid c.in-Mmap.addr c.in-Mmap.len c.in-Mmap.prot c.in-Mmap.source c.in-Mmap.placing) _ _ c.requires.sound c.if-self.false (λ s. refl) refl refl refl refl (λ s comes. refl)
    (given_back g.D.SectorDisk g.E.SectorDisk _ _ _ _ _ _ _ (refl, λ s. refl) c.mmap.ensures.keeps c.mmap.ensures.comes) (c.mmap.ensures.keeps.takes, c.mmap.ensures.entries))

pub returns-in-Munmap : goal.returns-in-Munmap
returns-in-Munmap g c =
    rw c.in-Munmap.is (carries_out g.D.SectorDisk g.E.SectorDisk (λ d i k left. g.met.D.SectorDisk.only_now d i k left) c.args.self.now _ c.munmap.new.core (Munmap c.in-Munmap.pid c.in-Munmap.addr c.in-Munmap.len) _ _ c.requires.sound c.if-self.false (λ s. refl) refl refl refl refl (λ s comes. refl)
    (given_back g.D.SectorDisk g.E.SectorDisk _ _ _ _ _ _ _ (refl, λ s. refl) c.munmap.ensures.keeps c.munmap.ensures.comes) (c.munmap.ensures.keeps.takes, c.munmap.ensures.beside))

pub returns-in-Mprotect : goal.returns-in-Mprotect
returns-in-Mprotect g c =
    rw c.in-Mprotect.is (carries_out g.D.SectorDisk g.E.SectorDisk (λ d i k left. g.met.D.SectorDisk.only_now d i k left) c.args.self.now _ c.mprotect.new.core (Mprotect c.in-Mprotect.pid c.in-Mprotect.addr c.in-Mprotect.len c.in-Mprotect.prot) _ _ c.requires.sound c.if-self.false (λ s. refl) refl refl refl refl (λ s comes. refl)
    (given_back g.D.SectorDisk g.E.SectorDisk _ _ _ _ _ _ _ (refl, λ s. refl) c.mprotect.ensures.keeps c.mprotect.ensures.comes) (c.mprotect.ensures.keeps.takes, c.mprotect.ensures.entries))

pub returns-in-Dontneed : goal.returns-in-Dontneed
returns-in-Dontneed g c =
    rw c.in-Dontneed.is (carries_out g.D.SectorDisk g.E.SectorDisk (λ d i k left. g.met.D.SectorDisk.only_now d i k left) c.args.self.now _ c.dontneed.new.core (Dontneed c.in-Dontneed.pid c.in-Dontneed.addr c.in-Dontneed.len) _ _ c.requires.sound c.if-self.false (λ s. refl) refl refl refl refl (λ s comes. refl)
    (given_back g.D.SectorDisk g.E.SectorDisk _ _ _ _ _ _ _ (refl, λ s. refl) c.dontneed.ensures.keeps c.dontneed.ensures.comes) (c.dontneed.ensures.keeps.takes, c.dontneed.ensures.entries))

pub returns-in-Truncate : goal.returns-in-Truncate
returns-in-Truncate g c =
    rw c.in-Truncate.is (carries_out g.D.SectorDisk g.E.SectorDisk (λ d i k left. g.met.D.SectorDisk.only_now d i k left) c.args.self.now _ c.truncate.new.core (Truncate c.in-Truncate.file c.in-Truncate.length) _ _ c.requires.sound c.if-self.false (λ s. refl) refl refl refl refl (λ s comes. refl)
    (resized g.D.SectorDisk g.E.SectorDisk _ _ _ _ _ c.truncate.ensures.keeps c.truncate.ensures.comes) (ends_asked g.D.SectorDisk g.E.SectorDisk _ _ _ _ _ c.truncate.ensures.keeps))

pub returns-in-Load : goal.returns-in-Load
returns-in-Load g c =
    let call = c.load-answer in
    let pid = c.in-Load.pid in
    rw c.in-Load.is (carries_out g.D.SectorDisk g.E.SectorDisk (λ d i k left. g.met.D.SectorDisk.only_now d i k left) c.args.self.now _ call.new.core (Load pid c.in-Load.addr c.in-Load.width) (reply_of call.result) _ c.requires.sound c.if-self.false (λ s. refl) c.noted.ensures.core c.noted.ensures.halted c.noted.ensures.room (ap reply_of c.noted.ensures.answer)
    (λ s comes. c.noted.ensures.past (λ fault e. lives g.D.SectorDisk g.E.SectorDisk _ _ s _ _ pid comes (λ other. faults_live s pid _ other ((outcome_keeps s (Load pid c.in-Load.addr c.in-Load.width)).faults other)) fault (ap reply_of e)))
    (on_page g.D.SectorDisk g.E.SectorDisk _ _ _ _ _ _ _ (refl, λ s. refl) call.ensures.keeps call.ensures.comes (λ s idle. idle)) (call.ensures.keeps.asks, call.ensures.walked))

pub returns-in-Store : goal.returns-in-Store
returns-in-Store g c =
    let call = c.store-answer in
    let pid = c.in-Store.pid in
    rw c.in-Store.is (carries_out g.D.SectorDisk g.E.SectorDisk (λ d i k left. g.met.D.SectorDisk.only_now d i k left) c.args.self.now _ call.new.core (Store pid c.in-Store.addr c.in-Store.stored) (reply_of call.result) _ c.requires.sound c.if-self.false (λ s. refl) c.noted-in-Store.ensures.core c.noted-in-Store.ensures.halted c.noted-in-Store.ensures.room (ap reply_of c.noted-in-Store.ensures.answer)
    (λ s comes. c.noted-in-Store.ensures.past (λ fault e. lives g.D.SectorDisk g.E.SectorDisk _ _ s _ _ pid comes (λ other. faults_live s pid _ other ((outcome_keeps s (Store pid c.in-Store.addr c.in-Store.stored)).faults other)) fault (ap reply_of e)))
    (on_page g.D.SectorDisk g.E.SectorDisk _ _ _ _ _ _ _ (refl, λ s. refl) call.ensures.keeps call.ensures.comes (λ s idle. idle)) (call.ensures.keeps.asks, λ place walked _. call.ensures.walked place walked))

pub returns-in-Fetch : goal.returns-in-Fetch
returns-in-Fetch g c =
    let call = c.fetch-answer in
    let pid = c.in-Fetch.pid in
    rw c.in-Fetch.is (carries_out g.D.SectorDisk g.E.SectorDisk (λ d i k left. g.met.D.SectorDisk.only_now d i k left) c.args.self.now _ call.new.core (Fetch pid c.in-Fetch.addr) (reply_of call.result) _ c.requires.sound c.if-self.false (λ s. refl) c.noted-in-Fetch.ensures.core c.noted-in-Fetch.ensures.halted c.noted-in-Fetch.ensures.room (ap reply_of c.noted-in-Fetch.ensures.answer)
    (λ s comes. c.noted-in-Fetch.ensures.past (λ fault e. lives g.D.SectorDisk g.E.SectorDisk _ _ s _ _ pid comes (λ other. faults_live s pid _ other ((outcome_keeps s (Fetch pid c.in-Fetch.addr)).faults other)) fault (ap reply_of e)))
    (on_page g.D.SectorDisk g.E.SectorDisk _ _ _ _ _ _ _ (refl, λ s. refl) call.ensures.keeps call.ensures.comes (λ s idle. idle)) (call.ensures.keeps.asks, call.ensures.walked))

pub returns-in-Msync : goal.returns-in-Msync
returns-in-Msync g c = rw c.in-Msync.is c.msync.ensures

pub returns-in-PastFaults : goal.returns-in-PastFaults
returns-in-PastFaults g c = grind (arith, common_steps)

pub noted-requires : goal.noted-requires
noted-requires g c = record { fit = c.load-answer.ensures.keeps.accounts.sound.fit }

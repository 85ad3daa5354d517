use Rattle.fault.proofs.Names.{user_end, Fine, FrameNo, Phys, Stall, ℕ, refl, Ok, Err, Result, ◌/◌, ◌<◌, sym, ap, ◌∙◌, subst, Core, picture_of}
use Rattle.fault.{specs.{Outcome.{seen_at}, Serving.{Reaches, Serves}}, proofs.{Serving.{reaches_stall, tends_none}, Ready.{placed_made, grants_made, page_user}, Wanted.{root_live, walked_same, no_walk}}}
use Rattle.fault.specs.declared.refusal.AccessRefusal.TheVariants as Refusal
use Rattle.fault.{proofs.Names.{◌≡◌, ◌+◌, ◌*◌, ◌%◌, Some, arith, inl, inr}, specs.Granted.{IsEntered}}
use Rattle.fault.proofs.Chances.{others_same}
use Rattle.fault.proofs.accesses.access.Goals as goal

there : (frame addr : ℕ) → frame ≡ (frame * 4096 + addr % 4096) / 4096
there frame addr = omega arith

pub returns-in-Place : goal.returns-in-Place
returns-in-Place g c =
    let pid = c.args.pid in
    let addr = c.args.addr in
    let before = c.args.core.now in
    let old = picture_of before in
    let found = c.in-Place.ensures.found in
    let P : Core g.row.D.Denot g.row.E.Denot g.row.M.Denot g.M.Levels → Type 0 = λ m. Reaches g.D.SectorDisk g.E.SectorDisk before m pid addr c.args.width c.args.access (Ok c.in-Place.place) in
    subst P (sym c.find.ensures.same)
    (record {
      tends = tends_none g.D.SectorDisk g.E.SectorDisk before pid (addr / 4096) c.args.access c.requires.fit c.requires.store c.requires.swap;
      placed = found.0;
      entered = inl refl;
      walked = λ place walked. (refl, ap (λ p. Ok p) (walked_same old pid addr c.args.width c.args.access c.in-Place.place place found.0 walked));
      granted = λ trusted. found.1;
      chance = λ one. others_same old old pid (addr / 4096) _ (λ q p inside other. refl);
      counts = (refl, refl, refl);
      refusal = tt;
    })

pub returns-in-Fault : goal.returns-in-Fault
returns-in-Fault g c =
    let pid = c.args.pid in
    let addr = c.args.addr in
    let before = c.args.core.now in
    let P : Core g.row.D.Denot g.row.E.Denot g.row.M.Denot g.M.Levels → Type 0 = λ m. Reaches g.D.SectorDisk g.E.SectorDisk before m pid addr c.args.width c.args.access (Err (Refusal.Fault c.fault.result)) in
    subst P (sym c.find.ensures.same)
    (record {
      tends = tends_none g.D.SectorDisk g.E.SectorDisk before pid (addr / 4096) c.args.access c.requires.fit c.requires.store c.requires.swap;
      placed = tt;
      entered = tt;
      walked = λ place walked. absurd (no_walk (picture_of before) pid addr c.args.width c.args.access c.in-Fault.code place c.in-Fault.ensures.found walked);
      granted = λ trusted. tt;
      chance = λ one. tt;
      counts = tt;
      refusal = (c.in-Fault.code, c.in-Fault.ensures.found, c.fault.ensures, refl);
    })

pub returns-in_err-frame-in-Page : goal.returns-in_err-frame-in-Page
returns-in_err-frame-in-Page g c =
    let pid = c.args.pid in
    let addr = c.args.addr in
    let attr = c.in-Page.attr in
    let access = c.args.access in
    let before = c.args.core.now in
    let after = c.grant.new.core in
    let old = picture_of before in
    let found = c.in-Page.ensures.found in
    let stall = c.in_err-frame-in-Page.field-0.0 in
    let failed : Result FrameNo Stall = Err stall in
    let M : Core g.row.D.Denot g.row.E.Denot g.row.M.Denot g.M.Levels → Type 0 = λ m. Serves g.D.SectorDisk g.E.SectorDisk m after pid c.in-Page.way.page attr access failed in
    let P : ℕ → Type 0 = λ x. Serves g.D.SectorDisk g.E.SectorDisk before after pid x attr access failed in
    let serves = subst P found.page_is (subst M c.find.ensures.same c.in_err-frame-in-Page.ensures) in
    reaches_stall g.D.SectorDisk g.E.SectorDisk before after pid addr c.args.width access c.from_residual.result stall c.from_residual.ensures.1 serves.tends
    (λ place walked. found.unwalked walked.root place walked.lives walked.place) (record { seen = seen_at old pid c.in-Page.way.page attr; fine = found.fine; stalled = serves.stalled })

pub returns-in_ok-frame-in-Page : goal.returns-in_ok-frame-in-Page
returns-in_ok-frame-in-Page g c =
    let pid = c.args.pid in
    let addr = c.args.addr in
    let width = c.args.width in
    let attr = c.in-Page.attr in
    let access = c.args.access in
    let before = c.args.core.now in
    let after = c.grant.new.core in
    let old = picture_of before in
    let new = picture_of after in
    let found = c.in-Page.ensures.found in
    let frame = c.in_ok-frame-in-Page.frame in
    let here : Result FrameNo Stall = Ok frame in
    let M : Core g.row.D.Denot g.row.E.Denot g.row.M.Denot g.M.Levels → Type 0 = λ m. Serves g.D.SectorDisk g.E.SectorDisk m after pid c.in-Page.way.page attr access here in
    let P : ℕ → Type 0 = λ x. Serves g.D.SectorDisk g.E.SectorDisk before after pid x attr access here in
    let serves = subst P found.page_is (subst M c.find.ensures.same c.in_ok-frame-in-Page.ensures) in
    let fine = found.fine ∙ ap (λ k. Fine (seen_at old pid k attr)) found.page_is in
    let root = root_live old pid c.requires.lives in
    let R : ℕ → Type 0 = λ x. x < user_end g.M.Levels.mode in
    let A : ℕ → Type 0 = λ x. old.at pid x ≡ Some attr in
    let mapped = subst A found.page_is found.allowed.mapped in
    let N : ℕ → Type 0 = λ x. IsEntered new pid (addr / 4096) attr access x in
    subst (λ (x : Phys). Reaches g.D.SectorDisk g.E.SectorDisk before after pid addr width access (Ok x)) (sym c.place_in.ensures)
    (record {
      tends = serves.tends;
      placed = placed_made old new pid root.0 addr width access attr frame.0 serves.proceeds.fit (serves.proceeds.spaces.root pid ∙ root.1)
          (subst R found.page_is (page_user old pid c.in-Page.way.page attr c.requires.fit found.allowed.mapped).1) fine serves.entered;
      walked = λ place walked. absurd (found.unwalked walked.root place walked.lives walked.place);
      entered = inr (attr, mapped, subst N (there frame.0 addr) serves.entered);
      granted = λ trusted. grants_made old new pid addr width access attr frame.0 fine (serves.ready trusted);
      chance = serves.chance;
      counts = serves.counts;
      refusal = tt;
    })

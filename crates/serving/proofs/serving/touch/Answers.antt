use Rattle.std.proofs.Common.{◌%◌, ◌≡◌, inl, inr, Some, refl, sym, ap, ◌∙◌, subst, arith}
use Rattle.{machine.{proofs.HardwareTells.{load_undone, store_granted}, specs.{Commands.{DoesAsTold}, Machine.{past_of}}}, vm_types.specs.{Replies.{told}, declared.{command.Command.TheVariants.{Load, Store}, width.Width.TheVariants.{One}}}}
use Rattle.serving.proofs.serving.touch.Goals as goal

pub returns-in-Some-clause-touches : goal.returns-in-Some-clause-touches
returns-in-Some-clause-touches g c =
    let mid = c.carry_out-loaded.new.machine in
    let stores = c.carry_out.ensures.carries in
    record {
      mid = mid;
      loaded = c.carry_out-loaded.result;
      loads = c.carry_out-loaded.ensures.carries;
      stores = inl (c.in-Some.stored, c.in-Some.ensures.some, stores);
      grants = λ done runs. store_granted g.D.SectorDisk g.E.SectorDisk mid _ c.args.pid c.args.addr c.in-Some.stored One (omega arith) runs c.carry_out.ensures.sound (rw done at stores.does);
    }

pub returns-in-None-clause-touches : goal.returns-in-None-clause-touches
returns-in-None-clause-touches g c =
    let loads = c.carry_out-loaded.ensures.carries in
    record {
      mid = c.carry_out-loaded.new.machine;
      loaded = c.carry_out-loaded.result;
      loads = loads;
      stores = inr (c.in-None.ensures.none, refl, refl);
      grants = λ done runs. absurd (load_undone g.D.SectorDisk g.E.SectorDisk _ _ c.args.pid c.args.addr One (rw done at loads.does));
    }

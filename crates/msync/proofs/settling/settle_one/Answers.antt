use Rattle.msync.{proofs.Names.{sym, subst, picture_of}, specs.{Settling.{IsSettleable, SettlesPage}, declared.chosen.{Residence.{Residence}, Spot.{Spot}}}}
use Rattle.msync.proofs.settling.settle_one.Goals as goal

pub settle_in_frame-requires : goal.settle_in_frame-requires
settle_in_frame-requires g c =
    subst (λ (at : Residence). (let x : Spot = record { page = c.args.spot.page; at = at } in IsSettleable (picture_of c.args.core.now) x)) c.in-Framed.is c.requires

pub settle_in_slot-requires : goal.settle_in_slot-requires
settle_in_slot-requires g c =
    subst (λ (at : Residence). (let x : Spot = record { page = c.args.spot.page; at = at } in IsSettleable (picture_of c.args.core.now) x)) c.in-Slotted.is c.requires

pub returns-in-Framed : goal.returns-in-Framed
returns-in-Framed g c =
    subst (λ (at : Residence). (let x : Spot = record { page = c.args.spot.page; at = at } in SettlesPage c.args.core.now c.settle_in_frame.new.core x)) (sym c.in-Framed.is) c.settle_in_frame.ensures

pub returns-in-Slotted : goal.returns-in-Slotted
returns-in-Slotted g c =
    subst (λ (at : Residence). (let x : Spot = record { page = c.args.spot.page; at = at } in SettlesPage c.args.core.now c.settle_in_slot.new.core x)) (sym c.in-Slotted.is) c.settle_in_slot.ensures

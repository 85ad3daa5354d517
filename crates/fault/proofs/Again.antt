-- The page of a file or an object that was asked for may be asked for again.
use Rattle.vm_types.specs.declared.mode.Levels as Levels
use Rattle.fault.proofs.{Serving.{stands_brought, open_brought}, Wanted.{page_inside}, Names.{◌≡◌, Some, Result, Access, FrameNo, PageKey, Stall, Attr, stands_on, Ghosts, Core, picture_of}}
use Rattle.fault.specs.{PagingIn.{PagesIn, MayBring}, SpotServing.{MayServeAt}, declared.spot.Spot.{Spot}}

module _ {M : Type 0} {m : Levels.Ghosts M} {D E : Type 0} {g : Ghosts D} {h : Ghosts E} {before after : Core D E M m} {spot : Spot} {attr : Attr} {access : Access} {p : PageKey} {r : Result FrameNo Stall} where
  pub bring_again : MayServeAt g h before spot attr access → PagesIn g h before after p r → stands_on attr.backing ≡ Some p → MayBring g h after p
  bring_again may first stands =
      record { fit = first.proceeds.fit; store = first.proceeds.ready; swap = first.proceeds.swap; inside = page_inside (picture_of after) spot.pid spot.page attr p (stands_brought may first).linked (open_brought may first).mapped stands (open_brought may first).inside }

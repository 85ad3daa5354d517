-- What is told of frames that changed.
use Rattle.std.specs.Prelude.{◌≡◌, ℕ, Bool, true, false, ◌&&◌, not, Option, None, Some}
use Rattle.inspection.specs.declared.frame_views.Holding.{Holding}
use Rattle.inspection.specs.declared.frame_views.Holding.TheVariants as Held
use Rattle.residency.specs.Picture.{Picture}
use Rattle.vm_types.specs.Truncation.{is_cut_off}
use Rattle.vm_types.specs.declared.number.FrameNo.{FrameNo}
use Rattle.vm_types.specs.declared.object.PageKey.TheVariants.{File, Object}
use Rattle.vm_types.specs.declared.region.Attr.{Attr}
use Rattle.vm_types.specs.declared.region.Backing.TheVariants.{Private}
use Rattle.watching.specs.declared.cuts.Cut.{Cut}
use Rattle.watching.specs.declared.events.Content.{Content}
use Rattle.watching.specs.declared.events.Content.TheVariants.{Own, Page}
use Rattle.watching.specs.declared.events.Event.{Event}
use Rattle.watching.specs.declared.events.Event.TheVariants.{Evicted, Released, Shared, TableFreed}
use Rattle.watching.specs.declared.events.Refuge.{Refuge}
use Rattle.watching.specs.declared.ledger.Held as Frame

-- the page that a frame holds, of an own copy with a process that has it
abbrev pub content_in : Option ℕ → Holding → Option Content
content_in owner (Held.Own page) = Some (Own owner page)
content_in owner (Held.Page page) = Some (Page page)
content_in owner other = None

-- whether the page of a process that is that has lost its own copy, as its file got another length
abbrev pub is_uncopied : Cut → Option Attr → Bool
is_uncopied cut None = false
is_uncopied cut (Some attr) = is_cut_off cut.file cut.length attr.backing

module _ {mode : ℕ} where
  -- whether that is gone as a file got another length: a page past its end, or an own copy of a private page over one
  abbrev pub is_gone_from : Picture mode → Cut → Content → Bool
  is_gone_from c cut (Own None page) = false
  is_gone_from c cut (Own (Some pid) page) = is_uncopied cut (c.at pid page)
  is_gone_from c cut (Page (File p)) = is_cut_off cut.file cut.length (Private p)
  is_gone_from c cut (Page (Object p)) = false

  abbrev pub is_gone : Picture mode → Option Cut → Content → Bool
  is_gone c None content = false
  is_gone c (Some cut) content = is_gone_from c cut content

-- a frame lost that page: to others, where it was given up, and else to none
abbrev pub IsLostPage : Bool → FrameNo → Content → Option Event → Type 0
IsLostPage false frame content event = event ≡ Some (Released frame content)
IsLostPage true frame content event = (refuge : Refuge) × (event ≡ Some (Evicted frame content refuge))

module _ {mode : ℕ} where
  -- it was given up only where the command may ask for frames, and not where its page is gone
  abbrev pub IsLostBy : Picture mode → Option Cut → Bool → FrameNo → Option Content → Option Event → Type 0
  IsLostBy c cut asking frame None event = event ≡ None
  IsLostBy c cut asking frame (Some content) event = IsLostPage (asking && not (is_gone c cut content)) frame content event

  abbrev pub IsLossOf : Picture mode → Option Cut → Bool → FrameNo → Option ℕ → Holding → Option Event → Type 0
  IsLossOf c cut asking frame owner Held.Table event = event ≡ Some (TableFreed frame)
  IsLossOf c cut asking frame owner holding event = IsLostBy c cut asking frame (content_in owner holding) event

  -- what is told of a frame that no longer holds what it held
  abbrev pub IsLoss : Picture mode → Option Cut → Bool → FrameNo → Frame.Held → Option Event → Type 0
  IsLoss c cut asking frame was event = IsLossOf c cut asking frame was.owner was.view.holding event

-- what is told of a frame that is shared by others than before
abbrev pub IsSharingOf : FrameNo → Holding → Frame.Held → Frame.Held → Option Event → Type 0
IsSharingOf frame (Held.Own page) was held event = event ≡ Some (Shared frame (Own None page) held.view.shares was.view.shares)
IsSharingOf frame other was held event = event ≡ None

abbrev pub IsSharing : FrameNo → Frame.Held → Frame.Held → Option Event → Type 0
IsSharing frame was held event = IsSharingOf frame held.view.holding was held event

-- What a frame of data holds.
use Rattle.std.specs.Prelude.{◌≡◌, ℕ, ◌<◌, Bool, true}
use Rattle.vm_types.specs.declared.object.PageKey.{PageKey}
use Rattle.frames.specs.declared.role.Role.TheVariants as Role
use Rattle.frames.specs.FrameTable.{IsFrame, role_of}
use Rattle.page_cache.specs.declared.place.Place.TheVariants.{Frame}
use Rattle.residency.specs.Parts.{IsFit}
use Rattle.residency.specs.Picture.{Picture, is_data}
use Rattle.residency.specs.declared.contents.Content.{Content}
use Rattle.residency.specs.declared.contents.Content.TheVariants.{Own, Page}

-- the own copy of a page, or a page of a file or an object
module _ {mode : ℕ} where
  abbrev pub HasContent : Picture mode → ℕ → Content → Type 0
  HasContent c n (Own page) = (role_of c.frames n ≡ Role.Private) × (c.page_of n ≡ page)
  HasContent c n (Page p) = c.place p ≡ Frame (record { 0 = n })

-- memory is fit, and there is that frame
module _ {mode : ℕ} where
  pub record HasFrame (c : Picture mode) (n : ℕ) : Type 0 where
    pub fit : IsFit c
    pub inside : IsFrame c.frames n

-- The frame is one of data, and so not the zero page, and holds this.
module _ {mode : ℕ} where
  pub record HoldsContent (c : Picture mode) (n : ℕ) (held : Content) : Type 0 where
    pub kind : is_data (role_of c.frames n) ≡ true
    pub above : 0 < n
    pub content : HasContent c n held

-- whether what a frame holds needs a slot where it is given up, of pages that are touched so
abbrev pub goes_to_swap : (PageKey → Bool) → Content → Bool
goes_to_swap touched (Own page) = true
goes_to_swap touched (Page p) = touched p

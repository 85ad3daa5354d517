-- Where the bytes of a page of a process lie.
use Rattle.std.specs.Prelude.{◌≡◌, ◌≢◌, ℕ, true, false, Option, None, Some}
use Rattle.sv39_walk.specs.Entry.{frame_of, is_private, is_swapped}
use Rattle.vm_types.specs.Attributes.{stands_on}
use Rattle.vm_types.specs.declared.region.Attr.{Attr}
use Rattle.page_cache.specs.declared.place.Place.{Place}
use Rattle.page_cache.specs.declared.place.Place.TheVariants.{Frame}
use Rattle.residency.specs.Picture.{Picture, entry}
use Rattle.sized_stores.specs.Store.{SizedDirectory}
use Rattle.ways.specs.Homes.{home_of}
use Rattle.telling.specs.declared.bytes.Lying.{Lying}
use Rattle.telling.specs.declared.bytes.Lying.TheVariants.{Unmapped, OwnFrame, OwnSlot, Behind, ZeroPage, Untouched}

module _ {mode : ℕ} where
  -- The page is mapped, and its process has no own copy of it.
  pub record IsShown (c : Picture mode) (pid page : ℕ) (attr : Attr) : Type 0 where
    pub mapped : c.at pid page ≡ Some attr
    pub present : is_swapped (entry c pid page) ≡ false
    pub own : is_private (entry c pid page) ≡ false

  -- where it is told to lie
  abbrev pub LiesAt : Picture mode → SizedDirectory → ℕ → ℕ → Lying → Type 0
  -- it is not mapped,
  LiesAt c d pid page Unmapped = c.at pid page ≡ None
  -- its entry names the frame or the slot of an own copy,
  LiesAt c d pid page (OwnFrame n) = (is_private (entry c pid page) ≡ true) × (is_swapped (entry c pid page) ≡ false) × (frame_of (entry c pid page) ≡ n)
  LiesAt c d pid page (OwnSlot k) = (is_swapped (entry c pid page) ≡ true) × (frame_of (entry c pid page) ≡ k)
  -- or without one a page of a file or an object stands behind it, which lies there, and at home shows that; or none, whether it has an entry or not
  LiesAt c d pid page (Behind key place home) = (attr : Attr) × IsShown c pid page attr × (stands_on attr.backing ≡ Some key) × (place ≡ c.place key) × (home ≡ home_of d key)
  LiesAt c d pid page ZeroPage = (attr : Attr) × IsShown c pid page attr × (stands_on attr.backing ≡ None) × (entry c pid page ≢ 0)
  LiesAt c d pid page Untouched = (attr : Attr) × IsShown c pid page attr × (stands_on attr.backing ≡ None) × (entry c pid page ≡ 0)

-- the frame of a place that is one
abbrev pub frame_at : Place → Option ℕ
frame_at (Frame n) = Some n.0
frame_at other = None

-- the frame in which bytes lie that are told to lie there; 0 is that of the zero page
abbrev pub frame_told : Lying → Option ℕ
frame_told (OwnFrame n) = Some n
frame_told (Behind key place home) = frame_at place
frame_told ZeroPage = Some 0
frame_told other = None

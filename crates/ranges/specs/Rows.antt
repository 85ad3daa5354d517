-- What the calls on rows of pages leave.
use Rattle.vm_types.specs.declared.mode.Levels as Levels
use Rattle.std.specs.Prelude.{◌≡◌, ◌≢◌, ℕ, ◌<◌, ◌≤◌, ◌⊎◌, ◌↔◌, ◌==◌, Bool, true, false, if◌then◌else◌, ◌+◌, Option, Some, None, option_map}
use Rattle.vm_types.specs.Limits.{top_level}
use Rattle.vm_types.specs.declared.permission.Prot.{Prot}
use Rattle.vm_types.specs.declared.region.Attr.{Attr}
use Rattle.vm_types.specs.declared.region.Backing.{Backing}
use Rattle.vm_types.specs.declared.region.Backing.TheVariants.{Anon, Private, Shared, Common}
use Rattle.vm_types.specs.Ranges.{reprotected}
use Rattle.vm_types.specs.Objects.{Maps, is_named}
use Rattle.vm_types.specs.Rows.{in_row, protected, removed}
use Rattle.vm_types.specs.declared.object.ObjectPage.{ObjectPage}
use Rattle.vm_types.specs.declared.object.PageKey.{PageKey}
use Rattle.vm_types.specs.declared.object.PageKey.TheVariants.{File, Object}
use Rattle.frames.specs.declared.role.Role.TheVariants.{Free, Cache}
use Rattle.frames.specs.FrameTable.{frame_count, role_of}
use Rattle.swap.specs.Slots.{IsInUse}
use Rattle.page_cache.specs.declared.place.Place.{Place}
use Rattle.page_cache.specs.declared.place.Place.TheVariants.{Home, Frame, Slot}
use Rattle.vm_types.specs.View.{View}
use Rattle.page_tables.specs.Tree.{IsPage, Points}
use Rattle.residency.specs.Picture.{Picture, picture_of, entry, view, held}
use Rattle.residency.specs.declared.kernel.Core.{Core}
use Rattle.residency.specs.Calls.{KeepsBesidePlaces}
use Rattle.residency.specs.Steps.{Forgets}
use Rattle.residency.specs.Shows.{KeepsFiles}
use Rattle.ranges.specs.Leaves.{Permits}

-- no page from low up to, not including, high is mapped
abbrev pub IsUnmapped : (ℕ → Option Attr) → ℕ → ℕ → Type 0
IsUnmapped map low high = (page : ℕ) → low ≤ page → page < high → map page ≡ None

-- the pages from first up to, not including, stop are the next ones of a row that may have entries: from the first mapped page
-- that isn't below `page`, and all of them below `end`
pub record IsNextPart (map : ℕ → Option Attr) (page end first stop : ℕ) : Type 0 where
  pub from : page ≤ first
  pub passed : IsUnmapped map page first
  pub mapped : map first ≢ None
  pub further : first < stop
  pub within : stop ≤ end

-- a mapped page without a copy of its own
abbrev pub plain : Attr → View
plain attr = record { attr = attr; own = None }

-- the pages of the row are those of a map, without own copies
abbrev pub remapped : (ℕ → Option View) → (ℕ → Option Attr) → ℕ → ℕ → ℕ → Option View
remapped space map first pages page = if in_row first pages page then option_map plain (map page) else space page

-- One process's pages are those of a map, the ones of the row without entries and own copies. All else is as it was, each
-- entry of another page too.
module _ {mode : ℕ} where
  pub record RemapsRow (old new : Picture mode) (pid first pages : ℕ) (map : ℕ → Option Attr) : Type 0 where
    pub root : (q : ℕ) → new.root q ≡ old.root q
    pub at : (page : ℕ) → new.at pid page ≡ map page
    pub others_at : (q page : ℕ) → q ≢ pid → new.at q page ≡ old.at q page
    pub entries : (page : ℕ) → in_row first pages page ≡ true → entry new pid page ≡ 0
    pub kept : (page : ℕ) → IsPage (top_level mode) page → in_row first pages page ≡ false → entry new pid page ≡ entry old pid page
    pub views : (page : ℕ) → view new pid page ≡ remapped (view old pid) map first pages page
    pub others : (q page : ℕ) → q ≢ pid → view new q page ≡ view old q page

-- the number of a frame or a slot, the slots being numbered behind so many frames
abbrev pub node_of : ℕ → Place → Option ℕ
node_of frames Home = None
node_of frames (Frame n) = Some n.0
node_of frames (Slot k) = Some (frames + k.0)

-- whether that is a page of an object
abbrev pub is_common : Backing → Bool
is_common Anon = false
is_common (Private p) = false
is_common (Shared p) = false
is_common (Common p) = true

-- what the pages of all processes are, but for a row of one, which is mapped no more
abbrev pub without_maps : Maps → ℕ → ℕ → ℕ → Maps
without_maps at pid first pages = λ q page. if q == pid then removed (at pid) first pages page else at q page

-- what the pages of all processes are, where those of one are others
abbrev pub with_map : Maps → ℕ → (ℕ → Option Attr) → Maps
with_map at pid map = λ q page. if q == pid then map page else at q page

-- a page of a file, or one of an object that processes name
abbrev pub IsLasting : Maps → PageKey → Type 0
IsLasting maps (File p) = Unit {0}
IsLasting maps (Object p) = is_named maps p.object p.page ≡ true

-- Every page of a file, and of an object those that these maps name, lies where it lay and has the bytes that it had; none of them
-- became touched or clean. A page of an object that they don't name is at home.
module _ {mode : ℕ} where
  pub record KeepsNamed (maps : Maps) (old new : Picture mode) : Type 0 where
    pub touched : (p : PageKey) → IsLasting maps p → new.touched p ≡ old.touched p
    pub place : (p : PageKey) → IsLasting maps p → new.place p ≡ old.place p
    pub gone : (p : ObjectPage) → is_named maps p.object p.page ≡ false → new.place (Object p) ≡ Home
    pub files : (f : ℕ) → new.files f ≡ old.files f
    pub held : (p : PageKey) → IsLasting maps p → (held new p ≡ held old p) ⊎ ((held new p ≡ None) × (old.touched p ≡ false))

-- the pages of the row have no entries
module _ {mode : ℕ} where
  abbrev pub IsBareRow : Picture mode → ℕ → ℕ → ℕ → Type 0
  IsBareRow c pid first pages = (page : ℕ) → in_row first pages page ≡ true → entry c pid page ≡ 0

-- Pages of objects went home, and their frames and slots are free. Nothing else changed: every entry is as it was, and every page is
-- seen as it was but for what stands behind those that name them.
module _ {mode : ℕ} where
  pub record FreesPlaces (old new : Picture mode) : Type 0 where
    pub root : (q : ℕ) → new.root q ≡ old.root q
    pub at : (q page : ℕ) → new.at q page ≡ old.at q page
    pub page_of : (n : ℕ) → new.page_of n ≡ old.page_of n
    pub entries : (q page : ℕ) → IsPage (top_level mode) page → entry new q page ≡ entry old q page
    pub views : (q page : ℕ) → view new q page ≡ view old q page
    pub frames : frame_count new.frames ≡ frame_count old.frames
    pub roles : (n : ℕ) → (role_of new.frames n ≡ role_of old.frames n) ⊎ ((role_of new.frames n ≡ Free) × (role_of old.frames n ≡ Cache))
    pub pointers : (n i m : ℕ) → Points old.frames n i m ↔ Points new.frames n i m
    pub total : new.slots.total ≡ old.slots.total
    pub fewer : (k : ℕ) → new.slots.count k ≤ old.slots.count k
    pub counts : (k : ℕ) → ((p : ObjectPage) → old.place (Object p) ≢ Slot (record { 0 = k })) → new.slots.count k ≡ old.slots.count k
    pub bytes : (k : ℕ) → IsInUse new.slots k → new.slots.bytes k ≡ old.slots.bytes k

-- Those are the pages of objects that only the row of one process names, and no others.
module _ {mode : ℕ} where
  pub record ForgetsRow (old new : Picture mode) (pid first pages : ℕ) : Type 0 where
    pub frees : FreesPlaces old new
    pub open frees use *
    pub keeps : KeepsNamed (without_maps old.at pid first pages) old new

-- Pages of objects that only the row names, some of them, are at home now; nothing else changed.
module _ {mode : ℕ} where
  pub record ForgetsMore (old new : Picture mode) (pid first pages : ℕ) : Type 0 where
    pub frees : FreesPlaces old new
    pub open frees use *
    pub files : (f : ℕ) → new.files f ≡ old.files f
    pub place : (p : PageKey) → (new.place p ≡ old.place p) ⊎ (new.place p ≡ Home)
    pub lasting : (p : PageKey) → IsLasting (without_maps old.at pid first pages) p → (new.place p ≡ old.place p) × (new.touched p ≡ old.touched p) × (held new p ≡ held old p)

module _ {M : Type 0} {m : Levels.Ghosts M} {D E : Type 0} where
  -- another page names it and nothing changed, or none does and it was forgotten
  abbrev pub IsLastName : Core D E M m → Core D E M m → ℕ → ℕ → ℕ → ObjectPage → Type 0
  IsLastName old new pid first pages p =
      ((new ≡ old) × (is_named (without_maps (picture_of old).at pid first pages) p.object p.page ≡ true))
      ⊎ (Forgets (picture_of old) (picture_of new) (Object p) × KeepsBesidePlaces old new
      × (is_named (without_maps (picture_of old).at pid first pages) p.object p.page ≡ false))

-- The mapped pages of a row of one process have the permission, and keep their own copies. Those that lie in frames have the
-- entry of that permission over the same frame, with W exactly where a store may go to it, and those in slots the entry that
-- they had. All else is as it was, each entry of another page too.
module _ {mode : ℕ} where
  pub record ReprotectsRow (old new : Picture mode) (pid first pages : ℕ) (prot : Prot) : Type 0 where
    pub root : (q : ℕ) → new.root q ≡ old.root q
    pub at : (page : ℕ) → new.at pid page ≡ protected (old.at pid) first pages prot page
    pub others_at : (q page : ℕ) → q ≢ pid → new.at q page ≡ old.at q page
    pub views : (page : ℕ) → view new pid page ≡ reprotected (view old pid) first pages prot page
    pub entries : (page : ℕ) → in_row first pages page ≡ true
        → Permits old.frames (old.at pid page) prot (entry old pid page) (entry new pid page)
    pub kept : (page : ℕ) → IsPage (top_level mode) page → in_row first pages page ≡ false → entry new pid page ≡ entry old pid page
    pub others : (q page : ℕ) → q ≢ pid → view new q page ≡ view old q page
    pub files : KeepsFiles old new

-- What dropping the pages of a file past a length comes to. truncate(2), mmap(2).
use Rattle.vm_types.specs.declared.mode.Levels as Levels
use Rattle.std.specs.Prelude.{◌≡◌, ℕ, true, false, option_map}
use Rattle.vm_types.specs.Limits.{top_level}
use Rattle.vm_types.specs.declared.object.PageKey.{PageKey}
use Rattle.page_tables.specs.Tree.{IsPage}
use Rattle.page_cache.specs.declared.place.Place.TheVariants.{Home}
use Rattle.residency.specs.declared.kernel.Core.{Core}
use Rattle.residency.specs.Picture.{Picture, picture_of, entry, view}
use Rattle.residency.specs.Parts.{IsFit}
use Rattle.residency.specs.Calls.{KeepsBesidePlaces}
use Rattle.truncation.specs.Cuts.{is_past_key, is_mapped_past, cut_view}
use Rattle.truncation.specs.Steps.{KeepsMaps, KeepsKey, TakesNone, IsBarePast}

module _ {mode : ℕ} where
  -- The pages of a file that begin at or past a length leave memory and swap:
  pub record DropsPages (old new : Picture mode) (file length : ℕ) : Type 0 where
    -- each is at home and untouched, and every other page of a file or an object is as it was;
    pub gone : (p : PageKey) → is_past_key file length p ≡ true → (new.place p ≡ Home) × (new.touched p ≡ false)
    pub keys : (p : PageKey) → is_past_key file length p ≡ false → KeepsKey old new p
    -- no page of a process over such a page has an entry, and every other page of a process the one that it had,
    pub bare : IsBarePast new file length
    pub entries : (pid page : ℕ) → IsPage (top_level mode) page → is_mapped_past file length (old.at pid page) ≡ false → entry new pid page ≡ entry old pid page
    -- and each is seen as it was, but for the own copies of private ones over such pages, which are lost;
    pub views : (pid page : ℕ) → view new pid page ≡ option_map (cut_view file length) (view old pid page)
    -- all processes and files are as they were, and no memory is taken.
    pub maps : KeepsMaps old new
    pub takes : TakesNone old new

module _ {M : Type 0} {m : Levels.Ghosts M} {D E : Type 0} where
  -- The pages of a file that begin at or past a length are dropped:
  pub record DropsPast (old new : Core D E M m) (file length : ℕ) : Type 0 where
    -- they leave memory and swap,
    pub drops : DropsPages (picture_of old) (picture_of new) file length
    -- memory is fit, and store, swap device, processes, regions, clock and the count of refused frames are as they were.
    pub fit : IsFit (picture_of new)
    pub rest : KeepsBesidePlaces old new

-- How memory is a state of the flat model, and what the calls on it keep.
use Rattle.std.specs.Prelude.{◌≡◌, ◌⊎◌, ℕ, List, Option, Some, None, false, if◌then◌else◌}
use Rattle.vm_types.specs.declared.file.FilePage.{FilePage}
use Rattle.vm_types.specs.declared.object.ObjectPage.{ObjectPage}
use Rattle.vm_types.specs.declared.object.PageKey.{PageKey}
use Rattle.vm_types.specs.declared.object.PageKey.TheVariants.{File, Object}
use Rattle.vm_types.specs.State.{State, home_page}
use Rattle.vm_types.specs.View.{zero_page}
use Rattle.file_store.specs.Standing.{IsPageOf}
use Rattle.residency.specs.Picture.{Picture, is_live, view, held}

-- the bytes of a page of an object that was stored to
module _ {mode : ℕ} where
  abbrev pub object_bytes : Picture mode → ObjectPage → Option (List ℕ)
  object_bytes c p = if c.touched (Object p) then held c (Object p) else None

-- The memory is that of this state, but for what is durable. A file page that isn't touched is as it is at home, wherever it lies,
-- and a page of an object that isn't touched is zeros.
module _ {mode : ℕ} where
  pub record ShowsPages (c : Picture mode) (s : State) : Type 0 where
    pub same_mode : s.mode ≡ mode
    pub live : (pid : ℕ) → s.live pid ≡ is_live c pid
    pub views : (pid page : ℕ) → s.views pid page ≡ view c pid page
    pub files : (f : ℕ) → s.files f ≡ c.files f
    pub touched : (p : FilePage) → s.touched p.file p.page ≡ c.touched (File p)
    pub objects : (p : ObjectPage) → s.objects p.object p.page ≡ object_bytes c p
    pub blank : (p : ObjectPage) (bytes : List ℕ) → c.touched (Object p) ≡ false → held c (Object p) ≡ Some bytes → bytes ≡ zero_page
    pub held : (p : FilePage) (bytes : List ℕ) → held c (File p) ≡ Some bytes → s.volatile p.file p.page ≡ bytes
    pub clean : (p : FilePage) → c.touched (File p) ≡ false → IsPageOf c.files p.file p.page → s.volatile p.file p.page ≡ home_page s p.file p.page

-- Every page of a file or an object has the bytes that it had, or went home untouched; none became touched or clean.
module _ {mode : ℕ} where
  pub record KeepsFiles (old new : Picture mode) : Type 0 where
    pub held : (p : PageKey) → (held new p ≡ held old p) ⊎ ((held new p ≡ None) × (old.touched p ≡ false))
    pub touched : (p : PageKey) → new.touched p ≡ old.touched p
    pub files : (f : ℕ) → new.files f ≡ old.files f

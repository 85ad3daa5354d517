-- Which layout an image has, and when it has neither.
use Rattle.upgrades.proofs.Names.{◌≡◌, ◌≤◌, ℕ, Bool, true, false, List, inl, inr, refl, sym, subst, arith, Image, bytes_eq-Decides}
use Rattle.std.specs.Str.{bytes_eq}
use Rattle.directories.{proofs.Sectors.{older_is_none}, specs.Kinds.{IsKind, IsOlder.{Stamped}}}
use Rattle.sync_journal.specs.declared.version.{Version.{Version}, Version.TheVariants.{One, Two, Three}}
use Rattle.file_store.specs.{Layout.{IsMark, mark_3}, Standing.{IsBadLayoutIn, IsBadLayoutIn.{TooSmall, Unmarked}}, Versions.{mark_of}}
use Rattle.pool_store.proofs.Older.{with_kind as bad_two}
use Rattle.upgrades.specs.Old.{IsBadLayout, version_in, version_of}

-- the layout that sector 1 tells
pub is_three : (sector : List ℕ) → sector ≡ mark_3 → version_of sector ≡ Three
unfolding version_of
is_three sector is = rw ((bytes_eq-Decides sector mark_3).1 is) refl

pub is_two : (sector : List ℕ) → (sector ≡ mark_3 → ⊥) → version_of sector ≡ Two
unfolding version_of
is_two sector other = here (bytes_eq sector mark_3) refl
  where
    here : (b : Bool) → bytes_eq sector mark_3 ≡ b → version_of sector ≡ Two
    here true is = absurd (other ((bytes_eq-Decides sector mark_3).0 is))
    here false is = rw is refl

-- A device of fewer than two sectors is too small for any layout,
pub small_is_bad : (version : Version) (sectors : ℕ) (image : Image) → sectors ≤ 1 → IsBadLayoutIn version sectors image
small_is_bad One sectors image few = TooSmall (omega (arith, few))
small_is_bad Two sectors image few = TooSmall (omega (arith, few))
small_is_bad Three sectors image few = TooSmall (omega (arith, few))

-- without a mark there is none,
some_mark : (version : Version) → IsMark (mark_of version)
some_mark One = inr (inl refl)
some_mark Two = inl refl
some_mark Three = inr (inr (inl refl))

pub without_mark : (sectors : ℕ) (image : Image) → (IsMark (image 0) → ⊥) → IsBadLayout sectors image
without_mark sectors image unmarked = Unmarked (λ is. unmarked (subst IsMark (sym is) (some_mark (version_in image))))

-- nor with a kind of layout 4 in sector 1.
not_three : (m d : ℕ) (sector : List ℕ) → IsKind m d sector → sector ≡ mark_3 → ⊥
unfolding mark_3
not_three m d sector kind is = older_is_none m d sector (Stamped is) kind.bytes

pub with_kind : (m d sectors : ℕ) (image : Image) → IsKind m d (image 1) → IsBadLayout sectors image
with_kind m d sectors image kind = subst (λ version. IsBadLayoutIn version sectors image) (sym (is_two (image 1) (not_three m d (image 1) kind))) (bad_two m d sectors image kind)

-- A store of layout 4 is none of layout 2, whatever its mark is.
use Rattle.pool_store.proofs.Names.{◌≡◌, ◌/◌, ◌%◌, ◌∙◌, ℕ, List, None, sym, subst, arith, eqb, ne_eqb, cond-false, Image}
use Rattle.sync_journal.specs.declared.version.Version.TheVariants.{Two}
use Rattle.directories.{proofs.Sectors.{older_is_none}, specs.Kinds.{IsKind, IsOlder.{Absent, Present}}}
use Rattle.file_store.{proofs.{Entries.{entry_in-inside}, Images.{is_some_mark}}, specs.{Directory.{IsBadDirectory, IsBadDirectory.{NotZero}, decoded, word_of}, Layout.{IsMark}, Standing.{IsBadLayout, IsBadLayoutIn.{BadDirectory, Unmarked}}}}

-- as long as there is no mark
pub without_mark : (sectors : ℕ) (image : Image) → (IsMark (image 0) → ⊥) → IsBadLayout sectors image
without_mark sectors image unmarked = Unmarked (λ is. unmarked (subst IsMark (sym is) (is_some_mark Two)))

-- and with this kind beside it
no_file : (m d : ℕ) (sector : List ℕ) → IsKind m d sector → decoded sector ≡ None
unfolding decoded
no_file m d sector kind = cond-false (eqb (word_of sector / 2147483648 % 2) 1) _ None
    (ne_eqb (word_of sector / 2147483648 % 2) 1 (λ set. older_is_none m d sector (Present set) kind.bytes))

bad_directory : (m d homes : ℕ) (sector : List ℕ) → IsKind m d sector → IsBadDirectory homes sector
bad_directory m d homes sector kind = NotZero 0 (omega arith) (entry_in-inside sector 0 (omega arith) ∙ no_file m d sector kind) (λ zero'. older_is_none m d sector (Absent zero'.word zero'.length) kind.bytes)

pub with_kind : (m d sectors : ℕ) (image : Image) → IsKind m d (image 1) → IsBadLayout sectors image
with_kind m d sectors image kind = BadDirectory (bad_directory m d _ (image 1) kind)

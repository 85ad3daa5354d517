-- Sector 1 of a new store of layout 2: it is no kind of layout 4, whatever its mark is. Nor is that of a store of layout 3 a directory of layout 2.
use Rattle.std.proofs.{Common.{ℕ, ◌≡◌, ◌∙◌, ◌/◌, ◌%◌, List, [], ◌∷◌, Option, None, refl, sym, subst, arith, eqb}, lemmas.{Bool.{cond-false, ne_eqb}, Option.{none-some}}}
use Rattle.{disk_model.specs.Stop.{Image}, sync_journal.specs.declared.version.Version.TheVariants.{One}}
use Rattle.directories.{proofs.Sectors.{older_is_none}, specs.Kinds.{IsKind, IsOlder.{Absent, Present}}}
use Rattle.file_store.{proofs.Entries.{entry_in-inside}, specs.Directory.{IsBadDirectory, IsBadDirectory.{NotZero}, IsZero, decoded, entry_bytes, entry_in, word_of}}
use Rattle.file_store.specs.{Format.{IsUnmarkedStoreOf}, Layout.{mark_3}, Standing.{IsBadLayout, IsBadLayoutIn.{BadDirectory}, OldStandsFor}, Upgrade.{IsUnmarkedUpgrade}, declared.sources.FileSource.{FileSource}}
use Rattle.vm_types.specs.{Files.{Files}, View.{Pages}}

module _ (m d : ℕ) where
  -- as a directory such a kind has no first file,
  no_file : (sector : List ℕ) → IsKind m d sector → entry_in sector 0 ≡ None
  unfolding decoded
  no_file sector kind =
      entry_in-inside sector 0 (omega arith)
      ∙ cond-false (eqb (word_of sector / 2147483648 % 2) 1) _ None
      (ne_eqb (word_of sector / 2147483648 % 2) 1 (λ set. older_is_none m d sector (Present set) kind.bytes))

  -- and yet its first entry is not zero,
  not_zero : (sector : List ℕ) → IsKind m d sector → IsZero (entry_bytes sector 0) → ⊥
  not_zero sector kind zeros = older_is_none m d sector (Absent zeros.word zeros.length) kind.bytes

  -- so that it is none.
  pub with_kind : (sectors : ℕ) (image : Image) → IsKind m d (image 1) → IsBadLayout sectors image
  with_kind sectors image kind = BadDirectory (NotZero 0 (omega arith) (no_file (image 1) kind) (not_zero (image 1) kind))

  pub format_kind : {R : Type 0} (remaining : R → Option (List ℕ)) (sources : List (FileSource R)) (image : Image)
      → IsUnmarkedStoreOf remaining sources image → IsKind m d (image 1) → ⊥
  format_kind remaining [] image made kind = not_zero (image 1) kind (made.directory.rest 0 (omega arith) (omega arith))
  format_kind remaining (source ∷ sources) image made kind = none-some _ (sym (no_file (image 1) kind) ∙ made.directory.entries 0)

  -- an upgrade to layout 2 takes over the directory of a store of layout 1, which is a good one
  pub upgrade_kind : (old_sectors : ℕ) (files : Files) (pages : Pages) (old image : Image) → OldStandsFor One old_sectors files pages old
      → IsUnmarkedUpgrade old image → IsKind m d (image 1) → ⊥
  upgrade_kind old_sectors files pages old image stood made kind =
      let old_kind : IsKind m d (old 1) = subst (λ (sector : List ℕ). IsKind m d sector) made.head.directory kind in
      stood.layout (BadDirectory (NotZero 0 (omega arith) (no_file (old 1) old_kind) (not_zero (old 1) old_kind)))

-- the first number of sector 1 of a store of layout 3
first_word : word_of mark_3 ≡ 1397571910
unfolding mark_3
first_word = refl

-- that sector is no directory
pub three_is_none : (homes : ℕ) → IsBadDirectory homes mark_3
unfolding decoded
three_is_none homes = NotZero 0 (omega arith)
    (entry_in-inside mark_3 0 (omega arith) ∙ cond-false (eqb (word_of mark_3 / 2147483648 % 2) 1) _ None
    (ne_eqb (word_of mark_3 / 2147483648 % 2) 1 (λ set. (let clear : 1397571910 / 2147483648 % 2 ≡ 1 = subst (λ w. w / 2147483648 % 2 ≡ 1) first_word set in omega (arith, clear)))))
    (λ zeros. (let none : 1397571910 ≡ 0 = sym first_word ∙ zeros.word in omega (arith, none)))

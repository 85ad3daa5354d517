-- The specs of a new image's files: our own language.
use Rattle.std.specs.Prelude.{◌≡◌, ◌<◌, ◌^◌, ◌++◌, ℕ, List, [], ◌∷◌, true, false, codes, IsNone, IsSome}
use Rattle.file_store.specs.declared.sources.FileSource.{FileSource}
use Rattle.trace_lang.specs.Grammar.{IsNumber}
use Rattle.programs.specs.declared.sources.FileSpec.{FileSpec}
use Rattle.programs.specs.declared.sources.FileSpec.TheVariants.{Zeros, Writable, ReadOnly}

-- the text is a spec that asks for this
abbrev pub IsSpec : List ℕ → FileSpec → Type 0
IsSpec text (Zeros length) = (digits : List ℕ) × (text ≡ codes "zero:" ++ digits) × IsNumber digits length × (length < 2 ^ 32)
IsSpec text (Writable path) = text ≡ codes "rw:" ++ path.now
IsSpec text (ReadOnly path) = text ≡ codes "ro:" ++ path.now

module _ {R : Type 0} where
  -- a source is what was asked for: zeros, or the bytes of a host file
  abbrev pub GivesSource : FileSpec → FileSource R → Type 0
  GivesSource (Zeros length) source = (source.read_only ≡ false) × (source.length ≡ length) × IsNone source.bytes
  GivesSource (Writable path) source = (source.read_only ≡ false) × IsSome source.bytes
  GivesSource (ReadOnly path) source = (source.read_only ≡ true) × IsSome source.bytes

  -- the text is a spec, and the source is what it asks for
  pub record IsSourceOf (text : List ℕ) (source : FileSource R) : Type 0 where
    pub asked : FileSpec
    pub is : IsSpec text asked
    pub serves : GivesSource asked source

  -- a source for each spec, in their order
  abbrev pub AreSpecSources : List (List ℕ) → List (FileSource R) → Type 0
  AreSpecSources [] [] = Unit {0}
  AreSpecSources [] (source ∷ sources) = ⊥
  AreSpecSources (text ∷ texts) [] = ⊥
  AreSpecSources (text ∷ texts) (source ∷ sources) = IsSourceOf text source × AreSpecSources texts sources

-- What words ask for.
use Rattle.stores.specs.NewStores.{IsSizedNew}
use Rattle.command_words.specs.declared.formatting.FormatWords.{FormatWords}
use Rattle.command_words.specs.declared.formatting.FormatWords.TheVariants.{New, Upgrade}

-- the store that is to be made is one that there may be
abbrev pub NamesStore : FormatWords → Type 0
NamesStore (New words) = IsSizedNew words.store
NamesStore (Upgrade words) = IsSizedNew words.store

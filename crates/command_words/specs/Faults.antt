-- Why words are not taken.
use Rattle.clap.specs.declared.error.kind.ErrorKind.{ErrorKind}
use Rattle.clap.specs.declared.error.kind.ErrorKind.TheVariants.{OutOfMemory as MemoryKind}
use Rattle.command_words.specs.declared.faults.WordsFault.{WordsFault}
use Rattle.command_words.specs.declared.faults.WordsFault.TheVariants.{Usage, OutOfMemory}

-- memory was wanting, or the words are not those of the program
abbrev pub fault_of_kind : ErrorKind → WordsFault
fault_of_kind MemoryKind = OutOfMemory
fault_of_kind kind = Usage

-- What the words of a question ask.
use Rattle.std.specs.Prelude.{◌≡◌, ◌⊎◌, ℕ, List, true, false, codes}
use Rattle.trace_lang.specs.Grammar.{IsNumber}
use Rattle.telling.specs.declared.questions.Form.{Form}
use Rattle.telling.specs.declared.questions.Form.TheVariants as Forms
use Rattle.telling.specs.declared.questions.Question.{Question}
use Rattle.telling.specs.declared.questions.Question.TheVariants as Ask
use Rattle.telling.specs.declared.questions.Words.{Words}
use Rattle.telling.specs.declared.questions.Words.TheVariants as Given

-- the first word of a form
abbrev pub name_of : Form → List ℕ
name_of Forms.Walk = codes "walk"
name_of Forms.Tables = codes "tables"
name_of Forms.Maps = codes "maps"
name_of Forms.Bytes = codes "bytes"
name_of Forms.Frames = codes "frames"
name_of Forms.Slots = codes "slots"
name_of Forms.Files = codes "files"
name_of Forms.Buffer = codes "tlb"
name_of Forms.Counts = codes "counts"
name_of Forms.Watch = codes "watch"

-- there is one more word, a number
abbrev pub IsOneNumber : Words → ℕ → Type 0
IsOneNumber (Given.One word) n = IsNumber word.now n
IsOneNumber words n = ⊥

-- there are two, which are numbers
abbrev pub AreTwoNumbers : Words → ℕ → ℕ → Type 0
AreTwoNumbers (Given.Two first second) n m = IsNumber first.now n × IsNumber second.now m
AreTwoNumbers words n m = ⊥

-- there is none, and that is asked
abbrev pub AsksAlone : Words → Question → Question → Type 0
AsksAlone words question asked = (words ≡ Given.None) × (asked ≡ question)

-- with no more words all frames are asked for, and with two those of the numbers from the first to the second
abbrev pub AsksFrames : Words → Question → Type 0
AsksFrames words asked =
    ((words ≡ Given.None) × (asked ≡ Ask.Frames 0 4294967295))
    ⊎ ((first last : ℕ) × AreTwoNumbers words first last × (asked ≡ Ask.Frames first last))

abbrev pub IsWord : Words → List ℕ → Type 0
IsWord (Given.One one) word = one.now ≡ word
IsWord words word = ⊥

abbrev pub AsksWatch : Words → Question → Type 0
AsksWatch words asked = (IsWord words (codes "on") × (asked ≡ Ask.Watch true)) ⊎ (IsWord words (codes "off") × (asked ≡ Ask.Watch false))

-- what is asked in a form with these words behind the first
abbrev pub AsksInForm : Form → Words → Question → Type 0
AsksInForm Forms.Walk words asked = (pid addr : ℕ) × AreTwoNumbers words pid addr × (asked ≡ Ask.Walk pid addr)
AsksInForm Forms.Tables words asked = (pid : ℕ) × IsOneNumber words pid × (asked ≡ Ask.Tables pid)
AsksInForm Forms.Maps words asked = (pid : ℕ) × IsOneNumber words pid × (asked ≡ Ask.Maps pid)
AsksInForm Forms.Bytes words asked = (pid addr : ℕ) × AreTwoNumbers words pid addr × (asked ≡ Ask.Bytes pid addr)
AsksInForm Forms.Frames words asked = AsksFrames words asked
AsksInForm Forms.Slots words asked = AsksAlone words Ask.Slots asked
AsksInForm Forms.Files words asked = AsksAlone words Ask.Files asked
AsksInForm Forms.Buffer words asked = AsksAlone words Ask.Buffer asked
AsksInForm Forms.Counts words asked = AsksAlone words Ask.Counts asked
AsksInForm Forms.Watch words asked = AsksWatch words asked

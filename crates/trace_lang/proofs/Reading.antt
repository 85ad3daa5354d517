-- How the words after a command's name are read: numbers first, and then what the text behind them says.
use Rattle.std.proofs.Common.{◌≡◌, ℕ, ◌*◌, ◌<◌, ◌^◌, List, [], ◌∷◌, ◌++◌, get_or, drop, Option, Some, None, refl, sym, ◌∙◌, ap, subst}
use Rattle.trace_lang.proofs.{FirstWord.{cut_words, front_words, mode_word, number_word, one_front, permission_word, some_word}, OneCommand.{at_name, form_name, unread}, OneName.{Each}, Spaces.{words_joined}}
use Rattle.std.specs.List.{join_with_byte}
use Rattle.trace_lang.specs.{Grammar.{HasNoSpace, IsBack, IsForm, IsMode, IsNumber, IsPermission, IsWidth}, Names.{ReadsWords, name_text}, Words.{BeginsWith, words_of}, declared.names.Name.{Name}}
use Rattle.trace_lang.specs.declared.names.Name.TheVariants as name
use Rattle.vm_types.specs.{Width.{byte_count}, declared.{command.{Command.{Command, TheVariants.{Spawn, Fork, Exit, Mmap, Munmap, Mprotect, Dontneed, Msync, Truncate, Load, Store, Fetch, PastFaults}}, MapSource.{MapSource}, Placing.{Placing}}, permission.Prot.{Prot}}}

-- the numbers before a command's last words
abbrev pub numbers : Command → List ℕ
numbers (Mmap pid addr len prot source placing) = pid ∷ addr ∷ len ∷ []
numbers (Munmap pid addr len) = pid ∷ addr ∷ []
numbers (Mprotect pid addr len prot) = pid ∷ addr ∷ len ∷ []
numbers (Dontneed pid addr len) = pid ∷ addr ∷ []
numbers (Msync pid addr len mode) = pid ∷ addr ∷ len ∷ []
numbers (Truncate file length) = file ∷ []
numbers (Load pid addr width) = pid ∷ addr ∷ []
numbers (Store pid addr stored) = pid ∷ addr ∷ byte_count stored.width ∷ []
numbers (Fetch pid addr) = pid ∷ []
numbers command = []

-- what the text behind them says
abbrev pub Ends : Command → List ℕ → Type 0
Ends Spawn text = ⊥
Ends (Fork pid) text = IsNumber text pid
Ends (Exit pid) text = IsNumber text pid
Ends (Mmap pid addr len prot source placing) text =
    (t : List ℕ) × (b : List (List ℕ)) × (words_of text ≡ t ∷ b) × IsPermission t prot × IsBack b source placing
Ends (Munmap pid addr len) text = IsNumber text len
Ends (Mprotect pid addr len prot) text = IsPermission text prot
Ends (Dontneed pid addr len) text = IsNumber text len
Ends (Msync pid addr len mode) text = IsMode text mode
Ends (Truncate file length) text = IsNumber text length
Ends (Load pid addr width) text = IsWidth text width
Ends (Store pid addr stored) text = IsNumber text stored.value × (stored.value < 2 ^ (8 * byte_count stored.width))
Ends (Fetch pid addr) text = IsNumber text addr
Ends PastFaults text = ⊥

-- these numbers are read one after the other, and the rest is left
abbrev pub Reads : List ℕ → List ℕ → List ℕ → Type 0
Reads [] rest text = text ≡ rest
Reads (v ∷ vs) rest text = (mid : List ℕ) × BeginsWith v mid text × Reads vs rest mid

-- the words of the numbers that were read
abbrev read_words : (vs : List ℕ) (rest text : List ℕ) → Reads vs rest text → List (List ℕ) → List (List ℕ)
read_words [] rest text h ws = ws
read_words (v ∷ vs) rest text h ws = h.1.0 ∷ read_words vs rest h.0 h.2 ws

read_all : (vs rest text : List ℕ) (h : Reads vs rest text) (ws : List (List ℕ)) → words_of rest ≡ ws → words_of text ≡ read_words vs rest text h ws
read_all [] rest text h ws e = ap words_of h ∙ e
read_all (v ∷ vs) rest text h ws e = front_words v h.0 text h.1 ∙ ap (λ t. h.1.0 ∷ t) (read_all vs rest h.0 h.2 ws e)

said : (n : Name) (vs rest text : List ℕ) (h : Reads vs rest text) (ws : List (List ℕ)) → words_of rest ≡ ws
    → name_text n ∷ words_of text ≡ name_text n ∷ read_words vs rest text h ws
said n vs rest text h ws e = ap (λ t. name_text n ∷ t) (read_all vs rest text h ws e)

formed : (command : Command) (rest text : List ℕ) → Reads (numbers command) rest text → Ends command rest → IsForm (name_text (form_name command) ∷ words_of text) command
formed Spawn rest text h e = absurd e
formed (Fork pid) rest text h e = (rest, said name.Fork [] rest text h _ (number_word rest pid e), e)
formed (Exit pid) rest text h e = (rest, said name.Exit [] rest text h _ (number_word rest pid e), e)
formed (Mmap pid addr len prot source placing) rest text h e =
    (h.1.0, h.2.1.0, h.2.2.1.0, e.0, e.1, said name.Mmap (pid ∷ addr ∷ len ∷ []) rest text h _ e.2, h.1.2, h.2.1.2, h.2.2.1.2, e.3, e.4)
formed (Munmap pid addr len) rest text h e = (h.1.0, h.2.1.0, rest, said name.Munmap (pid ∷ addr ∷ []) rest text h _ (number_word rest len e), h.1.2, h.2.1.2, e)
formed (Mprotect pid addr len prot) rest text h e =
    (h.1.0, h.2.1.0, h.2.2.1.0, rest, said name.Mprotect (pid ∷ addr ∷ len ∷ []) rest text h _ (permission_word rest prot e), h.1.2, h.2.1.2, h.2.2.1.2, e)
formed (Dontneed pid addr len) rest text h e = (h.1.0, h.2.1.0, rest, said name.Dontneed (pid ∷ addr ∷ []) rest text h _ (number_word rest len e), h.1.2, h.2.1.2, e)
formed (Msync pid addr len mode) rest text h e =
    (h.1.0, h.2.1.0, h.2.2.1.0, rest, said name.Msync (pid ∷ addr ∷ len ∷ []) rest text h _ (mode_word rest mode e), h.1.2, h.2.1.2, h.2.2.1.2, e)
formed (Truncate file length) rest text h e = (h.1.0, rest, said name.Truncate (file ∷ []) rest text h _ (number_word rest length e), h.1.2, e)
formed (Load pid addr width) rest text h e = (h.1.0, h.2.1.0, rest, said name.Load (pid ∷ addr ∷ []) rest text h _ (number_word rest _ e), h.1.2, h.2.1.2, e)
formed (Store pid addr stored) rest text h e =
    (h.1.0, h.2.1.0, h.2.2.1.0, rest, said name.Store (pid ∷ addr ∷ _ ∷ []) rest text h _ (number_word rest _ e.0), h.1.2, h.2.1.2, h.2.2.1.2, e.0, e.1)
formed (Fetch pid addr) rest text h e = (h.1.0, rest, said name.Fetch (pid ∷ []) rest text h _ (number_word rest addr e), h.1.2, e)
formed PastFaults rest text h e = absurd e

joined : (text : List ℕ) (ws all : List (List ℕ)) → ws ≡ all → words_of text ≡ drop 1 ws → text ≡ join_with_byte 32 (drop 1 all)
joined text ws all e is = (words_joined text).joined ∙ ap (λ t. join_with_byte 32 t) (is ∙ ap (λ t. drop 1 t) e)

-- a text in the command's form begins with its numbers
taken : (said text : List ℕ) (command : Command) → IsForm (said ∷ words_of text) command → (rest : List ℕ) × Reads (numbers command) rest text × Ends command rest
taken said text Spawn h = absurd (some_word text (ap (λ t. drop 1 t) h))
taken said text (Fork pid) h = (h.0, joined text _ _ h.1 refl, h.2)
taken said text (Exit pid) h = (h.0, joined text _ _ h.1 refl, h.2)
taken said text (Mmap pid addr len prot source placing) h =
    let rest = join_with_byte 32 (h.3 ∷ h.4) in
    let read : Reads (pid ∷ addr ∷ len ∷ []) rest text = (_, (h.0, joined text _ _ h.5 refl, h.6), (_, (h.1, refl, h.7), (_, (h.2, refl, h.8), refl))) in
    (rest, read, (h.3, h.4, ap (λ t. drop 3 t) (sym (read_all (pid ∷ addr ∷ len ∷ []) rest text read _ refl)) ∙ ap (λ t. drop 4 t) h.5, h.9, h.10))
taken said text (Munmap pid addr len) h = (h.2, (_, (h.0, joined text _ _ h.3 refl, h.4), (_, (h.1, refl, h.5), refl)), h.6)
taken said text (Mprotect pid addr len prot) h = (h.3, (_, (h.0, joined text _ _ h.4 refl, h.5), (_, (h.1, refl, h.6), (_, (h.2, refl, h.7), refl))), h.8)
taken said text (Dontneed pid addr len) h = (h.2, (_, (h.0, joined text _ _ h.3 refl, h.4), (_, (h.1, refl, h.5), refl)), h.6)
taken said text (Msync pid addr len mode) h = (h.3, (_, (h.0, joined text _ _ h.4 refl, h.5), (_, (h.1, refl, h.6), (_, (h.2, refl, h.7), refl))), h.8)
taken said text (Truncate file length) h = (h.1, (_, (h.0, joined text _ _ h.2 refl, h.3), refl), h.4)
taken said text (Load pid addr width) h = (h.2, (_, (h.0, joined text _ _ h.3 refl, h.4), (_, (h.1, refl, h.5), refl)), h.6)
taken said text (Store pid addr stored) h = (h.3, (_, (h.0, joined text _ _ h.4 refl, h.5), (_, (h.1, refl, h.6), (_, (h.2, refl, h.7), refl))), (h.8, h.9))
taken said text (Fetch pid addr) h = (h.1, (_, (h.0, joined text _ _ h.2 refl, h.3), refl), h.4)
taken said text PastFaults h = absurd (some_word text (ap (λ t. drop 1 t) h))

-- what is known of a command, once numbers were read and the rest is left
abbrev Known : List ℕ → List ℕ → Command → List ℕ → Type 0 → Type 0
Known [] [] command rest A = Ends command rest → A
Known [] (n ∷ ns) command rest A = (more : List ℕ) → BeginsWith n more rest → A
Known (v ∷ vs) [] command rest A = ⊥
Known (v ∷ vs) (n ∷ ns) command rest A = v ≡ n → Known vs ns command rest A

known : (vs rest text : List ℕ) → Reads vs rest text → (ns last : List ℕ) → Reads ns last text → (command : Command) (A : Type 0) → Ends command last
    → Known vs ns command rest A → A
known [] rest text h [] last r command A ends k = k (subst (λ t. Ends command t) (sym r ∙ h) ends)
known [] rest text h (n ∷ ns) last r command A ends k = k r.0 (subst (λ t. BeginsWith n r.0 t) h r.1)
known (v ∷ vs) rest text h [] last r command A ends k = absurd k
known (v ∷ vs) rest text h (n ∷ ns) last r command A ends k =
    let same = one_front v h.0 text h.1 n r.0 r.1 in
    known vs rest h.0 h.2 ns last (subst (λ t. Reads ns last t) (sym same.1) r.2) command A ends (k same.0)

only : (n : Name) (vs rest text : List ℕ) (A : Command → Type 0) → Reads vs rest text → Each n (λ command. Known vs (numbers command) command rest (A command))
    → (command : Command) → IsForm (name_text n ∷ words_of text) command → A command
only n vs rest text A h every command form =
    let read = taken (name_text n) text command form in
    known vs rest text h (numbers command) read.0 read.1 command (A command) read.2 (at_name (λ c. Known vs (numbers c) c rest (A c)) n _ command refl every form)

-- a word was missed
pub missed : (n : Name) (vs rest text : List ℕ) (r : Option Command) → r ≡ None → Reads vs rest text → Each n (λ command. Known vs (numbers command) command rest ⊥)
    → ReadsWords (name_text n ∷ words_of text) r
missed n vs rest text r none h every = unread _ r none (only n vs rest text (λ c. ⊥) h every)

-- all was read
pub reads : (command : Command) (rest text : List ℕ) → Reads (numbers command) rest text → Ends command rest
    → Each (form_name command) (λ other. Known (numbers command) (numbers other) other rest (Some command ≡ Some other))
    → ReadsWords (name_text (form_name command) ∷ words_of text) (Some command)
reads command rest text h e every =
    record { found = formed command rest text h e; only = only (form_name command) (numbers command) rest text (λ other. Some command ≡ Some other) h every }

-- the words behind the numbers of a mapping, whose first is cut off
pub cut_ends : (text word rest : List ℕ) (prot : Prot) (source : MapSource) (placing : Placing) → text ≡ word ++ 32 ∷ rest → HasNoSpace word
    → Ends (Mmap 0 0 0 prot source placing) text → IsPermission word prot × IsBack (words_of rest) source placing
cut_ends text word rest prot source placing parts plain e =
    let same = sym e.2 ∙ cut_words text word rest parts plain in
    (subst (λ t. IsPermission t prot) (ap (λ ws. get_or ws 0 []) same) e.3, subst (λ b. IsBack b source placing) (ap (λ ws. drop 1 ws) same) e.4)

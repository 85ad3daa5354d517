-- The commands of lines, and how many of them are acknowledged.
use Rattle.std.{proofs.{Common.{◌≡◌, ◌⊎◌, ℕ, zero, suc, ◌+◌, ◌<◌, ◌≤◌, ◌&&◌, Bool, if◌then◌else◌, List, [], ◌∷◌, ◌++◌, refl, sym, ap, ◌∙◌, add-zero, zero-add, add_assoc, subst, inl, inr, length, take, map, get_or, Bor, arith}, lemmas.List.{take_more, take_all, map-append, length-take-le}}}
use Rattle.{vm_types.specs.{declared.{command.Command.{Command}, reply.Reply.{Reply}}, Prefix.{is_msync, is_done}}, trace_lang.specs.Grammar.{IsCommand}, runner.specs.Session.{IsBadLine}}
use Rattle.stop_trials.specs.Lines.{AreCommandsOf, acknowledged_in}

-- a line more that stands for a command, or for none
pub command_more : (lines : List (List ℕ)) (commands : List Command) (line : List ℕ) (command : Command)
    → AreCommandsOf lines commands → IsCommand line command → AreCommandsOf (lines ++ line ∷ []) (commands ++ command ∷ [])
command_more [] commands line command before form = inr (command, [], form, ap (λ (cs : List Command). cs ++ command ∷ []) before, refl)
command_more (first ∷ lines) commands line command (inl passed) form = inl (passed.0, command_more lines commands line command passed.1 form)
command_more (first ∷ lines) commands line command (inr taken) form =
    inr (taken.0, taken.1 ++ command ∷ [], taken.2, ap (λ (cs : List Command). cs ++ command ∷ []) taken.3, command_more lines taken.1 line command taken.4 form)

pub none_more : (lines : List (List ℕ)) (commands : List Command) (line : List ℕ) → AreCommandsOf lines commands → IsBadLine line → AreCommandsOf (lines ++ line ∷ []) commands
none_more [] commands line before bad = inl (bad, before)
none_more (first ∷ lines) commands line (inl passed) bad = inl (passed.0, none_more lines commands line passed.1 bad)
none_more (first ∷ lines) commands line (inr taken) bad = inr (taken.0, taken.1, taken.2, taken.3, none_more lines taken.1 line taken.4 bad)

-- the lines up to the i-th, and that one
one_line : (lines : List (Bor (List ℕ))) (i : ℕ) (none : Bor (List ℕ)) (commands : List Command) → i < length lines
    → AreCommandsOf (map (λ line. line.now) (take i lines) ++ (get_or lines i none).now ∷ []) commands → AreCommandsOf (map (λ line. line.now) (take (i + 1) lines)) commands
one_line lines i none commands inside are =
    let now : Bor (List ℕ) → List ℕ = λ line. line.now in
    subst (λ (ls : List (List ℕ)). AreCommandsOf ls commands)
    (sym (ap (map now) (take_more lines i none inside) ∙ map-append now (take i lines) (get_or lines i none ∷ []))) are

pub next_command : (lines : List (Bor (List ℕ))) (i : ℕ) (none : Bor (List ℕ)) (commands after : List Command) (command : Command) → i < length lines
    → AreCommandsOf (map (λ line. line.now) (take i lines)) commands → IsCommand (get_or lines i none).now command → after ≡ commands ++ command ∷ []
    → AreCommandsOf (map (λ line. line.now) (take (i + 1) lines)) after
next_command lines i none commands after command inside before form is =
    let now : Bor (List ℕ) → List ℕ = λ line. line.now in
    one_line lines i none after inside
    (subst (λ (cs : List Command). AreCommandsOf (map now (take i lines) ++ (get_or lines i none).now ∷ []) cs) (sym is)
    (command_more (map now (take i lines)) commands (get_or lines i none).now command before form))

pub next_none : (lines : List (Bor (List ℕ))) (i : ℕ) (none : Bor (List ℕ)) (commands : List Command) → i < length lines
    → AreCommandsOf (map (λ line. line.now) (take i lines)) commands → IsBadLine (get_or lines i none).now → AreCommandsOf (map (λ line. line.now) (take (i + 1) lines)) commands
next_none lines i none commands inside before bad =
    let now : Bor (List ℕ) → List ℕ = λ line. line.now in
    one_line lines i none commands inside (none_more (map now (take i lines)) commands (get_or lines i none).now before bad)

-- one command more, and its reply
abbrev this_one : Command → Reply → ℕ
this_one command reply = if is_msync command && is_done reply then 1 else 0

last_one : (commands : List Command) (replies : List Reply) (command : Command) (reply : Reply) → length commands ≡ length replies
    → acknowledged_in (commands ++ command ∷ []) (replies ++ reply ∷ []) ≡ acknowledged_in commands replies + this_one command reply
last_one [] [] command reply same = add-zero (this_one command reply) ∙ sym (zero-add (this_one command reply))
last_one [] (r ∷ replies) command reply same = absurd (omega (arith, same))
last_one (c ∷ commands) [] command reply same = absurd (omega (arith, same))
last_one (c ∷ commands) (r ∷ replies) command reply same =
    ap (λ (n : ℕ). this_one c r + n) (last_one commands replies command reply (omega (arith, same)))
    ∙ sym (add_assoc (this_one c r) (acknowledged_in commands replies) (this_one command reply))

one_more : (commands : List Command) (replies : List Reply) (i : ℕ) (command : Command) (reply : Reply) → i < length commands → i < length replies
    → acknowledged_in (take (i + 1) commands) (take (i + 1) replies)
    ≡ acknowledged_in (take i commands) (take i replies) + this_one (get_or commands i command) (get_or replies i reply)
one_more commands replies i command reply here there =
    ap (λ (cs : List Command). acknowledged_in cs (take (i + 1) replies)) (take_more commands i command here)
    ∙ ap (acknowledged_in (take i commands ++ get_or commands i command ∷ [])) (take_more replies i reply there)
    ∙ last_one (take i commands) (take i replies) (get_or commands i command) (get_or replies i reply) (length_of commands i here ∙ sym (length_of replies i there))
  where
    length_of : {X : Type 0} (xs : List X) (n : ℕ) → n < length xs → length (take n xs) ≡ n
    length_of xs n inside = length-take-le n xs (omega (arith, inside))

-- the count after the i-th command, by what was said of it
pub counted : (commands : List Command) (replies : List Reply) (i : ℕ) (command : Command) (reply : Reply) (told : Bool) (before after : ℕ) → i < length commands → i < length replies
    → command ≡ get_or commands i command → reply ≡ get_or replies i reply → told ≡ (is_msync command && is_done reply)
    → before ≡ acknowledged_in (take i commands) (take i replies) → after ≡ before + (if told then 1 else 0) → after ≡ acknowledged_in (take (i + 1) commands) (take (i + 1) replies)
counted commands replies i command reply told before after here there c r is sofar next =
    next
    ∙ ap (λ (b : Bool). before + (if b then 1 else 0)) is
    ∙ ap (λ (n : ℕ). n + this_one command reply) sofar
    ∙ ap (λ (n : ℕ). acknowledged_in (take i commands) (take i replies) + n) (ap (λ (k : Command). this_one k reply) c ∙ ap (this_one (get_or commands i command)) r)
    ∙ sym (one_more commands replies i command reply here there)

-- commands without a reply acknowledge nothing
enough : (commands : List Command) (replies : List Reply) (n : ℕ) → length replies ≤ n → acknowledged_in (take n commands) replies ≡ acknowledged_in commands replies
enough [] replies zero le = refl
enough [] replies (suc n) le = refl
enough (command ∷ commands) [] zero le = refl
enough (command ∷ commands) [] (suc n) le = refl
enough (command ∷ commands) (reply ∷ replies) zero le = absurd (omega (arith, le))
enough (command ∷ commands) (reply ∷ replies) (suc n) le = ap (λ (m : ℕ). this_one command reply + m) (enough commands replies n (omega (arith, le)))

pub all_of_them : (commands : List Command) (replies : List Reply) (n : ℕ) → length replies ≤ n
    → acknowledged_in (take n commands) (take n replies) ≡ acknowledged_in commands replies
all_of_them commands replies n le = ap (acknowledged_in (take n commands)) (take_all n replies le) ∙ enough commands replies n le

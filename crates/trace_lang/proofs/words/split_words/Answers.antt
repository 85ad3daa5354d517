use Rattle.{std.proofs.{Common.{ℕ, ◌<◌, eqb, length, sym, ◌∙◌, subst, rules, tests}, lemmas.Iterator.{Consumers.{YieldsList-turn, YieldsList-end}, Splits.{YieldsList-from_slice_split}}}, trace_lang.specs.Words.{words_of}}
use Rattle.trace_lang.proofs.words.split_words.Goals as goal

pub returns-then-count-eq-MAX_WORDS-clause-none : goal.returns-then-count-eq-MAX_WORDS-clause-none
returns-then-count-eq-MAX_WORDS-clause-none c =
    let t = YieldsList-turn (YieldsList-from_slice_split _ (λ b. eqb b 32) c.args.text.now (cc) (cc) (cc) (λ x r q k. search (rules, tests))) c.loop-word.yielded _ c.loop-word.yielded_by _ _ c.in-Some.word c.in-Some.is c.next.ensures.steps in
    subst (λ (n : ℕ). n < length (words_of c.args.text.now)) (sym c.loop-word.invariant.count ∙ c.if-count-eq-MAX_WORDS.true) t.0

pub returns-clause-found : goal.returns-clause-found
returns-clause-found c =
    let t = YieldsList-end (YieldsList-from_slice_split _ (λ b. eqb b 32) c.args.text.now (cc) (cc) (cc) (λ x r q k. search (rules, tests))) c.loop-word.yielded _ c.loop-word.yielded_by _ _ c.in-None.is c.next.ensures.steps in
    (c.loop-word.invariant.few, c.loop-word.invariant.same ∙ t.0)

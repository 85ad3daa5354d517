use Rattle.{std.proofs.{Common.{codes, Some}, lemmas.{Bool.Decides.{Decides-eqb}, Slice.Eq.{strip_prefix_is}}}, trace_lang.proofs.FirstWord.{reads_line}}
use Rattle.trace_lang.proofs.parsing.command_in.Goals as goal

pub returns-in-Some : goal.returns-in-Some
returns-in-Some c = reads_line _ _ _ (strip_prefix_is Decides-eqb c.args.line.now (codes "load ") (Some c.in-Some.rest) c.in-Some.ensures.cases) c.load_in.ensures

pub returns-in-Some-strip_prefix : goal.returns-in-Some-strip_prefix
returns-in-Some-strip_prefix c = reads_line _ _ _ (strip_prefix_is Decides-eqb c.args.line.now (codes "store ") (Some c.in-Some-strip_prefix.rest) c.in-Some-strip_prefix.ensures.cases) c.store_in.ensures

pub returns-in-Some-strip_prefix-2 : goal.returns-in-Some-strip_prefix-2
returns-in-Some-strip_prefix-2 c = reads_line _ _ _ (strip_prefix_is Decides-eqb c.args.line.now (codes "fetch ") (Some c.in-Some-strip_prefix-2.rest) c.in-Some-strip_prefix-2.ensures.cases) c.fetch_in.ensures

use Rattle.{std.proofs.Common.{ap, rules}, stores.specs.Store.{files_in}}
use Rattle.batches.proofs.commits.commit_good.Goals as goal

pub returns-in-Ok-clause-commits : goal.returns-in-Ok-clause-commits
returns-in-Ok-clause-commits g c =
    let done = c.in-Ok.ensures in
    record {
      ok = λ k files before after left changes. done.ok k tt files before after left changes;
      ready = search rules;
      room = search rules;
      always = search rules;
      calm = search rules;
      any_moment = λ k files before after left changes. done.any_moment k tt files before after left changes;
      files = ap files_in done.files;
      size = search rules;
      kept = search rules;
    }

pub returns-in-Err-clause-commits : goal.returns-in-Err-clause-commits
returns-in-Err-clause-commits g c =
    let failed = c.commit.ensures in
    record {
      ok = search rules;
      ready = search rules;
      room = search rules;
      always = search rules;
      calm = search rules;
      any_moment = λ k files before after left changes. failed.any_moment k tt files before after left changes;
      files = ap files_in failed.files;
      size = search rules;
      kept = search rules;
    }

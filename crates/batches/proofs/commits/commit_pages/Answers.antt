use Rattle.{std.proofs.{Common.{◌≡◌, inl, sym, ◌∙◌, rules}, lemmas.Result.{IfErr-weaker}}, disk_model.proofs.Moments.{started}, stores.specs.{Images.{StandsForEither}, Store.{disk_of}}, batches.specs.declared.commits.BatchFault.TheVariants.{Device}}
use Rattle.batches.specs.declared.commits.BatchFault.TheVariants.{BadPages, ReadOnly}
use Rattle.batches.proofs.commits.commit_pages.Goals as goal

pub returns-in-Ok-clause-refused : goal.returns-in-Ok-clause-refused
returns-in-Ok-clause-refused g c = IfErr-weaker c.commit_good.result _ _ (λ fault failed. record {
  bad_pages = λ is. let no : Device ≡ BadPages = sym failed.0 ∙ is in cc;
  read_only = λ is. let no : Device ≡ ReadOnly = sym failed.0 ∙ is in cc;
  unchanged = λ other. absurd (other failed.0);
  cause = λ is. failed.1;
}) c.commit_good.ensures.fault

pub returns-in-Err-clause-commits : goal.returns-in-Err-clause-commits
returns-in-Err-clause-commits g c =
    let disk = disk_of c.args.store.now in
    record {
      ok = search rules;
      ready = search rules;
      room = search rules;
      always = search rules;
      calm = search rules;
      any_moment = λ k files before after left changes. started g.D.SectorDisk disk (StandsForEither (g.D.SectorDisk.sector_count disk) files before after)
          (λ image past. g.met.D.SectorDisk.only_now disk image k past) (λ image may. inl (left image may));
      files = search rules;
      size = search rules;
      kept = search rules;
    }

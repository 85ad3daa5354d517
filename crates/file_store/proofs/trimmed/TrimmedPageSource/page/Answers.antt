use Rattle.file_store.proofs.{Homes.{inside_of-small}, Names.{◌≤◌, sym, subst, slice_get}}
use Rattle.file_store.proofs.trimmed.TrimmedPageSource.page.Goals as goal

pub trim-requires : goal.trim-requires
trim-requires g c = subst (λ n. n ≤ 4096) (sym c.inside.ensures) (inside_of-small c.args.self.now.directory.now (slice_get c.args.self.now.pages.now c.args.i))

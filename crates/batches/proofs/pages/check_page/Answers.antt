use Rattle.std.proofs.Common.{rules}
use Rattle.batches.proofs.pages.check_page.Goals as goal

pub returns-in-Some : goal.returns-in-Some
returns-in-Some g c = search rules

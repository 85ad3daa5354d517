use Rattle.std.proofs.Common.{refl, sym, true≢false}
use Rattle.regions.proofs.table.Regions.clear.Goals as goal

pub returns : goal.returns
returns g c = record { none = refl; empty = λ page. refl; user = record { user_pages = λ page some. absurd (true≢false (sym some)); file_pages = λ page. tt } }

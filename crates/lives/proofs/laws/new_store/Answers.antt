use Rattle.lives.proofs.NewStores.{stands_for_sources, stopped_format}
use Rattle.lives.proofs.laws.new_store.Goals as goal

pub returns-clause-made : goal.returns-clause-made
returns-clause-made g c = λ store sectors sources image made. stands_for_sources g.R.Read.remaining sectors sources image store made

pub returns-clause-stopped : goal.returns-clause-stopped
returns-clause-stopped g c = λ store sectors sources image left. stopped_format g.R.Read.remaining sectors sources image store left

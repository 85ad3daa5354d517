use Rattle.residency.proofs.Chance.{chance_obtained, chance_owned, chance_cached, chance_sought}
use Rattle.residency.proofs.laws.second_chance.Goals as goal

pub returns : goal.returns
returns g c = record {
  obtained = λ old new keep n done. chance_obtained done;
  own = λ old new page keep n done. chance_owned done;
  cached = λ old new page n got aged. chance_cached got aged;
  full = λ old new keep n full done. chance_sought done full;
}

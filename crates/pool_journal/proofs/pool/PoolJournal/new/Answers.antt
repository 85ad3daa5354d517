use Rattle.std.proofs.Common.{refl, arith}
use Rattle.pool_journal.{proofs.AllFree.{all_counted}, specs.Maps.{entries_of}}
use Rattle.pool_journal.proofs.pool.PoolJournal.new.Goals as goal

pub returns : goal.returns
returns c = record {
  is = record {
    sized = c.requires;
    map = c.in_ok-map.ensures.size;
    next = c.in_ok-next.ensures.size;
    homes = λ body r. (let none = c.in_ok-map.ensures.empty body r in omega (arith, none));
    counted = (let all = all_counted c.args.sizes.blocks (entries_of c.in_ok-map.map) (λ body r below. c.in_ok-map.ensures.empty body r) in omega (arith, all, c.places.ensures));
    room = c.in_ok-taken.ensures;
  };
  size = refl;
  first = refl;
  empty = c.in_ok-map.ensures.empty;
}

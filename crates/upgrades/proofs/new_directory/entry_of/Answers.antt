use Rattle.upgrades.proofs.Names.{◌≡◌, ◌∙◌, min, refl, ap, arith}
use Rattle.file_store.specs.Layout.{pages_of_length}
use Rattle.pool_store.{proofs.Made.{counted, entry_same}, specs.Format.{extents_room}}
use Rattle.upgrades.specs.NewPool.{entry_made}
use Rattle.upgrades.proofs.new_directory.entry_of.Goals as goal

pub returns-clause-is : goal.returns-clause-is
returns-clause-is c =
    let first = c.args.first in
    let info = c.args.info in
    let pages : c.pages_of-count.result ≡ pages_of_length info.length = c.pages_of-count.ensures.count in
    let few : c.min.result ≡ min (pages_of_length info.length) 1 = omega (arith, c.min.ensures, pages) in
    entry_same _ (entry_made first info) refl refl (few ∙ counted first (pages_of_length info.length)) (c.extents_of.ensures ∙ ap (extents_room first) pages)

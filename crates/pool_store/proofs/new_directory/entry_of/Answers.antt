use Rattle.pool_store.proofs.Names.{◌≡◌, ◌∙◌, min, refl, ap, arith}
use Rattle.file_store.specs.Layout.{pages_of_length}
use Rattle.pool_store.{proofs.Made.{counted, entry_same}, specs.Format.{entry_made, extents_room}}
use Rattle.pool_store.proofs.new_directory.entry_of.Goals as goal

pub returns-clause-is : goal.returns-clause-is
returns-clause-is g c =
    let first = c.args.first in
    let source = c.args.source.now in
    let pages : c.pages-count.result ≡ pages_of_length source.length = c.pages-count.ensures.count in
    let few : c.min-extent_count.result ≡ min (pages_of_length source.length) 1 = omega (arith, c.min-extent_count.ensures, pages) in
    entry_same _ (entry_made first source) refl c.length_of-length.ensures.is (few ∙ counted first (pages_of_length source.length)) (c.extents_of-extents.ensures ∙ ap (extents_room first) pages)

use Rattle.page_tables.proofs.{EmptyBytes.{bytes_zero, entries_zero}, Names.{sym, ap, ◌∙◌, get_or}}
use Rattle.page_tables.proofs.tables.is_empty.Goals as goal

pub are_zeros-requires : goal.are_zeros-requires
are_zeros-requires c = c.bytes-2.ensures ∙ c.len.ensures.sound.zero_page

pub returns : goal.returns
returns c = (
  λ is. entries_zero c.args.frames.now c.args.table.0 (λ k below. ap (λ xs. get_or xs k 0) (sym c.bytes.ensures) ∙ c.are_zeros.ensures.0 is k below),
  λ empty. c.are_zeros.ensures.1 (λ k below. ap (λ xs. get_or xs k 0) c.bytes.ensures ∙ bytes_zero c.args.frames.now c.args.table.0 empty k below),
)

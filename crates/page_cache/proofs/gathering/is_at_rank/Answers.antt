use Rattle.{std.proofs.Common.{sym, ap, ◌∙◌, get_or}, vm_types.specs.{Attributes.{file_page_eq}, declared.file.FilePage.{FilePage}}, page_cache.{proofs.NodeLemmas.{same_file_page, same_file_page_true}, specs.Gathering.{index_entry}}}
use Rattle.page_cache.proofs.gathering.is_at_rank.Goals as goal

pub returns-then-rank-n : goal.returns-then-rank-n
returns-then-rank-n c =
    let entry = index_entry c.args.list.now (get_or c.args.ranks.now c.args.node 0) in (
      λ same. (c.if-rank-n.true, same_file_page entry c.args.page (sym c.is_same_file_page.ensures ∙ same)),
      λ there. c.is_same_file_page.ensures ∙ ap (λ (p : FilePage). file_page_eq p c.args.page) there.1 ∙ same_file_page_true c.args.page,
    )

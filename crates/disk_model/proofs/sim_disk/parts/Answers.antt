use Rattle.disk_model.proofs.{Names.{ap, ◌∙◌, ◌/◌, [], get_or, first_chunks}, Pages.{chunk_at}}
use Rattle.disk_model.proofs.sim_disk.parts.Goals as goal

pub returns-clause-len : goal.returns-clause-len
returns-clause-len c = c.as_chunks.ensures.front_len ∙ ap (λ n. n / 512) c.told-page

pub returns-clause-each : goal.returns-clause-each
returns-clause-each c = λ i below.
    ap (λ list. get_or list i []) (c.as_chunks.ensures.front ∙ ap (λ n. first_chunks 512 (n / 512) c.args.page.now) c.told-page)
    ∙ chunk_at 512 8 i c.args.page.now below

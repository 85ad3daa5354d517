use Rattle.file_store.proofs.{Names.{◌-◌, ◌∙◌, ap, ◌≡◌, length, replicate, arith, rules}, Pieces.{trimmed_put, length_mid}}
use Rattle.file_store.proofs.pages.trim.Goals as goal

pub returns : goal.returns
returns c = trimmed_put c.args.inside c.args.page.now c.clear.new.bytes (search rules) c.requires
    (c.clear.ensures ∙ ap (λ n. replicate n 0) (length_mid c.args.inside (4096 - c.args.inside) c.args.page.now (let size : length c.args.page.now ≡ 4096 = search rules in omega (arith, c.requires, size))))

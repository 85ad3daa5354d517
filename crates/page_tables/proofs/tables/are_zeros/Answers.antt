use Rattle.page_tables.proofs.Names.{◌≡◌, ℕ, get_or, sym, ap, ◌∙◌, arith, Decides-eqb, ext_get_or, slice_eq-Decides, zero_bytes-at}
use Rattle.page_tables.proofs.tables.are_zeros.Goals as goal

pub returns : goal.returns
returns c =
    let decides = slice_eq-Decides Decides-eqb _ _ _ c.eq.ensures in
    let zero_at : (k : ℕ) → get_or c.args.zeros.now k 0 ≡ 0 = λ k. ap (λ xs. get_or xs k 0) c.requires ∙ zero_bytes-at k in (
      λ same k below. ap (λ xs. get_or xs k 0) (decides.0 same) ∙ zero_at k,
      λ zeros. decides.1 (ext_get_or 0 c.args.bytes.now c.args.zeros.now (c.told-bytes ∙ sym c.told-zeros)
          (λ k inside. zeros k (omega (arith, inside, c.told-bytes)) ∙ sym (zero_at k))),
    )

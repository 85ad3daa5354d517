use Rattle.{std.proofs.{Common.{◌≡◌, ◌≤◌, ℕ, List, [], ◌∷◌, ◌++◌, length, take, refl, sym, ◌∙◌, ap, eqb-true, arith}, lemmas.List.{take_all}}, runner.proofs.Progress.{reads_line}}
use Rattle.runner.proofs.engine.run_line.Goals as goal

no_bytes : (l : List ℕ) → length l ≡ 0 → l ≡ []
no_bytes [] e = refl
no_bytes (b ∷ l) e = absurd (omega (arith, e))

-- after an empty buffer the line is these bytes
whole_line : (kept bytes : List ℕ) → kept ≡ [] → length bytes ≤ 256 → bytes ≡ take 257 (kept ++ bytes)
whole_line kept bytes none short = let room : length bytes ≤ 257 = omega (arith, short) in sym (take_all 257 bytes room) ∙ ap (λ k. take 257 (k ++ bytes)) (sym none)

pub returns-then-bytes-le-MAX_LINE_BYTES : goal.returns-then-bytes-le-MAX_LINE_BYTES
returns-then-bytes-le-MAX_LINE_BYTES g c =
    let bytes = c.args.bytes.now in
    let none = no_bytes c.args.line.now (eqb-true (length c.args.line.now) 0 (sym c.is_empty.ensures ∙ c.if-is_empty.true)) in
    let is = whole_line c.args.line.now bytes none c.if-bytes-le-MAX_LINE_BYTES.true in
    reads_line g.D.SectorDisk g.E.SectorDisk c.end_line.result _ _ c.args.line.now bytes c.args.line.now _ _ bytes _ _ c.requires.unbroken is none c.end_line.ensures

pub returns : goal.returns
returns g c =
    reads_line g.D.SectorDisk g.E.SectorDisk c.end_line-ended.result _ _ c.args.line.now c.as_slice.result.now c.clear.new.self _ _ c.args.bytes.now _ _ c.requires.unbroken
    (c.as_slice.ensures ∙ c.extend.ensures) c.clear.ensures c.end_line-ended.ensures

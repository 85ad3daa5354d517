use Rattle.sync_journal.proofs.{Maps.{overwritten, zeros_after}, Names.{ℕ, List, ◌+◌, ◌*◌, ◌-◌, ◌++◌, length, drop, ap, ◌∙◌, arith, flat_map, little_bytes}}
use Rattle.sync_journal.proofs.map.write_map.Goals as goal

pub returns : goal.returns
returns c =
    let front : List ℕ = little_bytes 4 (length c.args.homes.now) ++ flat_map (little_bytes 4) c.args.homes.now in
    overwritten _ _ _ _ (4 + 4 * length c.args.homes.now - 4) (4 + 4 * length c.args.homes.now) _ c.args.map.now _ _
    c.write_u32.ensures c.write_u32_into.ensures (omega arith)
    ∙ ap (λ old. front ++ drop (4 + 4 * length c.args.homes.now) old) c.requires.blank
    ∙ ap (λ rest. front ++ rest) (zeros_after (length c.args.homes.now))

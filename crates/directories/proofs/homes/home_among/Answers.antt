use Rattle.std.proofs.Common.{◌≡◌, ◌<◌, ◌+◌, ◌-◌, ◌∙◌, sym, ap, drop, get_or, length, slice_get, Some, arith, rules}
use Rattle.directories.specs.Homes.{homes_of}
use Rattle.directories.proofs.{Said.{no_extent}, Places.{home_here, home_behind}}
use Rattle.directories.proofs.homes.home_among.Goals as goal

pub returns-then-left-count : goal.returns-then-left-count
returns-then-left-count c =
    let xs = c.args.extents.now in
    let i = c.loop-extent.extent-index in
    let inside : i < length xs = omega arith in
    let count : c.from-count.result ≡ (get_or xs i no_extent).count = search rules in
    let first : c.from.result ≡ (get_or xs i no_extent).first = search rules in
    ap (λ n. Some (n + c.loop-extent.left)) first ∙ sym (home_here xs i c.loop-extent.left inside (omega (arith, count, c.if-left-count.true))) ∙ sym c.loop-extent.invariant

pub loop-extent-preserved : goal.loop-extent-preserved
loop-extent-preserved c =
    let xs = c.args.extents.now in
    let i = c.loop-extent.extent-index in
    let inside : i < length xs = omega arith in
    let count : c.from-count.result ≡ (get_or xs i no_extent).count = search rules in
    c.loop-extent.invariant ∙ home_behind xs i c.loop-extent.left inside (omega (arith, count, c.if-left-count.false))
    ∙ ap (λ n. slice_get (homes_of (drop (i + 1) xs)) (c.loop-extent.left - n)) (sym count)

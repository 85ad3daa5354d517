use Rattle.std.proofs.Common.{◌≡◌, ◌<◌, get_or, length, refl, sym, arith, rules}
use Rattle.std.specs.Option.{option_copied, option_map}
use Rattle.growth.proofs.Listed.{no_change}
use Rattle.growth.specs.declared.changes.Change.{Change}
use Rattle.pool_growth.proofs.Checked.{all_ends, all_more, one_end, same_ends}
use Rattle.pool_growth.specs.Checks.{ListsEnd}
use Rattle.pool_growth.proofs.checking.find_open_end.Goals as goal
use Rattle.pool_store.specs.{Files.{info_of}, Store.{entry_of, info_by}}

pub returns-then-not-lists_end : goal.returns-then-not-lists_end
returns-then-not-lists_end c = λ has.
    let changes = c.args.asked.changes.now in
    let i = c.loop-change.change-index in
    let this = get_or changes i no_change in
    let inside : i < length changes = omega arith in
    let after : option_copied c.as_ref.result ≡ this.entry = search rules in
    c.if-not-lists_end.ensures.one refl
    (same_ends c.args.asked.pages.now this.file (entry_of c.args.directory.now this.file) (option_copied c.entry-was.result) this.entry (option_copied c.as_ref.result) (sym c.entry-was.ensures) (sym after)
    (one_end c.args.directory.now changes c.args.asked.pages.now c.requires.rising i no_change inside has))

pub loop-change-preserved : goal.loop-change-preserved
loop-change-preserved c =
    let changes = c.args.asked.changes.now in
    let i = c.loop-change.change-index in
    let this = get_or changes i no_change in
    let inside : i < length changes = omega arith in
    let after : option_copied c.as_ref.result ≡ this.entry = search rules in
    all_more (λ (e : Change). ListsEnd c.args.asked.pages.now e.file (info_by c.args.directory.now e.file) (option_map info_of e.entry)) changes i no_change inside c.loop-change.invariant
    (same_ends c.args.asked.pages.now this.file (option_copied c.entry-was.result) (entry_of c.args.directory.now this.file) (option_copied c.as_ref.result) this.entry c.entry-was.ensures after
    (c.if-not-lists_end.ensures.all refl))

pub returns : goal.returns
returns c = all_ends c.args.directory.now c.args.asked.changes.now c.args.asked.pages.now c.requires.rising (λ i d inside. c.loop-change.invariant i d (omega (arith, inside)))

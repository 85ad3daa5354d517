use Rattle.std.proofs.Common.{◌≡◌, ◌+◌, ◌∙◌, length, sym, ap, subst, arith}
use Rattle.pool_growth.{proofs.Listed.{AreListed, HasListed, all_listed, changed_few, listed_more, listed_same, none_listed}, specs.Asked.{changed_pages}}
use Rattle.pool_growth.proofs.front.ChangeRoom.list_directory.Goals as goal
use Rattle.pool_growth.proofs.front.ChangeRoom.list_directory.Goals.{then-is_changed, else-is_changed}

pub loop-page-init : goal.loop-page-init
loop-page-init c = record {
  listed = subst (λ homes. AreListed c.args.directory.now c.args.changes.now 0 homes c.clear-2.new.self.items) (sym c.clear.ensures.items)
      (subst (AreListed c.args.directory.now c.args.changes.now 0 _) (sym c.clear-2.ensures.items) (none_listed c.args.directory.now c.args.changes.now));
  pages = c.clear-2.ensures.capacity;
  homes = c.clear.ensures.capacity;
}

-- no more pages are listed than there are
pub push_reserved-requires : goal.push_reserved-requires
push_reserved-requires c =
    let inv = c.loop-page.invariant in
    let few = changed_few c.args.changes.now c.loop-page.page in
    let long : length c.loop-page.self.homes.items ≡ length _ = ap (λ xs. length xs) inv.listed.are in
    let len = c.loop-page.self.homes.ok.0 in
    let same = inv.homes in
    omega (arith, few, long, len, same, c.loop-page-test.true, c.requires.room.1)

pub push_reserved-requires-then-is_changed : goal.push_reserved-requires-then-is_changed
push_reserved-requires-then-is_changed c =
    let inv = c.loop-page.invariant in
    let few = changed_few c.args.changes.now c.loop-page.page in
    let long : length c.loop-page.self.homes.items ≡ length _ = ap (λ xs. length xs) inv.listed.are in
    let len = c.loop-page.self.pages.ok.0 in
    let also = inv.listed.long in
    let same = inv.pages in
    omega (arith, few, long, len, also, same, c.loop-page-test.true, c.requires.room.0)

pub loop-page-preserved : goal.loop-page-preserved
loop-page-preserved c =
    let directory = c.args.directory.now in
    let changes = c.args.changes.now in
    let inv = c.loop-page.invariant in
    elim c.if-is_changed.branch [
      | then-is_changed w ↦ subst (HasListed directory changes (c.loop-page.page + 1) c.args.self.now) (sym w.self-is) (record {
        listed = subst (λ homes. AreListed directory changes (c.loop-page.page + 1) homes w.push_reserved-then-is_changed.new.self.items) (sym w.push_reserved.ensures.items)
            (subst (AreListed directory changes (c.loop-page.page + 1) _) (sym w.push_reserved-then-is_changed.ensures.items)
            (listed_more directory changes c.loop-page.page c.loop-page.self.homes.items c.loop-page.self.pages.items w.page_then.result inv.listed (sym c.is_changed.ensures ∙ w.if-is_changed.true) w.page_then.ensures));
        pages = w.push_reserved-then-is_changed.ensures.capacity ∙ inv.pages;
        homes = w.push_reserved.ensures.capacity ∙ inv.homes;
      })
      | else-is_changed w ↦ subst (HasListed directory changes (c.loop-page.page + 1) c.args.self.now) (sym w.self-is) (record {
        listed = listed_same directory changes c.loop-page.page c.loop-page.self.homes.items c.loop-page.self.pages.items inv.listed (sym c.is_changed.ensures ∙ w.if-is_changed.false);
        pages = inv.pages;
        homes = inv.homes;
      })
    ]

pub returns-clause-homes : goal.returns-clause-homes
returns-clause-homes c =
    let end : c.loop-page.page ≡ c.args.directory.now.pages = omega (arith, c.loop-page-test.false, c.loop-page.auto.page-end) in
    c.loop-page.invariant.listed.are ∙ ap (changed_pages c.args.changes.now) end

pub returns-clause-pages : goal.returns-clause-pages
returns-clause-pages c =
    let end : c.loop-page.page ≡ c.args.directory.now.pages = omega (arith, c.loop-page-test.false, c.loop-page.auto.page-end) in
    let room = c.loop-page.self in
    all_listed c.args.directory.now c.args.changes.now room.homes.items room.pages.items
    (subst (λ n. AreListed c.args.directory.now c.args.changes.now n room.homes.items room.pages.items) end c.loop-page.invariant.listed)

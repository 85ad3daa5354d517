use Rattle.std.proofs.Common.{◌≡◌, ℕ, List, Option, refl, subst, rules}
use Rattle.directories.specs.{Layouts.{IsGoodLayout}, declared.entry.Entry.{Entry}}
use Rattle.growth.specs.{Changes.{entries_after, AreChanges, TakesFreeHomes}, Refusals.{IsChangeRefused}}
use Rattle.pool_growth.proofs.Checked.{all_kept, all_small, are_good, moves, not_all, not_refused}
use Rattle.pool_growth.specs.Checks.{HasKeptHomes, IsSmallChange}
use Rattle.pool_store.specs.Store.{entry_of}
use Rattle.pool_growth.proofs.checking.check_changes.Goals as goal

pub returns-in-Some-clause-only : goal.returns-in-Some-clause-only
returns-in-Some-clause-only g c = λ _ are.
    not_all IsSmallChange c.args.changes.now c.in-Some.file c.in-Some.ensures
    (all_small c.args.store.now.journal.sizes.homes c.args.store.now.directory c.requires.ready.is_directory c.args.changes.now are)

pub returns-in-Err-clause-refused : goal.returns-in-Err-clause-refused
returns-in-Err-clause-refused g c =
    let directory = c.args.store.now.directory in
    let changes = c.args.changes.now in
    let entries : c.deref-2.result.now ≡ directory.entries.items = search rules in
    let homes : c.from-homes.result ≡ c.args.store.now.journal.sizes.homes = search rules in
    subst (λ (n : ℕ). IsChangeRefused directory.pages n directory.entries.items (entries_after directory.entries.items changes) c.in-Err.fault) homes
    (subst (λ (es : List (Option Entry)). IsChangeRefused directory.pages c.from-homes.result es (entries_after es changes) c.in-Err.fault) entries c.in-Err.ensures.refused)

pub returns-in-Err-clause-only : goal.returns-in-Err-clause-only
returns-in-Err-clause-only g c = λ _ are.
    let directory = c.args.store.now.directory in
    let changes = c.args.changes.now in
    let entries : c.deref-2.result.now ≡ directory.entries.items = search rules in
    let homes : c.from-homes.result ≡ c.args.store.now.journal.sizes.homes = search rules in
    not_refused c.args.store.now.journal.sizes.homes directory c.requires.ready.is_directory changes are c.in-Err.fault
    (subst (λ (n : ℕ). IsChangeRefused directory.pages n directory.entries.items (entries_after directory.entries.items changes) c.in-Err.fault) homes
    (subst (λ (es : List (Option Entry)). IsChangeRefused directory.pages c.from-homes.result es (entries_after es changes) c.in-Err.fault) entries c.in-Err.ensures.refused))

pub returns-in-Some-find_moved-clause-refused : goal.returns-in-Some-find_moved-clause-refused
returns-in-Some-find_moved-clause-refused g c =
    let directory = c.args.store.now.directory in
    let changes = c.args.changes.now in
    let first : c.deref.result.now ≡ directory.entries.items = search rules in
    let entries : c.deref-2.result.now ≡ directory.entries.items = search rules in
    moves c.args.store.now.journal.sizes.homes directory c.requires.ready.is_directory changes
    (subst (λ (es : List (Option Entry)). AreChanges es changes) first (c.if-not-are_changes.ensures.all refl))
    (subst (λ (es : List (Option Entry)). TakesFreeHomes es (entries_after es changes)) entries c.in_default-check_changes.ensures.free)
    c.in-Some-find_moved.file c.in-Some-find_moved.ensures

pub returns-in-Some-find_moved-clause-only : goal.returns-in-Some-find_moved-clause-only
returns-in-Some-find_moved-clause-only g c = λ _ are.
    let directory = c.args.store.now.directory in
    not_all (λ e. HasKeptHomes (entry_of directory e.file) e.entry) c.args.changes.now c.in-Some-find_moved.file c.in-Some-find_moved.ensures
    (all_kept c.args.store.now.journal.sizes.homes directory c.requires.ready.is_directory c.args.changes.now are)

pub returns-clause-good : goal.returns-clause-good
returns-clause-good g c =
    let directory = c.args.store.now.directory in
    let changes = c.args.changes.now in
    let first : c.deref.result.now ≡ directory.entries.items = search rules in
    let entries : c.deref-2.result.now ≡ directory.entries.items = search rules in
    let homes : c.from-homes.result ≡ c.args.store.now.journal.sizes.homes = search rules in
    are_good c.args.store.now.journal.sizes.homes directory c.requires.ready.is_directory changes
    (subst (λ (es : List (Option Entry)). AreChanges es changes) first (c.if-not-are_changes.ensures.all refl))
    c.in_default.ensures
    (subst (λ (n : ℕ). IsGoodLayout directory.pages n (entries_after directory.entries.items changes)) homes
    (subst (λ (es : List (Option Entry)). IsGoodLayout directory.pages c.from-homes.result (entries_after es changes)) entries c.in_default-check_changes.ensures.good))
    (subst (λ (es : List (Option Entry)). TakesFreeHomes es (entries_after es changes)) entries c.in_default-check_changes.ensures.free)
    c.in_default-find_moved.ensures

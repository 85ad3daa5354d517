use Rattle.std.proofs.Common.{◌≡◌, ◌<◌, ◌+◌, ℕ, List, [], ◌∷◌, length, get_or, slice_get, Some, refl, sym, ap, subst, ◌∙◌, arith, rules, length-append}
use Rattle.std.proofs.lemmas.Option.{slice_get-get_or}
use Rattle.directories.specs.{Homes.{pages_of_length}, Layouts.{entry_in}}
use Rattle.growth.specs.{Room.{HasNoRoom}, declared.changes.Change.{Change}}
use Rattle.pool_growth.specs.Sizes.{entry_or_empty, AreProposed, AreSizes, IsProposed}
use Rattle.pool_growth.proofs.Proposed.{no_size, one_more_proposed, proposes}
use Rattle.pool_growth.proofs.proposing.propose_into.Goals as goal

pub returns-in-None-clause-refused : goal.returns-in-None-clause-refused
returns-in-None-clause-refused g c =
    let directory = c.args.store.now.directory in
    let entries = directory.entries.items in
    let sizes = c.args.sizes.now in
    let i = c.loop-size.size-index in
    let s = get_or sizes i no_size in
    let inside : i < length sizes = omega arith in
    let homes : c.sizes.result.homes ≡ c.args.store.now.journal.sizes.homes = search rules in
    let done : c.deref.result.now ≡ c.loop-size.changes.items = search rules in
    record {
      place = i;
      size = s;
      is = slice_get-get_or sizes i no_size inside;
      file = refl;
      there = c.in-None.ensures.0;
      done = c.loop-size.changes.items;
      before = subst (λ (n : ℕ). AreProposed entries (record { first = directory.pages; end = n }) sizes c.loop-size.changes.items) homes c.loop-size.invariant.proposed;
      count = c.loop-size.invariant.count;
      none = subst (λ (n : ℕ). HasNoRoom entries c.loop-size.changes.items (entry_or_empty (entry_in entries s.file)) (pages_of_length s.length) (record { first = directory.pages; end = n })) homes
          (subst (λ (changes : List Change). HasNoRoom entries changes (entry_or_empty (entry_in entries s.file)) (pages_of_length s.length) (record { first = directory.pages; end = c.sizes.result.homes })) done c.in-None.ensures.1);
    }

pub loop-size-preserved : goal.loop-size-preserved
loop-size-preserved g c =
    let directory = c.args.store.now.directory in
    let entries = directory.entries.items in
    let sizes = c.args.sizes.now in
    let i = c.loop-size.size-index in
    let s = get_or sizes i no_size in
    let changes = c.loop-size.changes.items in
    let change = c.in-Some.change in
    let inside : i < length sizes = omega arith in
    let done : c.deref.result.now ≡ changes = search rules in
    let is : IsProposed entries (record { first = directory.pages; end = c.sizes.result.homes }) changes s change =
    subst (λ (cs : List Change). IsProposed entries (record { first = directory.pages; end = c.sizes.result.homes }) cs s change) done c.in-Some.ensures in
    let at : slice_get sizes (length changes) ≡ Some s = ap (slice_get sizes) c.loop-size.invariant.count ∙ slice_get-get_or sizes i no_size inside in
    let long = length-append changes (change ∷ []) in
    record {
      proposed = subst (λ (cs : List Change). AreProposed entries (record { first = directory.pages; end = c.sizes.result.homes }) sizes cs) (sym c.push_reserved.ensures.items)
          (one_more_proposed entries (record { first = directory.pages; end = c.sizes.result.homes }) sizes changes s change c.loop-size.invariant.proposed at is);
      count = ap length c.push_reserved.ensures.items ∙ long ∙ ap (λ n. n + 1) c.loop-size.invariant.count;
      room = search rules;
    }

pub returns-clause-proposes : goal.returns-clause-proposes
returns-clause-proposes g c =
    let directory = c.args.store.now.directory in
    let sizes = c.args.sizes.now in
    let homes : c.sizes.result.homes ≡ c.args.store.now.journal.sizes.homes = search rules in
    let many : c.len.result ≡ length directory.entries.items = search rules in
    let are : AreSizes (length directory.entries.items) sizes = subst (λ (n : ℕ). AreSizes n sizes) many (c.if-not-are_sizes.ensures.all refl) in
    let count = c.loop-size.invariant.count in
    proposes c.args.store.now.journal.sizes.homes directory c.requires.ready.is_directory sizes c.loop-size.changes.items are
    (subst (λ (n : ℕ). AreProposed directory.entries.items (record { first = directory.pages; end = n }) sizes c.loop-size.changes.items) homes c.loop-size.invariant.proposed)
    (omega (arith, count))

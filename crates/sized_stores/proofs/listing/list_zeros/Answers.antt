use Rattle.std.proofs.Common.{ℕ, ◌≡◌, ◌<◌, ◌≤◌, List, length, get_or, refl, sym, subst, ◌∙◌, arith}
use Rattle.pool_store.specs.Store.{info_by}
use Rattle.sized_stores.proofs.Zeroed.{end_of_zeros, first_zero, zeros_all, zeros_full, zeros_more, zeros_none, zeros_other, ListsFirst}
use Rattle.sized_stores.specs.Listing.{AreSized}
use Rattle.sized_stores.specs.declared.sizes.Size.{Size}
use Rattle.sized_stores.proofs.listing.list_zeros.Goals as goal

-- the file has a length
placed : (sizes : List Size) (files : List ℕ) (file : ℕ) → AreSized sizes files → (i : ℕ) × (i < length files) × (get_or files i 0 ≡ file) → file < length sizes
placed sizes files file are there = subst (λ (f : ℕ). f < length sizes) there.2 (are.places there.0 there.1)

pub loop-page-init : goal.loop-page-init
loop-page-init c =
    let asked = c.args.asked in
    let inside = placed asked.sizes.now asked.files.now c.args.file c.requires.sized c.requires.there in
    let old = c.args.kept.now.items in
    let first = first_zero asked.sizes.now c.args.file in (
      subst (λ (n : ℕ). ListsFirst (info_by asked.directory.now) asked.sizes.now asked.pages.now c.args.file c.args.limit n old old) (sym c.first_zero-page.ensures)
          (zeros_none (info_by asked.directory.now) asked.sizes.now asked.pages.now c.args.file c.args.limit old inside c.requires.few),
      subst (λ (n : ℕ). first ≤ n) (sym c.first_zero-page.ensures) (omega arith),
      refl,
    )

pub loop-page-preserved-then-has_page : goal.loop-page-preserved-then-has_page
loop-page-preserved-then-has_page c =
    let asked = c.args.asked in (
      zeros_other (info_by asked.directory.now) asked.sizes.now asked.pages.now c.args.file c.args.limit c.loop-page.page c.args.kept.now.items c.loop-page.kept.items
          (c.has_page.ensures.all c.if-has_page.true) c.loop-page.invariant.0,
      (let from = c.loop-page.invariant.1 in omega (arith, from)),
      c.loop-page.invariant.2,
    )

pub returns-then-len-limit-clause-lists : goal.returns-then-len-limit-clause-lists
returns-then-len-limit-clause-lists c =
    let asked = c.args.asked in
    let inside = placed asked.sizes.now asked.files.now c.args.file c.requires.sized c.requires.there in
    let from = c.loop-page.invariant.1 in
    let below : c.loop-page.page < end_of_zeros (info_by asked.directory.now) asked.sizes.now c.args.file =
    subst (λ (n : ℕ). c.loop-page.page < n) c.end_of_zeros-page-end.ensures c.loop-page-test.true in
    zeros_full asked.directory.now asked.sizes.now asked.pages.now c.args.file c.args.limit c.loop-page.page c.args.kept.now.items c.loop-page.kept.items inside from below
    (c.has_page.ensures.one c.if-has_page.false) (omega (arith, c.len.ensures, c.if-len-limit.true, c.loop-page.kept.ok.0)) c.loop-page.invariant.0

pub loop-page-preserved : goal.loop-page-preserved
loop-page-preserved c =
    let asked = c.args.asked in
    let inside = placed asked.sizes.now asked.files.now c.args.file c.requires.sized c.requires.there in
    let from = c.loop-page.invariant.1 in
    let below : c.loop-page.page < end_of_zeros (info_by asked.directory.now) asked.sizes.now c.args.file =
    subst (λ (n : ℕ). c.loop-page.page < n) c.end_of_zeros-page-end.ensures c.loop-page-test.true in
    let room : length c.loop-page.kept.items < c.args.limit = (let few = c.loop-page.invariant.0.few in omega (arith, c.len.ensures, c.if-len-limit.false, c.loop-page.kept.ok.0, few)) in (
      zeros_more (info_by asked.directory.now) asked.sizes.now asked.pages.now c.args.file c.args.limit c.loop-page.page c.args.kept.now.items c.loop-page.kept.items c.push_reserved.new.self.items inside from
          below (c.has_page.ensures.one c.if-has_page.false) room c.push_reserved.ensures.items c.loop-page.invariant.0,
      omega (arith, from),
      c.push_reserved.ensures.capacity ∙ c.loop-page.invariant.2,
    )

pub returns-clause-lists : goal.returns-clause-lists
returns-clause-lists c =
    let asked = c.args.asked in
    let inside = placed asked.sizes.now asked.files.now c.args.file c.requires.sized c.requires.there in
    zeros_all asked.directory.now asked.sizes.now asked.pages.now c.args.file c.args.limit c.loop-page.page c.args.kept.now.items c.loop-page.kept.items inside
    (subst (λ (n : ℕ). n ≤ c.loop-page.page) c.end_of_zeros-page-end.ensures c.loop-page-test.false) c.loop-page.invariant.0

use Rattle.{std.proofs.{Common.{◌≡◌, ◌+◌, ℕ, List, Option, Some, inl, inr, sym, ap, ◌∙◌, arith, rules}, lemmas.{Bool.{iff_false}, Option.{none-some, same_Some}}}, vm_types.specs.declared.{file.FilePage.{FilePage}, object.PageKey.{PageKey}}}
use Rattle.{vm_types.specs.declared.object.PageKey.TheVariants.{File}, page_cache.proofs.{GatherLemmas.{filed-some, IsAtPlace, node_inside, ranked_few, Overflows-full, GathersRow-full, IsPart-none, IsPart-skip, IsPart-pushed, place_touched, place_more, place_all}, NodeLemmas.{first_node-of}}}
use Rattle.page_cache.{proofs.cache.PageCache.gather_touched.Goals.{in-Some+then-is_in_row+in_ok-n, in-Some+else-is_in_row, in_default}, specs.{CacheTable.{CacheTable}, Gathering.{filed, IsGathering}, Inside.{cache_table_of}, Nodes.{page_at}}}
use Rattle.page_cache.proofs.cache.PageCache.gather_touched.Goals as goal

-- what the caller gives, of the fields
given : (t now : CacheTable) (list : List FilePage) (ranks : List ℕ) (used : ℕ) → t ≡ now → IsGathering now list ranks used → IsGathering t list ranks used
given t now list ranks used is gathering = rw is gathering

-- the page that was met is held by its node
held_by : (pages : List (Option PageKey)) (node : ℕ) (held : Option PageKey) (met : Option FilePage) (page : FilePage) → held ≡ page_at pages node → met ≡ filed held → met ≡ Some page
    → page_at pages node ≡ Some (File page)
held_by pages node held met page is file there = sym is ∙ filed-some held page (sym file ∙ there)

pub push_fresh-requires-clause-node : goal.push_fresh-requires-clause-node
push_fresh-requires-clause-node c =
    let pages = c.self.inside.index.pages.items in
    let node = c.node-node.result in
    let held = held_by pages node c.page.result c.filed.result c.in-Some.page c.page.ensures c.filed.ensures c.in-Some.is in
    node_inside (cache_table_of c.self.inside) c.loop-place.ranks c.in-Some.page node (first_node-of pages (File c.in-Some.page) node c.self.invariant.one held) c.loop-place.invariant.gathers.next.nodes

pub push_fresh-requires-clause-few : goal.push_fresh-requires-clause-few
push_fresh-requires-clause-few c =
    let few = ranked_few (cache_table_of c.self.inside) c.loop-place.list c.loop-place.ranks c.loop-place.n c.loop-place.invariant.gathers.next.ranked in
    omega (arith, few, c.self.invariant.most_nodes, c.self.invariant.most_frames)

pub returns-in_err-n : goal.returns-in_err-n
returns-in_err-n c =
    let cache = c.self.inside in
    let set = cache.touched in
    let pages = cache.index.pages.items in
    let order = set.order.items in
    let row = c.args.row in
    let place = c.loop-place.place in
    let page = c.in-Some.page in
    let node = c.node-node.result in
    let held = held_by pages node c.page.result c.filed.result page c.page.ensures c.filed.ensures c.in-Some.is in
    let touched = place_touched cache.frames pages order set.ranks.items set.count c.self.invariant.one c.self.invariant.ordered place page (omega (arith, c.len-place-end.ensures)) (ap (page_at pages) (sym c.node-node.ensures) ∙ held) in
    rw (← c.self.view_is, c.in_err-n.ensures.err.0, c.in_err-n.ensures.err.1)
    (GathersRow-full (cache_table_of cache) row.first.file row.first.page row.count c.args.used c.args.list.now c.loop-place.list c.loop-place.ranks c.from_residual.result c.from_residual.ensures.0
    (Overflows-full (cache_table_of cache) row.first.file row.first.page row.count c.args.used (IsAtPlace pages order place) c.args.list.now c.loop-place.list c.loop-place.ranks c.loop-place.n node page
    c.loop-place.invariant (record { row = (c.is_in_row.ensures).0 c.if-is_in_row.true; touched = touched }) (first_node-of pages (File page) node c.self.invariant.one held)
    c.in_err-n.ensures.fresh c.in_err-n.ensures.full))

pub loop-place-init : goal.loop-place-init
loop-place-init c =
    let cache = c.self.inside in
    let gathering = given (cache_table_of cache) c.args.self.now c.args.list.now c.args.ranks.now c.args.used c.self.view_is c.requires in
    IsPart-none (cache_table_of cache) c.args.row.first.file c.args.row.first.page c.args.row.count c.args.used (IsAtPlace cache.index.pages.items cache.touched.order.items 0)
    c.args.list.now c.args.ranks.now gathering (λ p in_row seen. omega (arith, seen.1))

pub loop-place-preserved : goal.loop-place-preserved
loop-place-preserved c =
    let cache = c.self.inside in
    let t = cache_table_of cache in
    let set = cache.touched in
    let pages = cache.index.pages.items in
    let order = set.order.items in
    let row = c.args.row in
    let place = c.loop-place.place in
    let node = c.node-node.result in
    let more = λ (p : FilePage). place_more cache.frames pages order set.ranks.items set.count c.self.invariant.one c.self.invariant.ordered place c.page.result p (c.page.ensures ∙ ap (page_at pages) c.node-node.ensures) in
    elim c.match-filed.branch [
      | in-Some+then-is_in_row+in_ok-n w ↦ (let page = w.in-Some.page in
          let held = held_by pages node c.page.result c.filed.result page c.page.ensures c.filed.ensures w.in-Some.is in
          let touched = place_touched cache.frames pages order set.ranks.items set.count c.self.invariant.one c.self.invariant.ordered place page (omega (arith, c.len-place-end.ensures)) (ap (page_at pages) (sym c.node-node.ensures) ∙ held) in
          rw (w.list-is, w.ranks-is, w.n-is) (IsPart-pushed t row.first.file row.first.page row.count c.args.used (IsAtPlace pages order place) (IsAtPlace pages order (place + 1))
          c.args.list.now c.loop-place.list w.push_fresh.new.list c.loop-place.ranks w.push_fresh.new.ranks c.loop-place.n w.in_ok-n.n node page c.loop-place.invariant
          (λ p in_row now. elim (more p now) [ inl seen ↦ inl seen | inr e ↦ inr (sym (same_Some page p (sym w.in-Some.is ∙ c.filed.ensures ∙ ap filed e))) ])
          (record { row = (w.is_in_row.ensures).0 w.if-is_in_row.true; touched = touched }) (first_node-of pages (File page) node c.self.invariant.one held) w.in_ok-n.ensures.pushed))
      | in-Some+else-is_in_row w ↦ rw (w.list-is, w.ranks-is, w.n-is) (IsPart-skip t row.first.file row.first.page row.count c.args.used (IsAtPlace pages order place) (IsAtPlace pages order (place + 1))
          c.args.list.now c.loop-place.list c.loop-place.ranks c.loop-place.n c.loop-place.invariant (λ p in_row now. elim (more p now) [
            | inl seen ↦ inl seen
            | inr e ↦ absurd (iff_false w.is_in_row.ensures w.if-is_in_row.false (rw (same_Some w.in-Some.page p (sym w.in-Some.is ∙ c.filed.ensures ∙ ap filed e)) in_row.row))
          ]))
      | in_default w ↦ rw (w.list-is, w.ranks-is, w.n-is) (IsPart-skip t row.first.file row.first.page row.count c.args.used (IsAtPlace pages order place) (IsAtPlace pages order (place + 1))
          c.args.list.now c.loop-place.list c.loop-place.ranks c.loop-place.n c.loop-place.invariant
          (λ p in_row now. elim (more p now) [ inl seen ↦ inl seen | inr e ↦ absurd (none-some p (sym w.in_default.is ∙ c.filed.ensures ∙ ap filed e)) ]))
    ]

pub returns : goal.returns
returns c =
    let cache = c.self.inside in
    let set = cache.touched in
    record {
      gathered = search rules;
      all = rw (← c.self.view_is) (λ p in_row.
          let seen = place_all cache.frames cache.index.pages.items set.order.items set.ranks.items set.count c.self.invariant.one c.self.invariant.ordered p in_row.touched in
          c.loop-place.invariant.all p in_row (seen.0, omega (arith, seen.1, c.len-place-end.ensures), seen.2));
      too_many = search rules;
    }

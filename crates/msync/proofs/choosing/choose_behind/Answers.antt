use Rattle.std.{proofs.lemmas.List.{with_items_is}, specs.Vec.{with_items}}
use Rattle.msync.proofs.Names.{ℕ, ◌∙◌, sym, ap, length, on_err_weaker, Gathers, HasAll, IsGathering}
use Rattle.msync.{specs.{Judging.{is_resized_by}, Shows.{RoomSize}}, proofs.{Appending.{both_ok}, Gathering.{gathered, overflown}}}
use Rattle.msync.proofs.choosing.choose_behind.Goals as goal

pub returns-in-Shared-clause-ok : goal.returns-in-Shared-clause-ok
returns-in-Shared-clause-ok g c =
    let t = c.args.core.now.cache in
    let resized = is_resized_by c.args.core.now in
    let first = c.in-Shared.first in
    let row = c.row_behind-row.result in
    let old = c.deref_mut.result.now in
    let new = c.dirty_in.new.list in
    let is = with_items_is c.args.lists.now.pages new (c.dirty_in.auto.list ∙ c.deref_mut.ensures.len) in
    rw (c.in-Shared.is, is, ← c.deref_mut.ensures.value) (both_ok (Gathers t row.first.file row.first.page row.count c.args.used old new c.dirty_in.new.ranks) (HasAll t row.first.file row.first.page row.count new) _ c.dirty_in.result
    (gathered t resized first c.args.count row c.row_behind-row.ensures c.args.used old new c.dirty_in.new.ranks c.requires.inside)
    c.dirty_in.ensures.gathered c.dirty_in.ensures.all)

pub returns-in-Shared-clause-next : goal.returns-in-Shared-clause-next
returns-in-Shared-clause-next g c =
    let t = c.args.core.now.cache in
    let row = c.row_behind-row.result in
    let new = c.dirty_in.new.list in
    let ranks = c.dirty_in.new.ranks in
    let P : ℕ → Type 0 = Gathers t row.first.file row.first.page row.count c.args.used c.deref_mut.result.now new ranks in
    let pages_is = with_items_is c.args.lists.now.pages new (c.dirty_in.auto.list ∙ c.deref_mut.ensures.len) in
    let ranks_is = with_items_is c.args.lists.now.ranks ranks (c.dirty_in.auto.ranks ∙ c.deref_mut-in-Shared.ensures.len) in
    rw (pages_is, ranks_is) (both_ok P P (IsGathering t new ranks) c.dirty_in.result (λ n made also. made.next) c.dirty_in.ensures.gathered c.dirty_in.ensures.gathered)

pub returns-in-Shared-clause-too_many : goal.returns-in-Shared-clause-too_many
returns-in-Shared-clause-too_many g c =
    let t = c.args.core.now.cache in
    let old = c.deref_mut.result.now in
    rw (c.in-Shared.is, ← c.deref_mut.ensures.value) (on_err_weaker c.dirty_in.result
    (λ over. overflown t (is_resized_by c.args.core.now) c.in-Shared.first c.args.count c.row_behind-row.result c.row_behind-row.ensures c.args.used old c.dirty_in.new.list c.dirty_in.new.ranks over)
    c.dirty_in.ensures.too_many)

pub returns-in-Shared-clause-size : goal.returns-in-Shared-clause-size
returns-in-Shared-clause-size g c =
    let was = c.args.lists.now in
    let pages = with_items was.pages c.dirty_in.new.list in
    let ranks = with_items was.ranks c.dirty_in.new.ranks in
    let by_pages : ℕ → RoomSize = λ n. record { most = n; ranks = length ranks.items; files = length was.files.items } in
    let by_ranks : ℕ → RoomSize = λ n. record { most = length was.pages.items; ranks = n; files = length was.files.items } in
    ap by_pages (sym pages.ok.0 ∙ was.pages.ok.0) ∙ ap by_ranks (sym ranks.ok.0 ∙ was.ranks.ok.0)

use Rattle.std.proofs.{Common.{set}, lemmas.List.{length-set}}
use Rattle.msync.{proofs.{Names.{◌<◌, ◌-◌, ◌+◌, ℕ, length, sym, subst, arith, attr_at}, Listing.{ListsBelow, lists_none, lists_more, lists_all, whole_resized, whole_within}}, specs.Judging.{is_resized_by, is_whole_by}}
use Rattle.msync.proofs.choosing.list_files.Goals as goal

pub loop-file-init : goal.loop-file-init
loop-file-init g c = record { lists = lists_none (is_whole_by c.args.core.now (attr_at c.args.regions.now) c.args.row) c.args.files.now; few = omega arith }

pub bounds-files-count : goal.bounds-files-count
bounds-files-count g c =
    let row = c.args.row in
    let next = c.in-Some.ensures in
    let within = whole_within c.args.core.now.store.sizes.items (attr_at c.args.regions.now) row.first (row.end - row.first) c.in-Some.file next.1 in
    omega (arith, within, next.0, c.loop-file.invariant.lists.few, c.loop-file.auto.files, c.requires.room)

pub loop-file-preserved : goal.loop-file-preserved
loop-file-preserved g c =
    let passes = is_whole_by c.args.core.now (attr_at c.args.regions.now) c.args.row in
    let row = c.args.row in
    let files = c.loop-file.files in
    let count = c.loop-file.count in
    let file = c.in-Some.file in
    let next = c.in-Some.ensures in
    let within = whole_within c.args.core.now.store.sizes.items (attr_at c.args.regions.now) row.first (row.end - row.first) file next.1 in
    let room : count < length files = omega (arith, within, next.0, c.loop-file.invariant.lists.few, c.loop-file.auto.files, c.requires.room) in
    let long = length-set files count file in
    record {
      lists = subst (λ (n : ℕ). ListsBelow passes (set files count file) (count + 1) (n + 1)) (sym c.from-from.ensures)
          (lists_more passes files count c.loop-file.from file room next c.loop-file.invariant.lists);
      few = omega (arith, room, long);
    }

pub loop-file-smaller : goal.loop-file-smaller
loop-file-smaller g c =
    let row = c.args.row in
    let next = c.in-Some.ensures in
    let resized = whole_resized (is_resized_by c.args.core.now) (attr_at c.args.regions.now) row.first (row.end - row.first) c.in-Some.file next.1 in
    let high = c.requires.numbers c.in-Some.file resized in
    omega (arith, next.0, high, c.from-from.ensures)

pub returns-clause-listed : goal.returns-clause-listed
returns-clause-listed g c =
    lists_all (is_whole_by c.args.core.now (attr_at c.args.regions.now) c.args.row) c.loop-file.files c.loop-file.count c.loop-file.from c.in_default.ensures c.loop-file.invariant.lists

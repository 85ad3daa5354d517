use Rattle.std.proofs.Common.{◌≡◌, ◌≤◌, ◌+◌, ◌∙◌, List, length, drop, get_or, ap, sym, subst, arith}
use Rattle.std.specs.Prelude.{MatchOption}
use Rattle.std.proofs.lemmas.Option.{slice_get-get_or, same_Some}
use Rattle.directories.proofs.Said.{no_extent}
use Rattle.directories.specs.declared.entry.Extent.{Extent}
use Rattle.growth.specs.Parts.{new_extents, IsApartFrom, IsMet, TakeNone, TakesHomeOf}
use Rattle.growth.specs.declared.changes.Change.{Change}
use Rattle.growth.proofs.{Listed.{no_change, rest_of}, Found.{none_met, one_met}, Checked.{taken, shared_own, shared_later, new_there, extent_more, all_extents}}
use Rattle.growth.proofs.checking.check_extents.Goals as goal

pub returns-in-Some-clause-refused : goal.returns-in-Some-clause-refused
returns-in-Some-clause-refused c =
    let changes = c.args.changes.now in
    let own = c.new_extents-own.result.now in
    let d = get_or changes c.args.i no_change in
    let k = c.loop-k.k in
    let new = new_there c.args.before.now d own k c.new_extents-own.ensures.extents (omega arith) in
    λ pages homes. taken pages homes c.args.before.now changes c.requires.changes c.args.i d (slice_get-get_or changes c.args.i no_change c.requires.place) k (get_or own k no_extent) new
    c.in-Some.held c.in-Some.ensures

pub returns-then-is_some-clause-refused : goal.returns-then-is_some-clause-refused
returns-then-is_some-clause-refused c =
    let changes = c.args.changes.now in
    let own = c.new_extents-own.result.now in
    let d = get_or changes c.args.i no_change in
    let k = c.loop-k.k in
    let x = get_or own k no_extent in
    let new = new_there c.args.before.now d own k c.new_extents-own.ensures.extents (omega arith) in
    let met : (y : Extent) × IsMet (drop (k + 1) (new_extents c.args.before.now d)) x y =
    one_met (drop (k + 1) (new_extents c.args.before.now d)) x c.find_meeting.result
    (subst (λ (xs : List Extent). MatchOption c.find_meeting.result (IsApartFrom xs x) (IsMet xs x)) (rest_of own (k + 1) ∙ ap (λ (xs : List Extent). drop (k + 1) xs) c.new_extents-own.ensures.extents) c.find_meeting.ensures)
    c.if-is_some.ensures in
    λ pages homes. shared_own pages homes c.args.before.now changes c.requires.changes c.args.i d (slice_get-get_or changes c.args.i no_change c.requires.place) k x new met.0 met.1

pub returns-in-Some-find_taking-clause-refused : goal.returns-in-Some-find_taking-clause-refused
returns-in-Some-find_taking-clause-refused c =
    let changes = c.args.changes.now in
    let own = c.new_extents-own.result.now in
    let d = get_or changes c.args.i no_change in
    let k = c.loop-k.k in
    let x = get_or own k no_extent in
    let new = new_there c.args.before.now d own k c.new_extents-own.ensures.extents (omega arith) in
    λ pages homes. shared_later pages homes c.args.before.now changes c.requires.changes c.args.i d (slice_get-get_or changes c.args.i no_change c.requires.place) k x new
    c.in-Some-find_taking.other
    (subst (λ (cs : List Change). TakesHomeOf c.args.before.now cs x c.in-Some-find_taking.other) (rest_of changes (c.args.i + 1)) c.in-Some-find_taking.ensures)

pub loop-k-preserved : goal.loop-k-preserved
loop-k-preserved c = λ d is.
    let changes = c.args.changes.now in
    let own = c.new_extents-own.result.now in
    let k = c.loop-k.k in
    let x = get_or own k no_extent in
    let same : get_or changes c.args.i no_change ≡ d = same_Some _ d (sym (slice_get-get_or changes c.args.i no_change c.requires.place) ∙ is) in
    extent_more c.args.before.now d (drop (c.args.i + 1) changes) own k (c.new_extents-own.ensures.extents ∙ ap (new_extents c.args.before.now) same) (c.loop-k.invariant d is)
    c.in_default.ensures
    (subst (λ (xs : List Extent). IsApartFrom xs x) (rest_of own (k + 1)) (none_met _ x c.find_meeting.result c.find_meeting.ensures c.if-is_some.ensures))
    (subst (λ (cs : List Change). TakeNone c.args.before.now cs x) (rest_of changes (c.args.i + 1)) c.in_default-find_taking.ensures)

pub returns-clause-good : goal.returns-clause-good
returns-clause-good c = λ d is.
    let changes = c.args.changes.now in
    let same : get_or changes c.args.i no_change ≡ d = same_Some _ d (sym (slice_get-get_or changes c.args.i no_change c.requires.place) ∙ is) in
    let all : length c.new_extents-own.result.now ≤ c.loop-k.k = omega arith in
    all_extents c.args.before.now d (drop (c.args.i + 1) changes) c.new_extents-own.result.now c.loop-k.k (c.new_extents-own.ensures.extents ∙ ap (new_extents c.args.before.now) same) all
    (c.loop-k.invariant d is)

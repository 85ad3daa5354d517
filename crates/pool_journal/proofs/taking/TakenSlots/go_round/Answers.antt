use Rattle.std.proofs.Common.{◌*◌, ◌∙◌, ◌++◌, take, not, ap, arith}
use Rattle.std.proofs.lemmas.List.{append_assoc}
use Rattle.pool_journal.proofs.{Found.{taken_twice}, Round.{body_long, body_from, body_all, body_before}}
use Rattle.pool_journal.specs.Maps.{entries_of, free_among, behind}
use Rattle.pool_journal.proofs.taking.TakenSlots.go_round.Goals as goal

pub returns-clause-listed : goal.returns-clause-listed
returns-clause-listed c = λ m fits.
    let map = c.args.map.now in
    let most = c.args.most in
    let body = c.args.start.second in
    let p = c.args.start.place in
    let numbers = c.body-numbers.result.now in
    let ours = c.body-numbers.ensures in
    let theirs = c.body.ensures in
    let one = body_from map body numbers ours.first ours.second m p fits in
    let two = body_all map (not body) c.body.result.now theirs.first theirs.second m fits in
    let three = body_before map body numbers ours.first ours.second p (let long = body_long map body numbers ours.first ours.second c.requires.alike in omega (arith, long, c.requires.start)) in
    let xs = free_among (behind p (entries_of map body)) body (504 * m) in
    let ys = free_among (entries_of map (not body)) (not body) (504 * m) in
    let zs = free_among (entries_of map body) body p in
    c.add-3.ensures.added ∙ ap (λ l. take most (c.add-2.new.self.slots.items ++ l)) three
    ∙ ap (λ l. take most (l ++ zs)) (c.add-2.ensures.added ∙ ap (λ l. take most (c.add.new.self.slots.items ++ l)) two
    ∙ ap (λ l. take most (l ++ ys)) (c.add.ensures.added ∙ ap (λ l. take most (c.args.self.now.slots.items ++ l)) one ∙ ap (λ l. take most (l ++ xs)) c.requires.empty)
    ∙ taken_twice most xs ys)
    ∙ taken_twice most (xs ++ ys) zs ∙ ap (take most) (append_assoc xs ys zs)

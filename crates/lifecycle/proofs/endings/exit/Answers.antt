use Rattle.lifecycle.proofs.Names.{user_end, ◌≡◌, ◌+◌, ℕ, subst, arith, rules, picture_of, returned_any, IsRowRemapped, none_left_forgot, row_forgot, IsWithoutTables}
use Rattle.lifecycle.proofs.{Ending.{spare_root, ended, none_taken_ended}, Returned.{none_taken, still_framed}}
use Rattle.lifecycle.proofs.endings.exit.Goals as goal

pub remove_process-requires-clause-spare : goal.remove_process-requires-clause-spare
remove_process-requires-clause-spare g c r root =
    let end = c.user_end-end.result in
    let sum : 0 + end ≡ user_end g.M.Levels.mode = omega (arith, c.user_end-end.ensures.end) in
    let left = none_left_forgot c.args.core.now c.clear_row.new.core c.forget_row.new.core c.args.pid 0 end c.clear_row.ensures c.forget_row.ensures in
    spare_root (picture_of c.forget_row.new.core) c.args.pid r c.forget_row.ensures.fit root
    (subst (λ (n : ℕ). IsWithoutTables (picture_of c.forget_row.new.core) c.args.pid 0 n) sum left)

pub returns : goal.returns
returns g c =
    let first = picture_of c.args.core.now in
    let old = picture_of c.forget_row.new.core in
    let end = c.user_end-end.result in
    let same = c.user_end-end.ensures.end in
    let sum : 0 + end ≡ user_end g.M.Levels.mode = omega (arith, same) in
    let left = none_left_forgot c.args.core.now c.clear_row.new.core c.forget_row.new.core c.args.pid 0 end c.clear_row.ensures c.forget_row.ensures in
    let forgot = row_forgot c.args.core.now c.clear_row.new.core c.forget_row.new.core c.args.pid 0 end c.clear_row.ensures c.forget_row.ensures (omega (arith, same)) in
    let was = subst (λ (n : ℕ). IsRowRemapped first old c.args.pid 0 n (first.at c.args.pid)) same forgot in
    let gone = ended first old (picture_of c.remove_process.new.self) c.args.pid c.remove_process.ensures.exits.0 c.requires.fit was
    (subst (λ (n : ℕ). IsWithoutTables old c.args.pid 0 n) sum left) c.remove_process.ensures.exits.1 in
    let frames = none_taken_ended first old (picture_of c.remove_process.new.self) c.args.pid c.remove_process.ensures.exits.0 c.remove_process.ensures.exits.1
    (none_taken first old c.args.pid c.requires.fit was.fit c.args.core.now.sound c.forget_row.new.core.sound was.row.root
    (returned_any first old c.args.pid 0 (0 + user_end g.M.Levels.mode) was.returned) (still_framed first old _ was.files)) in
    search rules

use Rattle.inspection.proofs.{Entries.{some_at}, Names.{top_level, ◌≡◌, ◌≢◌, ℕ, ◌/◌, ◌<◌, ◌≤◌, subst, arith, IsTableOf, page_entry, picture_of, none_between}}
use Rattle.inspection.proofs.pages.past_empty.Goals as goal

pub table_of-requires-clause-root : goal.table_of-requires-clause-root
table_of-requires-clause-root g c = c.requires.fit.rooted.roots c.args.pid c.args.root.0 c.requires.lives

pub returns-clause-passed : goal.returns-clause-passed
returns-clause-passed g c k inside from below =
    let t = c.args.core.now.frames in
    let next = c.next_entry.ensures in
    let P : ℕ → Type 0 = λ x. (root p : ℕ) → IsTableOf t (top_level g.M.Levels.mode) root (p / 512) c.in-Ok.table.0 → x ≤ p → p < c.next_entry.result
    → page_entry t (top_level g.M.Levels.mode) root p ≡ 0 in
    none_between (picture_of c.args.core.now) c.args.pid c.args.root.0 c.in-Ok.table.0 c.args.page c.args.page c.next_entry.result c.table_end.result
    c.requires.lives c.in-Ok.ensures.found (omega arith) next.within (omega (arith, c.table_end.ensures)) (subst P c.get.ensures.number next.passed) k inside from below

pub returns-clause-some : goal.returns-clause-some
returns-clause-some g c here =
    let t = c.args.core.now.frames in
    let found = c.next_entry.ensures.found in
    let less : c.next_entry.result < c.table_end.result = omega (arith, here, c.table_end.ensures) in
    let P : ℕ → Type 0 = λ x. IsTableOf t (top_level g.M.Levels.mode) c.args.root.0 (x / 512) c.in-Ok.table.0 in
    let Q : ℕ → Type 0 = λ x. (root : ℕ) → IsTableOf t (top_level g.M.Levels.mode) root (x / 512) c.in-Ok.table.0 → page_entry t (top_level g.M.Levels.mode) root x ≢ 0 in
    some_at (picture_of c.args.core.now) c.args.pid c.args.root.0 c.args.page c.in-Ok.table.0 c.requires.lives c.in-Ok.ensures.found
    (subst Q here (λ root row. found root row less))

use Rattle.std.proofs.Common.{◌≡◌, ◌+◌, ◌-◌, ◌*◌, ℕ, List, take, drop, arith, ap, subst, OnErr, Option}
use Rattle.directories.specs.Entries.{entry_bytes, SaysEntry}
use Rattle.directories.specs.declared.entry.Entry.{Entry}
use Rattle.directories.proofs.Said.{refused}
use Rattle.directories.proofs.entries.read_entry_into.Goals as goal

pub returns-clause-none : goal.returns-clause-none
returns-clause-none c =
    let bytes : List ℕ = take (256 * c.args.place + 256 - 256 * c.args.place) (drop (256 * c.args.place) c.args.page.now) in
    let wide : 256 * c.args.place + 256 - 256 * c.args.place ≡ 256 = omega arith in
    let is : bytes ≡ entry_bytes c.args.page.now c.args.place = ap (λ n. take n (drop (256 * c.args.place) c.args.page.now)) wide in
    subst (λ (xs : List ℕ). OnErr c.decode.result ((e : Option Entry) → SaysEntry xs e → ⊥)) is (refused bytes c.decode.result c.decode.ensures.fault)

use Rattle.std.proofs.Common.{ℕ, List, Option, ◌+◌, ◌*◌, refl, sym, subst, ⊎_elim, arith, ◌∙◌, ◌≡◌, ◌≤◌}
use Rattle.std.proofs.lemmas.Bool.{cases_eq}
use Rattle.directories.specs.{Entries.{SaysEntry, entry_bytes}, Layouts.{entry_in}, declared.entry.Entry.{Entry}}
use Rattle.pool_growth.specs.Asked.{entries_then}
use Rattle.pool_growth.proofs.Listed.{entry_at, holds_of}
use Rattle.pool_growth.proofs.front.page_then.Goals as goal

pub loop-place-init : goal.loop-place-init
loop-place-init c = record { size = refl; says = λ i less. absurd (omega (arith, less)) }

pub write_entry-requires-clause-few : goal.write_entry-requires-clause-few
write_entry-requires-clause-few c =
    let entry : c.copied-entry.result ≡ entry_in (entries_then c.args.directory.now c.args.changes.now) (16 * c.args.page + c.loop-place.place) = c.copied-entry.ensures ∙ c.entry_then.ensures
    ∙ sym (entry_at c.requires.changes.0 c.args.directory.now c.args.changes.now c.requires.changes.1 c.args.page c.loop-place.place c.requires.page c.loop-place-test.true) in
    holds_of (λ e. e.extent_count ≤ 30) c.copied-entry.result (λ e is. c.requires.few (16 * c.args.page + c.loop-place.place) e (sym entry ∙ is))

pub loop-place-preserved : goal.loop-place-preserved
loop-place-preserved c =
    let inv = c.loop-place.invariant in
    let q = c.args.page in
    let place = c.loop-place.place in
    let below = c.loop-place-test.true in
    let entries = entries_then c.args.directory.now c.args.changes.now in
    let entry : c.copied-entry.result ≡ entry_in entries (16 * q + place) = c.copied-entry.ensures ∙ c.entry_then.ensures
    ∙ sym (entry_at c.requires.changes.0 c.args.directory.now c.args.changes.now c.requires.changes.1 q place c.requires.page below) in
    let w = c.write_entry.ensures in
    record {
      size = c.type_inv.bytes;
      says = λ i less. ⊎_elim
          (λ same. subst (λ (n : ℕ). SaysEntry (entry_bytes c.write_entry.new.page n) (entry_in entries (16 * q + n))) (sym same)
          (subst (λ (e : Option Entry). SaysEntry (entry_bytes c.write_entry.new.page place) e) entry w.entry))
          (λ other. subst (λ (bytes : List ℕ). SaysEntry bytes (entry_in entries (16 * q + i))) (sym (w.others i (omega (arith, less, below)) other)) (inv.says i (omega (arith, less, other))))
          (cases_eq i place);
    }

pub returns : goal.returns
returns c =
    let inv = c.loop-place.invariant in
    let end : c.loop-place.place ≡ 16 = omega (arith, c.loop-place-test.false, c.loop-place.auto.place-end) in
    record { size = inv.size; says = λ i below. inv.says i (omega (arith, below, end)) }

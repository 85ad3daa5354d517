use Rattle.upgrades.proofs.Names.{◌≡◌, ◌+◌, ◌*◌, ℕ, List, Option, refl, sym, subst, ⊎_elim, arith, rules, cases_eq}
use Rattle.directories.specs.{Entries.{SaysEntry, entry_bytes}, declared.entry.Entry.{Entry}}
use Rattle.upgrades.specs.NewPool.{entry_kept, files_in}
use Rattle.upgrades.proofs.new_directory.directory_page.Goals as goal

pub loop-place-init : goal.loop-place-init
loop-place-init c = record { size = refl; says = λ i less. absurd (omega (arith, less)) }

pub loop-place-preserved : goal.loop-place-preserved
loop-place-preserved c =
    let inv = c.loop-place.invariant in
    let files = files_in c.args.files.now in
    let q = c.args.page in
    let place = c.loop-place.place in
    let below = c.loop-place-test.true in
    let entry = c.new_entry-entry.ensures in
    let w = c.write_entry.ensures in
    record {
      size = search rules;
      says = λ i less. ⊎_elim
          (λ same. subst (λ (n : ℕ). SaysEntry (entry_bytes c.write_entry.new.page n) (entry_kept files (16 * q + n))) (sym same)
          (subst (λ (e : Option Entry). SaysEntry (entry_bytes c.write_entry.new.page place) e) entry.is w.entry))
          (λ other. subst (λ (bytes : List ℕ). SaysEntry bytes (entry_kept files (16 * q + i))) (sym (w.others i (omega (arith, less, below)) other)) (inv.says i (omega (arith, less, other))))
          (cases_eq i place);
    }

pub returns : goal.returns
returns c =
    let inv = c.loop-place.invariant in
    let end : c.loop-place.place ≡ 16 = omega (arith, c.loop-place-test.false, c.loop-place.auto.place-end) in
    record { size = inv.size; says = λ i below. inv.says i (omega (arith, below, end)) }

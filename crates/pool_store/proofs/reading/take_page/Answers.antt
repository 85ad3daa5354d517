use Rattle.std.proofs.Common.{rules, ◌≡◌, ◌+◌, ℕ, List, length, set, sym, ap, subst, replicate}
use Rattle.std.proofs.lemmas.Slice.Eq.{bytes_eq-Decides}
use Rattle.pool_store.proofs.Entries.{fills_none, fills_one, on_fault}
use Rattle.pool_store.specs.Reading.{AppendsPage, HasNoEntry}
use Rattle.pool_store.proofs.reading.take_page.Goals as goal

pub returns-then-eq-clause-taken : goal.returns-then-eq-clause-taken
returns-then-eq-clause-taken c = subst (λ (bytes : List ℕ). AppendsPage bytes 16 c.args.entries.now.items c.take_blank.new.entries.items)
    (sym ((bytes_eq-Decides c.args.page.now (replicate 4096 0)).0 (sym c.if-eq.ensures))) c.take_blank.ensures.taken

pub loop-place-init : goal.loop-place-init
loop-place-init c = (
  fills_none c.args.page.now (replicate 4096 0) c.args.entries.now.items c.take_blank.new.entries.items c.take_blank.ensures.taken,
  c.take_blank.ensures.len,
  c.take_blank.ensures.capacity,
)

pub loop-place-preserved : goal.loop-place-preserved
loop-place-preserved c =
    let inv = c.loop-place.invariant in
    let old = c.args.entries.now in
    let at : c.len-start.result ≡ length old.items = search rules in (
      fills_one c.args.page.now c.loop-place.place old.items c.loop-place.entries.items _ c.read_entry_into.new.to c.loop-place-test.true inv.0 c.in_ok-read_entry_into.ensures.entry
          (ap (λ n. set c.loop-place.entries.items (n + c.loop-place.place) c.read_entry_into.new.to) at),
      inv.1,
      inv.2,
    )

pub returns-in_err-read_entry_into-clause-none : goal.returns-in_err-read_entry_into-clause-none
returns-in_err-read_entry_into-clause-none c = on_fault c.from_residual.result (HasNoEntry c.args.page.now) (c.loop-place.place, c.loop-place-test.true, c.in_err-read_entry_into.ensures.none)

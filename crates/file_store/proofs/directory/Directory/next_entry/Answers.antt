use Rattle.file_store.proofs.Names.{◌≡◌, ◌*◌, ◌≤◌, List, ℕ, sym, ◌∙◌, ap, subst, length, arith, refl, rules, false≢true, take_rest, none-some, same_Some}
use Rattle.file_store.specs.{Directory.{entry_in, decoded, home_end, IsHomeOf, IsZero}, Directory.IsBadDirectory.{NotZero, Outside, Overlap}}
use Rattle.file_store.proofs.{Entries.{entry_in-inside, good_more}, directory.Directory.next_entry.Goals.{then-end-homes-via-then-end-homes, then-end-homes-via-else-end-homes+then-overlaps_any}}
use Rattle.file_store.proofs.directory.Directory.next_entry.Goals as goal

pub returns-then-is_zero-clause-next : goal.returns-then-is_zero-clause-next
returns-then-is_zero-clause-next c =
    let here : c.decode.result ≡ entry_in c.args.sector.now (length c.args.earlier.now) = c.decode.ensures.entry ∙ ap decoded (take_rest c.args.sector.now (8 * length c.args.earlier.now)) ∙ sym (entry_in-inside c.args.sector.now (length c.args.earlier.now) c.requires.room) in
    record {
      entry = sym c.in_default.is ∙ here;
      fits = search rules;
      good = good_more c.args.homes c.args.sector.now (length c.args.earlier.now) c.requires.good
          (λ _. subst (λ (bytes : List ℕ). IsZero bytes) (take_rest c.args.sector.now (8 * length c.args.earlier.now)) (c.if-is_zero.ensures.0 refl))
          (λ e is. absurd (none-some e (sym c.in_default.is ∙ here ∙ is)))
          (λ f h a b less is is' in_a in_b. absurd (none-some b (sym c.in_default.is ∙ here ∙ is')));
    }

pub returns-else-is_zero-clause-bad : goal.returns-else-is_zero-clause-bad
returns-else-is_zero-clause-bad c =
    let here : c.decode.result ≡ entry_in c.args.sector.now (length c.args.earlier.now) = c.decode.ensures.entry ∙ ap decoded (take_rest c.args.sector.now (8 * length c.args.earlier.now)) ∙ sym (entry_in-inside c.args.sector.now (length c.args.earlier.now) c.requires.room) in
    NotZero (length c.args.earlier.now) c.requires.room (sym here ∙ c.in_default.is)
    (λ zero. absurd (false≢true (c.if-is_zero.ensures.1 (subst (λ (bytes : List ℕ). IsZero bytes) (sym (take_rest c.args.sector.now (8 * length c.args.earlier.now))) zero))))

pub returns-then-end-homes-clause-bad : goal.returns-then-end-homes-clause-bad
returns-then-end-homes-clause-bad c =
    let here : c.decode.result ≡ entry_in c.args.sector.now (length c.args.earlier.now) = c.decode.ensures.entry ∙ ap decoded (take_rest c.args.sector.now (8 * length c.args.earlier.now)) ∙ sym (entry_in-inside c.args.sector.now (length c.args.earlier.now) c.requires.room) in
    elim c.then-end-homes.branch [
      | then-end-homes-via-then-end-homes w ↦ Outside (length c.args.earlier.now) c.in-Some.entry (sym here ∙ c.in-Some.is) (omega (arith, w.if-end-homes.true, c.end.ensures))
      | then-end-homes-via-else-end-homes+then-overlaps_any w ↦
          let o = w.overlaps_any.ensures.some w.if-overlaps_any.true in
          Overlap o.0 (length c.args.earlier.now) o.1 o.2 c.in-Some.entry o.3 (sym (c.requires.read.each o.0 o.3) ∙ o.4) (sym here ∙ c.in-Some.is) o.5 o.6
    ]

pub returns-clause-next : goal.returns-clause-next
returns-clause-next c =
    let here : c.decode.result ≡ entry_in c.args.sector.now (length c.args.earlier.now) = c.decode.ensures.entry ∙ ap decoded (take_rest c.args.sector.now (8 * length c.args.earlier.now)) ∙ sym (entry_in-inside c.args.sector.now (length c.args.earlier.now) c.requires.room) in
    let inside : home_end c.in-Some.entry ≤ c.args.homes = omega (arith, c.if-end-homes.false, c.end.ensures) in
    record {
      entry = sym c.in-Some.is ∙ here;
      fits = search rules;
      good = good_more c.args.homes c.args.sector.now (length c.args.earlier.now) c.requires.good
          (λ none. absurd (none-some c.in-Some.entry (sym none ∙ sym here ∙ c.in-Some.is)))
          (λ e is. subst (λ x. home_end x ≤ c.args.homes) (same_Some c.in-Some.entry e (sym c.in-Some.is ∙ here ∙ is)) inside)
          (λ f h a b less is is' in_a in_b. c.overlaps_any.ensures.none c.if-overlaps_any.false f h a less (c.requires.read.each f less ∙ is) in_a
          (subst (λ x. IsHomeOf x h) (sym (same_Some c.in-Some.entry b (sym c.in-Some.is ∙ here ∙ is'))) in_b));
    }

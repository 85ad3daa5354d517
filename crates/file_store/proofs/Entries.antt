-- Directory sectors, entry by entry.
use Rattle.file_store.proofs.Names.{◌≡◌, ℕ, ◌+◌, ◌<◌, ◌≤◌, ⊎_elim, List, length, get_or, take, set, Option, Some, None, sym, subst, ◌∙◌, arith, cases_eq, cases_lt, get_or-take, get_or-set_same, get_or-set_other, get_or_past, length-take-le}
use Rattle.file_store.{proofs.Names.{none-some, nat_tests, IfSome}, specs.Directory.{decoded, entry_in, entry_bytes, IsZero, home_end, IsHomeOf, IsBadDirectory, IsSoundDirectory, AreGood, AreEntries, IsBadDirectory.{NotZero, Outside}}}
use Rattle.{file_store.specs.{Directory.IsBadDirectory.{Overlap}, declared.directory.Entry.{Entry}}, std.specs.Prelude.{◌^◌}}

pub entry_in-inside : (sector : List ℕ) (f : ℕ) → f < 64 → entry_in sector f ≡ decoded (entry_bytes sector f)
unfolding entry_in
entry_in-inside sector f lt = grind (arith, nat_tests)

pub entry_in-outside : (sector : List ℕ) (f : ℕ) → 64 ≤ f → entry_in sector f ≡ None
unfolding entry_in
entry_in-outside sector f le = grind (arith, nat_tests)

pub below_64 : (sector : List ℕ) (f : ℕ) (e : Entry) → entry_in sector f ≡ Some e → f < 64
below_64 sector f e is = ⊎_elim (λ lt. lt) (λ le. absurd (none-some e (sym (entry_in-outside sector f le) ∙ is))) (cases_lt f 64)

pub good_more : (homes : ℕ) (sector : List ℕ) (n : ℕ) → AreGood homes sector n
    → (entry_in sector n ≡ None → IsZero (entry_bytes sector n))
    → ((e : Entry) → entry_in sector n ≡ Some e → home_end e ≤ homes)
    → ((f h : ℕ) (a b : Entry) → f < n → entry_in sector f ≡ Some a → entry_in sector n ≡ Some b → IsHomeOf a h → IsHomeOf b h → ⊥)
    → AreGood homes sector (n + 1)
good_more homes sector n good zero within apart = record {
  zero = λ f lt. ⊎_elim (λ e. subst (λ k. entry_in sector k ≡ None → IsZero (entry_bytes sector k)) (sym e) zero) (λ ne. good.zero f (omega (arith, lt, ne))) (cases_eq f n);
  within = λ f x lt. ⊎_elim (λ e. subst (λ k. entry_in sector k ≡ Some x → home_end x ≤ homes) (sym e) (within x)) (λ ne. good.within f x (omega (arith, lt, ne))) (cases_eq f n);
  apart = λ f g h a b less lt is. ⊎_elim
      (λ e is'. apart f h a b (omega (arith, less, e)) is (subst (λ k. entry_in sector k ≡ Some b) e is'))
      (λ ne. good.apart f g h a b less (omega (arith, lt, ne)) is) (cases_eq g n);
}

pub entries_front : (sector : List ℕ) (entries : List (Option Entry)) (n : ℕ) → n ≤ length entries → AreEntries sector entries n → AreEntries sector (take n entries) (length (take n entries))
entries_front sector entries n le all = record {
  each = λ f lt. let lt' : f < n = omega (arith, lt, length-take-le n entries le) in get_or-take n entries f None lt' ∙ all.each f lt';
}

pub entries_more : (sector : List ℕ) (entries : List (Option Entry)) (n : ℕ) (e : Option Entry) → n < length entries → AreEntries sector entries n → e ≡ entry_in sector n
    → AreEntries sector (set entries n e) (n + 1)
entries_more sector entries n e inside all is = record {
  each = λ f lt. ⊎_elim
      (λ same. subst (λ k. get_or (set entries n e) k None ≡ entry_in sector k) (sym same) (get_or-set_same entries n e None inside ∙ is))
      (λ ne. get_or-set_other entries n f e None ne ∙ all.each f (omega (arith, lt, ne)))
      (cases_eq f n);
}

pub entries_all : (sector : List ℕ) (entries : List (Option Entry)) → length entries ≡ 64 → AreEntries sector entries 64 → (f : ℕ) → get_or entries f None ≡ entry_in sector f
entries_all sector entries size all f = ⊎_elim (all.each f) (λ le. get_or_past entries f None (omega (arith, size, le)) ∙ sym (entry_in-outside sector f le)) (cases_lt f 64)

-- a sector of good entries alone is not bad
pub good_directory : (homes : ℕ) (sector : List ℕ) → AreGood homes sector 64 → IsBadDirectory homes sector → ⊥
good_directory homes sector good (NotZero f lt none not_zero) = not_zero (good.zero f lt none)
good_directory homes sector good (Outside f e is past) = omega (arith, good.within f e (below_64 sector f e is) is, past)
good_directory homes sector good (Overlap f g h a b less is is' in_a in_b) = good.apart f g h a b less (below_64 sector g b is') is is' in_a in_b

-- and its entries are sound
pub good_is_sound : (homes : ℕ) (sector : List ℕ) (entry : ℕ → Option Entry) → AreGood homes sector 64 → ((f : ℕ) → entry f ≡ entry_in sector f) → IsSoundDirectory homes entry
good_is_sound homes sector entry good same = record {
  within = λ f e is. good.within f e (below_64 sector f e (sym (same f) ∙ is)) (sym (same f) ∙ is);
  apart = λ f g h a b less is is'. good.apart f g h a b less (below_64 sector g b (sym (same g) ∙ is')) (sym (same f) ∙ is) (sym (same g) ∙ is');
}

pub fits_in : (o : Option Entry) (e : Entry) → IfSome o (λ x. x.info.length < 2 ^ 32) → o ≡ Some e → e.info.length < 2 ^ 32
fits_in o e h is = subst (λ x. IfSome x (λ y. y.info.length < 2 ^ 32)) is h

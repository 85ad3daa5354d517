-- The table's array when a run is put behind the others.
use Rattle.std.proofs.{Common.{◌≡◌, ℕ, zero, suc, ◌-◌, ◌<◌, ◌≤◌, Bool, true, false, if◌then◌else◌, refl, sym, ◌∙◌, ap, subst, arith, List, [], ◌∷◌, length, take, set, get_or, get_or-take, true≢false}, lemmas.List.{length-take-le}}
use Rattle.{vm_types.specs.declared.region.Backing.TheVariants.{Anon}, regions.{proofs.ListLemmas.{run_at}, specs.{Run.{IsRun, joins, merged}, RunList.{IsMaximal, joins_last, pushed}, declared.run.Run.{Run}}}}

pub joins_last-take : (runs : List Run) (k : ℕ) (d next : Run) → k < length runs → joins_last (take (suc k) runs) next ≡ joins (get_or runs k d) next
joins_last-take [] k d next h = absurd (omega arith)
joins_last-take (run ∷ runs) zero d next h = refl
joins_last-take (run ∷ []) (suc k) d next h = absurd (omega arith)
joins_last-take (run ∷ (other ∷ runs)) (suc k) d next h = joins_last-take (other ∷ runs) k d next (omega arith)

pub merged_at : (runs : List Run) (k : ℕ) (d next : Run) → k < length runs → joins (get_or runs k d) next ≡ true → take (suc k) (set runs k (merged (get_or runs k d) next)) ≡ pushed (take (suc k) runs) next
merged_at [] k d next h e = absurd (omega arith)
merged_at (run ∷ runs) zero d next h e = sym (ap (λ (b : Bool). if b then merged run next ∷ [] else run ∷ next ∷ []) e)
merged_at (run ∷ []) (suc k) d next h e = absurd (omega arith)
merged_at (run ∷ (other ∷ runs)) (suc k) d next h e = ap (λ (l : List Run). run ∷ l) (merged_at (other ∷ runs) k d next (omega arith) e)

pub added_at : (runs : List Run) (n : ℕ) (next : Run) → n < length runs → joins_last (take n runs) next ≡ false → take (suc n) (set runs n next) ≡ pushed (take n runs) next
added_at [] n next h e = absurd (omega arith)
added_at (run ∷ runs) zero next h e = refl
added_at (run ∷ []) (suc n) next h e = absurd (omega arith)
added_at (run ∷ (other ∷ runs)) (suc zero) next h e = sym (ap (λ (b : Bool). if b then merged run next ∷ [] else run ∷ next ∷ []) e)
added_at (run ∷ (other ∷ runs)) (suc (suc n)) next h e = ap (λ (l : List Run). run ∷ l) (added_at (other ∷ runs) (suc n) next (omega arith) e)

pub length_added : (runs : List Run) (next : Run) → joins_last runs next ≡ false → length (pushed runs next) ≡ suc (length runs)
length_added [] next e = refl
length_added (run ∷ []) next e = ap (λ (b : Bool). length (if b then merged run next ∷ [] else run ∷ next ∷ [])) e
length_added (run ∷ (other ∷ runs)) next e = ap suc (length_added (other ∷ runs) next e)

-- the same at a length that isn't 0

less_one : (n : ℕ) → 0 < n → suc (n - 1) ≡ n
less_one n h = omega arith

pub joins_last-is : (runs : List Run) (n : ℕ) (d next : Run) → 0 < n → n ≤ length runs → joins_last (take n runs) next ≡ joins (get_or runs (n - 1) d) next
joins_last-is runs n d next a b = ap (λ (k : ℕ). joins_last (take k runs) next) (sym (less_one n a)) ∙ joins_last-take runs (n - 1) d next (omega arith)

pub merged_last : (runs : List Run) (n : ℕ) (d next : Run) → 0 < n → n ≤ length runs → joins_last (take n runs) next ≡ true → take n (set runs (n - 1) (merged (get_or runs (n - 1) d) next)) ≡ pushed (take n runs) next
merged_last runs n d next a b e =
    let e2 : joins (get_or runs (n - 1) d) next ≡ true = sym (joins_last-is runs n d next a b) ∙ e in
    subst (λ (k : ℕ). take k (set runs (n - 1) (merged (get_or runs (n - 1) d) next)) ≡ pushed (take k runs) next) (less_one n a) (merged_at runs (n - 1) d next (omega arith) e2)

pub some_last : (runs : List Run) (n : ℕ) (next : Run) → joins_last (take n runs) next ≡ true → 0 < n
some_last runs zero next e = absurd (true≢false (sym e))
some_last runs (suc n) next e = omega arith

-- the filler of the array, past the runs
abbrev pub unused : Run
unused = record { first = 0; end = 0; attr = record { prot = record { 0 = 0 }; backing = Anon } }

pub last_run : (mode : ℕ) (runs : List Run) (n : ℕ) (d : Run) → 0 < n → n ≤ length runs → IsMaximal mode 16 (take n runs) → IsRun mode (get_or runs (n - 1) d)
last_run mode runs n d a b m =
    subst (λ (r : Run). IsRun mode r) (get_or-take n runs (n - 1) d (omega arith)) (run_at mode 16 (take n runs) (n - 1) d m (omega (arith, a, length-take-le n runs b)))

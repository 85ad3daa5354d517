-- What processes name hangs on what stands behind their pages, and on no permission.
use Rattle.ranges.proofs.Names.{widest_end, Prot, Attr, with_prot, any_below, Maps, names, uses, is_named, in_row, protected, ◌≡◌, ℕ, true, Option, Some, None, refl, sym, ◌∙◌, inl, inr, cases_Bool, option_map, AreObjects, any-same}
use Rattle.ranges.proofs.Names.{any-more}

pub named-alike : (f g : Maps) (object page : ℕ) → ((p k : ℕ) → names (g p k) object page ≡ names (f p k) object page) → is_named g object page ≡ is_named f object page
unfolding is_named
named-alike f g object page same =
    any-same (λ p. any_below (λ k. names (g p k) object page) widest_end) (λ p. any_below (λ k. names (f p k) object page) widest_end) 65
    (λ p. any-same (λ k. names (g p k) object page) (λ k. names (f p k) object page) widest_end (λ k. same p k))

pub objects-alike : (f g : Maps) → ((p k object page : ℕ) → names (g p k) object page ≡ names (f p k) object page) → ((p k object : ℕ) → uses (g p k) object ≡ uses (f p k) object)
    → AreObjects f → AreObjects g
objects-alike f g same used objects = record {
  one_page = λ p q j k object page here there. objects.one_page p q j k object page (sym (same p j object page) ∙ here) (sym (same q k object page) ∙ there);
  below = λ p k object here. objects.below p k object (sym (used p k object) ∙ here);
}

names-prot : (prot : Prot) (a : Option Attr) (object page : ℕ) → names (option_map (with_prot prot) a) object page ≡ names a object page
names-prot prot None object page = refl
names-prot prot (Some a) object page = refl

uses-prot : (prot : Prot) (a : Option Attr) (object : ℕ) → uses (option_map (with_prot prot) a) object ≡ uses a object
uses-prot prot None object = refl
uses-prot prot (Some a) object = refl

pub names-protected : (map : ℕ → Option Attr) (first count : ℕ) (prot : Prot) (k object page : ℕ) → names (protected map first count prot k) object page ≡ names (map k) object page
names-protected map first count prot k object page = elim (cases_Bool (in_row first count k)) [
  | inl e ↦ rw e (names-prot prot (map k) object page)
  | inr e ↦ rw e refl
]

pub uses-protected : (map : ℕ → Option Attr) (first count : ℕ) (prot : Prot) (k object : ℕ) → uses (protected map first count prot k) object ≡ uses (map k) object
uses-protected map first count prot k object = elim (cases_Bool (in_row first count k)) [ inl e ↦ rw e (uses-prot prot (map k) object) | inr e ↦ rw e refl ]

pub named-imp : (f g : Maps) (object page : ℕ) → ((p k : ℕ) → names (f p k) object page ≡ true → names (g p k) object page ≡ true) → is_named f object page ≡ true → is_named g object page ≡ true
unfolding is_named
named-imp f g object page more here =
    any-more (λ p. any_below (λ k. names (f p k) object page) widest_end) (λ p. any_below (λ k. names (g p k) object page) widest_end) 65
    (λ p. any-more (λ k. names (f p k) object page) (λ k. names (g p k) object page) widest_end (λ k is. more p k is)) here

-- The pages of a new object are named by the mapping alone.
use Rattle.spaces.proofs.Names.{◌≡◌, ℕ, zero, suc, inl, inr, ◌⊎◌, ◌+◌, ◌-◌, ◌<◌, ◌≤◌, ◌==◌, Bool, true, false, Option, Some, None, IsSome, refl, sym, ap, ◌∙◌, subst, arith, eqb-true, eq-eqb, ne_eqb, and_parts, cases_Bool, cases_eq}
use Rattle.spaces.proofs.Names.{false≢true, true≢false, nat_tests, named_limit, object_limit, user_end, widest_end, MapSource, Common, Prot, Attr, Backing, attr_after, first_attr, Maps, names, uses, is_used, is_object_page, is_of_object}
use Rattle.spaces.proofs.{Names.{least_from, free_object, in_row, removed, replaced, IsUserMap, run_count, sizes, free-unused, least-clear, AreObjects, objects-fewer, with_map, without_maps, used_where, used_at}, Pages.{past_user}}
use Rattle.std.specs.Prelude.{if◌then◌else◌}
use Rattle.vm_types.specs.declared.region.Backing.TheVariants as Backings

-- the number that is found is one of those, or the one after them
least_within : (passes : ℕ → Bool) (n count : ℕ) → least_from passes n count ≤ n + count
unfolding least_from
least_within passes n zero = omega arith
least_within passes n (suc count) = let rest = least_within passes (n + 1) count in elim (cases_Bool (passes n)) [
  | inl t ↦ rw t (omega (arith, rest))
  | inr f ↦ rw f (omega arith)
]

pub free_within : (maps : Maps) → free_object maps < object_limit
free_within maps = let most = least_within (is_used maps) 0 named_limit in omega (arith, most)

-- an object that a process uses once the row is out was used before
used_before : (at : Maps) (pid first pages o : ℕ) → is_used (without_maps at pid first pages) o ≡ true → is_used at o ≡ true
used_before at pid first pages o is =
    let who = used_where (without_maps at pid first pages) o is in
    let k = who.2.0 in
    used_at at o who.0 who.1 (k, who.2.1, was who.0 k who.2.2)
  where
    row : (b : Bool) (a : Option Attr) → uses (if b then None else a) o ≡ true → uses a o ≡ true
    row true a e = absurd (false≢true e)
    row false a e = e

    was : (q k : ℕ) → uses (without_maps at pid first pages q k) o ≡ true → uses (at q k) o ≡ true
    was q k e = elim (cases_eq q pid) [
      | inl same ↦ (
          let here : uses (removed (at pid) first pages k) o ≡ true = rw (eq-eqb q pid same) at e in
          ap (λ (p : ℕ). uses (at p k) o) same ∙ row (in_row first pages k) (at pid k) here)
      | inr other ↦ rw (ne_eqb q pid other) at e
    ]

pub kept_or_gone : (b : Bool) (o : Option Attr) → ((if b then None else o) ≡ o) ⊎ ((if b then None else o) ≡ None)
kept_or_gone true o = inr refl
kept_or_gone false o = inl refl

wide : (mode k : ℕ) → k < user_end mode → k < widest_end
wide mode k low = let most = (sizes mode).most in omega (arith, low, most)

-- no process uses the new object
pub new_unused : (mode : ℕ) (at : Maps) (pid first pages : ℕ) → ((page : ℕ) → at 0 page ≡ None) → ((q : ℕ) → IsUserMap mode (at q)) → ((q : ℕ) → run_count mode (at q) ≤ 256)
    → is_used (without_maps at pid first pages) (free_object (without_maps at pid first pages)) ≡ false
new_unused mode at pid first pages none user few =
    let o = free_object at in
    let unused : is_used at o ≡ false = free-unused mode at none (λ q page high. past_user mode (at q) page (user q) high) few in
    let low : o < object_limit = free_within at in
    least-clear (is_used (without_maps at pid first pages)) 0 named_limit o (omega arith) (omega (arith, low)) (elim (cases_Bool (is_used (without_maps at pid first pages) o)) [
      | inl t ↦ absurd (true≢false (sym (used_before at pid first pages o t) ∙ unused))
      | inr f ↦ f
    ])

names_of : (b : Backing) (o page : ℕ) → is_object_page b o page ≡ true → is_of_object b o ≡ true
names_of (Backings.Common p) o page e = (and_parts (p.object == o) (p.page == page) e).0
names_of b o page e = e

-- what names a page of an object uses it
names_uses : (a : Option Attr) (o page : ℕ) → names a o page ≡ true → uses a o ≡ true
names_uses None o page e = e
names_uses (Some attr) o page e = names_of attr.backing o page e

-- the object and the page of a page of the mapping
new_used : (source : MapSource) (prot : Prot) (n i o : ℕ) → uses (Some (attr_after (first_attr source prot n) i)) o ≡ true → (source ≡ Common) × (n ≡ o)
new_used Common prot n i o e = (refl, eqb-true n o e)
new_used source prot n i o e = absurd (false≢true e)

new_named : (source : MapSource) (prot : Prot) (n i o page : ℕ) → names (Some (attr_after (first_attr source prot n) i)) o page ≡ true → i ≡ page
new_named Common prot n i o page e = let same = eqb-true (0 + i) page (and_parts (n == o) (0 + i == page) e).1 in omega (arith, same)
new_named source prot n i o page e = absurd (false≢true e)

some_used : (a : Option Attr) (o : ℕ) → uses a o ≡ true → IsSome a
some_used None o e = absurd (false≢true e)
some_used (Some attr) o e = refl

module _ (mode : ℕ) (at : Maps) (pid first pages : ℕ) (next : ℕ → Option Attr) (source : MapSource) (prot : Prot) (objects : AreObjects at)
    (user : (q : ℕ) → IsUserMap mode (at q)) (living : (q page : ℕ) → IsSome (at q page) → q < 65)
    (unused : source ≡ Common → is_used (without_maps at pid first pages) (free_object (without_maps at pid first pages)) ≡ false)
    (map : (page : ℕ) → next page ≡ replaced (at pid) first pages (first_attr source prot (free_object (without_maps at pid first pages))) page) where
  abbrev out : Maps
  out = without_maps at pid first pages

  abbrev attr : Attr
  attr = first_attr source prot (free_object out)

  pub record IsNew (q page : ℕ) : Type 0 where
    pub mine : q ≡ pid
    pub low : first ≤ page
    pub is : with_map at pid next q page ≡ Some (attr_after attr (page - first))

  each : (q page : ℕ) → (out q page ≡ at q page) ⊎ (out q page ≡ None)
  each q page = elim (cases_eq q pid) [
    | inl same ↦ elim (kept_or_gone (in_row first pages page) (at pid page)) [
      | inl e ↦ inl (rw (eq-eqb q pid same) (e ∙ ap (λ (p : ℕ). at p page) (sym same)))
      | inr e ↦ inr (rw (eq-eqb q pid same) e)
    ]
    | inr other ↦ inl (rw (ne_eqb q pid other) refl)
  ]

  fewer : AreObjects out
  fewer = objects-fewer at out each objects

  -- a page of the mapping, or one that stayed
  new_or_not : (q page : ℕ) → IsNew q page ⊎ (with_map at pid next q page ≡ out q page)
  new_or_not q page = elim (cases_eq q pid) [
    | inl same ↦ elim (cases_Bool (in_row first pages page)) [
      | inl inside ↦ inl (record {
        mine = same;
        low = grind (arith, nat_tests);
        is = rw (eq-eqb q pid same) (map page ∙ ap (λ (b : Bool). if b then Some (attr_after attr (page - first)) else at pid page) inside);
      })
      | inr outside ↦ inr (rw (eq-eqb q pid same)
          (map page ∙ ap (λ (b : Bool). if b then Some (attr_after attr (page - first)) else at pid page) outside
          ∙ sym (ap (λ (b : Bool). if b then None else at pid page) outside)))
    ]
    | inr other ↦ inr (rw (ne_eqb q pid other) refl)
  ]

  stayed : (q k o : ℕ) → uses (out q k) o ≡ true → is_used out o ≡ true
  stayed q k o e = elim (each q k) [
    | inl same ↦ (
        let some : IsSome (at q k) = subst (λ (a : Option Attr). IsSome a) same (some_used (out q k) o e) in
        used_at out o q (living q k some) (k, wide mode k ((user q).user_pages k some).1, e))
    | inr none ↦ absurd (false≢true (sym (ap (λ (a : Option Attr). uses a o) none) ∙ e))
  ]

  -- no page that stayed names the new object
  apart : (q k i o page : ℕ) → names (Some (attr_after attr i)) o page ≡ true → names (out q k) o page ≡ true → ⊥
  apart q k i o page new old =
      let is = new_used source prot (free_object out) i o (names_uses (Some (attr_after attr i)) o page new) in
      true≢false (sym (stayed q k o (names_uses (out q k) o page old)) ∙ ap (is_used out) (sym is.1) ∙ unused is.0)

  pub objects_mapped : AreObjects (with_map at pid next)
  objects_mapped = record {
    one_page = λ p q j k o page here there. elim (new_or_not p j) [
      | inl a ↦ elim (new_or_not q k) [
        | inl b ↦ (
            let first_one = new_named source prot (free_object out) (j - first) o page (sym (ap (λ (x : Option Attr). names x o page) a.is) ∙ here) in
            let second = new_named source prot (free_object out) (k - first) o page (sym (ap (λ (x : Option Attr). names x o page) b.is) ∙ there) in
            (let low_j = a.low in let low_k = b.low in omega (arith, first_one, second, low_j, low_k)))
        | inr b ↦ absurd (apart q k (j - first) o page (sym (ap (λ (x : Option Attr). names x o page) a.is) ∙ here) (sym (ap (λ (x : Option Attr). names x o page) b) ∙ there))
      ]
      | inr a ↦ elim (new_or_not q k) [
        | inl b ↦ absurd (apart p j (k - first) o page (sym (ap (λ (x : Option Attr). names x o page) b.is) ∙ there) (sym (ap (λ (x : Option Attr). names x o page) a) ∙ here))
        | inr b ↦ fewer.one_page p q j k o page (sym (ap (λ (x : Option Attr). names x o page) a) ∙ here) (sym (ap (λ (x : Option Attr). names x o page) b) ∙ there)
      ]
    ];
    below = λ q k o here. elim (new_or_not q k) [
      | inl a ↦ (let is = new_used source prot (free_object out) (k - first) o (sym (ap (λ (x : Option Attr). uses x o) a.is) ∙ here) in omega (arith, free_within out, is.1))
      | inr a ↦ fewer.below q k o (sym (ap (λ (x : Option Attr). uses x o) a) ∙ here)
    ];
  }

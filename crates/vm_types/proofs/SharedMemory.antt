-- Shared anonymous memory as processes see it: a store of one is seen by the others, a fork shares and doesn't copy, what another process
-- still names stays, and a new object shows zeros.
use Rattle.{std.proofs.{Common.{◌≡◌, ℕ, zero, suc, inl, inr, ◌<◌, ◌≤◌, ◌||◌, Bool, true, false, List, Option, Some, None, refl, sym, ap, ◌∙◌, eq-eqb}, lemmas.Bool.{cases_Bool, false≢true, and_parts}}, vm_types.proofs.Naming.{named-at}}
use Rattle.vm_types.{proofs.NewObjects.{free-unused}, specs.{Access.{with_shown_bytes}, Counting.{any_below}, Limits.{user_end, widest_end}, Mapping.{new_object, with_mapping}, Objects.{Maps, maps_of, names, uses, is_object_page}}}
use Rattle.vm_types.specs.{Objects.{is_of_object, is_named, is_used, named_objects, with_object, free_object}, Processes.{forked}, Ranges.{without_row}, Runs.{run_count}, State.{State, behind, copy_or_behind, or_zeros, shown}, View.{View}}
use Rattle.vm_types.specs.{View.{zero_page}, declared.{object.ObjectPage.{ObjectPage}, region.{Attr.{Attr}, Backing.{Backing, TheVariants.{Common}}}}}

-- a page of an object shows the object's bytes
pub shows-object : (s : State) (v : View) (p : ObjectPage) → v.own ≡ None → v.attr.backing ≡ Common p → shown s v ≡ or_zeros (s.objects p.object p.page)
shows-object s v p none is = ap (copy_or_behind s v.attr.backing) none ∙ ap (behind s) is

-- a store is seen by every process that has the page, at whatever page of its own
pub store-seen : (s : State) (pid page : ℕ) (v u : View) (p : ObjectPage) (bytes : List ℕ) → u.own ≡ None → u.attr.backing ≡ Common p
    → shown (with_shown_bytes s pid page v (Common p) bytes) u ≡ bytes
store-seen s pid page v u p bytes none is =
    let at : with_object s.objects p.object p.page bytes p.object p.page ≡ Some bytes = rw (eq-eqb p.object p.object refl, eq-eqb p.page p.page refl) refl in
    shows-object (with_shown_bytes s pid page v (Common p) bytes) u p none is ∙ ap or_zeros at

-- a fork gives the child the pages that the parent has, on the same backings, and changes no object
pub fork-shares : (s : State) (parent child page : ℕ) → (forked s parent child).views child page ≡ s.views parent page
fork-shares s parent child page = rw (eq-eqb child child refl) refl

pub fork-objects : (s : State) (parent child : ℕ) → (forked s parent child).objects ≡ s.objects
fork-objects s parent child = refl

any-more : (f g : ℕ → Bool) (n : ℕ) → ((k : ℕ) → f k ≡ true → g k ≡ true) → any_below g n ≡ false → any_below f n ≡ false
unfolding any_below
any-more f g zero more none = refl
any-more f g (suc n) more none = elim (cases_Bool (f n)) [
  | inl t ↦ absurd (false≢true (sym none ∙ rw (more n t) refl))
  | inr e ↦ rw e (any-more f g n more (rest (g n) none))
]
  where
    rest : (a : Bool) → (a || any_below g n) ≡ false → any_below g n ≡ false
    rest true is = absurd (false≢true (sym is))
    rest false is = is

-- what another process still names is kept
pub named-kept : (maps : Maps) (objects : ℕ → ℕ → Option (List ℕ)) (p : ObjectPage) (q k : ℕ) → q < 65 → k < widest_end → names (maps q k) p.object p.page ≡ true
    → named_objects maps objects p.object p.page ≡ objects p.object p.page
named-kept maps objects p q k low high is = rw (named-at maps p.object p.page q k low high is) refl

names-uses : (a : Option Attr) (object page : ℕ) → names a object page ≡ true → uses a object ≡ true
names-uses None object page is = absurd (false≢true is)
names-uses (Some a) object page is = backing_uses a.backing is
  where
    backing_uses : (b : Backing) → is_object_page b object page ≡ true → is_of_object b object ≡ true
    backing_uses (Common p) is = (and_parts _ _ is).0
    backing_uses b is = absurd (false≢true is)

unused-unnamed : (maps : Maps) (object page : ℕ) → is_used maps object ≡ false → is_named maps object page ≡ false
unfolding is_used is_named
unused-unnamed maps object page none =
    outer 65 none
  where
    one : (q : ℕ) → any_below (λ j. names (maps q j) object page) widest_end ≡ true → any_below (λ j. uses (maps q j) object) widest_end ≡ true
    one q is = elim (cases_Bool (any_below (λ j. uses (maps q j) object) widest_end)) [
      | inl t ↦ t
      | inr e ↦ absurd (false≢true (sym (any-more (λ j. names (maps q j) object page) (λ j. uses (maps q j) object) widest_end (λ j. names-uses (maps q j) object page) e) ∙ is))
    ]

    outer : (n : ℕ) → any_below (λ q. any_below (λ j. uses (maps q j) object) widest_end) n ≡ false → any_below (λ q. any_below (λ j. names (maps q j) object page) widest_end) n ≡ false
    outer n e = any-more (λ q. any_below (λ j. names (maps q j) object page) widest_end) (λ q. any_below (λ j. uses (maps q j) object) widest_end) n one e

-- bytes that no page names are gone
pub unnamed-gone : (maps : Maps) (objects : ℕ → ℕ → Option (List ℕ)) (object page : ℕ) → is_named maps object page ≡ false → named_objects maps objects object page ≡ None
unnamed-gone maps objects object page none = rw none refl

-- the object of a new mapping has no bytes, whatever an earlier one of its number had
pub new-blank : (s : State) (pid first pages page : ℕ) (attr : Attr) → ((k : ℕ) → maps_of (without_row s pid first pages).views 0 k ≡ None)
    → ((p k : ℕ) → user_end s.mode ≤ k → maps_of (without_row s pid first pages).views p k ≡ None)
    → ((p : ℕ) → run_count s.mode (maps_of (without_row s pid first pages).views p) ≤ 256) → (with_mapping s pid first pages attr).objects (new_object s pid first pages) page ≡ None
new-blank s pid first pages page attr none high most =
    let maps = maps_of (without_row s pid first pages).views in
    unnamed-gone maps s.objects (free_object maps) page (unused-unnamed maps (free_object maps) page (free-unused s.mode maps none high most))

-- so its pages show zeros
pub new-zeros : (s : State) (pid first pages page : ℕ) (attr : Attr) (v : View) → v.own ≡ None
    → v.attr.backing ≡ Common (record { object = new_object s pid first pages; page = page })
    → ((k : ℕ) → maps_of (without_row s pid first pages).views 0 k ≡ None) → ((p k : ℕ) → user_end s.mode ≤ k → maps_of (without_row s pid first pages).views p k ≡ None)
    → ((p : ℕ) → run_count s.mode (maps_of (without_row s pid first pages).views p) ≤ 256)
    → shown (with_mapping s pid first pages attr) v ≡ zero_page
new-zeros s pid first pages page attr v own is none high most =
    shows-object (with_mapping s pid first pages attr) v (record { object = new_object s pid first pages; page = page }) own is ∙ ap or_zeros (new-blank s pid first pages page attr none high most)

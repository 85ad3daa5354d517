-- A process without a page has those of another.
use Rattle.lifecycle.proofs.Names.{top_level, names, uses, Attr, ◌≡◌, ◌≢◌, ◌==◌, if◌then◌else◌, eq-eqb, ne_eqb, ℕ, inl, inr, List, Option, Some, None, refl, sym, ap, ◌∙◌, cases_eq, bytes_of, IsPage, Run, attr_at}
use Rattle.lifecycle.proofs.Names.{seat, Picture, entry, view, view_of, own_in, bytes_in, AreObjects, IsFit, Remaps, user_map-same, readable-same, view_seated, held_same, entries_remapped, fit_mapped, unmapped_zero}
use Rattle.lifecycle.specs.Changes.{MapsAlike}

unmapped_in : (own : Option (List ℕ)) (attr : Option Attr) → view_of own attr ≡ None → attr ≡ None
unmapped_in own None none = refl
unmapped_in own (Some a) none = absurd (let bad : Some (record { attr = a; own = own }) ≡ None = none in (cc))

-- a page that isn't seen isn't mapped
pub unmapped_view : {mode : ℕ} (c : Picture mode) (pid page : ℕ) → view c pid page ≡ None → c.at pid page ≡ None
unfolding view
unmapped_view c pid page none = unmapped_in (own_in c.frames c.slots (entry c pid page)) (c.at pid page) none

-- a page that isn't mapped has no entry
pub bare_page : {mode : ℕ} (c : Picture mode) (pid page : ℕ) → IsFit c → c.at pid page ≡ None → IsPage (top_level mode) page → entry c pid page ≡ 0
bare_page c pid page fit none h = unmapped_zero c (c.at pid page) (entry c pid page) (fit.granting.entries pid page h) none

-- what the step leaves
module _ {mode : ℕ} where
  pub record IsAlike (old new : Picture mode) (parent child : ℕ) : Type 0 where
    pub fit : IsFit new
    pub maps : MapsAlike old new parent child

module _ {mode : ℕ} (old new : Picture mode) (runs : List Run) (parent child : ℕ) (fit : IsFit old) (apart : parent ≢ child) (empty : (page : ℕ) → view old child page ≡ None)
    (there : (page : ℕ) → attr_at runs page ≡ old.at parent page) (remaps : Remaps old new child) (here : (page : ℕ) → new.at child page ≡ attr_at runs page) where
  bare : (page : ℕ) → IsPage (top_level mode) page → entry old child page ≡ 0
  bare page h = bare_page old child page fit (unmapped_view old child page (empty page)) h

  -- whose pages those of a process are
  source : ℕ → ℕ
  source q = if q == child then parent else q

  from_source : (q page : ℕ) → new.at q page ≡ old.at (source q) page
  unfolding source
  from_source q page = elim (cases_eq q child) [
    | inl is ↦ rw (eq-eqb q child is) (ap (λ x. new.at x page) is ∙ here page ∙ there page)
    | inr ne ↦ rw (ne_eqb q child ne) (remaps.others q page ne)
  ]

  -- the child has the pages of objects at the pages at which the parent has them
  objects_alike : AreObjects new.at
  objects_alike = record {
    one_page = λ p q j k object page one two. fit.granting.objects.one_page (source p) (source q) j k object page
        (ap (λ a. names a object page) (sym (from_source p j)) ∙ one) (ap (λ a. names a object page) (sym (from_source q k)) ∙ two);
    below = λ p k object one. fit.granting.objects.below (source p) k object (ap (λ a. uses a object) (sym (from_source p k)) ∙ one);
  }

  pub alike : IsAlike old new parent child
  alike =
      let entries = entries_remapped old new child fit remaps in
      record {
        fit = fit_mapped old new child runs fit remaps here (user_map-same mode (old.at parent) (attr_at runs) there (fit.granting.user parent))
            (readable-same (old.at parent) (attr_at runs) there (fit.granting.readable parent)) objects_alike bare (λ page. unmapped_view old child page (empty page));
        maps = record {
          root = remaps.root;
          same = λ page. here page ∙ there page ∙ sym (remaps.others parent page apart);
          bare = λ page h. entries child page ∙ bare page h;
          entries = entries;
          views = λ q page ne. view_seated old new q page (remaps.others q page ne) (ap seat (entries q page)) (λ z is. ap (λ t. bytes_in t new.slots z) remaps.frames ∙ ap (λ s. bytes_in old.frames s z) remaps.slots);
          files = record {
            held = λ p. inl (held_same old new p (remaps.place p) remaps.slots (λ m at. ap (λ t. bytes_of t m) remaps.frames));
            touched = remaps.touched;
            files = remaps.files;
          };
        };
      }

-- What a commit asks for, by the pages of its list.
use Rattle.std.proofs.Common.{◌≡◌, ◌<◌, ◌+◌, ◌*◌, ℕ, zero, suc, Bool, List, length, get_or, Option, Some, None, refl, sym, ap, subst, ◌∙◌, ⊎_elim, inl, inr, arith}
use Rattle.std.specs.Prelude.{is_some, if◌then◌else◌}
use Rattle.std.proofs.lemmas.{List.{get_or-map, length-map}, Option.{same_Some, slice_get-get_or, slice_get_within}}
use Rattle.vm_types.specs.declared.file.FilePage.{FilePage}
use Rattle.sync_journal.{proofs.Images.{Means, place_means}, specs.Map.{home_rank}}
use Rattle.pool_journal.specs.{Commit.{thinned, IsDropped, IsMoved}, Committing.{IsPoolNoted, IsPoolStaged}, Giving.{number_but}, Journal.{live_count}}
use Rattle.pool_store.proofs.Ordered.{ArePlaced}
use Rattle.pool_store.specs.{Places.{homes_of_pages, index_at, number_of}, Store.{home_of}, declared.{directory.Directory.{Directory}, room.Place.{Place}}}

-- Pages of a list, in the order of their homes,
module _ (directory : Directory) (list : List FilePage) (places : List Place) (homes : List ℕ) (placed : ArePlaced directory list places homes) where
  abbrev listed : List ℕ
  listed = homes_of_pages directory list

  abbrev number : FilePage → ℕ
  number p = number_of (home_of directory p)

  -- have the homes of the list,
  index_below : (j : ℕ) → j < length homes → index_at places j < length list
  index_below j below = (let each = placed.each j below in slice_get_within list (index_at places j) each.0 each.1)

  listed_at : (j : ℕ) → j < length homes → get_or listed (index_at places j) 0 ≡ get_or homes j 0
  listed_at j below =
      let each = placed.each j below in
      get_or-map number list (index_at places j) each.0 0 (index_below j below)
      ∙ ap number (same_Some (get_or list (index_at places j) each.0) each.0 (sym (slice_get-get_or list (index_at places j) each.0 (index_below j below)) ∙ each.1))
      ∙ ap number_of each.2

  same_rank : (h : ℕ) → is_some (home_rank homes h) ≡ is_some (home_rank listed h)
  same_rank h = from (home_rank homes h) (home_rank listed h) (place_means (λ j. get_or homes j 0) h (length homes)) (place_means (λ j. get_or listed j 0) h (length listed))
    where
      from : (o p : Option ℕ) → Means (λ j. get_or homes j 0) h (length homes) o → Means (λ j. get_or listed j 0) h (length listed) p → is_some o ≡ is_some p
      from None None none other = refl
      from (Some j) (Some i) one other = refl
      from (Some j) None one none = absurd (none (index_at places j) (let below = index_below j one.0 in let long = length-map list number in omega (arith, below, long)) (listed_at j one.0 ∙ one.1))
      from None (Some i) none one =
          let long = length-map list number in
          let found = placed.found i (omega (arith, one.0, long)) in
          absurd (none found.0 found.1 (sym (listed_at found.0 found.1) ∙ ap (λ k. get_or listed k 0) found.2 ∙ one.1))

  same_number : (x : ℕ) → number_but homes x ≡ number_but listed x
  same_number zero = refl
  same_number (suc h) = ap (λ b. if b then 0 else suc h) (same_rank h)

  same_thinned : (was : Bool → ℕ → ℕ) → ◌≡◌ {A = Bool → ℕ → ℕ} (thinned homes was) (thinned listed was)
  same_thinned was = λ t body r. same_number (was body r) t

  -- and so the same pages are dropped.
  dropped : (m : ℕ) (was : Bool → ℕ → ℕ) (k : ℕ) → IsDropped m was homes k → IsDropped m was listed k
  dropped m was k is = (
    subst (λ (thin : Bool → ℕ → ℕ). 504 * m < live_count m thin + length listed) (same_thinned was)
        (let long = length-map list number in let size = placed.size in let full = is.0 in omega (arith, full, long, size)),
    subst (λ (thin : Bool → ℕ → ℕ). IsMoved m thin k) (same_thinned was) is.1,
  )

  pub staged_listed : (m : ℕ) (second : Bool) (was : Bool → ℕ → ℕ) (k : ℕ) → IsPoolStaged m second was homes k → IsPoolStaged m second was listed k
  staged_listed m second was k = ⊎_elim (λ bodies. inl (⊎_elim (λ moved. inl (dropped m was k moved)) (λ free. inr free) bodies)) (λ map. inr map)

  pub noted_listed : (m : ℕ) (second : Bool) (was now : Bool → ℕ → ℕ) (k : ℕ) → IsPoolNoted m second was now homes k → IsPoolNoted m second was now listed k
  noted_listed m second was now k = ⊎_elim
      (λ bodies. inl (⊎_elim (λ moved. inl (dropped m was k moved)) (λ taken. inr taken) bodies))
      (λ map. inr map)

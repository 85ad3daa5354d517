-- Homes of pages that go into slots: the directory's, and behind them those of files.
use Rattle.std.proofs.Common.{◌≡◌, ◌≤◌, ◌<◌, ◌+◌, ◌-◌, ◌*◌, ◌++◌, ℕ, zero, suc, Bool, List, Option, Some, None, length, map, get_or, refl, sym, ap, subst, ◌∙◌, ⊎_elim, inl, inr, arith}
use Rattle.std.specs.{List.{range_with_len}, Prelude.{is_some, if◌then◌else◌}}
use Rattle.std.proofs.lemmas.{Bool.{cases_lt}, List.{get_or_append_left, get_or-append_right, length-append}, List.FromFn.{get_or-map-range_with_len, length-map-range_with_len}}
use Rattle.vm_types.specs.declared.file.FilePage.{FilePage}
use Rattle.growth.specs.declared.changes.Change.{Change}
use Rattle.pool_growth.proofs.{New.{home_is}, Ordering.{ArePlacedThen}}
use Rattle.pool_growth.specs.{Asked.{changed_pages, AreFileChanges}, Late.{given_home, given_homes, late_count, late_homes}, Putting.{home_then}}
use Rattle.pool_journal.specs.{Commit.{thinned, IsDropped, IsMoved}, Committing.{IsPoolStaged}, Giving.{number_but, AreRising}, Journal.{live_count}}
use Rattle.pool_store.specs.Places.{index_at, number_of}
use Rattle.pool_store.specs.declared.{directory.Directory.{Directory}, room.Place.{Place}}
use Rattle.sync_journal.{proofs.Images.{Means, place_means}, specs.Map.{home_rank}}

-- Homes one behind the other:
module _ (xs ys : List ℕ) where
  left_at : (j : ℕ) → j < length xs → get_or (xs ++ ys) j 0 ≡ get_or xs j 0
  left_at j below = get_or_append_left xs ys 0 j below

  right_at : (j : ℕ) → length xs ≤ j → get_or (xs ++ ys) j 0 ≡ get_or ys (j - length xs) 0
  right_at j from = get_or-append_right xs ys (length xs) j 0 refl from

  behind_at : (j : ℕ) → j < length (xs ++ ys) → length xs ≤ j → j - length xs < length ys
  behind_at j within from = let long = length-append xs ys in omega (arith, within, from, long)

  pub each_of_both : (P : ℕ → Type 0) → ((j : ℕ) → j < length xs → P (get_or xs j 0)) → ((j : ℕ) → j < length ys → P (get_or ys j 0)) → (j : ℕ) → j < length (xs ++ ys) → P (get_or (xs ++ ys) j 0)
  each_of_both P one two j within = ⊎_elim (λ before. subst P (sym (left_at j before)) (one j before))
      (λ from. subst P (sym (right_at j from)) (two (j - length xs) (behind_at j within from))) (cases_lt j (length xs))

  pub both_rise : (d : ℕ) → ((j : ℕ) → j < length xs → get_or xs j 0 < d) → ((j : ℕ) → j < length ys → d ≤ get_or ys j 0) → AreRising xs → AreRising ys → AreRising (xs ++ ys)
  both_rise d low high one two i j less within = ⊎_elim
      (λ before.
      let first : i < length xs = omega (arith, less, before) in
      let a = left_at i first in
      let b = left_at j before in
      let rises = one i j less before in omega (arith, a, b, rises))
      (λ from. ⊎_elim
      (λ before. (let a = left_at i before in let b = right_at j from in let under = low i before in let over = high (j - length xs) (behind_at j within from) in omega (arith, a, b, under, over)))
      (λ from'.
      let a = right_at i from' in
      let b = right_at j from in
      let rises = two (i - length xs) (j - length xs) (omega (arith, less, from')) (behind_at j within from) in omega (arith, a, b, rises))
      (cases_lt i (length xs)))
      (cases_lt j (length xs))

-- a home is one of a list
abbrev IsHomeOf : List ℕ → ℕ → Type 0
IsHomeOf homes h = (i : ℕ) × (i < length homes) × (get_or homes i 0 ≡ h)

-- each of one list is one of another
abbrev AreHomesOf : List ℕ → List ℕ → Type 0
AreHomesOf homes others = (j : ℕ) → j < length homes → IsHomeOf others (get_or homes j 0)

-- and of both behind the same ones
behind_both : (own homes others : List ℕ) → AreHomesOf homes others → AreHomesOf (own ++ homes) (own ++ others)
behind_both own homes others are = each_of_both own homes (IsHomeOf (own ++ others))
    (λ j below. (j, (let long = length-append own others in omega (arith, below, long)), left_at own others j below))
    (λ j below.
    let at = are j below in
    let less = at.1 in
    let long = length-append own others in
    let back : length own + at.0 - length own ≡ at.0 = omega arith in
    (length own + at.0, omega (arith, less, long), right_at own others (length own + at.0) (omega arith) ∙ ap (λ i. get_or others i 0) back ∙ at.2))

-- Two lists of the same homes, as long:
module _ (homes others : List ℕ) (long : length homes ≡ length others) (there : AreHomesOf homes others) (back : AreHomesOf others homes) where
  same_rank : (h : ℕ) → is_some (home_rank homes h) ≡ is_some (home_rank others h)
  same_rank h = from (home_rank homes h) (home_rank others h) (place_means (λ j. get_or homes j 0) h (length homes)) (place_means (λ j. get_or others j 0) h (length others))
    where
      from : (o p : Option ℕ) → Means (λ j. get_or homes j 0) h (length homes) o → Means (λ j. get_or others j 0) h (length others) p → is_some o ≡ is_some p
      from None None none other = refl
      from (Some j) (Some i) one other = refl
      from (Some j) None one none = let at = there j one.0 in absurd (none at.0 at.1 (at.2 ∙ one.1))
      from None (Some i) none one = let at = back i one.0 in absurd (none at.0 at.1 (at.2 ∙ one.1))

  same_number : (x : ℕ) → number_but homes x ≡ number_but others x
  same_number zero = refl
  same_number (suc h) = ap (λ b. if b then 0 else suc h) (same_rank h)

  same_thinned : (was : Bool → ℕ → ℕ) → ◌≡◌ {A = Bool → ℕ → ℕ} (thinned homes was) (thinned others was)
  same_thinned was = λ t body r. same_number (was body r) t

  same_dropped : (m : ℕ) (was : Bool → ℕ → ℕ) (k : ℕ) → IsDropped m was homes k → IsDropped m was others k
  same_dropped m was k is = (
    subst (λ (thin : Bool → ℕ → ℕ). 504 * m < live_count m thin + length others) (same_thinned was) (let full = is.0 in omega (arith, full, long)),
    subst (λ (thin : Bool → ℕ → ℕ). IsMoved m thin k) (same_thinned was) is.1,
  )

  -- for both a commit asks for the same.
  same_staged : (m : ℕ) (second : Bool) (was : Bool → ℕ → ℕ) (k : ℕ) → IsPoolStaged m second was homes k → IsPoolStaged m second was others k
  same_staged m second was k = ⊎_elim (λ bodies. inl (⊎_elim (λ moved. inl (same_dropped m was k moved)) (λ free. inr free) bodies)) (λ map. inr map)

-- Pages that a source gives, in the order of their homes:
module _ (n : ℕ) (directory : Directory) (changes : List Change) (are : AreFileChanges n directory changes) (fresh list : List FilePage) (put : ℕ)
    (places : List Place) (placed : ArePlacedThen directory changes fresh list put places (map (λ place. place.home) places)) where
  abbrev homes : List ℕ
  homes = map (λ place. place.home) places

  abbrev count : ℕ
  count = late_count fresh list put

  abbrev given : List ℕ
  given = map (given_home directory changes fresh list) (range_with_len put count)

  given_long : length given ≡ count
  given_long = length-map-range_with_len (given_home directory changes fresh list) put count

  given_at : (j : ℕ) → j < length homes → get_or given (index_at places j) 0 ≡ get_or homes j 0
  given_at j below =
      let each = placed.each j below in
      get_or-map-range_with_len (given_home directory changes fresh list) put count (index_at places j) (put + index_at places j) 0 (placed.inside j below) refl
      ∙ ap (λ (o : Option FilePage). number_of (home_then directory changes o)) each.1
      ∙ ap number_of (home_is n directory changes are each.0 (get_or homes j 0) each.2)

  are_given : AreHomesOf homes given
  are_given j below = (let within = placed.inside j below in (index_at places j, omega (arith, within, given_long), given_at j below))

  have_places : AreHomesOf given homes
  have_places i below =
      let found = placed.found i (omega (arith, below, given_long)) in
      (found.0, found.1, sym (given_at found.0 found.1) ∙ ap (λ k. get_or given k 0) found.2)

  -- a commit of theirs behind the directory's asks for the same as it does as they are given
  pub late_staged : (m : ℕ) (second : Bool) (was : Bool → ℕ → ℕ) (k : ℕ) → IsPoolStaged m second was (late_homes directory changes places) k → IsPoolStaged m second was (given_homes directory changes fresh list put) k
  late_staged =
      let own = changed_pages changes directory.pages in
      let one = length-append own homes in
      let two = length-append own given in
      let size = placed.size in
      same_staged (own ++ homes) (own ++ given) (omega (arith, one, two, given_long, size)) (behind_both own homes given are_given) (behind_both own given homes have_places)

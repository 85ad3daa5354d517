-- The pages of a file that are zeros since it was cut off, one page after the other.
use Rattle.std.proofs.Common.{ℕ, ◌≡◌, ◌<◌, ◌≤◌, ◌+◌, ◌*◌, min, ⊎_elim, true, false, List, [], ◌∷◌, ◌++◌, length, get_or, slice_get, Option, Some, None, refl, sym, ap, subst, ◌∙◌, arith}
use Rattle.std.proofs.lemmas.{Bool.{cases_eq, false≢true, true≢false}, List.{append-nil, append_assoc, length_push}, Option.{slice_get_within, slice_get-get_or}}
use Rattle.vm_types.specs.declared.file.{FileInfo.{FileInfo}, FilePage.{FilePage}}
use Rattle.file_store.specs.Layout.{pages_of_length}
use Rattle.pool_growth.specs.Files.{StandsInList}
use Rattle.pool_store.specs.Store.{info_by}
use Rattle.pool_store.specs.declared.directory.Directory.{Directory}
use Rattle.sized_stores.specs.Listing.{no_size, AreDistinct, IsZeroPage, ListsZeros}
use Rattle.sized_stores.specs.Store.{length_of, shortest_of, with_length}
use Rattle.sized_stores.specs.declared.sizes.Size.{Size}
use Rattle.sized_stores.proofs.Rows.{get_last, get_left, pushed}

-- a page that begins inside a file as it is now
inside_now : (info : Option FileInfo) (size : Size) (k : ℕ) → 4096 * k < length_of info → 4096 * k < size.length → 4096 * k < length_of (with_length info (Some size))
inside_now None size k had has = absurd (omega (arith, had))
inside_now (Some info) size k had has = has

inside_size : (info : Option FileInfo) (size : Size) (k : ℕ) → 4096 * k < length_of (with_length info (Some size)) → 4096 * k < size.length
inside_size None size k has = absurd (omega (arith, has))
inside_size (Some info) size k has = has

-- the first page that a file lost, and the end of those that it had and has
abbrev pub first_zero : List Size → ℕ → ℕ
first_zero sizes f = pages_of_length (get_or sizes f no_size).shortest

abbrev pub end_of_zeros : (ℕ → Option FileInfo) → List Size → ℕ → ℕ
end_of_zeros files sizes f = pages_of_length (min (length_of (files f)) (get_or sizes f no_size).length)

-- what stands in a list stands in it with one more behind it
pub stands_more : (list : List FilePage) (p : FilePage) (f k : ℕ) → StandsInList list f k → StandsInList (list ++ p ∷ []) f k
stands_more list p f k there = (there.0, there.1, get_left list (p ∷ []) there.0 (slice_get_within list there.0 there.1 there.2) ∙ there.2, there.3, there.4)

pub stands_last : (list : List FilePage) (p : FilePage) → StandsInList (list ++ p ∷ []) p.file p.page
stands_last list p = (length list, p, get_last list p, refl, refl)

-- and one that is none of them is none twice
pub distinct_more : (list : List FilePage) (p : FilePage) → (StandsInList list p.file p.page → ⊥) → AreDistinct list → AreDistinct (list ++ p ∷ [])
distinct_more list p other distinct i j q less at_i at_j = ⊎_elim
    (λ (before : slice_get list j ≡ Some q).
    let inside : i < length list = (let within = slice_get_within list j q before in omega (arith, less, within)) in
    distinct i j q less (sym (get_left list (p ∷ []) i inside) ∙ at_i) before)
    (λ last.
    let inside : i < length list = omega (arith, less, last.0) in
    let here : slice_get list i ≡ Some q = sym (get_left list (p ∷ []) i inside) ∙ at_i in
    other (i, q, here, ap (λ (r : FilePage). r.file) (sym last.1), ap (λ (r : FilePage). r.page) (sym last.1)))
    (pushed list p q j at_j)

module _ (files : ℕ → Option FileInfo) (sizes : List Size) (list : List FilePage) (f : ℕ) where
  pub is_zero : (k : ℕ) → f < length sizes → first_zero sizes f ≤ k → k < end_of_zeros files sizes f → (StandsInList list f k → ⊥) → IsZeroPage files sizes list f k
  is_zero k inside from below other =
      let size : Size = get_or sizes f no_size in
      let at : slice_get sizes f ≡ Some size = slice_get-get_or sizes f no_size inside in record {
        lost = subst (λ (s : Option Size). shortest_of (files f) s ≤ 4096 * k) (sym at) (omega (arith, from));
        had = omega (arith, below);
        has = subst (λ (s : Option Size). 4096 * k < length_of (with_length (files f) s)) (sym at) (inside_now (files f) size k (omega (arith, below)) (omega (arith, below)));
        unlisted = other;
      }

  zero_between : (k : ℕ) → f < length sizes → IsZeroPage files sizes list f k → (first_zero sizes f ≤ k) × (k < end_of_zeros files sizes f)
  zero_between k inside zero =
      let size : Size = get_or sizes f no_size in
      let at : slice_get sizes f ≡ Some size = slice_get-get_or sizes f no_size inside in
      let lost : size.shortest ≤ 4096 * k = subst (λ (s : Option Size). shortest_of (files f) s ≤ 4096 * k) at zero.lost in
      let has : 4096 * k < size.length = inside_size (files f) size k (subst (λ (s : Option Size). 4096 * k < length_of (with_length (files f) s)) at zero.has) in
      let had = zero.had in (omega (arith, lost), omega (arith, had, has))

  -- The pages before page n that are zeros stand behind others:
  pub record ListsFirst (limit n : ℕ) (old new : List FilePage) : Type 0 where
    pub zeros : List FilePage
    pub behind : new ≡ old ++ zeros
    pub few : length new ≤ limit
    pub each : (i : ℕ) (p : FilePage) → slice_get zeros i ≡ Some p → (p.file ≡ f) × (p.page < n) × IsZeroPage files sizes list p.file p.page
    pub distinct : AreDistinct zeros
    pub all : (k : ℕ) → k < n → IsZeroPage files sizes list f k → StandsInList zeros f k

  pub zeros_none : (limit : ℕ) (old : List FilePage) → f < length sizes → length old ≤ limit → ListsFirst limit (first_zero sizes f) old old
  zeros_none limit old inside few = record {
    zeros = [];
    behind = sym (append-nil old);
    few = few;
    each = λ i p is. absurd (omega (arith, slice_get_within [] i p is));
    distinct = λ i j p less is. absurd (omega (arith, slice_get_within [] i p is));
    all = λ k less zero. absurd (let from = (zero_between k inside zero).0 in omega (arith, less, from));
  }

  pub zeros_other : (limit n : ℕ) (old new : List FilePage) → StandsInList list f n → ListsFirst limit n old new → ListsFirst limit (n + 1) old new
  zeros_other limit n old new listed lists = record {
    zeros = lists.zeros;
    behind = lists.behind;
    few = lists.few;
    each = λ i p is. (let each = lists.each i p is in (each.0, (let less = each.1 in omega (arith, less)), each.2));
    distinct = lists.distinct;
    all = λ k less zero. ⊎_elim
        (λ (here : k ≡ n). absurd (zero.unlisted (subst (λ (j : ℕ). StandsInList list f j) (sym here) listed)))
        (λ other. lists.all k (omega (arith, less, other)) zero)
        (cases_eq k n);
  }

  -- none of those before page n is page n
  not_before : (limit n : ℕ) (old new : List FilePage) (lists : ListsFirst limit n old new) → StandsInList lists.zeros f n → ⊥
  not_before limit n old new lists there = (let less = (lists.each there.0 there.1 there.2).1 in let here = there.4 in omega (arith, less, here))

  pub zeros_more : (limit n : ℕ) (old new then : List FilePage) → f < length sizes → first_zero sizes f ≤ n → n < end_of_zeros files sizes f → (StandsInList list f n → ⊥) → length new < limit
      → then ≡ new ++ record { file = f; page = n } ∷ [] → ListsFirst limit n old new → ListsFirst limit (n + 1) old then
  zeros_more limit n old new then inside from below other room more lists =
      let p : FilePage = record { file = f; page = n } in
      let zero : IsZeroPage files sizes list f n = is_zero n inside from below other in record {
        zeros = lists.zeros ++ p ∷ [];
        behind = more ∙ ap (λ (l : List FilePage). l ++ p ∷ []) lists.behind ∙ append_assoc old lists.zeros (p ∷ []);
        few = omega (arith, ap length more, length_push new p, room);
        each = λ i q is. ⊎_elim
            (λ (before : slice_get lists.zeros i ≡ Some q). (let each = lists.each i q before in (each.0, (let less = each.1 in omega (arith, less)), each.2)))
            (λ last. subst (λ (r : FilePage). (r.file ≡ f) × (r.page < n + 1) × IsZeroPage files sizes list r.file r.page) last.1 (refl, omega arith, zero))
            (pushed lists.zeros p q i is);
        distinct = distinct_more lists.zeros p (not_before limit n old new lists) lists.distinct;
        all = λ k less is. ⊎_elim
            (λ (here : k ≡ n). subst (λ (j : ℕ). StandsInList (lists.zeros ++ p ∷ []) f j) (sym here) (stands_last lists.zeros p))
            (λ other_page. stands_more lists.zeros p f k (lists.all k (omega (arith, less, other_page)) is))
            (cases_eq k n);
      }

module _ (directory : Directory) (sizes : List Size) (list : List FilePage) (f : ℕ) where
  pub zeros_all : (limit n : ℕ) (old new : List FilePage) → f < length sizes → end_of_zeros (info_by directory) sizes f ≤ n → ListsFirst (info_by directory) sizes list f limit n old new
      → ListsZeros directory sizes f list limit old new true
  zeros_all limit n old new inside whole lists = record {
    zeros = lists.zeros;
    behind = lists.behind;
    few = lists.few;
    each = λ i p is. (let each = lists.each i p is in (each.0, each.2));
    distinct = lists.distinct;
    all = λ _ k zero. lists.all k (let below = (zero_between (info_by directory) sizes list f k inside zero).1 in omega (arith, below, whole)) zero;
    more = λ is. absurd (true≢false is);
  }

  pub zeros_full : (limit n : ℕ) (old new : List FilePage) → f < length sizes → first_zero sizes f ≤ n → n < end_of_zeros (info_by directory) sizes f → (StandsInList list f n → ⊥)
      → length new ≡ limit → ListsFirst (info_by directory) sizes list f limit n old new → ListsZeros directory sizes f list limit old new false
  zeros_full limit n old new inside from below other full lists = record {
    zeros = lists.zeros;
    behind = lists.behind;
    few = lists.few;
    each = λ i p is. (let each = lists.each i p is in (each.0, each.2));
    distinct = lists.distinct;
    all = λ is. absurd (false≢true is);
    more = λ _. (full, (n, is_zero (info_by directory) sizes list f n inside from below other, not_before (info_by directory) sizes list f limit n old new lists));
  }

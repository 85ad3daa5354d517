-- What changes of files make of the pages before them: there is such a thing.
use Rattle.std.proofs.Common.{ℕ, ◌+◌, ◌<◌, ◌≡◌, ◌⊎◌, List, length, Option, Some, slice_get, inl, inr, ⊎_elim, refl, sym, ap, subst, ◌∙◌, arith}
use Rattle.std.proofs.lemmas.Bool.{cases_lt}
use Rattle.vm_types.specs.{View.{zero_page}, declared.{file.FileInfo.{FileInfo}, file.FilePage.{FilePage}}}
use Rattle.file_store.specs.{Commit.{cut_page}, Standing.{IsPageOf}}
use Rattle.growth.specs.declared.changes.Change.{Change}
use Rattle.pool_growth.proofs.Numbered.{stands_or}
use Rattle.pool_growth.specs.{Asked.{AreNewPages}, Files.{files_after, file_page_count, ChangesFiles, IsNewPage, StandsInList}}

pub same_page : (p q : FilePage) → q.file ≡ p.file → q.page ≡ p.page → q ≡ p
same_page p q file page = ap (λ (f : ℕ). record { file = f; page = q.page }) file ∙ ap (λ (k : ℕ). record { file = p.file; page = k }) page

-- a page inside a file is one of those that it has
pub page_inside : (files : ℕ → Option FileInfo) (f k : ℕ) → IsPageOf files f k → k < file_page_count (files f)
page_inside files f k at = subst (λ o. k < file_page_count o) (sym at.1) (let inside = at.2 in omega (arith, inside))

-- Changes of files, with new pages, and with pages that were pages before:
module _ (files : ℕ → Option FileInfo) (changes : List Change) (fresh : List FilePage) (news : AreNewPages files changes fresh) (list : List FilePage)
    (before_in : (i : ℕ) (p : FilePage) → slice_get list i ≡ Some p → IsPageOf files p.file p.page)
    (distinct : (i j : ℕ) (p : FilePage) → i < j → slice_get list i ≡ Some p → slice_get list j ≡ Some p → ⊥) (given : ℕ → List ℕ) (before : ℕ → ℕ → List ℕ) where
  abbrev then : ℕ → Option FileInfo
  then = files_after files changes

  abbrev Is_new : ℕ → ℕ → Type 0
  Is_new = IsNewPage files changes

  is_new : (f k : ℕ) → Is_new f k ⊎ (Is_new f k → ⊥)
  is_new f k = ⊎_elim
      (λ low. inr (λ new. omega (arith, low, new.0)))
      (λ past. ⊎_elim (λ below. inl (past, below)) (λ above. inr (λ new. omega (arith, above, new.1))) (cases_lt k (file_page_count (then f))))
      (cases_lt k (file_page_count (files f)))

  not_both : (i : ℕ) (p : FilePage) → slice_get list i ≡ Some p → Is_new p.file p.page → ⊥
  not_both i p is new = (let inside = page_inside files p.file p.page (before_in i p is) in omega (arith, new.0, inside))

  new_listed : (f k : ℕ) → StandsInList fresh f k → Is_new f k
  new_listed f k at = subst (λ g. Is_new g k) at.3 (subst (λ n. Is_new at.1.file n) at.4 (news.new at.0 at.1 at.2))

  -- a page stands in a list without repetitions once
  once : (pages : List FilePage) → ((i j : ℕ) (p : FilePage) → i < j → slice_get pages i ≡ Some p → slice_get pages j ≡ Some p → ⊥)
      → (i : ℕ) (p : FilePage) → slice_get pages i ≡ Some p → (at : StandsInList pages p.file p.page) → at.0 ≡ i
  once pages apart i p is at =
      let there : slice_get pages at.0 ≡ Some p = at.2 ∙ ap Some (same_page p at.1 at.3 at.4) in
      ⊎_elim (λ low. absurd (apart at.0 i p low there is)) (λ past. ⊎_elim (λ high. absurd (apart i at.0 p high is there)) (λ under. omega (arith, past, under)) (cases_lt i at.0)) (cases_lt at.0 i)

  -- its page is the one that is given for it, zeros, or what it was
  abbrev made : (f k : ℕ) → StandsInList fresh f k ⊎ (StandsInList fresh f k → ⊥) → Is_new f k ⊎ (Is_new f k → ⊥) → StandsInList list f k ⊎ (StandsInList list f k → ⊥) → List ℕ
  made f k (inl at) new listed = cut_page (then f) k (given at.0)
  made f k (inr unnamed) (inl new) listed = zero_page
  made f k (inr unnamed) (inr none) (inl at) = cut_page (then f) k (given (length fresh + at.0))
  made f k (inr unnamed) (inr none) (inr other) = cut_page (then f) k (before f k)

  as_added : (i : ℕ) (p : FilePage) → slice_get fresh i ≡ Some p → (named : StandsInList fresh p.file p.page ⊎ (StandsInList fresh p.file p.page → ⊥))
      (new : Is_new p.file p.page ⊎ (Is_new p.file p.page → ⊥)) (listed : StandsInList list p.file p.page ⊎ (StandsInList list p.file p.page → ⊥))
      → made p.file p.page named new listed ≡ cut_page (then p.file) p.page (given i)
  as_added i p is (inl at) new listed = ap (λ j. cut_page (then p.file) p.page (given j)) (once fresh news.distinct i p is at)
  as_added i p is (inr unnamed) new listed = absurd (unnamed (i, p, is, refl, refl))

  as_blank : (f k : ℕ) → Is_new f k → (StandsInList fresh f k → ⊥) → (named : StandsInList fresh f k ⊎ (StandsInList fresh f k → ⊥))
      (new : Is_new f k ⊎ (Is_new f k → ⊥)) (listed : StandsInList list f k ⊎ (StandsInList list f k → ⊥)) → made f k named new listed ≡ zero_page
  as_blank f k is out (inl at) new listed = absurd (out at)
  as_blank f k is out (inr unnamed) (inl new) listed = refl
  as_blank f k is out (inr unnamed) (inr none) listed = absurd (none is)

  as_listed : (i : ℕ) (p : FilePage) → slice_get list i ≡ Some p → (named : StandsInList fresh p.file p.page ⊎ (StandsInList fresh p.file p.page → ⊥))
      (new : Is_new p.file p.page ⊎ (Is_new p.file p.page → ⊥)) (listed : StandsInList list p.file p.page ⊎ (StandsInList list p.file p.page → ⊥))
      → made p.file p.page named new listed ≡ cut_page (then p.file) p.page (given (length fresh + i))
  as_listed i p is (inl at) new listed = absurd (not_both i p is (new_listed p.file p.page at))
  as_listed i p is (inr unnamed) (inl new) listed = absurd (not_both i p is new)
  as_listed i p is (inr unnamed) (inr none) (inl at) = ap (λ j. cut_page (then p.file) p.page (given (length fresh + j))) (once list distinct i p is at)
  as_listed i p is (inr unnamed) (inr none) (inr other) = absurd (other (i, p, is, refl, refl))

  as_other : (f k : ℕ) → (Is_new f k → ⊥) → (StandsInList list f k → ⊥) → (named : StandsInList fresh f k ⊎ (StandsInList fresh f k → ⊥))
      (new : Is_new f k ⊎ (Is_new f k → ⊥)) (listed : StandsInList list f k ⊎ (StandsInList list f k → ⊥)) → made f k named new listed ≡ cut_page (then f) k (before f k)
  as_other f k old unlisted (inl at) new listed = absurd (old (new_listed f k at))
  as_other f k old unlisted (inr unnamed) (inl new) listed = absurd (old new)
  as_other f k old unlisted (inr unnamed) (inr none) (inl at) = absurd (unlisted at)
  as_other f k old unlisted (inr unnamed) (inr none) (inr other) = refl

  pub some_pages : (after : ℕ → ℕ → List ℕ) × ChangesFiles files changes fresh list given before after
  some_pages = (
    λ f k. made f k (stands_or fresh f k) (is_new f k) (stands_or list f k),
    record {
      added = λ i p is. as_added i p is (stands_or fresh p.file p.page) (is_new p.file p.page) (stands_or list p.file p.page);
      blank = λ f k new out. as_blank f k new out (stands_or fresh f k) (is_new f k) (stands_or list f k);
      listed = λ i p is. as_listed i p is (stands_or fresh p.file p.page) (is_new p.file p.page) (stands_or list p.file p.page);
      others = λ f k old unlisted. as_other f k old unlisted (stands_or fresh f k) (is_new f k) (stands_or list f k);
    },
  )

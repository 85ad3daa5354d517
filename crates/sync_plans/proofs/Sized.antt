-- Changes that say what sizes ask for make of files what those make, whatever their extents.
use Rattle.sync_plans.proofs.Names.{ℕ, zero, suc, ◌+◌, ◌<◌, ◌==◌, ◌≡◌, Bool, true, false, List, [], ◌∷◌, length, Option, Some, None, if◌then◌else◌, refl, sym, ap, subst, ◌∙◌, arith, fun_ext}
use Rattle.sync_plans.proofs.Names.{FileInfo, FilePage, Change, ChangesFiles, IsNewPage, cut_page, file_page_count, files_after}
use Rattle.std.specs.{Option.{option_map}, Prelude.{◌/◌, ◌++◌}}
use Rattle.growth.specs.Changes.{change_of}
use Rattle.pool_growth.specs.{Asked.{changed_pages, is_changed}, Files.{info_then}, Sizes.{bare, changes_to, files_sized, info_to, SaySizes, SizesFiles}, declared.sizes.FileSize.{FileSize}}
use Rattle.pool_store.specs.Files.{info_of}

-- changes of the same files, after which the same is fixed of them
abbrev pub AreAlike : List Change → List Change → Type 0
AreAlike [] [] = Unit {0}
AreAlike [] (d ∷ ds) = ⊥
AreAlike (c ∷ cs) [] = ⊥
AreAlike (c ∷ cs) (d ∷ ds) = (c.file ≡ d.file) × (option_map info_of c.entry ≡ option_map info_of d.entry) × AreAlike cs ds

bare_says : (info : Option FileInfo) → option_map info_of (option_map bare info) ≡ info
bare_says None = refl
bare_says (Some info) = refl

are_alike : (files : ℕ → Option FileInfo) (sizes : List FileSize) (changes : List Change) → SaySizes files sizes changes → AreAlike changes (changes_to files sizes)
are_alike files [] [] says = tt
are_alike files [] (c ∷ cs) says = absurd (let all = says.all in omega (arith, all))
are_alike files (s ∷ ss) [] says = absurd (let all = says.all in omega (arith, all))
are_alike files (s ∷ ss) (c ∷ cs) says = (
  says.file 0 s c refl refl,
  says.info 0 s c refl refl ∙ sym (bare_says (info_to s (files s.file))),
  are_alike files ss cs (record { all = (let all = says.all in omega (arith, all)); file = λ i. says.file (suc i); info = λ i. says.info (suc i) }),
)

-- what is fixed of a file after the first change that is of it
picked : (b : Bool) (c d : Change) (x y : Option Change) (was : Option FileInfo) → option_map info_of c.entry ≡ option_map info_of d.entry → info_then x was ≡ info_then y was
    → info_then (if b then Some c else x) was ≡ info_then (if b then Some d else y) was
picked true c d x y was here rest = here
picked false c d x y was here rest = rest

files_alike : (files : ℕ → Option FileInfo) (cs ds : List Change) → AreAlike cs ds → (f : ℕ) → files_after files cs f ≡ files_after files ds f
files_alike files [] [] alike f = refl
files_alike files [] (d ∷ ds) alike f = absurd alike
files_alike files (c ∷ cs) [] alike f = absurd alike
files_alike files (c ∷ cs) (d ∷ ds) alike f =
    subst (λ n. info_then (if c.file == f then Some c else change_of cs f) (files f) ≡ info_then (if n == f then Some d else change_of ds f) (files f)) alike.0
    (picked (c.file == f) c d (change_of cs f) (change_of ds f) (files f) alike.1 (files_alike files cs ds alike.2 f))

is_changed_alike : (cs ds : List Change) → AreAlike cs ds → (q : ℕ) → is_changed cs q ≡ is_changed ds q
is_changed_alike [] [] alike q = refl
is_changed_alike [] (d ∷ ds) alike q = absurd alike
is_changed_alike (c ∷ cs) [] alike q = absurd alike
is_changed_alike (c ∷ cs) (d ∷ ds) alike q =
    ap (λ f. if f / 16 == q then true else is_changed cs q) alike.0 ∙ ap (λ b. if d.file / 16 == q then true else b) (is_changed_alike cs ds alike.2 q)

changed_alike : (cs ds : List Change) → AreAlike cs ds → (n : ℕ) → changed_pages cs n ≡ changed_pages ds n
unfolding changed_pages
changed_alike cs ds alike zero = refl
changed_alike cs ds alike (suc n) = ap (λ (front : List ℕ). front ++ (if is_changed cs n then n ∷ [] else [])) (changed_alike cs ds alike n)
    ∙ ap (λ (b : Bool). changed_pages ds n ++ (if b then n ∷ [] else [])) (is_changed_alike cs ds alike n)

-- the same pages are new
new_alike : (files : ℕ → Option FileInfo) (cs ds : List Change) → AreAlike cs ds → (f k : ℕ) → IsNewPage files cs f k → IsNewPage files ds f k
new_alike files cs ds alike f k new = (new.0, subst (λ o. k < file_page_count o) (files_alike files cs ds alike f) new.1)

new_back : (files : ℕ → Option FileInfo) (cs ds : List Change) → AreAlike cs ds → (f k : ℕ) → IsNewPage files ds f k → IsNewPage files cs f k
new_back files cs ds alike f k new = (new.0, subst (λ o. k < file_page_count o) (sym (files_alike files cs ds alike f)) new.1)

-- of the bytes they leave the same
same_bytes : (files : ℕ → Option FileInfo) (cs ds : List Change) → AreAlike cs ds → (fresh list : List FilePage) (given : ℕ → List ℕ) (before after : ℕ → ℕ → List ℕ)
    → ChangesFiles files ds fresh list given before after → ChangesFiles files cs fresh list given before after
same_bytes files cs ds alike fresh list given before after made =
    let same = sym (fun_ext (files_alike files cs ds alike)) in
    record {
      added = λ i p is. subst (λ (now : ℕ → Option FileInfo). after p.file p.page ≡ cut_page (now p.file) p.page (given i)) same (made.added i p is);
      blank = λ f k new none. made.blank f k (new_alike files cs ds alike f k new) none;
      listed = λ i p is. subst (λ (now : ℕ → Option FileInfo). after p.file p.page ≡ cut_page (now p.file) p.page (given (length fresh + i))) same (made.listed i p is);
      others = λ f k none unlisted. subst (λ (now : ℕ → Option FileInfo). after f k ≡ cut_page (now f) k (before f k)) same
          (made.others f k (λ new. none (new_back files cs ds alike f k new)) unlisted);
    }

-- Changes that say so
module _ (files : ℕ → Option FileInfo) (sizes : List FileSize) (changes : List Change) (says : SaySizes files sizes changes) where
  alike : AreAlike changes (changes_to files sizes)
  alike = are_alike files sizes changes says

  -- make the same of the files,
  pub files_same : (f : ℕ) → files_after files changes f ≡ files_sized files sizes f
  files_same = files_alike files changes (changes_to files sizes) alike

  -- bring the same new pages,
  pub new_same : (f k : ℕ) → IsNewPage files changes f k → IsNewPage files (changes_to files sizes) f k
  new_same = new_alike files changes (changes_to files sizes) alike

  pub new_said : (f k : ℕ) → IsNewPage files (changes_to files sizes) f k → IsNewPage files changes f k
  new_said = new_back files changes (changes_to files sizes) alike

  -- change the same pages of a directory,
  pub changed_same : (d : ℕ) → changed_pages changes d ≡ changed_pages (changes_to files sizes) d
  changed_same = changed_alike changes (changes_to files sizes) alike

  -- and leave of the bytes what those do.
  module _ (fresh list : List FilePage) (given : ℕ → List ℕ) (before after : ℕ → ℕ → List ℕ) where
    pub changes_as_sizes : SizesFiles files sizes fresh list given before after → ChangesFiles files changes fresh list given before after
    changes_as_sizes = same_bytes files changes (changes_to files sizes) alike fresh list given before after

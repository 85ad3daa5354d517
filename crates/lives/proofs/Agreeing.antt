-- Contents that are the same inside the files, and what msyncs make of them.
use Rattle.{std.proofs.Common.{ℕ, zero, suc, ◌≡◌, Bool, true, false, if◌then◌else◌, Option, List, [], ◌∷◌, refl, ap, sym, ◌∙◌}, std.specs.Prelude.{◌||◌}, disk_model.specs.Stop.{Image}, file_store.specs.Standing.{IsPageOf}, stores.specs.Images.{StandsFor, StandsForContents}}
use Rattle.vm_types.specs.{declared.file.FileInfo.{FileInfo}, Files.{Files, Contents}}
use Rattle.vm_types.specs.{Msync.{Ruling, Takes, resized_in, touched_in}, Prefix.{Event, is_msync, may_have_taken, after_event, after_msyncs}, State.{State}, Step.{ruling, takes}, View.{Pages}}

-- the same files, with the same bytes in each page of them
pub record Agree (p q : Contents) : Type 0 where
  pub files : (f : ℕ) → p.files f ≡ q.files f
  pub pages : (f k : ℕ) → IsPageOf q.files f k → p.pages f k ≡ q.pages f k

either_contents : (b : Bool) (x y p q : Contents) → Agree x y → Agree p q → Agree (if b then x else p) (if b then y else q)
either_contents true x y p q first second = first
either_contents false x y p q first second = second

either_file : (b : Bool) (x y z : Option FileInfo) → y ≡ z → ◌≡◌ {A = Option FileInfo} (if b then x else y) (if b then x else z)
either_file true x y z same = refl
either_file false x y z same = same

-- a page of a row, touched or of a file that has got another length
taken_page : (touched resized : Bool) (x y z : List ℕ) → (resized ≡ false → y ≡ z) → ◌≡◌ {A = List ℕ} (if touched || resized then x else y) (if touched || resized then x else z)
taken_page true resized x y z same = refl
taken_page false true x y z same = refl
taken_page false false x y z same = same refl

agree_takes : (s : State) (r : Ruling) (p q : Contents) → Agree p q → Agree (takes s r p) (takes s r q)
agree_takes s (Takes pid first count) p q same =
    let resized : ℕ → Bool = resized_in s pid first count in record {
      files = λ f. either_file (resized f) (s.files f) (p.files f) (q.files f) (same.files f);
      pages = λ f k inside. taken_page (touched_in s pid first count f k) (resized f) _ (p.pages f k) (q.pages f k)
          (λ e. same.pages f k (inside.0, ap (λ (b : Bool). if b then s.files f else q.files f) (sym e) ∙ inside.1, inside.2));
    }
agree_takes s r p q same = same

agree_event : (event : Event) (p q : Contents) → Agree p q → Agree (after_event event p) (after_event event q)
agree_event event p q same = either_contents (may_have_taken event.reply) _ _ p q (agree_takes event.state (ruling event.state event.command) p q same) same

-- msyncs make the same of them
pub agree_msyncs : (events : List Event) (i : ℕ) (p q : Contents) → Agree p q → Agree (after_msyncs p events i) (after_msyncs q events i)
agree_msyncs [] i p q same = same
agree_msyncs (event ∷ events) zero p q same = same
agree_msyncs (event ∷ events) (suc i) p q same =
    either_contents (is_msync event.command) _ _ _ _
    (agree_msyncs events i (after_event event p) (after_event event q) (agree_event event p q same))
    (agree_msyncs events (suc i) p q same)

-- one image stands for the same files and the same pages
pub same_files : (sectors : ℕ) (these those : Files) (p q : Pages) (image : Image) → StandsFor sectors these p image → StandsFor sectors those q image → (f : ℕ) → these f ≡ those f
same_files sectors these those p q image first second f = sym (first.facts f) ∙ second.facts f

pub same_pages : (sectors : ℕ) (these those : Files) (p q : Pages) (image : Image) → StandsFor sectors these p image → StandsFor sectors those q image
    → (f k : ℕ) → IsPageOf those f k → p f k ≡ q f k
same_pages sectors these those p q image first second f k inside =
    sym (first.same f k (inside.0, same_files sectors these those p q image first second f ∙ inside.1, inside.2)) ∙ second.same f k inside

pub same_contents : (sectors : ℕ) (p q : Contents) (image : Image) → StandsForContents sectors p image → StandsForContents sectors q image → Agree p q
same_contents sectors p q image first second = record {
  files = same_files sectors p.files q.files p.pages q.pages image first second;
  pages = same_pages sectors p.files q.files p.pages q.pages image first second;
}

-- so it stands for the others, too
pub stands_for_same : (sectors : ℕ) (p q : Contents) (image : Image) → Agree p q → StandsForContents sectors p image → StandsForContents sectors q image
stands_for_same sectors p q image agree stands = record {
  layout = stands.layout;
  journal = stands.journal;
  facts = λ f. stands.facts f ∙ agree.files f;
  same = λ f k inside. stands.same f k (inside.0, agree.files f ∙ inside.1, inside.2) ∙ agree.pages f k inside;
}

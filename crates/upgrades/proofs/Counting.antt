-- Where the files of the new store have their homes: one after the other, in the order of their numbers.
use Rattle.upgrades.proofs.Names.{◌≡◌, ◌≤◌, ◌<◌, ◌+◌, ◌*◌, ◌∙◌, ℕ, zero, suc, ⊎_elim, Option, Some, None, refl, ap, arith, cases_eq, option_map}
use Rattle.vm_types.specs.declared.file.FileInfo.{FileInfo}
use Rattle.file_store.specs.declared.directory.Entry.{Entry}
use Rattle.upgrades.specs.{NewPool.{pages_before, pages_of}, Old.{entry_pages}}

counted : (files : ℕ → Option FileInfo) (n : ℕ) → pages_before files (suc n) ≡ pages_before files n + pages_of (files n)
unfolding pages_before
counted files n = refl

pub one_file_more : (files : ℕ → Option FileInfo) (n : ℕ) → pages_before files (n + 1) ≡ pages_before files n + pages_of (files n)
one_file_more files n = ap (pages_before files) (let e : n + 1 ≡ suc n = omega arith in e) ∙ counted files n

pub no_file_before : (files : ℕ → Option FileInfo) → pages_before files 0 ≡ 0
unfolding pages_before
no_file_before files = refl

-- the homes of a file end before those of a later one begin
pub files_before : (files : ℕ → Option FileInfo) (f n : ℕ) → f < n → pages_before files f + pages_of (files f) ≤ pages_before files n
files_before files f zero less = absurd (omega (arith, less))
files_before files f (suc n) less =
    let more = counted files n in ⊎_elim
    (λ same. let at = ap (pages_before files) same in let own = ap (λ h. pages_of (files h)) same in omega (arith, more, at, own))
    (λ other. let before = files_before files f n (omega (arith, less, other)) in omega (arith, before, more))
    (cases_eq f n)

-- a page of a file begins inside it
pub page_inside : (o : Option FileInfo) (k : ℕ) → k < pages_of o → (info : FileInfo) × (o ≡ Some info) × (4096 * k < info.length)
page_inside None k below = absurd (omega (arith, below))
page_inside (Some info) k below = (info, refl, omega (arith, below))

-- a file has as many pages as its entry says
pub pages_listed : (o : Option Entry) → pages_of (option_map (λ e. e.info) o) ≡ entry_pages o
pages_listed None = refl
pages_listed (Some e) = refl

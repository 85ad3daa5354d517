-- The homes of pages.
use Rattle.file_store.proofs.Names.{◌≡◌, ℕ, ◌+◌, ◌*◌, ◌<◌, ◌≤◌, ⊎_elim, Option, Some, None, refl, sym, ap, subst, ◌∙◌, arith, cases_eq, cases_lt, none-some, same_Some, option_map, home_count, FileInfo, FilePage}
use Rattle.file_store.specs.{declared.directory.Entry.{Entry}, declared.directory.Directory.{Directory}, Directory.{IsHomeOf, IsSoundDirectory}, Standing.{IsPageOf}}
use Rattle.file_store.specs.{Store.{entry_of, entry_home, home_of, inside_in, inside_named, IsEntryPage}, Layout.{bytes_inside}}

-- facts of an entry
pub entry_behind : (entry : Option Entry) (info : FileInfo) → option_map (λ e. e.info) entry ≡ Some info → (e : Entry) × (entry ≡ Some e) × (e.info ≡ info)
entry_behind None info is = absurd (none-some info is)
entry_behind (Some e) info is = (e, refl, same_Some e.info info is)

pub home_of-entry : (directory : Directory) (p : FilePage) (e : Entry) → entry_of directory p.file ≡ Some e → home_of directory p ≡ e.first + p.page
unfolding home_of
home_of-entry directory p e is = ap (λ o. entry_home o p.page) is

-- a page inside its file has one of the file's homes
pub is_home : (e : Entry) (k : ℕ) → 4096 * k < e.info.length → IsHomeOf e (e.first + k)
is_home e k inside = (omega arith, omega (arith, inside))

pub entry_page : (sectors : ℕ) (directory : Directory) → IsSoundDirectory (home_count sectors) (entry_of directory) → (p : FilePage)
    → IsPageOf (λ f. option_map (λ e. e.info) (entry_of directory f)) p.file p.page → IsEntryPage directory p
entry_page sectors directory sound p inside =
    let b = entry_behind (entry_of directory p.file) inside.0 inside.1 in
    let lt : 4096 * p.page < b.0.info.length = subst (λ (i : FileInfo). 4096 * p.page < i.length) (sym b.2) inside.2 in
    record { entry = b.0; is = b.1; inside = lt; fits = omega (arith, sound.within p.file b.0 b.1, lt) }

pub home_inside : (sectors : ℕ) (directory : Directory) → IsSoundDirectory (home_count sectors) (entry_of directory) → (p : FilePage) → (at : IsEntryPage directory p) → at.entry.first + p.page < home_count sectors
home_inside sectors directory sound p at = omega (arith, sound.within p.file at.entry at.is, at.inside)

-- a home belongs to one page of one file
pub one_file : (homes : ℕ) (entry : ℕ → Option Entry) → IsSoundDirectory homes entry → (f g h : ℕ) (a b : Entry) → entry f ≡ Some a → entry g ≡ Some b → IsHomeOf a h → IsHomeOf b h → f ≡ g
one_file homes entry sound f g h a b is is' in_a in_b = ⊎_elim (λ e. e)
    (λ ne. ⊎_elim (λ lt. absurd (sound.apart f g h a b lt is is' in_a in_b))
    (λ le. absurd (sound.apart g f h b a (omega (arith, ne, le)) is' is in_b in_a)) (cases_lt f g))
    (cases_eq f g)

pub one_page : (homes : ℕ) (directory : Directory) → IsSoundDirectory homes (entry_of directory) → (p q : FilePage) → (a : IsEntryPage directory p) → (b : IsEntryPage directory q)
    → a.entry.first + p.page ≡ b.entry.first + q.page → p ≡ q
one_page homes directory sound p q a b same =
    let file = one_file homes (entry_of directory) sound p.file q.file (a.entry.first + p.page) a.entry b.entry a.is b.is
    (is_home a.entry p.page a.inside) (subst (λ h. IsHomeOf b.entry h) (sym same) (is_home b.entry q.page b.inside)) in
    let entry : a.entry ≡ b.entry = same_Some a.entry b.entry (sym a.is ∙ ap (λ f. entry_of directory f) file ∙ b.is) in
    let first : a.entry.first ≡ b.entry.first = ap (λ e. e.first) entry in
    let page : p.page ≡ q.page = omega (arith, same, first) in
    let left : p ≡ record { file = q.file; page = p.page } = ap (λ f. record { file = f; page = p.page }) file in
    let right : record { file = q.file; page = p.page } ≡ q = ap (λ k. record { file = q.file; page = k }) page in
    left ∙ right

inside_in-small : (entry : Option Entry) (k : ℕ) → inside_in entry k ≤ 4096
unfolding inside_in
inside_in-small None k = omega arith
inside_in-small (Some e) k = omega arith

-- no page has more than its 4,096 bytes in its file
pub inside_of-small : (directory : Directory) (p : Option FilePage) → inside_named directory p ≤ 4096
unfolding inside_named
inside_of-small directory None = omega arith
inside_of-small directory (Some p) = inside_in-small (entry_of directory p.file) p.page

-- a page of the list
pub inside_of-entry : (directory : Directory) (p : FilePage) (e : Entry) → entry_of directory p.file ≡ Some e → inside_named directory (Some p) ≡ bytes_inside e.info.length p.page
unfolding inside_named inside_in
inside_of-entry directory p e is = ap (λ o. inside_in o p.page) is

pub inside_of-none : (directory : Directory) (p : FilePage) → entry_of directory p.file ≡ None → inside_named directory (Some p) ≡ 4096
unfolding inside_named inside_in
inside_of-none directory p is = ap (λ o. inside_in o p.page) is

pub inside_of-past : (directory : Directory) → inside_named directory None ≡ 4096
unfolding inside_named
inside_of-past directory = refl

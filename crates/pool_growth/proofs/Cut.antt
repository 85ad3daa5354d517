-- Pages up to the ends of their files.
use Rattle.std.proofs.Common.{ℕ, ◌≡◌, ◌+◌, ◌-◌, ◌*◌, ◌<◌, ◌≤◌, ◌⊎◌, ⊎_elim, List, length, get_or, take, replicate, refl, sym, ap, subst, ◌∙◌, arith, length-take, get_or-take, ext_get_or, Option, Some, None}
use Rattle.std.proofs.lemmas.{Bool.{cases_lt}, List.{drop-replicate, get_or_append_left, get_or-append_right, get_or_past, length-replicate, take-replicate}, Option.{none-some}}
use Rattle.std.specs.Option.{option_map}
use Rattle.vm_types.specs.{Files.{bytes_inside, inside_of}, View.{zero_page}, declared.file.FileInfo.{FileInfo}}
use Rattle.disk_model.{proofs.Pieces.{joined-same, joined_parts}, specs.Sectors.{joined, part_of, sector_bytes}}
use Rattle.directories.specs.{Homes.{HasHome}, Layouts.{entry_in}, declared.entry.Entry.{Entry}}
use Rattle.file_store.{proofs.Pieces.{get_or-zeros, length-trimmed}, specs.{Commit.{cut_page}, Layout.{padded_page}}}
use Rattle.pool_growth.specs.Files.{file_page_count}
use Rattle.pool_store.specs.{Files.{info_of, page_at, page_of}, Store.{home_by}}

at_front : (n : ℕ) (page : List ℕ) (i : ℕ) → i < n → ◌≡◌ {A = ℕ} (get_or (padded_page n page) i 0) (get_or page i 0)
unfolding padded_page
at_front n page i less = ⊎_elim
    (λ inside. get_or_append_left (take n page) (replicate (4096 - length (take n page)) 0) 0 i inside ∙ get_or-take n page i 0 less)
    (λ past. get_or-append_right (take n page) (replicate (4096 - length (take n page)) 0) (length (take n page)) i 0 refl past
    ∙ get_or-zeros (4096 - length (take n page)) (i - length (take n page)) ∙ sym (get_or_past page i 0 (omega (arith, past, less, length-take n page))))
    (cases_lt i (length (take n page)))

behind : (n : ℕ) (page : List ℕ) (i : ℕ) → n ≤ i → ◌≡◌ {A = ℕ} (get_or (padded_page n page) i 0) (0)
unfolding padded_page
behind n page i past = get_or-append_right (take n page) (replicate (4096 - length (take n page)) 0) (length (take n page)) i 0 refl (omega (arith, past, length-take n page))
    ∙ get_or-zeros (4096 - length (take n page)) (i - length (take n page))

-- cut, and then cut further in front
pub cut_further : (less more : ℕ) (page : List ℕ) → less ≤ more → more ≤ 4096 → padded_page less (padded_page more page) ≡ padded_page less page
cut_further less more page le small = ext_get_or 0 (padded_page less (padded_page more page)) (padded_page less page)
    (length-trimmed less (padded_page more page) (omega (arith, le, small)) ∙ sym (length-trimmed less page (omega (arith, le, small))))
    (λ i inside. ⊎_elim (λ below. at_front less (padded_page more page) i below ∙ at_front more page i (omega (arith, below, le)) ∙ sym (at_front less page i below))
    (λ past. behind less (padded_page more page) i past ∙ sym (behind less page i past)) (cases_lt i less))

-- eight sectors of zeros are a page of zeros,
pub joined_zeros : (pieces : ℕ → List ℕ) → ((i : ℕ) → i < 8 → pieces i ≡ replicate sector_bytes 0) → joined pieces 8 ≡ zero_page
unfolding zero_page
joined_zeros pieces each =
    joined-same 8 pieces (part_of zero_page) (λ i small. each i small
    ∙ sym (ap (take 512) (drop-replicate (512 * i) 4096 0) ∙ take-replicate 512 (4096 - 512 * i) 0 (omega (arith, small))))
    ∙ joined_parts zero_page (length-replicate {A = ℕ} 4096 0)

-- which stays one where it is cut
pub padded_zeros : (n : ℕ) → n ≤ 4096 → padded_page n zero_page ≡ zero_page
unfolding zero_page
padded_zeros n small = ext_get_or 0 (padded_page n zero_page) zero_page (length-trimmed n zero_page small ∙ sym (length-replicate {A = ℕ} 4096 0))
    (λ i inside. ⊎_elim (λ below. at_front n zero_page i below) (λ past. behind n zero_page i past ∙ sym (get_or-zeros 4096 i)) (cases_lt i n))

-- no more of a page lies inside a file that is not longer, or where all of it did
pub no_more_inside : (was now k : ℕ) → (now ≤ was) ⊎ (4096 * k + 4096 ≤ was) → bytes_inside now k ≤ bytes_inside was k
no_more_inside was now k = ⊎_elim (λ shorter. omega (arith, shorter)) (λ full. omega (arith, full))

-- a page of a file with this info, cut at its end
pub cut_inside : (o : Option FileInfo) (info : FileInfo) (k : ℕ) (page : List ℕ) → o ≡ Some info → cut_page o k page ≡ padded_page (inside_of o k) page
cut_inside o info k page is = subst (λ (x : Option FileInfo). cut_page x k page ≡ padded_page (inside_of x k) page) (sym is) refl

-- a page is one of a file where it begins inside
pub is_counted : (o : Option FileInfo) (info : FileInfo) (k : ℕ) → o ≡ Some info → 4096 * k < info.length → k < file_page_count o
is_counted o info k is inside = subst (λ (x : Option FileInfo). k < file_page_count x) (sym is) (omega (arith, inside))

pub begins_inside : (o : Option FileInfo) (k : ℕ) → k < file_page_count o → (info : FileInfo) × (o ≡ Some info) × (4096 * k < info.length)
begins_inside None k below = absurd (omega (arith, below))
begins_inside (Some info) k below = (info, refl, omega (arith, below))

-- and its file has an entry
pub entry_counted : (o : Option Entry) (k : ℕ) → k < file_page_count (option_map info_of o) → (e : Entry) × (o ≡ Some e) × (k < file_page_count (Some (info_of e)))
entry_counted None k below = absurd (omega (arith, below))
entry_counted (Some e) k below = (e, refl, below)

-- a page that has a home, as it stands
pub page_with_home : (stands : ℕ → ℕ → List ℕ) (k h : ℕ) (o : Option Entry) → home_by o k ≡ Some h → page_of stands k o ≡ padded_page (inside_of (option_map info_of o) k) (joined (stands h) 8)
page_with_home stands k h None is = absurd (none-some h is)
page_with_home stands k h (Some e) is = ap (page_at stands (bytes_inside e.length k)) is

pub home_has : (entries : List (Option Entry)) (f k h : ℕ) → HasHome entries f k h → home_by (entry_in entries f) k ≡ Some h
home_has entries f k h has = ap (λ (o : Option Entry). home_by o k) has.file ∙ has.home

-- no more lies inside than a page has
pub inside_small : (o : Option FileInfo) (k : ℕ) → inside_of o k ≤ 4096
inside_small None k = omega arith
inside_small (Some info) k = omega arith

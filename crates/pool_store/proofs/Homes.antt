-- The homes of pages, and the sectors in which they stand.
use Rattle.std.proofs.Common.{ℕ, ◌≡◌, ◌<◌, Bool, refl, sym, ap, subst, ◌∙◌, arith, Option, Some, None}
use Rattle.std.proofs.lemmas.Option.{none-some, same_Some}
use Rattle.std.specs.Option.{option_map}
use Rattle.vm_types.specs.declared.file.{FileInfo.{FileInfo}, FilePage.{FilePage}}
use Rattle.sync_journal.specs.Layout.{IsPageSector}
use Rattle.pool_journal.{proofs.Loose.{Gives, slot_gives, same_place, no_home}, specs.Pools.{pool_stands, slot_by}}
use Rattle.directories.{specs.{Homes.{home_of_page}, declared.entry.Entry.{Entry}}, proofs.Owned.{gives_homes}}
use Rattle.file_store.specs.Standing.{IsPageOf}
use Rattle.pool_store.specs.{Files.{info_of}, Store.{entry_of, info_by, home_by, home_of, IsDirectoryOn}}
use Rattle.pool_store.specs.declared.directory.Directory.{Directory}

-- the entry of a file of which something is fixed
pub entry_there : (o : Option Entry) (info : FileInfo) → option_map info_of o ≡ Some info → (e : Entry) × (o ≡ Some e) × (info_of e ≡ info)
entry_there None info is = absurd (none-some info is)
entry_there (Some e) info is = (e, refl, same_Some (info_of e) info is)

-- a page that begins inside its file has a home of the device
pub page_home : (n : ℕ) (directory : Directory) (p : FilePage) → IsDirectoryOn n directory → IsPageOf (info_by directory) p.file p.page
    → (h : ℕ) × (home_of directory p ≡ Some h) × (h < n)
page_home n directory p on inside =
    let at = entry_there (entry_of directory p.file) inside.0 inside.1 in
    let homes = gives_homes directory.pages n directory.entries.items on.good in
    let long = ap (λ (info : FileInfo). info.length) at.2 in
    let has = homes.each p.file p.page at.0 at.1 (omega (arith, long, inside.2)) in
    (has.0, ap (λ e. home_by e p.page) has.1.file ∙ has.1.home, (homes.within p.file p.page has.0 has.1).1)

-- which is what its entry says
pub page_found : (n : ℕ) (directory : Directory) (p : FilePage) (e : Entry) (k : ℕ) (found : Option ℕ) → IsDirectoryOn n directory → IsPageOf (info_by directory) p.file p.page
    → entry_of directory p.file ≡ Some e → k ≡ p.page → found ≡ home_of_page e k → (h : ℕ) × (found ≡ Some h) × (h < n)
page_found n directory p e k found on inside at same is = (
    let has = page_home n directory p on inside in
    (has.0, is ∙ ap (home_of_page e) same ∙ ap (λ o. home_by o p.page) (sym at) ∙ has.1, has.2))

pub page_below : (n : ℕ) (directory : Directory) (p : FilePage) (e : Entry) (k home : ℕ) (found : Option ℕ) → IsDirectoryOn n directory → IsPageOf (info_by directory) p.file p.page
    → entry_of directory p.file ≡ Some e → k ≡ p.page → found ≡ home_of_page e k → found ≡ Some home → home < n
page_below n directory p e k home found on inside at same is this = (
    let has = page_found n directory p e k found on inside at same is in
    subst (λ h. h < n) (same_Some has.0 home (sym has.1 ∙ this)) has.2)

-- no two homes stand in one sector
pub homes_apart : (m : ℕ) (entries : Bool → ℕ → ℕ) (a b k : ℕ) → IsPageSector (pool_stands m a (slot_by m entries a)) k → IsPageSector (pool_stands m b (slot_by m entries b)) k → a ≡ b
homes_apart m entries a b k = from (slot_by m entries a) (slot_by m entries b) (slot_gives m entries a) (slot_gives m entries b)
  where
    from : (o p : Option (Bool × ℕ)) → Gives m entries a o → Gives m entries b p → IsPageSector (pool_stands m a o) k → IsPageSector (pool_stands m b p) k → a ≡ b
    from None None none neither one two = omega (arith, one.0, one.1, two.0, two.1)
    from None (Some slot) none found one two = absurd (no_home m slot.0 slot.1 k found.0 two (omega (arith, one.0)))
    from (Some slot) None found none one two = absurd (no_home m slot.0 slot.1 k found.0 one (omega (arith, two.0)))
    from (Some slot) (Some other) found also one two = (
        let same = same_place m slot.0 other.0 slot.1 other.1 k found.0 also.0 one two in
        let number : entries slot.0 slot.1 ≡ entries other.0 other.1 = ap (λ body. entries body slot.1) same.0 ∙ ap (entries other.0) same.1 in
        let first = found.1 in let second = also.1 in omega (arith, number, first, second))

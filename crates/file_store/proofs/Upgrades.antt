-- A store of layout 1 made anew in layout 2.
use Rattle.file_store.proofs.{Homes.{entry_behind, one_file}, Images.{layout_low}, Pieces.{trimmed-trimmed, length-trimmed}}
use Rattle.file_store.proofs.Names.{option_map, ◌≡◌, ◌≢◌, ◌⊎◌, ◌+◌, ◌*◌, ◌<◌, ◌≤◌, ℕ, List, Option, Some, None, inl, inr, ⊎_elim, refl, sym, ap, subst, ◌∙◌, arith, FileInfo, Image, joined, part_of, joined-same, joined_parts}
use Rattle.file_store.proofs.Names.{closed, closed_not_bad, standing_closed, closed_sector, first_home_sector, home_count, home_sector, old_home_count, old_standing, One}
use Rattle.file_store.specs.{Directory.{entry_in, home_end, IsHomeOf, IsBadDirectory, IsBadDirectory.{NotZero, Outside, Overlap}, IsSoundDirectory}, Faults.{old_fault}, Format.{IsFrom, HoldsPage}}
use Rattle.file_store.specs.{Layout.{mark, IsMark, pages_of_length, bytes_inside, padded_page}, Standing.{IsBadLayoutIn, IsBadLayoutIn.{TooSmall, Unmarked, BadDirectory}, IsBadLayout, IsPageOf, standing, info_at, file_info, page_standing_in, page_standing, standing_page_at, standing_page}}
use Rattle.file_store.specs.Upgrade.{old_directory, old_entry, IsTooSmall, IsTooSmall.{FewSectors, FewHomes}, IsCopiedSector, IsUpgradeSector, IsEntrySector, IsUnmarkedUpgrade, IsUpgradeOf, IsUpgradeIfMarked}
use Rattle.file_store.specs.declared.{directory.Entry.{Entry}, faults.{OpenFault.{OpenFault, TheVariants.{Device, BadLayout, BadJournal}}, UpgradeFault.TheVariants.{OldLayout}}}

-- the homes of a file are homes
entry_from : (entry : Option Entry) (k : ℕ) → IsEntrySector entry k → first_home_sector ≤ k
entry_from None k none = absurd none
entry_from (Some e) k at = omega (arith, at.2.0)

-- what is written before the mark lies behind it
pub copied_from : (entries : ℕ → Option Entry) (k : ℕ) → IsCopiedSector entries k → IsFrom 1 k
copied_from entries k at = ⊎_elim (λ low. (layout_low k low).0) (λ file. let from = entry_from (entries file.0) k file.1 in omega (arith, from)) at

pub copied_asked : (old : Image) (entries : ℕ → Option Entry) → ((f : ℕ) → entries f ≡ old_entry One old f) → (k : ℕ) → IsCopiedSector entries k → IsUpgradeSector old k
copied_asked old entries same k at = inr (⊎_elim (λ low. inl low) (λ file. inr (file.0, subst (λ (o : Option Entry). IsEntrySector o k) (same file.0) file.1)) at)

-- a home of one file is none of another's
pub not_in_entry : (homes : ℕ) (entry : ℕ → Option Entry) → IsSoundDirectory homes entry → (f g k i : ℕ) (e : Entry) → f ≢ g → entry f ≡ Some e
    → k < pages_of_length e.info.length → i < 8 → IsEntrySector (entry g) (home_sector (e.first + k) + i) → ⊥
not_in_entry homes entry sound f g k i e other is inside lt at = cases (entry g) refl at
  where
    cases : (o : Option Entry) → entry g ≡ o → IsEntrySector o (home_sector (e.first + k) + i) → ⊥
    cases None none_is none = none
    cases (Some a) a_is in_a =
        let same : in_a.0 ≡ e.first + k = omega (arith, in_a.2.0, in_a.2.1, lt) in
        other (one_file homes entry sound f g (e.first + k) e a is a_is (omega arith, omega (arith, inside)) (subst (λ h. IsHomeOf a h) same in_a.1))

-- a directory that is bad for a number of homes within which all files end is bad for every number
still_bad : (homes more : ℕ) (sector : List ℕ) → ((f : ℕ) (e : Entry) → entry_in sector f ≡ Some e → home_end e ≤ homes) → IsBadDirectory homes sector → IsBadDirectory more sector
still_bad homes more sector fits (NotZero f lt none not_zero) = NotZero f lt none not_zero
still_bad homes more sector fits (Outside f e is outside) = let within = fits f e is in absurd (omega (arith, within, outside))
still_bad homes more sector fits (Overlap f g h a b lt is is' in_a in_b) = Overlap f g h a b lt is is' in_a in_b

-- the layout of the new store
new_layout : (old_sectors sectors : ℕ) (old image : Image) → first_home_sector ≤ sectors → (IsBadLayoutIn One old_sectors old → ⊥)
    → ((f : ℕ) (e : Entry) → old_entry One old f ≡ Some e → home_end e ≤ home_count sectors) → image 1 ≡ old_directory One old → image 0 ≡ mark → IsBadLayout sectors image → ⊥
new_layout old_sectors sectors old image room good fits directory marked (TooSmall few) = omega (arith, room, few)
new_layout old_sectors sectors old image room good fits directory marked (Unmarked other) = other marked
new_layout old_sectors sectors old image room good fits directory marked (BadDirectory bad) =
    good (BadDirectory (still_bad (home_count sectors) (old_home_count One old_sectors) (old_directory One old) fits (subst (λ s. IsBadDirectory (home_count sectors) s) directory bad)))

-- a page of the new store
page_upgraded : (old image : Image) (k : ℕ) (e : Entry) → image 2 ≡ closed_sector → HoldsPage (e.first + k) (page_standing_in (old_standing One old) k (Some e)) image
    → page_standing image k (Some e) ≡ page_standing_in (old_standing One old) k (Some e)
page_upgraded old image k e gate holds =
    let small : bytes_inside e.info.length k ≤ 4096 = omega arith in
    let was = joined (old_standing One old (e.first + k)) 8 in
    let page = padded_page (bytes_inside e.info.length k) was in
    ap (padded_page (bytes_inside e.info.length k)) (joined-same 8 (standing image (e.first + k)) (part_of page)
    (λ i lt. standing_closed image (e.first + k) i (closed (image 2) gate) ∙ holds i lt) ∙ joined_parts page (length-trimmed (bytes_inside e.info.length k) was small))
    ∙ trimmed-trimmed (bytes_inside e.info.length k) was small

-- the mark is no part of what is written before it
upgrade_moves : (old before after : Image) → ((k : ℕ) → 1 ≤ k → after k ≡ before k) → IsUnmarkedUpgrade old before → IsUnmarkedUpgrade old after
upgrade_moves old before after same all = record {
  head = record { directory = same 1 (omega arith) ∙ all.head.directory; gate = same 2 (omega arith) ∙ all.head.gate };
  files = λ f e lt is k inside i below. same (home_sector (e.first + k) + i) (omega arith) ∙ all.files f e lt is k inside i below;
}

-- with the mark it is the store
upgraded : (old_sectors sectors : ℕ) (old image : Image) → first_home_sector ≤ sectors → (IsBadLayoutIn One old_sectors old → ⊥)
    → ((f : ℕ) (e : Entry) → old_entry One old f ≡ Some e → (f < 64) × (home_end e ≤ home_count sectors)) → IsUnmarkedUpgrade old image → image 0 ≡ mark
    → IsUpgradeOf old_sectors sectors old image
upgraded old_sectors sectors old image room good fits all marked = record {
  layout = layout;
  journal = closed_not_bad sectors image (closed (image 2) all.head.gate);
  stands = λ files pages was. record {
    layout = layout;
    journal = closed_not_bad sectors image (closed (image 2) all.head.gate);
    facts = λ f. info f ∙ was.facts f;
    same = λ f k inside. same files f k inside (was.facts f) ∙ was.same f k inside;
  };
  made = all;
}
  where
    layout : IsBadLayout sectors image → ⊥
    layout bad = new_layout old_sectors sectors old image room good (λ f e is. (fits f e is).1) all.head.directory marked bad

    entry : (f : ℕ) → entry_in (image 1) f ≡ old_entry One old f
    entry f = ap (λ (s : List ℕ). entry_in s f) all.head.directory

    info : (f : ℕ) → file_info image f ≡ info_at One old f
    info f = ap (option_map (λ (e : Entry). e.info)) (entry f)

    same : (files : ℕ → Option FileInfo) (f k : ℕ) → IsPageOf files f k → info_at One old f ≡ files f → standing_page image f k ≡ standing_page_at One (old_standing One old) old f k
    same files f k inside facts =
        let b = entry_behind (old_entry One old f) inside.0 (facts ∙ inside.1) in
        let lt : 4096 * k < b.0.info.length = subst (λ (i : FileInfo). 4096 * k < i.length) (sym b.2) inside.2 in
        ap (page_standing image k) (entry f)
        ∙ ap (page_standing image k) b.1
        ∙ page_upgraded old image k b.0 all.head.gate (all.files f b.0 (fits f b.0 b.1).0 b.1 k (omega (arith, lt)))
        ∙ sym (ap (page_standing_in (old_standing One old) k) b.1)

-- without a mark it is no store
pub no_upgrade : (old_sectors sectors : ℕ) (old image : Image) → (IsMark (image 0) → ⊥) → IsUpgradeIfMarked old_sectors sectors old image
no_upgrade old_sectors sectors old image none = record { store = λ marked. absurd (none (inl marked)); made = λ marked. absurd (none marked) }

-- and with all but the mark it is one with it, whatever its sector 0 reads
pub upgrade_whole : (old_sectors sectors : ℕ) (old mid : Image) → first_home_sector ≤ sectors → (IsBadLayoutIn One old_sectors old → ⊥)
    → ((f : ℕ) (e : Entry) → old_entry One old f ≡ Some e → (f < 64) × (home_end e ≤ home_count sectors)) → IsUnmarkedUpgrade old mid
    → (image : Image) → ((k : ℕ) → 1 ≤ k → image k ≡ mid k) → IsUpgradeIfMarked old_sectors sectors old image
upgrade_whole old_sectors sectors old mid room good fits all image same =
    let moved = upgrade_moves old mid image same all in
    record { store = λ marked. upgraded old_sectors sectors old image room good fits moved marked; made = λ _. moved }

-- what a fault of the old store says
pub layout_from : (fault : OpenFault) → old_fault fault ≡ OldLayout → fault ≡ BadLayout
layout_from BadLayout e = refl
layout_from fault e = cc

pub old_fault_cases : (fault : OpenFault) → (fault ≡ Device) ⊎ ((fault ≡ BadLayout) ⊎ (fault ≡ BadJournal))
old_fault_cases Device = inl refl
old_fault_cases BadLayout = inr (inl refl)
old_fault_cases BadJournal = inr (inr refl)

-- what doesn't fit is too small
pub too_small : (sectors : ℕ) (old : Image) (entry : ℕ → Option Entry) → ((f : ℕ) → entry f ≡ old_entry One old f)
    → (sectors < first_home_sector) ⊎ ((f : ℕ) × (e : Entry) × (entry f ≡ Some e) × (home_count sectors < home_end e)) → IsTooSmall sectors old
too_small sectors old entry same small = ⊎_elim (λ few. FewSectors few) (λ one. FewHomes one.0 one.1 (sym (same one.0) ∙ one.2) one.3) small

-- the entries of the old store, of which at most 64 are there, fit
pub entries_fit : (sectors : ℕ) (old : Image) (entry : ℕ → Option Entry) → ((f : ℕ) → entry f ≡ old_entry One old f)
    → ((f : ℕ) (e : Entry) → entry f ≡ Some e → f < 64) → ((f : ℕ) (e : Entry) → entry f ≡ Some e → home_end e ≤ home_count sectors)
    → (f : ℕ) (e : Entry) → old_entry One old f ≡ Some e → (f < 64) × (home_end e ≤ home_count sectors)
entries_fit sectors old entry same numbers fits f e is = (numbers f e (same f ∙ is), fits f e (same f ∙ is))

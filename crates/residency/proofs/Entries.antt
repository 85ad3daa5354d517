-- What stands for the pages of processes, where trees are as they were.
use Rattle.residency.{proofs.Names.{top_level, ◌≡◌, ◌≢◌, ℕ, Option, Some, None, refl, ap, ◌∙◌, FrameTable, IsRoot, page_entry}, specs.{Parts.{IsRootedBut}, Picture.{Picture, entry_under, entry}}}

entry_in-same : (mode : ℕ) (t t' : FrameTable) (r : Option ℕ) (page : ℕ) → ((x : ℕ) → r ≡ Some x → page_entry t' (top_level mode) x page ≡ page_entry t (top_level mode) x page)
    → entry_under mode t' r page ≡ entry_under mode t r page
entry_in-same mode t t' None page same = refl
entry_in-same mode t t' (Some x) page same = same x refl

-- the entry of a page of a live process
pub entry-of : {mode : ℕ} (c : Picture mode) (pid r page : ℕ) → c.root pid ≡ Some r → entry c pid page ≡ page_entry c.frames (top_level mode) r page
unfolding entry
entry-of {mode} c pid r page root = ap (λ x. entry_under mode c.frames x page) root

-- one page's entry is as it was
pub entry-same : {mode : ℕ} (old new : Picture mode) (pid page : ℕ) → new.root pid ≡ old.root pid
    → ((x : ℕ) → old.root pid ≡ Some x → page_entry new.frames (top_level mode) x page ≡ page_entry old.frames (top_level mode) x page) → entry new pid page ≡ entry old pid page
unfolding entry
entry-same {mode} old new pid page root same = ap (λ r. entry_under mode new.frames r page) root ∙ entry_in-same mode old.frames new.frames (old.root pid) page same

-- the trees and the roots are as they were
pub entries_kept : {mode : ℕ} (old new : Picture mode) (n : ℕ) → IsRootedBut old n → ((r p : ℕ) → IsRoot (top_level mode) old.frames r → page_entry new.frames (top_level mode) r p ≡ page_entry old.frames (top_level mode) r p)
    → ((pid : ℕ) → new.root pid ≡ old.root pid) → (pid page : ℕ) → entry new pid page ≡ entry old pid page
entries_kept old new n rooted same roots pid page = entry-same old new pid page (roots pid) (λ x e. same x page (rooted.roots pid x e))

-- the trees but that of one root, which no process has
pub entries_but : {mode : ℕ} (old new : Picture mode) (n : ℕ) → IsRootedBut old n → ((pid : ℕ) → old.root pid ≢ Some n)
    → ((r p : ℕ) → r ≢ n → IsRoot (top_level mode) old.frames r → page_entry new.frames (top_level mode) r p ≡ page_entry old.frames (top_level mode) r p)
    → ((pid : ℕ) → new.root pid ≡ old.root pid) → (pid page : ℕ) → entry new pid page ≡ entry old pid page
entries_but old new n rooted loose same roots pid page =
    entry-same old new pid page (roots pid) (λ x e. same x page (λ is. loose pid (e ∙ ap (λ y. Some y) is)) (rooted.roots pid x e))

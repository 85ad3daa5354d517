-- What the entry of a page is, by a search from it on.
use Rattle.std.proofs.{Common.{◌≡◌, ◌<◌, ℕ, sym, arith}}
use Rattle.{inspection.specs.Pages.{HasNoEntryFrom}, ranges.proofs.Gaps.{user_inside}, residency.specs.Picture.{Picture, entry}, vm_types.specs.Limits.{user_end}}

-- the page of a process that has no entry from it on
pub has_no_entry : (mode : ℕ) (c : Picture mode) (pid page : ℕ) → HasNoEntryFrom c pid page → page < user_end mode → 0 ≡ entry c pid page
has_no_entry mode c pid page none user = sym (none page (omega arith) (user_inside mode page (user_end mode) user (omega arith)))

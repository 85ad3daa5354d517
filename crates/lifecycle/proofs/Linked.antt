-- How the steps of the first pass follow one another.
use Rattle.lifecycle.proofs.Names.{top_level, Attr, View, ◌≡◌, ℕ, suc, inl, inr, ◌<◌, ◌≤◌, ◌/◌, List, Option, Some, None, refl, sym, ap, ◌∙◌, arith, cases_lt, IsSome, option_map, Seat, seat, Picture, entry, view, view_of, own_in, bytes_in}
use Rattle.lifecycle.proofs.Names.{IsGranting, KeepsPages, GivesForTables, IsWhole, seat-none, IsPage, way_forth, IsTableOnWay, KeepsTables, LinksTables, missing_same}
use Rattle.lifecycle.{specs.Steps.{HasCopy, HasTablesForCopies, HasTablesFrom, LacksTableForCopy, LinksCopies}, proofs.Copies.{copied_mapped}}

own_of : Option View → Option (List ℕ)
own_of None = None
own_of (Some v) = v.own

view-own : {mode : ℕ} (c : Picture mode) (pid page : ℕ) (a : Attr) → c.at pid page ≡ Some a → own_of (view c pid page) ≡ own_in c.frames c.slots (entry c pid page)
unfolding view own_of
view-own c pid page a at = ap (λ x. own_of (view_of (own_in c.frames c.slots (entry c pid page)) x)) at

none_mapped : (f : Seat → List ℕ) (o : Option Seat) → option_map f o ≡ None → o ≡ None
none_mapped f None e = refl
none_mapped f (Some y) e = let bad : Some (f y) ≡ None = e in (cc)

some_attr : (o : Option Attr) → IsSome o → (a : Attr) × (o ≡ Some a)
some_attr None some = absurd (let bad : IsSome {T = Attr} None = some in (cc))
some_attr (Some a) some = (a, refl)

-- of which pages a process has copies is seen
copy_seen : {mode : ℕ} (c d : Picture mode) (pid page : ℕ) → IsGranting c → d.at pid page ≡ c.at pid page → view c pid page ≡ view d pid page → HasCopy c pid page → HasCopy d pid page
copy_seen c d pid page granting at views copy =
    let mapped = some_attr (c.at pid page) (copied_mapped c pid page granting copy.0 copy.1) in
    let other : d.at pid page ≡ Some mapped.0 = at ∙ mapped.1 in (
      copy.0,
      λ none. copy.1 (none_mapped (bytes_in c.frames c.slots) (seat (entry c pid page))
          (sym (view-own c pid page mapped.0 mapped.1) ∙ ap own_of views ∙ view-own d pid page mapped.0 other
          ∙ ap (λ o. option_map (bytes_in d.frames d.slots) o) none)),
    )

-- a copy that a process has it had
pub copy_kept : {mode : ℕ} (old new : Picture mode) (pid page : ℕ) → IsGranting new → KeepsPages old new → HasCopy new pid page → HasCopy old pid page
copy_kept old new pid page granting keeps copy = copy_seen new old pid page granting (sym (keeps.at pid page)) (keeps.views pid page) copy

-- a copy that a process had it has
pub copy_stays : {mode : ℕ} (old new : Picture mode) (pid page : ℕ) → IsGranting old → KeepsPages old new → HasCopy old pid page → HasCopy new pid page
copy_stays old new pid page granting keeps copy = copy_seen old new pid page granting (keeps.at pid page) (sym (keeps.views pid page)) copy

pub whole_kept : {mode : ℕ} (old new : Picture mode) (pid page : ℕ) → ((q : ℕ) → new.root q ≡ old.root q) → KeepsTables old new → IsWhole old pid page → IsWhole new pid page
whole_kept old new pid page root tables whole r e = let was : old.root pid ≡ Some r = sym (root pid) ∙ e in omega (arith, whole r was, tables pid r page was)

-- what the pages of a row want is there still
pub still_there : {mode : ℕ} (old new : Picture mode) (parent child low high : ℕ) → IsGranting new → KeepsPages old new → KeepsTables old new
    → HasTablesFrom old parent child low high → HasTablesFrom new parent child low high
still_there old new parent child low high granting keeps tables has page from below copy =
    whole_kept old new child page keeps.root tables (has page from below (copy_kept old new parent page granting keeps copy))

-- and what those of the next row want
pub both_rows : {mode : ℕ} (c : Picture mode) (parent child low mid high : ℕ) → HasTablesFrom c parent child low mid → HasTablesFrom c parent child mid high → HasTablesFrom c parent child low high
both_rows c parent child low mid high one two page from below copy = elim (cases_lt page mid) [
  | inl first ↦ one page from first copy
  | inr second ↦ two page second below copy
]

-- a table that is missing was missing
pub lacks_before : {mode : ℕ} (old new : Picture mode) (parent child : ℕ) → IsGranting new → KeepsPages old new → KeepsTables old new → LacksTableForCopy new parent child → LacksTableForCopy old parent child
lacks_before old new parent child granting keeps tables lacks =
    (lacks.0, copy_kept old new parent lacks.0 granting keeps lacks.1, λ whole. lacks.2 (whole_kept old new child lacks.0 keeps.root tables whole))

-- where those past an end have no entries, what the pages before it want is all
pub all_rows : {mode : ℕ} (c : Picture mode) (parent child end : ℕ) → ((page : ℕ) → IsPage (top_level mode) page → end ≤ page → entry c parent page ≡ 0) → HasTablesFrom c parent child 0 end
    → HasTablesForCopies c parent child
all_rows c parent child end none has page copy = elim (cases_lt page end) [
  | inl below ↦ has page (omega arith) below copy
  | inr past ↦ absurd (copy.1 (ap seat (none page copy.0 past) ∙ seat-none))
]

-- pages without entries want no tables
pub none_wanted : {mode : ℕ} (c : Picture mode) (parent child low high : ℕ) → ((page : ℕ) → low ≤ page → page < high → entry c parent page ≡ 0) → HasTablesFrom c parent child low high
none_wanted c parent child low high none page from below copy = absurd (copy.1 (ap seat (none page from below) ∙ seat-none))

-- the pages of one table want the same tables
module _ {mode : ℕ} where
  pub row_whole : (c : Picture mode) (pid page other : ℕ) → page / 512 ≡ other / 512 → IsWhole c pid page → IsWhole c pid other
  row_whole c pid page other same whole r e = missing_same mode c.frames page other r same ∙ whole r e

  -- a table on the way to a page is on that way still
  way_kept : (old new : Picture mode) (tried : Option ℕ) (pid page n : ℕ) → GivesForTables old new tried → KeepsPages old new
      → IsTableOnWay old pid page n → IsTableOnWay new pid page n
  way_kept old new tried pid page n gives keeps way =
      let below = way.2 in
      (way.0, keeps.root pid ∙ way.1, (below.0, below.1, way_forth old.frames new.frames gives.pointers (top_level mode) way.0 page (suc below.0) n below.2))

-- the tables on the way to one page of which the parent has a copy
pub links_one : {mode : ℕ} (old new : Picture mode) (parent child page : ℕ) → HasCopy old parent page → LinksTables old new child page → LinksCopies old new parent child
links_one old new parent child page copy links n is = elim (links n is) [ inl was ↦ inl was | inr way ↦ inr (page, copy, way) ]

-- more tables were linked for copies
pub links_then : {mode : ℕ} (a b c : Picture mode) (tried : Option ℕ) (parent child : ℕ) → IsGranting b → KeepsPages a b → KeepsPages b c → GivesForTables b c tried
    → LinksCopies a b parent child → LinksCopies b c parent child → LinksCopies a c parent child
links_then a b c tried parent child granting before keeps gives links more n is = elim (more n is) [
  | inl was ↦ elim (links n was) [ inl first ↦ inl first | inr way ↦ inr (way.0, way.1, way_kept b c tried child way.0 n gives keeps way.2) ]
  | inr way ↦ inr (way.0, copy_kept a b parent way.0 granting before way.1, way.2)
]

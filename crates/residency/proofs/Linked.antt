-- A table taken and linked.
use Rattle.residency.proofs.{Entries.{entries_kept, entries_but}, Moves.{fit_kept, shares_but}, Names.{top_level, Attr, ◌≡◌, ◌≢◌, ◌-◌, ◌≤◌, ℕ, suc, inl, inr, Some, Option, get_or, refl, sym, ap, ◌∙◌, subst, arith, cases_eq, IsSome, Free}}
use Rattle.residency.proofs.{Names.{Table, FrameTable, role_of, AddsTable, LinksTable, IsPage, IsTable, Points, Way, IsBelowRoot, last_table, EndsAt, ends, same_taken}, Places.{dirty_same}, Rooted.{used_kept, rooted_by}}
use Rattle.residency.{proofs.TableSteps.{shares_kept}, specs.{Parts.{IsRootedBut, OnWay, IsMapped, IsFitBut, IsFit, nowhere}, Picture.{Picture, entry, is_data}, Seats.{Seat}, Steps.{SameBeside, KeepsShares}}}

-- a table taken
pub shares_taken : (old new : FrameTable) (top n : ℕ) → AddsTable old new top n → KeepsShares old new
shares_taken old new top n adds = shares_but old new n adds.takes.others (ap is_data adds.takes.was_free) (ap is_data adds.takes.kind_set)

-- no page's entry changed
pub fit_same : {mode : ℕ} (old new : Picture mode) (x : Seat) (d m m' : ℕ) → IsFitBut old x d m → SameBeside old new → KeepsShares old.frames new.frames
    → ((pid page : ℕ) → IsPage (top_level mode) page → entry new pid page ≡ entry old pid page) → IsRootedBut new m' → IsFitBut new x d m'
fit_same old new x d m m' fit beside shares same rooted = fit_kept old new shares beside.slots beside.page_of beside.place x d m m' fit beside.at beside.files same rooted
    (dirty_same old new fit.dirty beside.place beside.touched same)

pub loose_table : {mode : ℕ} (old new : Picture mode) (n : ℕ) → IsRootedBut old 0 → AddsTable old.frames new.frames (top_level mode) n → ((pid : ℕ) → new.root pid ≡ old.root pid)
    → (pid : ℕ) → new.root pid ≢ Some n
loose_table old new n rooted adds root pid e = adds.apart n (rooted.roots pid n (sym (root pid) ∙ e)).table refl

maps : {mode : ℕ} (old new : Picture mode) → SameBeside old new → (pid page : ℕ) → IsMapped old pid page → IsMapped new pid page
maps old new beside pid page some = let P : Option Attr → Type 0 = λ x. IsSome x in subst P (sym (beside.at pid page)) some

-- a table taken, in no tree yet
pub rooted_taken : {mode : ℕ} (old new : Picture mode) (n : ℕ) → IsRootedBut old 0 → role_of old.frames 0 ≢ Table → AddsTable old.frames new.frames (top_level mode) n → SameBeside old new → IsRootedBut new n
rooted_taken old new n rooted zero_page adds beside = rooted_by old new 0 n rooted beside.root adds.forest (λ pid r e. adds.roots r (rooted.roots pid r e))
    (λ m table. elim (cases_eq m n) [
      | inl e ↦ inl e
      | inr ne ↦ (
          let there : IsTable old.frames m = record { inside = rw (← adds.takes.others.frames) table.inside; role = sym (adds.takes.others.roles m ne) ∙ table.role } in
          elim (rooted.used m there) [
            | inl z ↦ absurd (zero_page (ap (role_of old.frames) (sym z) ∙ there.role))
            | inr o ↦ inr (used_kept old new (IsMapped old) (IsMapped new) m (same_taken old.frames new.frames n rooted.forest adds.takes).forth beside.root (maps old new beside) o)
          ])
    ])

at_level : (mode : ℕ) (t : FrameTable) (root page m level : ℕ) → level ≤ top_level mode → Way t (top_level mode) root page (top_level mode - level) m → m ≢ root → IsBelowRoot t (top_level mode) root page m
at_level mode t root page m level le w ne =
    let W : ℕ → Type 0 = λ d. Way t (top_level mode) root page d m in
    elim (cases_eq level (top_level mode)) [
      | inl all ↦ absurd (ne (let none : top_level mode - level ≡ 0 = omega (arith, all) in subst W none w))
      | inr less ↦ (
          let more : top_level mode - level ≡ suc (top_level mode - suc level) = omega (arith, le, less) in
          (top_level mode - suc level, omega (arith, le, less), subst W more w))
    ]

-- where a way ends that isn't its root
last_below : (mode : ℕ) (t : FrameTable) (root page m : ℕ) → EndsAt t (top_level mode) root page (last_table t page (top_level mode) root).0 (last_table t page (top_level mode) root).1 → (last_table t page (top_level mode) root).1 ≡ m → m ≢ root → IsBelowRoot t (top_level mode) root page m
last_below mode t root page m end is ne = at_level mode t root page m (last_table t page (top_level mode) root).0 end.least (let P : ℕ → Type 0 = λ x. Way t (top_level mode) root page (top_level mode - (last_table t page (top_level mode) root).0) x in subst P is end.way) ne

-- it was linked, on the way to a mapped page
pub rooted_linked : {mode : ℕ} (old new : Picture mode) (pid root page table : ℕ) → IsRootedBut old table → ((q : ℕ) → old.root q ≢ Some table) → ((a i : ℕ) → Points old.frames a i table → ⊥) → old.root pid ≡ Some root → IsMapped old pid page
    → LinksTable old.frames new.frames (top_level mode) root page table → SameBeside old new → IsRootedBut new 0
rooted_linked {mode} old new pid root page table rooted loose unlinked lives mapped links beside =
    let ne : (r q : ℕ) → old.root q ≡ Some r → r ≢ table = λ r q e is. loose q (e ∙ ap (λ x. Some x) is) in
    let end = ends new.frames (top_level mode) root page links.forest (links.roots root (ne root pid lives) (rooted.roots pid root lives)).table in
    rooted_by old new table 0 rooted beside.root links.forest (λ q r e. links.roots r (ne r q e) (rooted.roots q r e))
    (λ m is_table. elim (cases_eq m table) [
      | inl e ↦ inr (OnWay pid root page (beside.root pid ∙ lives) (maps old new beside pid page mapped) (last_below mode new.frames root page m end (links.ends ∙ sym e) (λ is. ne root pid lives (sym is ∙ e))))
      | inr ne' ↦ (
          let there : IsTable old.frames m = record { inside = rw (← links.kept.frames) is_table.inside; role = ap (λ rs. get_or rs m Free) (sym links.kept.roles) ∙ is_table.role } in
          elim (rooted.used m there) [
            | inl z ↦ absurd (ne' z)
            | inr o ↦ inr (used_kept old new (IsMapped old) (IsMapped new) m (λ a i b p. (links.pointers a i b (λ e. unlinked a i (let P : ℕ → Type 0 = λ x. Points old.frames a i x in subst P e p))).0 p) beside.root (maps old new beside) o)
          ])
    ])

-- a table was taken, and linked on the way to a mapped page
pub fit_linked : {mode : ℕ} (old mid new : Picture mode) (pid root page table : ℕ) → IsFit old → role_of old.frames 0 ≢ Table → old.root pid ≡ Some root → IsMapped old pid page
    → AddsTable old.frames mid.frames (top_level mode) table → SameBeside old mid → LinksTable mid.frames new.frames (top_level mode) root page table → SameBeside mid new → IsFit new
fit_linked {mode} old mid new pid root page table fit zero_page lives mapped adds beside links beside' =
    let loose : (q : ℕ) → mid.root q ≢ Some table = loose_table old mid table fit.rooted adds beside.root in
    let rooted = rooted_taken old mid table fit.rooted zero_page adds beside in
    let taken = fit_same old mid nowhere 0 0 table fit beside (shares_taken old.frames mid.frames (top_level mode) table adds)
    (λ q p h. entries_kept old mid 0 fit.rooted adds.entries beside.root q p) rooted in
    fit_same mid new nowhere 0 table 0 taken beside' (shares_kept mid.frames new.frames links.kept)
    (λ q p h. entries_but mid new table rooted loose (λ r p' ne is_root. links.entries r p' ne is_root) beside'.root q p)
    (rooted_linked mid new pid root page table rooted loose (λ a i. adds.spare.unlinked a i) (beside.root pid ∙ lives) (maps old mid beside pid page mapped) links beside')

-- The moments of a replay.
use Rattle.sync_journal.proofs.Names.{Result, Ok, Err, OnOk, ◌≡◌, ◌≢◌, ◌⊎◌, ◌+◌, ℕ, Bool, true, false, List, [], length, get_or, refl, ap, ◌∙◌, ⊎_elim, inl, inr, arith, Image, MayLeave, Touches, LeavesOnly, Ghosts, started, goes_on}
use Rattle.sync_journal.{proofs.Images.{open_kept, closed_kept}, specs.{Layout.{gate_sector, home_sector, home_count, IsGate, IsHomeSector}, Gate.{is_open, is_open_sector}, Map.{AreHomes}}}
use Rattle.sync_journal.specs.{Layouts.{IsKept, IsSettled, StandsForPages}, Commit.{one_journal}, Standing.{standing_single, IsOpenFor, AreCopied}}

-- a gate is open or closed
pub open_or_closed : (image : Image) → (is_open image ≡ true) ⊎ (is_open image ≡ false)
open_or_closed image = either (is_open image)
  where
    either : (b : Bool) → (b ≡ true) ⊎ (b ≡ false)
    either true = inl refl
    either false = inr refl

-- The state before, with the homes that an open journal names, all of it synced; the state when they are copied; and
-- the state when the gate is closed.
module _ {D : Type 0} (g : Ghosts D) (homes : List ℕ) (old copied new : D)
    (only_now : (image : Image) → g.left_since old (g.moment old) image → MayLeave (g.content old) (g.unsynced old) image)
    (are : AreHomes (home_count (g.sector_count old)) homes) (opens : IsOpenFor homes (g.content old)) (synced : (k : ℕ) → g.unsynced old k → ⊥)
    (copies : Touches g (IsHomeSector homes) old copied) where
  abbrev pub Stays : Image → Type 0
  Stays image = IsKept one_journal (g.sector_count old) (g.content old) (StandsForPages one_journal (standing_single (g.content old))) image

  -- while the homes are written
  around_copies : (image : Image) → MayLeave (g.content old) (λ k. g.unsynced old k ⊎ IsHomeSector homes k) image → Stays image
  around_copies image may = open_kept (g.sector_count old) homes are (g.content old) opens image
      (ap is_open_sector (at gate_sector (λ at_home. omega (arith, at_home.2.0))) ∙ opens.gate)
      (λ k other. same k)
    where
      same : (k : ℕ) → IsHomeSector homes k ⊎ (image k ≡ g.content old k)
      same k = ⊎_elim (⊎_elim (λ u. absurd (synced k u)) (λ w. inl w)) (λ e. inr e) (may.kept k)

      at : (k : ℕ) → (IsHomeSector homes k → ⊥) → image k ≡ g.content old k
      at k away = ⊎_elim (λ at_home. absurd (away at_home)) (λ e. e) (same k)

  pub while_copying : LeavesOnly g old copied (IsKept one_journal (g.sector_count old) (g.content old) (StandsForPages one_journal (standing_single (g.content old))))
  while_copying = goes_on g (IsHomeSector homes) old old copied Stays
      (started g old Stays only_now (λ image may. around_copies image (record { kept = λ k. ⊎_elim (λ u. inl (inl u)) (λ e. inr e) (may.kept k) })))
      copies around_copies

  module _ (homes_hold : AreCopied homes (length homes) (g.content old) (g.content copied)) (copied_synced : (k : ℕ) → g.unsynced copied k → ⊥)
      (closes : Touches g IsGate copied new) where
    -- an image with every sector but the gate as the copies left it
    with_copies : (image : Image) → ((k : ℕ) → k ≢ gate_sector → image k ≡ g.content copied k) → Stays image
    with_copies image same = ⊎_elim
        (λ gate. open_kept (g.sector_count old) homes are (g.content old) opens image gate as_before)
        (λ gate. closed_kept (g.sector_count old) homes are (g.content old) opens image gate hold as_before)
        (open_or_closed image)
      where
        as_before : (k : ℕ) → k ≢ gate_sector → IsHomeSector homes k ⊎ (image k ≡ g.content old k)
        as_before k other = ⊎_elim (λ at_home. inl at_home) (λ e. inr (same k other ∙ e)) (copies.content k)

        hold : AreCopied homes (length homes) (g.content old) image
        hold j i below_j below_i = same (home_sector (get_or homes j 0) + i) (omega arith) ∙ homes_hold j i below_j below_i

    -- while the gate is written
    around_closing : (image : Image) → MayLeave (g.content copied) (λ k. g.unsynced copied k ⊎ IsGate k) image → Stays image
    around_closing image may = with_copies image (λ k other. ⊎_elim (⊎_elim (λ u. absurd (copied_synced k u)) (λ at. absurd (other at))) (λ e. e) (may.kept k))

    pub while_closing : LeavesOnly g old new (IsKept one_journal (g.sector_count old) (g.content old) (StandsForPages one_journal (standing_single (g.content old))))
    while_closing = goes_on g IsGate old copied new Stays while_copying closes around_closing

    after : (image : Image) → ((k : ℕ) → image k ≡ g.content new k) → Stays image
    after image same = with_copies image (λ k other. same k ∙ ⊎_elim (λ at. absurd (other at)) (λ e. e) (closes.content k))

    pub settled : is_open (g.content new) ≡ false → ((k : ℕ) → g.unsynced new k → ⊥) → IsSettled one_journal g (g.sector_count old) (g.content old) [] new (standing_single (g.content old))
    settled closed new_synced = let here = after (g.content new) (λ k. refl) in record {
      rest = record { closed = closed; synced = λ k u. absurd (new_synced k u) };
      stands = here.stands;
      outside = here.outside;
      left = λ image may. after image (λ k. ⊎_elim (λ u. absurd (new_synced k u)) (λ e. e) (may.kept k));
    }

-- two facts of one answer
pub on_ok_both : {T E P Q R : Type 0} (result : Result T E) → OnOk result P → OnOk result Q → (P → Q → R) → OnOk result R
on_ok_both (Ok x) first second both = both first second
on_ok_both (Err e) first second both = tt

-- what holds whatever is answered
pub if_ok : {T E P : Type 0} (result : Result T E) → P → OnOk result P
if_ok (Ok x) p = p
if_ok (Err e) p = tt

-- Which sectors are asked for, from one page that is read up to the whole call.
use Rattle.msync.proofs.{Committing.{front_length, front_same}, Names.{◌≡◌, ◌<◌, ◌≤◌, ℕ, List, length, take, sym, ◌∙◌, subst, arith, AsksOnly, Ghosts, asks_wider, IsSectorOfSlot, FilePage, File, SlotNo, Picture}}
use Rattle.msync.specs.{Asking.{IsSectorOfFilePage, IsSectorListed, IsSectorTaken}, Choice.{Chosen, chosen_page, AreThoseTaken}, Spots.{spot_at, place_at, IsSectorThere, IsSectorOfSpots, HasSpots}, declared.chosen.Residence.{Residence}}
use Rattle.{msync.specs.declared.chosen.{Residence.TheVariants.{Framed, Slotted}, Spot.{Spot}}, sized_stores.specs.declared.sizes.Size.{Size}}

-- where a page lies there, and there is a slot, it lies in that one
slot_there : {mode : ℕ} (c : Picture mode) (page : FilePage) (at : Residence) (k : ℕ) → c.place (File page) ≡ place_at at → IsSectorThere at k → IsSectorOfFilePage c page k
slot_there c page (Framed n) k placed is = absurd is
slot_there c page (Slotted s) k placed is = (s, placed, is)

-- a sector of one of the spots is one of a page of the commit
listed_sector : {mode : ℕ} (c : Picture mode) (chosen : Chosen) (list : List Spot) (k : ℕ) → chosen.count ≤ length chosen.list → HasSpots c (take chosen.count chosen.list) list
    → IsSectorOfSpots list k → IsSectorListed c chosen k
listed_sector c chosen list k fit spots is =
    let i = is.0 in
    let below : i < length (take chosen.count chosen.list) = (let less = is.1 in omega (arith, less, spots.count)) in
    let front : i < chosen.count = omega (arith, below, front_length chosen fit) in
    (i, front, subst (λ (p : FilePage). IsSectorOfFilePage c p k) (spots.same i below ∙ front_same chosen i front) (slot_there c (spot_at list i).page (spot_at list i).at k (spots.spots i below).placed is.2))

module _ {E : Type 0} (h : Ghosts E) where
  -- one page was read
  pub asks_spot : (list : List Spot) (i : ℕ) (s : SlotNo) (old new : E) → i < length list → (spot_at list i).at ≡ Slotted s → AsksOnly h (IsSectorOfSlot s.0) old new → AsksOnly h (IsSectorOfSpots list) old new
  asks_spot list i s old new less at asks =
      let sector : (k : ℕ) → IsSectorOfSlot s.0 k → IsSectorOfSpots list k = λ k is. (i, less, subst (λ (r : Residence). IsSectorThere r k) (sym at) is) in
      asks_wider h (IsSectorOfSlot s.0) (IsSectorOfSpots list) old new sector asks

  -- pages of the commit were
  pub asks_listed : {mode : ℕ} (c : Picture mode) (chosen : Chosen) (list : List Spot) (old new : E) → chosen.count ≤ length chosen.list → HasSpots c (take chosen.count chosen.list) list
      → AsksOnly h (IsSectorOfSpots list) old new → AsksOnly h (IsSectorListed c chosen) old new
  asks_listed c chosen list old new fit spots asks = asks_wider h (IsSectorOfSpots list) (IsSectorListed c chosen) old new (λ k is. listed_sector c chosen list k fit spots is) asks

  -- which are those that the msync takes
  pub asks_taken : {mode : ℕ} (c : Picture mode) (sizes : List Size) (pid addr len : ℕ) (chosen : Chosen) (old new : E) → AreThoseTaken c sizes pid addr len chosen
      → AsksOnly h (IsSectorListed c chosen) old new → AsksOnly h (IsSectorTaken c sizes pid addr len) old new
  asks_taken c sizes pid addr len chosen old new taken asks =
      asks_wider h (IsSectorListed c chosen) (IsSectorTaken c sizes pid addr len) old new (λ k is. (chosen_page chosen.list is.0, taken.pages.each is.0 is.1, is.2)) asks

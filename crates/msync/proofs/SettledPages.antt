-- Pages are settled one after the other.
use Rattle.vm_types.specs.declared.mode.Levels as Levels
use Rattle.msync.proofs.Names.{◌≡◌, ◌≢◌, ℕ, zero, suc, inl, inr, ◌⊎◌, ◌+◌, ◌-◌, ◌<◌, false, List, length, Some, refl, sym, ap, ◌∙◌, subst, arith, rules, below_more, cases_eq, false≢true, same_Some, FilePage, PageKey, File, inside_of, cut}
use Rattle.msync.proofs.Names.{trimmed, frame_count, bytes_of, Swap, slots_of, IsReady, IsAsWritten, Ghosts, is_dirty, Core, Picture, entry, held, bytes_at, IsFit, HasPlaces, bit_seven, seven_clear, cases_page}
use Rattle.msync.specs.{Settling.{KeepsBesidePages, LosesDirty, ClearsLeaf, IsFrameIn, settled_place, settled_in, settled_bytes, SettlesOne, Settles, SettlesMemory}, Spots.{spot_at, place_at, bytes_there, IsThere, IsSpot, AreSpots}}
use Rattle.{msync.specs.declared.chosen.{Residence.{Residence, TheVariants.{Framed, Slotted}}, Spot.{Spot}}, swap.specs.declared.pages.Pages.{Pages as Swap_pages}}

lost_clean : (e e' : ℕ) → LosesDirty e e' → is_dirty e' ≡ false
lost_clean e e' lost = let number : e' ≡ e - 128 = (let n = lost.number in omega (arith, n)) in ap is_dirty number ∙ seven_clear e (bit_seven e lost.had)

pub one_file : (p q : FilePage) → File p ≡ File q → p ≡ q
one_file p q e = (cc)

-- nothing changed
pub settles_nothing : {mode : ℕ} (c : Picture mode) → SettlesMemory c c
settles_nothing c = record { roles = λ n. refl; entries = λ pid page h. inl refl; places = λ p. inl refl }

-- no page at all
pub settles_none : {mode : ℕ} (c : Picture mode) (list : List Spot) → Settles c c list 0
settles_none c list = record {
  frames = refl;
  roles = λ n. refl;
  slots = refl;
  root = λ q. refl;
  views = λ q p. refl;
  entries = λ q p h. inl refl;
  files = λ f. refl;
  placed = λ i less. absurd (omega arith);
  elsewhere = λ p none. refl;
  cleaned = λ i less. absurd (omega arith);
  untouched = λ p none. refl;
  settled = λ i less. absurd (omega arith);
  kept = λ p none. refl;
}

-- the bytes of a page at its spot
pub held_spot : {mode : ℕ} (c : Picture mode) (p : PageKey) (at : Residence) → c.place p ≡ place_at at → held c p ≡ Some (bytes_there c.frames c.slots at)
unfolding held
held_spot c p (Framed n) placed = ap (λ x. bytes_at c.frames c.slots x) placed
held_spot c p (Slotted k) placed = ap (λ x. bytes_at c.frames c.slots x) placed

-- what a page comes to is what it would have come to before
settled_same : {mode : ℕ} (a b : Picture mode) (p : FilePage) (at : Residence) → ((f : ℕ) → b.files f ≡ a.files f) → a.place (File p) ≡ place_at at → b.place (File p) ≡ place_at at → held b (File p) ≡ held a (File p)
    → settled_in b.files b.frames p at ≡ settled_in a.files a.frames p at
settled_same a b p (Slotted k) files was now same = refl
settled_same a b p (Framed n) files was now same =
    ap (λ info. Some (cut (inside_of info p.page) (bytes_of b.frames n.0))) (files p.file)
    ∙ ap (λ (w : List ℕ). Some (trimmed a.files p.file p.page w)) (same_Some _ _ (sym (held_spot b (File p) (Framed n) now) ∙ same ∙ held_spot a (File p) (Framed n) was))

still_there : {mode : ℕ} (a b : Picture mode) (p : PageKey) (at : Residence) → HasPlaces b → frame_count b.frames ≡ frame_count a.frames → b.place p ≡ place_at at → IsThere a.frames a.slots at → IsThere b.frames b.slots at
still_there a b p (Framed n) places frames now there = omega (arith, frames, there)
still_there a b p (Slotted k) places frames now there = (let one = places.slotted p k.0 now in omega (arith, one))

module _ {mode : ℕ} (a b : Picture mode) (list : List Spot) (i : ℕ) (spots : AreSpots a list) (less : i < length list) (settles : Settles a b list i) where
  -- the pages that are left lie where they lay
  apart : (j : ℕ) → j < i → File (spot_at list j).page ≢ File (spot_at list i).page
  apart j below e = spots.once j i below less (one_file (spot_at list j).page (spot_at list i).page e)

  pub spot_left : IsFit b → IsSpot b (spot_at list i)
  spot_left fit =
      let x = spot_at list i in
      let was = spots.each i less in
      let now : b.place (File x.page) ≡ place_at x.at = settles.elsewhere (File x.page) apart ∙ was.placed in
      record { placed = now; there = still_there a b (File x.page) x.at fit.places settles.frames now was.there }

  -- one page more
  module _ (c : Picture mode) (fit : IsFit b) (one : SettlesOne b c (spot_at list i)) where
    other : (p : PageKey) → ((j : ℕ) → j < i + 1 → File (spot_at list j).page ≢ p) → p ≢ File (spot_at list i).page
    other p none e = none i (omega arith) (sym e)

    earlier : (p : PageKey) → ((j : ℕ) → j < i + 1 → File (spot_at list j).page ≢ p) → (j : ℕ) → j < i → File (spot_at list j).page ≢ p
    earlier p none j below = none j (omega arith)

    pub settles_more : Settles a c list (i + 1)
    settles_more = record {
      frames = one.frames ∙ settles.frames;
      roles = λ m. one.roles m ∙ settles.roles m;
      slots = one.slots ∙ settles.slots;
      root = λ q. one.root q ∙ settles.root q;
      views = λ q p. one.views q p ∙ settles.views q p;
      entries = λ q p h. elim (one.entries q p h) [
        | inl same ↦ elim (settles.entries q p h) [
          | inl was ↦ inl (same ∙ was)
          | inr lost ↦ inr (subst (λ (e : ℕ). ClearsLeaf (IsFrameIn list) (entry a q p) e) (sym same) lost)
        ]
        | inr lost ↦ elim (settles.entries q p h) [
          | inl was ↦ inr (subst (λ (e : ℕ). ClearsLeaf (IsFrameIn list) e (entry c q p)) was (record { leaf = lost.leaf; frame = (i, less, lost.frame); loses = lost.loses }))
          | inr before ↦ absurd (false≢true (sym (lost_clean (entry a q p) (entry b q p) before.loses) ∙ lost.loses.had))
        ]
      ];
      files = λ f. one.files f ∙ settles.files f;
      placed = below_more (λ j. c.place (File (spot_at list j).page) ≡ settled_place (spot_at list j).at) i
          (λ j low. one.elsewhere (File (spot_at list j).page) (apart j low) ∙ settles.placed j low) one.placed;
      elsewhere = λ p none. one.elsewhere p (other p none) ∙ settles.elsewhere p (earlier p none);
      cleaned = below_more (λ j. c.touched (File (spot_at list j).page) ≡ false) i
          (λ j low. one.untouched (File (spot_at list j).page) (apart j low) ∙ settles.cleaned j low) one.cleaned;
      untouched = λ p none. one.untouched p (other p none) ∙ settles.untouched p (earlier p none);
      settled = (
          let x = spot_at list i in
          below_more (λ j. held c (File (spot_at list j).page) ≡ settled_bytes a (spot_at list j)) i (λ j low. one.kept (File (spot_at list j).page) (apart j low) ∙ settles.settled j low)
          (one.settled ∙ settled_same a b x.page x.at settles.files (spots.each i less).placed (spot_left fit).placed (settles.kept (File x.page) apart)));
      kept = λ p none. one.kept p (other p none) ∙ settles.kept p (earlier p none);
    }

-- a page is in a list, or it isn't
pub cases_listed : (list : List Spot) (n : ℕ) (p : PageKey) → ((i : ℕ) × (i < n) × (File (spot_at list i).page ≡ p)) ⊎ ((i : ℕ) → i < n → File (spot_at list i).page ≢ p)
cases_listed list zero p = inr (λ i less. absurd (omega arith))
cases_listed list (suc n) p = elim (cases_page (File (spot_at list n).page) p) [
  | inl e ↦ inl (n, omega arith, e)
  | inr ne ↦ elim (cases_listed list n p) [
    | inl found ↦ inl (found.0, (let less = found.1 in omega (arith, less)), found.2)
    | inr none ↦ inr (λ i less. elim (cases_eq i n) [ inl is ↦ λ e. ne (ap (λ k. File (spot_at list k).page) (sym is) ∙ e) | inr other ↦ none i (omega arith) ])
  ]
]

module _ {M : Type 0} {m : Levels.Ghosts M} {D E : Type 0} where
  pub beside_none : (c : Core D E M m) → KeepsBesidePages c c
  beside_none c = record { store = refl; pages = refl; roots = refl; regions = refl; page_of = refl; clock = refl; refused = refl }

  pub beside_then : (a b c : Core D E M m) → KeepsBesidePages a b → KeepsBesidePages b c → KeepsBesidePages a c
  beside_then a b c f g = search rules

-- slots of which shares changed alone may be put and got
pub ready_shared : {E : Type 0} (h : Ghosts E) (old new : Swap E) → IsReady h old → new.pages ≡ old.pages → (slots_of new).total ≡ (slots_of old).total → IsReady h new
ready_shared {E = E} h old new ready pages total = record {
  room = (omega (arith, ap (λ p. h.sector_count p.disk) pages, ready.room, total));
  as_written = subst (λ (p : Swap_pages E). IsAsWritten h p.disk p.written.notes) (sym pages) ready.as_written;
}

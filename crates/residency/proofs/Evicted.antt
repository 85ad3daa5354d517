-- A frame loses a share to a slot, and a page of a file leaves its frame.
use Rattle.residency.proofs.{Entries.{entries_kept}, Granting.{granting_kept}, Moves.{behind_kept}, Names.{top_level, ◌≡◌, ◌≢◌, ℕ, inl, inr, ◌⊎◌, ◌<◌, Some, None, get_or, refl, sym, ap, ◌∙◌, subst, arith, cases_eq, Free, Table, Private}}
use Rattle.residency.proofs.{Names.{Cache, role_of, count_of, Releases, SlotTable, frame_of, IsPage, data_released}, Places.{places_same, dirty_same}, Rooted.{rooted_same}, Seats.{counted_released, not_alone}, Start.{entry-dead, seat-none}}
use Rattle.residency.{proofs.Start.{cases_some}, specs.{Parts.{IsRootedBut, IsFitBut, nowhere}, Picture.{Picture, entry, IsOwned, count_in, page_in}, Seats.{Seat, InFrame, InSlot, seat}, Steps.{SameBeside}}}

-- only a live process has own copies
pub seat_number : {mode : ℕ} (c : Picture mode) (m pid page : ℕ) (z : Seat) → IsRootedBut c m → seat (entry c pid page) ≡ Some z → pid < 65
seat_number c m pid page z rooted is = elim (cases_some (c.root pid)) [
  | inl dead ↦ (let bad : None ≡ Some z = sym (ap seat (entry-dead c pid page dead) ∙ seat-none) ∙ is in (cc))
  | inr lives ↦ (let number = rooted.numbers pid lives.0 lives.1 in omega (arith, number))
]

-- a share of a private frame was given back, after an entry was moved away from it
module _ {mode : ℕ} (old new : Picture mode) (n m : ℕ) (fit : IsFitBut old (InFrame n) 1 m) (held : role_of old.frames n ≡ Private) (releases : Releases old.frames new.frames n) (beside : SameBeside old new) where
  kept_role : 1 < count_of old.frames n → role_of new.frames n ≡ role_of old.frames n
  kept_role more = ap (λ rs. get_or rs n Free) (releases.role_kept more)

  after : (role_of new.frames n ≡ Private) ⊎ (role_of new.frames n ≡ Free)
  after = elim (cases_eq (count_of old.frames n) 1) [
    | inl one ↦ inr (releases.freed one)
    | inr ne ↦ (let less = releases.lowered in let more : 1 < count_of old.frames n = omega (arith, less, ne) in inl (kept_role more ∙ held))
  ]

  -- an entry that names it still isn't alone
  pub shared_frame : (pid k : ℕ) → IsPage (top_level mode) k → seat (entry old pid k) ≡ Some (InFrame n) → 1 < count_of old.frames n
  shared_frame pid k h is = not_alone mode (entry old) (entry old) (IsOwned old) (IsOwned old) (count_in old) (count_in old) (page_in old fit.counted.0) (page_in old fit.counted.0) (λ q p h'. refl) (InFrame n) fit.counted.1 pid k h
      (seat_number old m pid k (InFrame n) fit.rooted is) is

  forth : (z : Seat) → (z ≢ InFrame n) ⊎ (1 < count_in old z) → IsOwned old z → IsOwned new z
  forth (InFrame j) why is = elim (cases_eq j n) [
    | inl e ↦ elim why [
      | inl ne ↦ absurd (ne (ap (λ i. InFrame i) e))
      | inr more ↦ (let P : ℕ → Type 0 = λ i. 1 < count_of old.frames i in ap (role_of new.frames) e ∙ kept_role (subst P e more) ∙ held)
    ]
    | inr ne ↦ releases.others.roles j ne ∙ is
  ]
  forth (InSlot j) why is = ((let P : SlotTable → Type 0 = λ t. 0 < t.count j in subst P (sym beside.slots) is.0), λ p e. is.1 p (sym (beside.place p) ∙ e))

  back : (z : Seat) → IsOwned new z → IsOwned old z
  back (InFrame j) is = elim (cases_eq j n) [ inl e ↦ ap (role_of old.frames) e ∙ held | inr ne ↦ sym (releases.others.roles j ne) ∙ is ]
  back (InSlot j) is = ((let P : SlotTable → Type 0 = λ t. 0 < t.count j in subst P beside.slots is.0), λ p e. is.1 p (beside.place p ∙ e))

  counts : (z : Seat) → z ≢ InFrame n → IsOwned old z → count_in new z ≡ count_in old z
  counts (InFrame j) ne is = releases.others.counts j (λ e. ne (ap (λ i. InFrame i) e))
  counts (InSlot j) ne is = ap (λ t. t.count j) beside.slots

  pages : (z : Seat) → IsOwned old z → page_in new fit.counted.0 z ≡ page_in old fit.counted.0 z
  pages (InFrame j) is = beside.page_of j
  pages (InSlot j) is = refl

  pub fit_released : IsFitBut new nowhere 0 m
  fit_released =
      let trees = data_released old.frames new.frames (top_level mode) n fit.rooted.forest releases (λ t. (let bad : Private ≡ Table = sym held ∙ t in (cc))) in
      let same : (pid k : ℕ) → IsPage (top_level mode) k → entry new pid k ≡ entry old pid k = λ pid k h. entries_kept old new m fit.rooted trees.entries beside.root pid k in
      let lowered = releases.lowered in
      record {
        counted = (
          fit.counted.0,
          counted_released mode (entry old) (entry new) (IsOwned old) (IsOwned new) (count_in old) (count_in new)
              (page_in old fit.counted.0) (page_in new fit.counted.0) (λ q p h. ap seat (same q p h)) (InFrame n) nowhere fit.counted.1 held forth back counts pages lowered
              (λ q p z h is. seat_number old m q p z fit.rooted is),
        );
        rooted = rooted_same old new m fit.rooted trees beside.root beside.at;
        granting = granting_kept old new fit.granting (behind_kept old new beside)
            (λ pid k h private write one. elim (cases_eq (frame_of (entry old pid k)) n) [
              | inl e ↦ (
                  let own : seat (entry old pid k) ≡ Some (InFrame n) = rw private (ap (λ j. Some (InFrame j)) e) in
                  let one_n : count_of old.frames n ≡ 1 = ap (count_of old.frames) (sym e) ∙ one in
                  absurd (omega (arith, shared_frame pid k h own, one_n)))
              | inr ne ↦ releases.others.counts (frame_of (entry old pid k)) ne ∙ one
            ])
            beside.at same;
        places = places_same old new fit.places beside.place beside.at beside.files beside.slots
            (λ x e. elim (cases_eq x n) [
              | inl is ↦ (let bad : Private ≡ Cache = sym held ∙ ap (role_of old.frames) (sym is) ∙ e in (cc))
              | inr ne ↦ releases.others.roles x ne ∙ e
            ])
            (λ x e. elim (cases_eq x n) [
              | inl is ↦ elim after [
                | inl p ↦ (let bad : Private ≡ Cache = sym p ∙ ap (role_of new.frames) (sym is) ∙ e in (cc))
                | inr f ↦ (let bad : Free ≡ Cache = sym f ∙ ap (role_of new.frames) (sym is) ∙ e in (cc))
              ]
              | inr ne ↦ sym (releases.others.roles x ne) ∙ e
            ]);
        dirty = dirty_same old new fit.dirty beside.place beside.touched same;
      }

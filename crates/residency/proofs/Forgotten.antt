-- A page of a file or an object that no entry is over is at home, and its frame or slot is free.
use Rattle.residency.proofs.{Bits.{some_framed}, Cleaning.{Untouches, fit_untouched, views_untouched, held_untouched, entries_untouched}, Homing.{Homes, one_slot, fit_homed, same, views, held_else}, LeafSteps.{over_resident, over_backed}}
use Rattle.residency.proofs.{Leaving.{Leaves, unnamed_of, fit_home, left_spares, same as same_left, trees as trees_left, held_other as held_left, home_held}, Names.{top_level, PageKey}}
use Rattle.residency.proofs.Names.{◌≡◌, ◌≢◌, ℕ, inl, inr, ◌<◌, false, sym, ap, ◌∙◌, subst, arith, cases_eq, FrameTable, frame_count, role_of, frame_of, IsPage, Points, Home, Frame, Slot}
use Rattle.residency.specs.{Leaves.{IsOver}, Parts.{IsFit, nowhere}, Picture.{Picture, entry}, Seats.{is_private, is_swapped}, Steps.{Forgets, HasNoEntry}, declared.leaves.Change.{Change, TheVariants.{Forget, ClearDirty}}}

module _ {mode : ℕ} (c : Picture mode) (p : PageKey) (n : ℕ) (fit : IsFit c) (bare : HasNoEntry c p) (placed : c.place p ≡ Frame (record { 0 = n })) (above : 0 < n) where
  -- no entry is over its frame
  pub none_over : (change : Change) (pid k : ℕ) → IsPage (top_level mode) k → IsOver c change n pid k → ⊥
  none_over change pid k h over =
      let res = over_resident c change n pid k fit h over in
      let on = over_backed c change n pid k fit h over p res.0 above placed res.1 in
      (some_framed change (entry c pid k) over.concerned).0 (bare pid k h (record { attr = res.0; mapped = res.1; on = on }))

  pub none_named : (pid k : ℕ) → IsPage (top_level mode) k → entry c pid k ≢ 0 → is_private (entry c pid k) ≡ false → is_swapped (entry c pid k) ≡ false → frame_of (entry c pid k) ≢ n
  none_named = unnamed_of c n (none_over Forget)

-- its mark was taken, and then it left its frame
module _ {mode : ℕ} (old mid new : Picture mode) (p : PageKey) (n : ℕ) (fit : IsFit old) (bare : HasNoEntry old p) (placed : old.place p ≡ Frame (record { 0 = n })) (above : 0 < n)
    (u : Untouches old mid p) (leaves : Leaves mid new p n Home) where
  fit_mid : IsFit mid
  fit_mid = fit_untouched old mid p n fit u placed (none_over old p n fit bare placed above ClearDirty)

  bare_mid : HasNoEntry mid p
  bare_mid pid k h stands = entries_untouched old mid p n fit u pid k ∙ bare pid k h (record { attr = stands.attr; mapped = sym (u.at pid k) ∙ stands.mapped; on = stands.on })

  unnamed_mid : (pid k : ℕ) → IsPage (top_level mode) k → entry mid pid k ≢ 0 → is_private (entry mid pid k) ≡ false → is_swapped (entry mid pid k) ≡ false → frame_of (entry mid pid k) ≢ n
  unnamed_mid = none_named mid p n fit_mid bare_mid (u.place p ∙ placed) above

  pub fit_forgotten : IsFit new
  fit_forgotten = fit_home mid new p n fit_mid leaves u.now unnamed_mid

  pub forgets_framed : Forgets old new p
  forgets_framed =
      let spares = left_spares mid new p n Home nowhere 0 fit_mid leaves unnamed_mid 0 (inr (home_held new p leaves.placed, u.now)) in
      let trees = trees_left mid new p n Home nowhere 0 fit_mid leaves unnamed_mid in
      record {
        root = λ pid. leaves.root pid ∙ u.root pid;
        at = λ pid k. leaves.at_same pid k ∙ u.at pid k;
        page_of = λ m. leaves.page_of m ∙ u.page_of m;
        files = λ f. leaves.files f ∙ u.files f;
        placed = leaves.placed;
        others = λ q ne. leaves.others q ne ∙ u.place q;
        now = leaves.touched p ∙ u.now;
        rest = λ q ne. leaves.touched q ∙ u.others q ne;
        entries = λ pid k h. same_left mid new p n Home nowhere 0 fit_mid leaves unnamed_mid pid k h ∙ entries_untouched old mid p n fit u pid k;
        views = λ pid k. spares.pages.views pid k ∙ views_untouched old mid p n fit u pid k;
        held = λ q ne. held_left mid new p n Home nowhere 0 fit_mid leaves unnamed_mid q ne ∙ held_untouched old mid p n fit u q;
        frames = leaves.frames.frames ∙ ap frame_count u.frames;
        roles = λ m. elim (cases_eq m n) [
          | inl e ↦ inr (ap (role_of new.frames) e ∙ leaves.free, placed ∙ ap (λ i. Frame (record { 0 = i })) (sym e))
          | inr ne ↦ inl (leaves.frames.roles m ne ∙ ap (λ t. role_of t m) u.frames)
        ];
        pointers = λ a i m. (
          λ x. trees.same.forth a i m (let P : FrameTable → Type 0 = λ t. Points t a i m in subst P (sym u.frames) x),
          λ x. (let P : FrameTable → Type 0 = λ t. Points t a i m in subst P u.frames (trees.same.back a i m x)),
        );
        total = ap (λ t. t.total) leaves.slots ∙ ap (λ t. t.total) u.slots;
        counts = λ k ne. ap (λ t. t.count k) leaves.slots ∙ ap (λ t. t.count k) u.slots;
        left = λ k at. (let bad : Frame (record { 0 = n }) ≡ Slot (record { 0 = k }) = sym placed ∙ at in (cc));
        bytes = λ k used. ap (λ t. t.bytes k) leaves.slots ∙ ap (λ t. t.bytes k) u.slots;
      }

-- it left its slot
module _ {mode : ℕ} (old new : Picture mode) (p : PageKey) (k : ℕ) (fit : IsFit old) (homes : Homes old new p k) where
  pub fit_forgotten_slot : IsFit new
  fit_forgotten_slot = fit_homed old new p k fit homes

  gone : new.slots.count k ≡ 0
  gone = let less = homes.slots.lowered in let one = fit.places.slotted p k homes.was in omega (arith, less, one)

  pub forgets_slotted : Forgets old new p
  forgets_slotted = record {
    root = homes.root;
    at = homes.at;
    page_of = homes.page_of;
    files = homes.files;
    placed = homes.placed;
    others = homes.others;
    now = homes.now;
    rest = homes.rest;
    entries = λ pid q h. same old new p k fit homes pid q;
    views = λ pid q. views old new p k fit homes pid q;
    held = λ q ne. held_else old new p k fit homes q ne;
    frames = ap frame_count homes.frames;
    roles = λ m. inl (ap (λ t. role_of t m) homes.frames);
    pointers = λ a i m. (
      λ x. (let P : FrameTable → Type 0 = λ t. Points t a i m in subst P (sym homes.frames) x),
      λ x. (let P : FrameTable → Type 0 = λ t. Points t a i m in subst P homes.frames x),
    );
    total = homes.slots.others.total;
    counts = λ j ne. homes.slots.others.counts j (λ e. ne (homes.was ∙ ap (λ i. Slot (record { 0 = i })) (sym e)));
    left = λ j at. (let e : j ≡ k = one_slot j k (sym at ∙ homes.was) in ap new.slots.count e ∙ gone);
    bytes = λ j used. elim (cases_eq j k) [
      | inl e ↦ absurd (let none : new.slots.count j ≡ 0 = ap new.slots.count e ∙ gone in omega (arith, none, used))
      | inr ne ↦ homes.slots.others.bytes j ne (let c = homes.slots.others.counts j ne in omega (arith, c, used))
    ];
  }

-- A share handed over shows nothing.
use Rattle.residency.proofs.Names.{top_level, PageKey, ◌≡◌, ℕ, inl, inr, ◌⊎◌, true, [], Some, get_or, sym, ap, ◌∙◌, arith, rules, cases_eq, Free, Table, Private, Cache, role_of, count_of, Releases, IsPage, KeepsTrees, data_released, same_last}
use Rattle.residency.specs.{Seats.{Seat, InFrame, InSlot, seat}, Picture.{Picture, entry, held, is_data, bytes_in}, Parts.{IsFitBut}, Steps.{SameBeside}, Ages.{Same}, Evictions.{Spares}}
use Rattle.residency.proofs.{Entries.{entries_kept}, Evicted.{shared_frame}, Setting.{view_seated, each_view, held_same}}

-- a share of a frame was given back, whose entry had been moved away
module _ {mode : ℕ} (old new : Picture mode) (n k : ℕ) (fit : IsFitBut old (InFrame n) 1 0) (own : role_of old.frames n ≡ Private) (releases : Releases old.frames new.frames n) (beside : SameBeside old new) where
  trees : KeepsTrees old.frames new.frames (top_level mode)
  trees = data_released old.frames new.frames (top_level mode) n fit.rooted.forest releases (λ t. (let bad : Private ≡ Table = sym own ∙ t in (cc)))

  pub same : (pid p : ℕ) → entry new pid p ≡ entry old pid p
  same = entries_kept old new 0 fit.rooted trees.entries beside.root

  seat_bytes : (pid p : ℕ) → IsPage (top_level mode) p → (z : Seat) → seat (entry old pid p) ≡ Some z → bytes_in new.frames new.slots z ≡ bytes_in old.frames old.slots z
  seat_bytes pid p h (InSlot j) is = ap (λ t. t.bytes j) beside.slots
  seat_bytes pid p h (InFrame m) is = elim (cases_eq m n) [
    | inl e ↦ ap (λ bs. get_or bs m []) (releases.bytes_kept (shared_frame old new n 0 fit own releases beside pid p h (is ∙ ap (λ i. Some (InFrame i)) e)))
    | inr ne ↦ releases.others.bytes m ne
  ]

  kept_held : (p : PageKey) → held new p ≡ held old p
  kept_held p = held_same old new p (beside.place p) beside.slots
      (λ m is. releases.others.bytes m (λ e. (let bad : Private ≡ Cache = sym own ∙ sym (ap (role_of old.frames) e) ∙ fit.places.cached p m is in (cc))))

  after : (role_of new.frames n ≡ role_of old.frames n) ⊎ ((role_of new.frames n ≡ Free) × (is_data (role_of old.frames n) ≡ true))
  after = elim (cases_eq (count_of old.frames n) 1) [
    | inl one ↦ inr (releases.freed one, ap is_data own)
    | inr ne ↦ inl (ap (λ rs. get_or rs n Free) (releases.role_kept (let l = releases.lowered in omega (arith, l, ne))))
  ]

  pub release_spares : Spares n k old new
  release_spares =
      let views = λ (pid p : ℕ). each_view old new fit.granting beside.at pid p (λ h. view_seated old new pid p (beside.at pid p) (ap seat (same pid p)) (seat_bytes pid p h)) in
      let ends = λ (pid r p : ℕ) (e : old.root pid ≡ Some r). (let table = (fit.rooted.roots pid r e).table in (same_last old.frames new.frames fit.rooted.forest trees.forest trees.same (top_level mode) r p table ((trees.tables r).0 table)).0) in
      let slots = λ (j : ℕ). ap (λ t. t.bytes j) beside.slots in
      let shares = λ (j : ℕ). ap (λ t. t.count j) beside.slots in
      search (rules, inl, Same, views, kept_held, after, same, ends, slots, shares, beside.root, beside.at, beside.touched, beside.files, beside.place, releases.others.frames, releases.others.roles, releases.others.counts, releases.others.bytes, trees.same.forth, ap (λ t. t.total) beside.slots)

-- A frame taken for a process's own, and a frame given back that no entry names.
use Rattle.residency.proofs.Names.{top_level, PageKey, ◌≡◌, ◌≢◌, ℕ, inl, inr, ◌<◌, refl, sym, ap, ◌∙◌, subst, cases_eq, Free, Table, Private, Cache, role_of, count_of, SlotTable, frame_of, IsPage, KeepsTrees, data_changed}
use Rattle.residency.specs.{Seats.{Seat, InFrame, InSlot, seat}, Picture.{Picture, entry, view, held, IsOwned, count_in, page_in}, Parts.{IsCountedBut, IsFit, IsFitBut, nowhere}, Steps.{ChangesFrame}}
use Rattle.residency.proofs.{Entries.{entries_kept}, Granting.{granting_same}, Places.{places_same, dirty_same}, Rooted.{rooted_same}, Seats.{counted_fresh}, Setting.{view_seated, each_view, held_same}, Moves.{counted_on, bytes_same}}

module _ {mode : ℕ} (old new : Picture mode) (n : ℕ) (fit : IsFit old) (changes : ChangesFrame old new n) (datum : role_of new.frames n ≢ Table) where
  used_ne : (m : ℕ) → role_of old.frames m ≢ Free → m ≢ n
  used_ne m used e = used (ap (role_of old.frames) e ∙ changes.was_free)

  pub private_ne : (m : ℕ) → role_of old.frames m ≡ Private → m ≢ n
  private_ne m own = used_ne m (λ free. (let bad : Private ≡ Free = sym own ∙ free in (cc)))

  pub cache_ne : (m : ℕ) → role_of old.frames m ≡ Cache → m ≢ n
  cache_ne m cache = used_ne m (λ free. (let bad : Cache ≡ Free = sym cache ∙ free in (cc)))

  pub trees_changed : KeepsTrees old.frames new.frames (top_level mode)
  trees_changed = data_changed old.frames new.frames (top_level mode) n fit.rooted.forest changes.frames (λ t. (let bad : Free ≡ Table = sym changes.was_free ∙ t in (cc))) datum

  pub entries_changed : (q p : ℕ) → entry new q p ≡ entry old q p
  entries_changed = entries_kept old new 0 fit.rooted trees_changed.entries changes.root

  pub views_changed : (q p : ℕ) → view new q p ≡ view old q p
  views_changed q p = each_view old new fit.granting changes.at q p (λ h. view_seated old new q p (changes.at q p) (ap seat (entries_changed q p))
      (λ z is. bytes_same old new changes.slots (λ m own. changes.frames.bytes m (private_ne m own)) z (fit.counted.1.named q p z h is)))

  pub held_changed : (p : PageKey) → held new p ≡ held old p
  held_changed p = held_same old new p (changes.place p) changes.slots (λ m at. changes.frames.bytes m (cache_ne m (fit.places.cached p m at)))

  frame_ne : (m : ℕ) → InFrame m ≢ InFrame n → m ≢ n
  frame_ne m ne e = ne (ap (λ i. InFrame i) e)

  forth : (z : Seat) → IsOwned old z → IsOwned new z
  forth (InFrame m) is = changes.frames.roles m (private_ne m is) ∙ is
  forth (InSlot k) is = ((let P : SlotTable → Type 0 = λ t. 0 < t.count k in subst P (sym changes.slots) is.0), λ p e. is.1 p (sym (changes.place p) ∙ e))

  back : (z : Seat) → z ≢ InFrame n → IsOwned new z → IsOwned old z
  back (InFrame m) ne is = sym (changes.frames.roles m (frame_ne m ne)) ∙ is
  back (InSlot k) ne is = ((let P : SlotTable → Type 0 = λ t. 0 < t.count k in subst P changes.slots is.0), λ p e. is.1 p (changes.place p ∙ e))

  counts : (z : Seat) → z ≢ InFrame n → IsOwned old z → count_in new z ≡ count_in old z
  counts (InFrame m) ne is = changes.frames.counts m (frame_ne m ne)
  counts (InSlot k) ne is = ap (λ t. t.count k) changes.slots

  pages : (z : Seat) → z ≢ InFrame n → IsOwned old z → page_in new fit.counted.0 z ≡ page_in old fit.counted.0 z
  pages (InFrame m) ne is = changes.others m (frame_ne m ne)
  pages (InSlot k) ne is = refl

  owned_ne : (z : Seat) → IsOwned old z → z ≢ InFrame n
  owned_ne (InFrame m) is e = private_ne m is (cc)
  owned_ne (InSlot k) is e = (cc)

  cache_back : (m : ℕ) → role_of new.frames n ≢ Cache → role_of new.frames m ≡ Cache → role_of old.frames m ≡ Cache
  cache_back m other e = elim (cases_eq m n) [ inl is ↦ absurd (other (ap (role_of new.frames) (sym is) ∙ e)) | inr ne ↦ sym (changes.frames.roles m ne) ∙ e ]

  fit_by : (x : Seat) (d : ℕ) → role_of new.frames n ≢ Cache → IsCountedBut new x d → IsFitBut new x d 0
  fit_by x d other counted = record {
    counted = counted;
    rooted = rooted_same old new 0 fit.rooted trees_changed changes.root changes.at;
    granting = granting_same old new fit.granting (record { place = λ p m e. changes.place p ∙ e; files = changes.files })
        (λ pid k h own one. changes.frames.counts (frame_of (entry old pid k)) (private_ne _ (fit.counted.1.named pid k (InFrame (frame_of (entry old pid k))) h (rw own refl))) ∙ one) changes.at (λ pid k h. entries_changed pid k);
    places = places_same old new fit.places changes.place changes.at changes.files changes.slots (λ m e. changes.frames.roles m (cache_ne m e) ∙ e) (λ m e. cache_back m other e);
    dirty = dirty_same old new fit.dirty changes.place changes.touched (λ pid k h. entries_changed pid k);
  }

  -- it is private, and no entry names it yet
  pub fit_own : (page : ℕ) → role_of new.frames n ≡ Private → count_of new.frames n ≡ 1 → new.page_of n ≡ page → IsPage (top_level mode) page → IsFitBut new (InFrame n) 1 0
  fit_own page role one noted h = fit_by (InFrame n) 1 (λ c. (let bad : Private ≡ Cache = sym role ∙ c in (cc))) (
    fit.counted.0,
    counted_fresh mode (entry old) (entry new) (IsOwned old) (IsOwned new) (count_in old) (count_in new) (page_in old fit.counted.0) (page_in new fit.counted.0)
        (λ q p h'. ap seat (entries_changed q p)) (InFrame n) nowhere page fit.counted.1
        (λ is. private_ne n is refl) (λ z ne is. forth z is) back counts pages one noted h,
  )

  -- it is free again
  pub fit_spent : role_of new.frames n ≡ Free → IsFit new
  fit_spent free =
      let not_owned : (z : Seat) → IsOwned new z → z ≢ InFrame n = λ z is e. (let owned = subst (IsOwned new) e is in let bad : Private ≡ Free = sym owned ∙ free in (cc)) in
      fit_by nowhere 0 (λ c. (let bad : Free ≡ Cache = sym free ∙ c in (cc)))
      (counted_on old new nowhere 0 fit.counted (λ q p h. ap seat (entries_changed q p)) forth (λ z is. back z (not_owned z is) is) (λ z is. counts z (owned_ne z is) is) (λ z is. pages z (owned_ne z is) is))

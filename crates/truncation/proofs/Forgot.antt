-- Pages of a file past a length go home, one after the other.
use Rattle.vm_types.specs.declared.mode.Levels as Levels
use Rattle.std.proofs.Common.{◌≡◌, ◌≢◌, ℕ, ◌+◌, ◌<◌, inl, inr, ◌⊎◌, true, false, Option, Some, None, refl, sym, ap, ◌∙◌, arith, rules}
use Rattle.std.proofs.lemmas.{Bool.{false≢true, cases_Bool, cases_eq}, Option.{same_Some}}
use Rattle.vm_types.specs.declared.file.FilePage.{FilePage}
use Rattle.vm_types.specs.declared.object.PageKey.{PageKey}
use Rattle.vm_types.specs.declared.object.PageKey.TheVariants.{File, Object}
use Rattle.page_cache.proofs.TableLemmas.{cases_page}
use Rattle.page_cache.specs.{CacheTable.{CacheTable, cache_frames, slot_count, IsInside}, declared.place.Place.{Place, TheVariants.{Home, Frame, Slot}}}
use Rattle.residency.specs.{declared.kernel.Core.{Core}, Picture.{Picture, picture_of}, Parts.{IsFit}, Calls.{KeepsBesidePlaces}, DroppedPages.{DropsPage}, Steps.{HasNoEntry, Forgets}}
use Rattle.ranges.specs.Rows.{node_of}
use Rattle.truncation.proofs.{Past.{mapped_on}, Taken.{maps-refl, maps_then, key-refl, takes-refl, takes_then}}
use Rattle.truncation.specs.{Cuts.{is_past, is_past_key, is_mapped_past}, Steps.{KeepsMaps, TakesNone, ForgetsSome, ForgetsMore, ForgetsPast, IsBarePast}}

abbrev slot_number : Place → ℕ
slot_number (Slot j) = j.0
slot_number x = 0

slot_or : (x : Place) (k : ℕ) → (x ≡ Slot (record { 0 = k })) ⊎ (x ≢ Slot (record { 0 = k }))
slot_or (Slot j) k = elim (cases_eq j.0 k) [ inl e ↦ inl (ap (λ i. Slot (record { 0 = i })) e) | inr ne ↦ inr (λ e. ne (ap slot_number e)) ]
slot_or x k = inr (λ e. (cc))

home_or : (frames : ℕ) (x : Place) → (x ≡ Home) ⊎ ((m : ℕ) × (node_of frames x ≡ Some m))
home_or frames Home = inl refl
home_or frames (Frame n) = inr (n.0, refl)
home_or frames (Slot k) = inr (frames + k.0, refl)

node_inside : (t : CacheTable) (x : Place) (m : ℕ) → IsInside t x → node_of (cache_frames t) x ≡ Some m → m < cache_frames t + slot_count t
node_inside t Home m inside is = absurd (let bad : None ≡ Some m = is in (cc))
node_inside t (Frame n) m inside is = let e : n.0 ≡ m = same_Some n.0 m is in omega (arith, inside, e)
node_inside t (Slot k) m inside is = let e : cache_frames t + k.0 ≡ m = same_Some (cache_frames t + k.0) m is in omega (arith, inside, e)

module _ {mode : ℕ} where
  takes_forgot : (a b : Picture mode) (p : PageKey) → Forgets a b p → TakesNone a b
  takes_forgot a b p forgets = record {
    frames = forgets.frames;
    roles = λ n. elim (forgets.roles n) [ inl same ↦ inl same | inr free ↦ inr free.0 ];
    total = forgets.total;
    fewer = λ k. elim (slot_or (a.place p) k) [
      | inl is ↦ (let none = forgets.left k is in omega (arith, none))
      | inr ne ↦ (let same = forgets.counts k ne in omega (arith, same))
    ];
    bytes = forgets.bytes;
  }

  maps_forgot : (a b : Picture mode) (p : PageKey) → Forgets a b p → KeepsMaps a b
  maps_forgot a b p forgets = record { root = forgets.root; at = forgets.at; files = forgets.files }

module _ {mode : ℕ} (file length : ℕ) where
  forgets-refl : (c : Picture mode) → ForgetsSome c c file length
  forgets-refl c = record { place = λ p. inl refl; keys = λ p out. key-refl c p; entries = λ q k h. refl; views = λ q k. refl; maps = maps-refl c; takes = takes-refl c }

  forgets_next : (a b c : Picture mode) (p : FilePage) → ForgetsSome a b file length → is_past file length p ≡ true → Forgets b c (File p) → ForgetsSome a c file length
  forgets_next a b c p some past forgets = record {
    place = λ q. elim (cases_page q (File p)) [
      | inl e ↦ inr (ap c.place e ∙ forgets.placed)
      | inr ne ↦ elim (some.place q) [ inl same ↦ inl (forgets.others q ne ∙ same) | inr home ↦ inr (forgets.others q ne ∙ home) ]
    ];
    keys = λ q out. (
        let ne : q ≢ File p = λ e. false≢true (sym out ∙ ap (λ x. is_past_key file length x) e ∙ past) in
        let before = some.keys q out in
        record { place = forgets.others q ne ∙ before.place; touched = forgets.rest q ne ∙ before.touched; held = forgets.held q ne ∙ before.held });
    entries = λ q k h. forgets.entries q k h ∙ some.entries q k h;
    views = λ q k. forgets.views q k ∙ some.views q k;
    maps = maps_then a b c some.maps (maps_forgot b c (File p) forgets);
    takes = takes_then a b c some.takes (takes_forgot b c (File p) forgets);
  }

  -- a page past the length is in no table still
  pub bare_page : (a b : Picture mode) (p : FilePage) → ForgetsSome a b file length → IsBarePast a file length → is_past file length p ≡ true → HasNoEntry b (File p)
  bare_page a b p some bare past q k h stands =
      some.entries q k h ∙ bare q k h (ap (λ x. is_mapped_past file length x) (sym (some.maps.at q k)) ∙ mapped_on file length (b.at q) p k stands past)

  -- none of the nodes before that one holds such a page
  abbrev pub IsGoneBelow : Picture mode → ℕ → ℕ → Type 0
  IsGoneBelow c frames node = (p : FilePage) (m : ℕ) → node_of frames (c.place (File p)) ≡ Some m → m < node → is_past file length p ≡ false

  -- one node more was looked at
  module _ (b : Picture mode) (frames node : ℕ) (gone : IsGoneBelow b frames node) (o : Option FilePage)
      (found : (p : FilePage) → node_of frames (b.place (File p)) ≡ Some node → is_past file length p ≡ true → o ≡ Some p) where
    pub gone_none : o ≡ None → IsGoneBelow b frames (node + 1)
    gone_none none p m at below = elim (cases_eq m node) [
      | inr ne ↦ gone p m at (omega (arith, below, ne))
      | inl e ↦ elim (cases_Bool (is_past file length p)) [
        | inr out ↦ out
        | inl past ↦ absurd (let bad : None ≡ Some p = sym none ∙ found p (at ∙ ap (λ x. Some x) e) past in (cc))
      ]
    ]

    pub gone_forgot : (c : Picture mode) (q : FilePage) → o ≡ Some q → Forgets b c (File q) → IsGoneBelow c frames (node + 1)
    gone_forgot c q is forgets p m at below = elim (cases_page (File p) (File q)) [
      | inl e ↦ absurd (let bad : None ≡ Some m = sym (ap (λ x. node_of frames x) (ap c.place e ∙ forgets.placed)) ∙ at in (cc))
      | inr other ↦ (
          let was = sym (ap (λ x. node_of frames x) (forgets.others (File p) other)) ∙ at in
          elim (cases_eq m node) [
            | inr ne ↦ gone p m was (omega (arith, below, ne))
            | inl e ↦ elim (cases_Bool (is_past file length p)) [
              | inr out ↦ out
              | inl past ↦ absurd (other (ap (λ x. File x) (same_Some p q (sym (found p (was ∙ ap (λ x. Some x) e) past) ∙ is))))
            ]
          ])
    ]

  -- all nodes were looked at
  all_gone : (t : CacheTable) (a b : Picture mode) → ((p : PageKey) → IsInside t (a.place p)) → ForgetsSome a b file length → IsGoneBelow b (cache_frames t) (cache_frames t + slot_count t)
      → (p : PageKey) → is_past_key file length p ≡ true → b.place p ≡ Home
  all_gone t a b inside some gone (Object p) past = absurd (false≢true past)
  all_gone t a b inside some gone (File p) past = elim (some.place (File p)) [
    | inr home ↦ home
    | inl same ↦ elim (home_or (cache_frames t) (b.place (File p))) [
      | inl home ↦ home
      | inr node ↦ absurd (false≢true (sym (gone p node.0 node.1 (node_inside t (a.place (File p)) node.0 (inside (File p)) (ap (λ x. node_of (cache_frames t) x) (sym same) ∙ node.1))) ∙ past))
    ]
  ]

module _ {M : Type 0} {m : Levels.Ghosts M} {D E : Type 0} (file length : ℕ) where
  pub forgot-refl : (c : Core D E M m) → IsFit (picture_of c) → ForgetsMore c c file length
  forgot-refl c fit = record { some = forgets-refl file length (picture_of c); fit = fit; rest = search rules }

  pub forgot_next : (a b c : Core D E M m) (p : FilePage) → ForgetsMore a b file length → is_past file length p ≡ true → DropsPage b c (File p) → ForgetsMore a c file length
  forgot_next a b c p more past drops = record {
    some = forgets_next file length (picture_of a) (picture_of b) (picture_of c) p more.some past drops.forgets;
    fit = drops.fit;
    rest = rest_then more.rest drops.rest;
  } where
    rest_then : KeepsBesidePlaces a b → KeepsBesidePlaces b c → KeepsBesidePlaces a c
    rest_then one two = search rules

  pub forgot_all : (a b : Core D E M m) → ((p : PageKey) → IsInside a.cache ((picture_of a).place p)) → ForgetsMore a b file length
      → IsGoneBelow file length (picture_of b) (cache_frames a.cache) (cache_frames a.cache + slot_count a.cache) → ForgetsPast a b file length
  forgot_all a b inside more gone = record { more = more; gone = all_gone file length a.cache (picture_of a) (picture_of b) inside more.some gone }

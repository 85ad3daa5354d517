-- Places and dirty bits: what each step does to where file pages are, and to which are touched.
use Rattle.residency.proofs.{Counts.{any-same, any-more}, Names.{top_level, widest_end, FilePage, ObjectPage, PageKey, File, Object, Attr, any_below, Maps, names, uses, is_named, false≢true, ◌≡◌, ◌≢◌, ◌<◌, ℕ, inl, inr, true}}
use Rattle.residency.{proofs.{Names.{false, Option, None, sym, ap, ◌∙◌, subst, Cache, role_of, is_valid, is_dirty, frame_of, IsPage, Place, Home, Frame, Slot, SlotTable}, Ways.{by_page}}, specs.Parts.{AreObjects, IsPageFor, HasPlaces}}
use Rattle.{residency.specs.{Parts.{IsDirtySound}, Picture.{Picture, entry, is_private}}, std.specs.Prelude.{◌⊎◌}}
use Rattle.vm_types.proofs.Naming.{named-where}
pub use Rattle.page_cache.proofs.TableLemmas.{cases_page}

abbrev pub record_of : ℕ → ℕ → FilePage
record_of file page = record { file = file; page = page }

abbrev pub object_of : ℕ → ℕ → ObjectPage
object_of object page = record { object = object; page = page }

number_in : Place → ℕ
number_in (Frame n) = n.0
number_in o = 0

pub one_frame : (n m : ℕ) → Frame (record { 0 = n }) ≡ Frame (record { 0 = m }) → m ≡ n
unfolding number_in
one_frame n m e = sym (ap number_in e)

slot_in : Place → ℕ
slot_in (Slot k) = k.0
slot_in o = 0

pub one_slot : (j k : ℕ) → Slot (record { 0 = j }) ≡ Slot (record { 0 = k }) → j ≡ k
unfolding slot_in
one_slot j k e = ap slot_in e

names-same : (a b : Option Attr) (object page : ℕ) → a ≡ b → names a object page ≡ names b object page
names-same a b object page e = ap (λ x. names x object page) e

-- what processes name hangs on what their pages are
pub named-same : (f g : Maps) (object page : ℕ) → ((p k : ℕ) → g p k ≡ f p k) → is_named g object page ≡ is_named f object page
unfolding is_named
named-same f g object page same =
    any-same (λ p. any_below (λ k. names (g p k) object page) widest_end) (λ p. any_below (λ k. names (f p k) object page) widest_end) 65
    (λ p. any-same (λ k. names (g p k) object page) (λ k. names (f p k) object page) widest_end (λ k. names-same (g p k) (f p k) object page (same p k)))

pub objects-same : (f g : Maps) → ((p k : ℕ) → g p k ≡ f p k) → AreObjects f → AreObjects g
objects-same f g same objects = record {
  one_page = λ p q j k object page here there. objects.one_page p q j k object page
      (sym (names-same (g p j) (f p j) object page (same p j)) ∙ here) (sym (names-same (g q k) (f q k) object page (same q k)) ∙ there);
  below = λ p k object here. objects.below p k object (sym (ap (λ x. uses x object) (same p k)) ∙ here);
}

pub page_for-same : {mode : ℕ} (old new : Picture mode) (p : PageKey) → ((q k : ℕ) → new.at q k ≡ old.at q k) → ((f : ℕ) → new.files f ≡ old.files f) → IsPageFor old p → IsPageFor new p
page_for-same old new (File p) at files is = (is.0, files p.file ∙ is.1, is.2)
page_for-same old new (Object p) at files is = named-same old.at new.at p.object p.page at ∙ is

page_for-renamed : {mode : ℕ} (old new : Picture mode) (p : PageKey) → ((f : ℕ) → new.files f ≡ old.files f) → ((q : ObjectPage) → old.place (Object q) ≢ Home → is_named new.at q.object q.page ≡ true)
    → old.place p ≢ Home → IsPageFor old p → IsPageFor new p
page_for-renamed old new (File p) files named away is = (is.0, files p.file ∙ is.1, is.2)
page_for-renamed old new (Object p) files named away is = named p away

-- a process and its page that name a page of an object
pub named_by : (f : Maps) (object page : ℕ) → is_named f object page ≡ true → (p : ℕ) × (k : ℕ) × (names (f p k) object page ≡ true)
named_by f object page is = let at = named-where f object page is in (at.0, at.1, at.4)

-- where fewer pages are mapped
pub objects-fewer : (f g : Maps) → ((p k : ℕ) → (g p k ≡ f p k) ⊎ (g p k ≡ None)) → AreObjects f → AreObjects g
objects-fewer f g fewer objects = record {
  one_page = λ p q j k object page here there. objects.one_page p q j k object page (was p j object page here) (was q k object page there);
  below = λ p k object here. elim (fewer p k) [
    | inl same ↦ objects.below p k object (sym (ap (λ x. uses x object) same) ∙ here)
    | inr none ↦ absurd (false≢true (sym (ap (λ x. uses x object) none) ∙ here))
  ];
} where
  was : (p k object page : ℕ) → names (g p k) object page ≡ true → names (f p k) object page ≡ true
  was p k object page here = elim (fewer p k) [
    | inl same ↦ sym (names-same (g p k) (f p k) object page same) ∙ here
    | inr none ↦ absurd (false≢true (sym (ap (λ x. names x object page) none) ∙ here))
  ]

-- where more pages are mapped
pub named-more : (f g : Maps) (object page : ℕ) → ((p k : ℕ) → (g p k ≡ f p k) ⊎ (f p k ≡ None)) → is_named f object page ≡ true → is_named g object page ≡ true
unfolding is_named
named-more f g object page more here =
    any-more (λ p. any_below (λ k. names (f p k) object page) widest_end) (λ p. any_below (λ k. names (g p k) object page) widest_end) 65
    (λ p. any-more (λ k. names (f p k) object page) (λ k. names (g p k) object page) widest_end (λ k is. elim (more p k) [
      | inl same ↦ names-same (g p k) (f p k) object page same ∙ is
      | inr none ↦ absurd (false≢true (sym (ap (λ x. names x object page) none) ∙ is))
    ])) here

-- all places are as they were, the same frames hold pages of files and objects, and no slot came into use but for own copies
pub places_kept : {mode : ℕ} (old new : Picture mode) → HasPlaces old → ((p : PageKey) → new.place p ≡ old.place p) → ((p : PageKey) → old.place p ≢ Home → IsPageFor old p → IsPageFor new p)
    → ((p : PageKey) (k : ℕ) → old.place p ≡ Slot (record { 0 = k }) → new.slots.count k ≡ old.slots.count k)
    → ((k : ℕ) → 0 < new.slots.count k → (0 < old.slots.count k) ⊎ ((p : PageKey) → old.place p ≢ Slot (record { 0 = k })))
    → ((n : ℕ) → role_of old.frames n ≡ Cache → role_of new.frames n ≡ Cache) → ((n : ℕ) → role_of new.frames n ≡ Cache → role_of old.frames n ≡ Cache) → HasPlaces new
places_kept old new places same inside slotted used forth back = record {
  cached = λ p n e. forth n (places.cached p n (sym (same p) ∙ e));
  held = λ n cache. (let h = places.held n (back n cache) in (h.0, same h.0 ∙ h.1));
  apart = λ p q e away. places.apart p q (sym (same p) ∙ e ∙ same q) (λ home. away (same p ∙ home));
  slotted = λ p k e. (let there = sym (same p) ∙ e in slotted p k there ∙ places.slotted p k there);
  used = λ k some. elim (used k some) [
    | inl was ↦ elim (places.used k was) [
      | inl own ↦ inl (some, λ p e. own.1 p (sym (same p) ∙ e))
      | inr file ↦ inr (file.0, same file.0 ∙ file.1)
    ]
    | inr no_page ↦ inl (some, λ p e. no_page p (sym (same p) ∙ e))
  ];
  inside = λ p away. (let was = λ (home : old.place p ≡ Home). away (same p ∙ home) in inside p was (places.inside p was));
}

pub places_same : {mode : ℕ} (old new : Picture mode) → HasPlaces old → ((p : PageKey) → new.place p ≡ old.place p) → ((q k : ℕ) → new.at q k ≡ old.at q k) → ((f : ℕ) → new.files f ≡ old.files f) → new.slots ≡ old.slots
    → ((n : ℕ) → role_of old.frames n ≡ Cache → role_of new.frames n ≡ Cache) → ((n : ℕ) → role_of new.frames n ≡ Cache → role_of old.frames n ≡ Cache) → HasPlaces new
places_same old new places same at files slots = places_kept old new places same (λ p away. page_for-same old new p at files)
    (λ p k e. ap (λ t. t.count k) slots) (λ k some. inl (let P : SlotTable → Type 0 = λ t. 0 < t.count k in subst P slots some))

-- what processes are said to name hangs on the new pages
pub places_renamed : {mode : ℕ} (old new : Picture mode) → HasPlaces old → ((p : PageKey) → new.place p ≡ old.place p) → ((f : ℕ) → new.files f ≡ old.files f) → ((p : ObjectPage) → old.place (Object p) ≢ Home → is_named new.at p.object p.page ≡ true) → new.slots ≡ old.slots
    → ((n : ℕ) → role_of old.frames n ≡ Cache → role_of new.frames n ≡ Cache) → ((n : ℕ) → role_of new.frames n ≡ Cache → role_of old.frames n ≡ Cache) → HasPlaces new
places_renamed old new places same files named slots = places_kept old new places same (λ p. page_for-renamed old new p files named)
    (λ p k e. ap (λ t. t.count k) slots) (λ k some. inl (let P : SlotTable → Type 0 = λ t. 0 < t.count k in subst P slots some))

-- all entries, places and touched pages are as they were
pub dirty_same : {mode : ℕ} (old new : Picture mode) → IsDirtySound old → ((p : PageKey) → new.place p ≡ old.place p) → ((p : PageKey) → new.touched p ≡ old.touched p)
    → ((pid page : ℕ) → IsPage (top_level mode) page → entry new pid page ≡ entry old pid page) → IsDirtySound new
dirty_same old new sound place touched same = record {
  dirty = λ pid page p h valid common dirty here. (
      let e = same pid page h in
      touched p ∙ sound.dirty pid page p h (sym (ap is_valid e) ∙ valid) (sym (ap is_private e) ∙ common) (sym (ap is_dirty e) ∙ dirty)
      (sym (place p) ∙ here ∙ ap (λ x. Frame (record { 0 = frame_of x })) e));
  held = λ p now home. sound.held p (sym (touched p) ∙ now) (sym (place p) ∙ home);
  slotted = λ p k e. touched p ∙ sound.slotted p k (sym (place p) ∙ e);
}

-- the entry of one page changed
pub dirty_changed : {mode : ℕ} (old new : Picture mode) (pid page : ℕ) → IsDirtySound old → ((p : PageKey) → new.place p ≡ old.place p) → ((p : PageKey) → new.touched p ≡ old.touched p)
    → ((q p : ℕ) → IsPage (top_level mode) p → (q ≢ pid) ⊎ (p ≢ page) → entry new q p ≡ entry old q p)
    → ((p : PageKey) → is_valid (entry new pid page) ≡ true → is_private (entry new pid page) ≡ false → is_dirty (entry new pid page) ≡ true
    → old.place p ≡ Frame (record { 0 = frame_of (entry new pid page) }) → old.touched p ≡ true) → IsDirtySound new
dirty_changed old new pid page sound place touched same here = record {
  dirty = λ q k p h valid common dirty there. elim (by_page q k pid page) [
    | inl e ↦ (
        let moved : entry new pid page ≡ entry new q k = ap (λ x. entry new x page) (sym e.0) ∙ ap (λ x. entry new q x) (sym e.1) in
        touched p ∙ here p (ap is_valid moved ∙ valid) (ap is_private moved ∙ common) (ap is_dirty moved ∙ dirty)
        (sym (place p) ∙ there ∙ ap (λ x. Frame (record { 0 = frame_of x })) (sym moved)))
    | inr other ↦ (
        let e = same q k h other in
        touched p ∙ sound.dirty q k p h (sym (ap is_valid e) ∙ valid) (sym (ap is_private e) ∙ common) (sym (ap is_dirty e) ∙ dirty)
        (sym (place p) ∙ there ∙ ap (λ x. Frame (record { 0 = frame_of x })) e))
  ];
  held = λ p now home. sound.held p (sym (touched p) ∙ now) (sym (place p) ∙ home);
  slotted = λ p k e. touched p ∙ sound.slotted p k (sym (place p) ∙ e);
}

-- Steps of an eviction, one after another.
use Rattle.residency.proofs.{Aging.{ages_then}, Bits.{some_framed}, LeafSteps.{over_common}, Names.{top_level, FrameNo, ◌≡◌, ◌≢◌, ℕ, ◌<◌, inl, inr, ◌⊎◌, true, Option, get_or, length, sym, ap, ◌∙◌, subst, arith, rules, cases_eq, false≢true}}
use Rattle.residency.proofs.{Names.{get_or_past, Free, Table, Cache, role_of, frame_of, Swap, IsInUse, slots_of, Home, Frame, Slot, IsPage, missing_of, last_table, missing_of-is}, Places.{one_frame}, Setting.{held_same}, Shown.{keeps_then}}
use Rattle.residency.specs.{Ages.{Ages, Same, Cleared, Left}, Calls.{Frees, KeepsPages, IsToKeep, IsStaying}, Evictions.{Spares, GivesUp}, Leaves.{ChangesLeaves, IsChanged, IsOver}, Parts.{IsFit}, Picture.{Picture, entry, is_data}}
use Rattle.residency.specs.{Seats.{is_swapped}, declared.leaves.Change.{Change, TheVariants.{Forget, ClearAccessed}}}

stays_free : {mode : ℕ} (v : ℕ) (a b : Picture mode) → (role_of b.frames v ≡ role_of a.frames v) ⊎ ((role_of b.frames v ≡ Free) × (is_data (role_of a.frames v) ≡ true)) → is_data (role_of b.frames v) ≡ true → role_of b.frames v ≡ role_of a.frames v
stays_free v a b (inl same) datum = same
stays_free v a b (inr gone) datum = absurd (false≢true (sym (ap is_data gone.0) ∙ datum))

pub missing_ends : {mode : ℕ} (old new : Picture mode) (r page : ℕ) → last_table new.frames page (top_level mode) r ≡ last_table old.frames page (top_level mode) r → missing_of new.frames (top_level mode) r page ≡ missing_of old.frames (top_level mode) r page
missing_ends {mode} old new r page e = missing_of-is new.frames (top_level mode) r page ∙ ap (λ l. l.0) e ∙ sym (missing_of-is old.frames (top_level mode) r page)

-- what stays isn't over a frame that isn't kept
not_kept : (v : ℕ) (keep : Option FrameNo) → (IsToKeep keep v → ⊥) → (n : ℕ) → IsToKeep keep n → n ≢ v
not_kept v keep other n kept e = let P : ℕ → Type 0 = λ i. IsToKeep keep i in other (subst P e kept)

staying : (v : ℕ) (keep : Option FrameNo) → v ≢ 0 → (IsToKeep keep v → ⊥) → (e : ℕ) → IsStaying keep e → (e ≡ 0) ⊎ ((is_swapped e ≡ true) ⊎ (frame_of e ≢ v))
staying v keep above other e (inl none) = inl none
staying v keep above other e (inr (inl away)) = inr (inl away)
staying v keep above other e (inr (inr (inl zero_page))) = inr (inr (λ is. above (sym is ∙ zero_page)))
staying v keep above other e (inr (inr (inr kept))) = inr (inr (not_kept v keep other (frame_of e) kept))

-- the frame isn't kept: what was to stay does
pub frees_of : {mode : ℕ} (v k : ℕ) (old new : Picture mode) (keep : Option FrameNo) → Spares v k old new → v ≢ 0
    → ((j : ℕ) → IsInUse old.slots j → (new.slots.bytes j ≡ old.slots.bytes j) × (new.slots.count j ≡ old.slots.count j)) → (IsToKeep keep v → ⊥) → Frees old new keep
frees_of v k old new keep s above slots other = record {
  pages = s.pages;
  count = s.count;
  roles = λ n. elim (cases_eq n v) [
    | inl e ↦ (let P : ℕ → Type 0 = λ i. (role_of new.frames i ≡ role_of old.frames i) ⊎ ((role_of new.frames i ≡ Free) × (is_data (role_of old.frames i) ≡ true)) in subst P (sym e) s.role)
    | inr ne ↦ inl (s.roles n ne)
  ];
  missing = λ pid r page e. missing_ends old new r page (s.ends pid r page e);
  ends = s.ends;
  pointers = s.pointers;
  entries = λ pid page h stays. s.entries pid page h (staying v keep above other (entry old pid page) stays);
  slots = slots;
  total = s.total;
  home = λ p e. s.place p (λ there. (let bad : Home ≡ Frame (record { 0 = v }) = sym e ∙ there in (cc))) ∙ e;
  slotted = λ p j e. s.place p (λ there. (let bad : Slot (record { 0 = j }) ≡ Frame (record { 0 = v }) = sym e ∙ there in (cc))) ∙ e;
  kept_place = λ p n kept e. s.place p (λ there. not_kept v keep other n kept (one_frame v n (sym there ∙ e))) ∙ e;
  kept_role = λ n kept. s.roles n (not_kept v keep other n kept);
  kept_count = λ n kept. s.counts n (not_kept v keep other n kept);
  kept_bytes = λ n kept datum. s.bytes n (not_kept v keep other n kept) datum;
}

-- changed entries show nothing
module _ {mode : ℕ} (change : Change) (n : ℕ) (old new : Picture mode) (fit : IsFit old) (ch : ChangesLeaves change n old new) where
  not_over : (pid page : ℕ) → IsOver old change n pid page → (entry old pid page ≡ 0) ⊎ ((is_swapped (entry old pid page) ≡ true) ⊎ (frame_of (entry old pid page) ≢ n)) → ⊥
  not_over pid page over (inl none) = (some_framed change (entry old pid page) over.concerned).0 none
  not_over pid page over (inr (inl away)) = false≢true (sym (some_framed change (entry old pid page) over.concerned).1 ∙ away)
  not_over pid page over (inr (inr other)) = other over.frame

  entries_unchanged : (pid page : ℕ) → IsPage (top_level mode) page → (entry old pid page ≡ 0) ⊎ ((is_swapped (entry old pid page) ≡ true) ⊎ (frame_of (entry old pid page) ≢ n))
      → entry new pid page ≡ entry old pid page
  entries_unchanged pid page h stays = elim (ch.entries pid page h) [ inl same ↦ same | inr was ↦ absurd (not_over pid page was.0 stays) ]

  pages_unchanged : KeepsPages old new
  pages_unchanged = record { root = ch.beside.root; at = ch.beside.at; views = ch.views; files = record { held = λ p. inl (held_same old new p (ch.beside.place p) ch.beside.slots (λ m is. ch.bytes m (λ t. (let bad : Cache ≡ Table = sym (fit.places.cached p m is) ∙ t in (cc))))); touched = ch.beside.touched; files = ch.beside.files } }

  changes_spares : (k : ℕ) → ((pid page : ℕ) → IsPage (top_level mode) page → IsOver old change n pid page → IsChanged change (entry old pid page) (entry new pid page)
      → Ages (λ m. m ≡ n) (entry old pid page) (entry new pid page)) → Spares n k old new
  changes_spares k aged =
      let ages : (pid page : ℕ) → IsPage (top_level mode) page → Ages (λ m. m ≡ n) (entry old pid page) (entry new pid page) = λ pid page h. elim (ch.entries pid page h) [ inl same ↦ Same same | inr was ↦ aged pid page h was.0 was.1 ] in
      let slots = λ (j : ℕ). ap (λ t. t.bytes j) ch.beside.slots in
      let counts = λ (j : ℕ). ap (λ t. t.count j) ch.beside.slots in
      search (rules, inl, pages_unchanged, entries_unchanged, ages, ch.roles, ch.counts, ch.bytes, ch.ends, ch.pointers, ch.beside.place, slots, counts, ap (λ t. t.total) ch.beside.slots)

-- entries over a file page's frame were forgotten
pub forgotten_spares : {mode : ℕ} (n k : ℕ) (old new : Picture mode) → IsFit old → role_of old.frames n ≡ Cache → ChangesLeaves Forget n old new → Spares n k old new
forgotten_spares n k old new fit cache ch =
    changes_spares Forget n old new fit ch k (λ pid page h over none. Left over.concerned over.frame (inr (over_common old Forget n pid page fit h over cache, none)))

pub spares_then : {mode : ℕ} (v k : ℕ) (a b c : Picture mode) → Spares v k a b → Spares v k b c → Spares v k a c
spares_then v k a b c f g = record {
  pages = keeps_then a b c f.pages g.pages;
  count = g.count ∙ f.count;
  roles = λ n ne. g.roles n ne ∙ f.roles n ne;
  role = elim g.role [
    | inl same ↦ elim f.role [ inl was ↦ inl (same ∙ was) | inr gone ↦ inr (same ∙ gone.0, gone.1) ]
    | inr gone ↦ inr (gone.0, sym (ap is_data (stays_free v a b f.role gone.1)) ∙ gone.1)
  ];
  counts = λ n ne. g.counts n ne ∙ f.counts n ne;
  bytes = λ n ne datum. g.bytes n ne (λ t. datum (sym (f.roles n ne) ∙ t)) ∙ f.bytes n ne datum;
  ends = λ pid r page e. g.ends pid r page (f.pages.root pid ∙ e) ∙ f.ends pid r page e;
  entries = λ pid page h stays. (
      let first = f.entries pid page h stays in
      let P : ℕ → Type 0 = λ e. (e ≡ 0) ⊎ ((is_swapped e ≡ true) ⊎ (frame_of e ≢ v)) in
      g.entries pid page h (subst P (sym first) stays) ∙ first);
  ages = λ pid page h. ages_then (λ n. n ≡ v) (entry a pid page) (entry b pid page) (entry c pid page) (f.ages pid page h) (g.ages pid page h);
  pointers = λ n i m points. g.pointers n i m (f.pointers n i m points);
  slots = λ j ne used. (
      let first = f.slots j ne used in
      let P : ℕ → Type 0 = λ n. 0 < n in
      let second = g.slots j ne (subst P (sym first.1) used) in
      (second.0 ∙ first.0, second.1 ∙ first.1));
  total = g.total ∙ f.total;
  place = λ p ne. (let first = f.place p ne in g.place p (λ e. ne (sym first ∙ e)) ∙ first);
}

pub spares_none : {mode : ℕ} (v k : ℕ) (c : Picture mode) → Spares v k c c
spares_none v k c = search (rules, inl, Same)

-- frames given up, and then others
pub frees_none : {mode : ℕ} (c : Picture mode) (keep : Option FrameNo) → Frees c c keep
frees_none c keep = search (rules, inl)

pub frees_then : {mode : ℕ} (a b c : Picture mode) (keep : Option FrameNo) → Frees a b keep → Frees b c keep → Frees a c keep
frees_then a b c keep f g = record {
  pages = keeps_then a b c f.pages g.pages;
  count = g.count ∙ f.count;
  roles = λ n. elim (g.roles n) [
    | inl same ↦ elim (f.roles n) [ inl was ↦ inl (same ∙ was) | inr gone ↦ inr (same ∙ gone.0, gone.1) ]
    | inr gone ↦ inr (gone.0, sym (ap is_data (stays_free n a b (f.roles n) gone.1)) ∙ gone.1)
  ];
  missing = λ pid r page e. g.missing pid r page (f.pages.root pid ∙ e) ∙ f.missing pid r page e;
  ends = λ pid r page e. g.ends pid r page (f.pages.root pid ∙ e) ∙ f.ends pid r page e;
  pointers = λ n i m points. g.pointers n i m (f.pointers n i m points);
  entries = λ pid page h stays. (let first = f.entries pid page h stays in let P : ℕ → Type 0 = λ e. IsStaying keep e in g.entries pid page h (subst P (sym first) stays) ∙ first);
  slots = λ j used. (
      let first = f.slots j used in
      let P : ℕ → Type 0 = λ n. 0 < n in
      let second = g.slots j (subst P (sym first.1) used) in
      (second.0 ∙ first.0, second.1 ∙ first.1));
  total = g.total ∙ f.total;
  home = λ p e. g.home p (f.home p e);
  slotted = λ p j e. g.slotted p j (f.slotted p j e);
  kept_place = λ p n kept e. g.kept_place p n kept (f.kept_place p n kept e);
  kept_role = λ n kept. g.kept_role n kept ∙ f.kept_role n kept;
  kept_count = λ n kept. g.kept_count n kept ∙ f.kept_count n kept;
  kept_bytes = λ n kept datum. g.kept_bytes n kept (λ t. datum (sym (f.kept_role n kept) ∙ t)) ∙ f.kept_bytes n kept datum;
}

pub gives_frees : {mode : ℕ} (v : ℕ) (old new : Picture mode) (keep : Option FrameNo) → GivesUp v old new → v ≢ 0 → (IsToKeep keep v → ⊥) → Frees old new keep
gives_frees v old new keep gives above other =
    frees_of v gives.0 old new keep gives.2 above (λ j used. gives.2.slots j (λ e. (let P : ℕ → Type 0 = λ i. IsInUse old.slots i in gives.1 (subst P e used))) used) other

pub cleared_frees : {mode : ℕ} (n : ℕ) (old new : Picture mode) (keep : Option FrameNo) → IsFit old → ChangesLeaves ClearAccessed n old new → n ≢ 0 → (IsToKeep keep n → ⊥) → Frees old new keep
cleared_frees n old new keep fit ch above other =
    frees_of n 0 old new keep (changes_spares ClearAccessed n old new fit ch 0 (λ pid page h over cleared. Cleared over.concerned cleared)) above
    (λ j used. (ap (λ t. t.bytes j) ch.beside.slots, ap (λ t. t.count j) ch.beside.slots)) other

-- a slot past the last isn't in use
pub past_unused : {E : Type 0} (s : Swap E) → IsInUse (slots_of s) (slots_of s).total → ⊥
past_unused s used = let none : get_or s.counts (length s.counts) 0 ≡ 0 = get_or_past s.counts (length s.counts) 0 (omega arith) in omega (arith, used, none)

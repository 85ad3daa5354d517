-- The pages of a file past a length are dropped: those of processes are cleared, and then the file's are forgotten.
use Rattle.vm_types.specs.declared.mode.Levels as Levels
use Rattle.std.proofs.Common.{◌≡◌, ◌≢◌, ℕ, ◌*◌, ◌<◌, inl, inr, true, false, List, Option, Some, None, refl, sym, ap, ◌∙◌, rules}
use Rattle.std.proofs.lemmas.Bool.{false≢true, cases_Bool, cases_lt}
use Rattle.std.specs.Prelude.{option_map, cond}
use Rattle.vm_types.specs.{Attributes.{is_shared}, Limits.{top_level}, View.{View}}
use Rattle.vm_types.specs.declared.file.FilePage.{FilePage}
use Rattle.vm_types.specs.declared.object.PageKey.{PageKey}
use Rattle.vm_types.specs.declared.object.PageKey.TheVariants.{File}
use Rattle.vm_types.specs.declared.region.{Attr.{Attr}, Backing.{Backing, TheVariants.{Anon, Private, Shared, Common}}}
use Rattle.page_tables.specs.Tree.{IsPage}
use Rattle.page_cache.specs.declared.place.Place.{TheVariants.{Home}}
use Rattle.residency.proofs.{Moves.{view-none}, Start.{seat-none}}
use Rattle.residency.specs.{declared.kernel.Core.{Core}, Seats.{seat}, Picture.{Picture, picture_of, entry, view, view_of, own_in, bytes_in}, Parts.{IsFit}, Calls.{KeepsBesidePlaces}}
use Rattle.fault.proofs.Forms.{mapped_page, shared_none}
use Rattle.ranges.specs.Steps.{KeepsBesideMemory}
use Rattle.truncation.proofs.{Past.{cut_past, past_true}, Taken.{key_then, maps_then, takes_then}}
use Rattle.truncation.specs.{Cuts.{stands_past, is_mapped_past, is_cut_off, cut_view}, Steps.{ClearsSome, ClearsPast, ForgetsPast, IsBarePast}, Drops.{DropsPages, DropsPast}}

-- a page past the length that isn't cut off is shared
past_shared : (file length : ℕ) (b : Backing) → is_cut_off file length b ≡ false → stands_past file length b ≡ true → is_shared b ≡ true
past_shared file length Anon out past = absurd (false≢true past)
past_shared file length (Private p) out past = absurd (false≢true (sym out ∙ past))
past_shared file length (Shared p) out past = refl
past_shared file length (Common p) out past = refl

abbrev seen_as : Attr → Option (List ℕ) → View
seen_as attr own = record { attr = attr; own = own }

module _ {mode : ℕ} where
  -- a mapped page, as it is seen
  view_some : (c : Picture mode) (pid page : ℕ) (attr : Attr) → c.at pid page ≡ Some attr → view c pid page ≡ Some (seen_as attr (own_in c.frames c.slots (entry c pid page)))
  unfolding view
  view_some c pid page attr at = ap (λ o. view_of (own_in c.frames c.slots (entry c pid page)) o) at

  no_own : (c : Picture mode) (pid page : ℕ) (attr : Attr) → c.at pid page ≡ Some attr → seat (entry c pid page) ≡ None → view c pid page ≡ Some (seen_as attr None)
  no_own c pid page attr at none = view_some c pid page attr at ∙ ap (λ s. Some (seen_as attr (option_map (bytes_in c.frames c.slots) s))) none

module _ {mode : ℕ} (file length : ℕ) (a b : Picture mode) (fit : IsFit a) (some : ClearsSome a b file length) (bare : IsBarePast b file length) where
  none_seen : (q k : ℕ) (attr : Attr) → a.at q k ≡ Some attr → entry b q k ≡ 0 → view b q k ≡ Some (seen_as attr None)
  none_seen q k attr at none = no_own b q k attr (some.maps.at q k ∙ at) (ap seat none ∙ seat-none)

  -- a private page that is cut off
  seen_cut : (q k : ℕ) (attr : Attr) → a.at q k ≡ Some attr → IsPage (top_level mode) k → is_cut_off file length attr.backing ≡ true → view b q k ≡ option_map (cut_view file length) (view a q k)
  seen_cut q k attr at h cut =
      let own = own_in a.frames a.slots (entry a q k) in
      let now = none_seen q k attr at (bare q k h (ap (λ x. is_mapped_past file length x) (some.maps.at q k ∙ at) ∙ cut_past file length attr.backing cut)) in
      now ∙ sym (ap (λ v. option_map (cut_view file length) v) (view_some a q k attr at) ∙ ap (λ t. Some (cond t (seen_as attr None) (seen_as attr own))) cut)

  -- every other page
  seen_same : (q k : ℕ) (attr : Attr) → a.at q k ≡ Some attr → IsPage (top_level mode) k → is_cut_off file length attr.backing ≡ false → view b q k ≡ view a q k
  seen_same q k attr at h out = elim (some.pages q k h) [
    | inl kept ↦ kept.1
    | inr lost ↦ (
        let shared = past_shared file length attr.backing out (sym (ap (λ x. is_mapped_past file length x) at) ∙ lost.0) in
        none_seen q k attr at lost.1 ∙ sym (no_own a q k attr at (shared_none a q k attr fit.granting at h shared)))
  ]

  seen_left : (q k : ℕ) (attr : Attr) → a.at q k ≡ Some attr → IsPage (top_level mode) k → is_cut_off file length attr.backing ≡ false → view b q k ≡ option_map (cut_view file length) (view a q k)
  seen_left q k attr at h out =
      let own = own_in a.frames a.slots (entry a q k) in
      seen_same q k attr at h out ∙ view_some a q k attr at
      ∙ sym (ap (λ v. option_map (cut_view file length) v) (view_some a q k attr at) ∙ ap (λ t. Some (cond t (seen_as attr None) (seen_as attr own))) out)

  seen_by : (q k : ℕ) (o : Option Attr) → a.at q k ≡ o → view b q k ≡ option_map (cut_view file length) (view a q k)
  seen_by q k None at = view-none b q k (some.maps.at q k ∙ at) ∙ sym (ap (λ v. option_map (cut_view file length) v) (view-none a q k at))
  seen_by q k (Some attr) at =
      let h = mapped_page a q k attr fit.granting at in
      elim (cases_Bool (is_cut_off file length attr.backing)) [ inl cut ↦ seen_cut q k attr at h cut | inr out ↦ seen_left q k attr at h out ]

  pub cut_views : (q k : ℕ) → view b q k ≡ option_map (cut_view file length) (view a q k)
  cut_views q k = seen_by q k (a.at q k) refl

module _ {M : Type 0} {m : Levels.Ghosts M} {D E : Type 0} (file length : ℕ) where
  rest_then : (a b c : Core D E M m) → KeepsBesideMemory a b → b.refused ≡ a.refused → KeepsBesidePlaces b c → KeepsBesidePlaces a c
  rest_then a b c one refused two = search rules

  pub dropped : (a b c : Core D E M m) → IsFit (picture_of a) → ClearsPast a b file length → ForgetsPast b c file length → DropsPast a c file length
  dropped a b c fit clears forgets = record {
    drops = record {
      gone = λ p past. (let home = forgets.gone p past in (home, untouched p home));
      keys = λ p out. key_then (picture_of a) (picture_of b) (picture_of c) p (clears.more.some.keys p) (forgets.more.some.keys p out);
      bare = λ q k h past. forgets.more.some.entries q k h ∙ clears.bare q k h (ap (λ x. is_mapped_past file length x) (sym (forgets.more.some.maps.at q k)) ∙ past);
      entries = λ q k h out. forgets.more.some.entries q k h ∙ elim (clears.more.some.pages q k h) [ inl kept ↦ kept.0 | inr lost ↦ absurd (false≢true (sym out ∙ lost.0)) ];
      views = λ q k. forgets.more.some.views q k ∙ cut_views file length (picture_of a) (picture_of b) fit clears.more.some clears.bare q k;
      maps = maps_then (picture_of a) (picture_of b) (picture_of c) clears.more.some.maps forgets.more.some.maps;
      takes = takes_then (picture_of a) (picture_of b) (picture_of c) clears.more.some.takes forgets.more.some.takes;
    };
    fit = forgets.more.fit;
    rest = rest_then a b c clears.more.rest clears.more.refused forgets.more.rest;
  } where
    untouched : (p : PageKey) → (picture_of c).place p ≡ Home → (picture_of c).touched p ≡ false
    untouched p home = elim (cases_Bool ((picture_of c).touched p)) [ inr e ↦ e | inl e ↦ absurd (forgets.more.fit.dirty.held p e home) ]

-- what of the file is left in memory or swap begins before the length
pub left_inside : {mode : ℕ} (a c : Picture mode) (file length : ℕ) → DropsPages a c file length → (p : FilePage) → p.file ≡ file → c.place (File p) ≢ Home → 4096 * p.page < length
left_inside a c file length drops p same away = elim (cases_lt (4096 * p.page) length) [
  | inl low ↦ low
  | inr high ↦ absurd (away (drops.gone (File p) (past_true file length p same high)).0)
]

-- A file has another length: its pages that begin before it stay in memory as they are, and others are gone.
use Rattle.std.proofs.Common.{◌≡◌, ◌≢◌, ℕ, ◌*◌, ◌≤◌, inl, inr, ◌⊎◌, Bool, true, false, List, Option, Some, None, refl, sym, ap, ◌∙◌, arith, ◌==◌, eqb-true}
use Rattle.std.proofs.lemmas.{Bool.{and_parts, false≢true, Decides.{nat_tests}}, Option.{same_Some}}
use Rattle.std.specs.Prelude.{nat_le, option_map, cond}
use Rattle.vm_types.specs.{Ranges.{uncopied}, Files.{Files, is_past_end_of}, Truncation.{cut_view, is_cut_off, with_length}, Verdict.{is_past_end}, View.{View}}
use Rattle.vm_types.specs.declared.{file.{FileInfo.{FileInfo}}, object.PageKey.{PageKey, TheVariants.{File, Object}}, region.{Attr.{Attr}, Backing.{Backing, TheVariants.{Anon, Private, Shared, Common}}}}
use Rattle.page_cache.specs.declared.place.Place.{Place, TheVariants.{Home, Frame, Slot}}
use Rattle.residency.proofs.{Moves.{view-none}, Start.{seat-none}}
use Rattle.residency.specs.{Picture.{Picture, entry, view, held, view_of, own_in, bytes_in}, Parts.{IsFit, IsEntryFor, Nothing, Resident, Away}, Seats.{seat}}
use Rattle.fault.proofs.{AccessSteps.{untouched_home}, Forms.{mapped_page}}
use Rattle.truncation.proofs.{EndCut.{KeepsBytes, held_home}, Past.{past_parts}}
use Rattle.truncation.specs.Cuts as Cuts
use Rattle.truncation.specs.{Cuts.{is_past_key}, Drops.{DropsPages}}

module _ {mode : ℕ} where
  -- The file is so long, each page of it that begins before is as it was, every other one is gone, and private pages over those lost their own copies.
  pub record KeepsFront (old new : Picture mode) (file length : ℕ) (info : FileInfo) : Type 0 where
    pub root : (pid : ℕ) → new.root pid ≡ old.root pid
    pub at : (pid page : ℕ) → new.at pid page ≡ old.at pid page
    pub views : (pid page : ℕ) → view new pid page ≡ option_map (cut_view file length) (view old pid page)
    pub keys : (q : PageKey) → is_past_key file length q ≡ false → KeepsBytes old new q
    pub gone : (q : PageKey) → is_past_key file length q ≡ true → (held new q ≡ None) × (new.touched q ≡ false)
    pub here : new.files file ≡ Some (with_length length info)
    pub others : (f : ℕ) → f ≢ file → new.files f ≡ old.files f

-- the pages that lose their own copies, as the flat model tells them
same_cut_off : (file length : ℕ) (b : Backing) → Cuts.is_cut_off file length b ≡ is_cut_off file length b
same_cut_off file length Anon = refl
same_cut_off file length (Private p) = refl
same_cut_off file length (Shared p) = refl
same_cut_off file length (Common p) = refl

same_cut_views : (file length : ℕ) (o : Option View) → option_map (Cuts.cut_view file length) o ≡ option_map (cut_view file length) o
same_cut_views file length None = refl
same_cut_views file length (Some v) = ap (λ t. Some (cond t (uncopied v) v)) (same_cut_off file length v.attr.backing)

module _ {mode : ℕ} (c : Picture mode) (files : Files) where
  abbrev so_long : Picture mode
  so_long = record c { files = files }

  held_long : (q : PageKey) → held so_long q ≡ held c q
  unfolding held
  held_long q = refl

  view_long : (pid page : ℕ) → view so_long pid page ≡ view c pid page
  unfolding view entry
  view_long pid page = refl

-- The pages past the length were dropped.
pub front_dropped : {mode : ℕ} (a c : Picture mode) (files : Files) (file length : ℕ) (info : FileInfo) → DropsPages a c file length
    → files file ≡ Some (with_length length info) → ((f : ℕ) → f ≢ file → files f ≡ c.files f) → KeepsFront a (record c { files = files }) file length info
front_dropped a c files file length info drops here others = record {
  root = drops.maps.root;
  at = drops.maps.at;
  views = λ pid page. view_long c files pid page ∙ drops.views pid page ∙ same_cut_views file length (view a pid page);
  keys = λ q out. (let kept = drops.keys q out in (held_long c files q ∙ kept.held, kept.touched));
  gone = λ q past. (let gone = drops.gone q past in (held_long c files q ∙ held_home c q gone.0, gone.1));
  here = here;
  others = λ f ne. others f ne ∙ drops.maps.files f;
}

home_or_away : (y : Place) → (y ≡ Home) ⊎ (y ≢ Home)
home_or_away Home = inl refl
home_or_away (Frame n) = inr (λ e. (cc))
home_or_away (Slot n) = inr (λ e. (cc))

abbrev seen_as : Attr → Option (List ℕ) → View
seen_as attr own = record { attr = attr; own = own }

uncut : (file length : ℕ) (attr : Attr) (own : Option (List ℕ)) (t : Bool) → (t ≡ true → own ≡ None) → seen_as attr own ≡ cond t (seen_as attr None) (seen_as attr own)
uncut file length attr own true none = ap (λ o. seen_as attr o) (none refl)
uncut file length attr own false none = refl

-- There are none, since the file gets no shorter.
module _ {mode : ℕ} (c : Picture mode) (files : Files) (file length : ℕ) (info : FileInfo) (there : c.files file ≡ Some info) (longer : info.length ≤ length) (fit : IsFit c) where
  past_cut : (b : Backing) → is_cut_off file length b ≡ true → is_past_end c.files b ≡ true
  past_cut Anon is = absurd (false≢true is)
  past_cut (Private p) is = (
      let both = and_parts (p.file == file) (nat_le length (4096 * p.page)) is in
      let past : nat_le length (4096 * p.page) ≡ true = both.1 in
      let e : nat_le info.length (4096 * p.page) ≡ true = grind (arith, nat_tests, past, longer) in
      ap (λ f. is_past_end_of (c.files f) p.page) (eqb-true p.file file both.0) ∙ ap (λ o. is_past_end_of o p.page) there ∙ e)
  past_cut (Shared p) is = absurd (false≢true is)
  past_cut (Common p) is = absurd (false≢true is)

  no_entry : (pid page : ℕ) (attr : Attr) (o : Option Attr) (e : ℕ) → o ≡ Some attr → is_cut_off file length attr.backing ≡ true → IsEntryFor c o e → seat e ≡ None
  no_entry pid page attr o e at cut (Nothing none) = ap seat none ∙ seat-none
  no_entry pid page attr o e at cut (Resident b is resident) =
      absurd (false≢true (sym resident.inside ∙ ap (λ (x : Attr). is_past_end c.files x.backing) (same_Some b attr (sym is ∙ at)) ∙ past_cut attr.backing cut))
  no_entry pid page attr o e at cut (Away b is away) =
      absurd (false≢true (sym away.inside ∙ ap (λ (x : Attr). is_past_end c.files x.backing) (same_Some b attr (sym is ∙ at)) ∙ past_cut attr.backing cut))

  view_some : (pid page : ℕ) (attr : Attr) → c.at pid page ≡ Some attr → view c pid page ≡ Some (seen_as attr (own_in c.frames c.slots (entry c pid page)))
  unfolding view
  view_some pid page attr at = ap (λ o. view_of (own_in c.frames c.slots (entry c pid page)) o) at

  views_by : (pid page : ℕ) (o : Option Attr) → c.at pid page ≡ o → view c pid page ≡ option_map (cut_view file length) (view c pid page)
  views_by pid page None at = view-none c pid page at ∙ sym (ap (λ v. option_map (cut_view file length) v) (view-none c pid page at))
  views_by pid page (Some attr) at =
      let own = own_in c.frames c.slots (entry c pid page) in
      let none : is_cut_off file length attr.backing ≡ true → own ≡ None = λ cut. ap (λ x. option_map (bytes_in c.frames c.slots) x)
      (no_entry pid page attr (c.at pid page) (entry c pid page) at cut (fit.granting.entries pid page (mapped_page c pid page attr fit.granting at))) in
      view_some pid page attr at
      ∙ ap (λ v. Some v) (uncut file length attr own (is_cut_off file length attr.backing) none)
      ∙ sym (ap (λ v. option_map (cut_view file length) v) (view_some pid page attr at))

  at_home : (q : PageKey) → is_past_key file length q ≡ true → c.place q ≡ Home
  at_home (Object p) past = absurd (false≢true past)
  at_home (File p) past = elim (home_or_away (c.place (File p))) [
    | inl home ↦ home
    | inr away ↦ absurd (
        let parts = past_parts file length p past in
        let is = fit.places.inside (File p) away in
        let bytes : is.0.length ≡ info.length = ap (λ (i : FileInfo). i.length) (same_Some is.0 info (sym is.1 ∙ ap c.files parts.0 ∙ there)) in
        let low = is.2 in
        let high = parts.1 in
        omega (arith, low, high, bytes, longer))
  ]

  pub front_grown : files file ≡ Some (with_length length info) → ((f : ℕ) → f ≢ file → files f ≡ c.files f) → KeepsFront c (record c { files = files }) file length info
  front_grown here others = record {
    root = λ pid. refl;
    at = λ pid page. refl;
    views = λ pid page. view_long c files pid page ∙ views_by pid page (c.at pid page) refl;
    keys = λ q out. (held_long c files q, refl);
    gone = λ q past. (let home = at_home q past in (held_long c files q ∙ held_home c q home, untouched_home c q fit home));
    here = here;
    others = others;
  }

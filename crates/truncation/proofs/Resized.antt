-- Memory stays fit where a file gets another length, if what lies in it is inside then.
use Rattle.std.proofs.Common.{◌≡◌, ◌≢◌, ℕ, ◌*◌, ◌<◌, ◌≤◌, inl, inr, false, Option, Some, refl, sym, ap, ◌∙◌, subst, arith}
use Rattle.std.proofs.lemmas.{Bool.{false≢true, cases_Bool, cases_eq, cases_lt, Decides.{nat_tests}}, Option.{same_Some}}
use Rattle.std.specs.Prelude.{nat_le}
use Rattle.vm_types.specs.{Files.{Files, is_past_end_of}, Limits.{top_level}, Verdict.{is_past_end}}
use Rattle.vm_types.specs.declared.{file.{FileInfo.{FileInfo}, FilePage.{FilePage}}, object.PageKey.{PageKey, TheVariants.{File, Object}}, region.{Attr.{Attr}, Backing.{Backing, TheVariants.{Anon, Private, Shared, Common}}}}
use Rattle.page_tables.specs.Tree.{IsPage}
use Rattle.page_cache.specs.declared.place.Place.{TheVariants.{Home}}
use Rattle.residency.proofs.{Granting.{granting_by, behind-same}, Moves.{counted_kept, shares_same}, Places.{places_kept, dirty_same}, Rooted.{rooted_by, used_kept}}
use Rattle.residency.specs.{Picture.{Picture, entry}, Seats.{seat}, Parts.{IsFit, IsMapped, IsEntryFor, Nothing, Resident, Away, IsPageFor, nowhere}}
use Rattle.truncation.proofs.{Dropped.{left_inside}, Past.{past_true}}
use Rattle.truncation.specs.{Cuts.{is_past, stands_past, is_mapped_past}, Drops.{DropsPages}, Lengths.{SetsLength}}

module _ {mode : ℕ} (c : Picture mode) (files : Files) where
  abbrev with_files : Picture mode
  with_files = record c { files = files }

  same_entry : (q k : ℕ) → entry with_files q k ≡ entry c q k
  unfolding entry
  same_entry q k = refl

  still_for : (attr : Option Attr) (e : ℕ) → ((a : Attr) → attr ≡ Some a → e ≢ 0 → is_past_end files a.backing ≡ false) → IsEntryFor c attr e → IsEntryFor with_files attr e
  still_for attr e inside is = elim (cases_eq e 0) [ inl none ↦ Nothing none | inr some ↦ by_form is some ] where
    by_form : IsEntryFor c attr e → e ≢ 0 → IsEntryFor with_files attr e
    by_form (Nothing none) some = Nothing none
    by_form (Resident a at resident) some = Resident a at (record {
      framed = resident.framed;
      inside = inside a at some;
      private = resident.private;
      behind = λ common. behind-same c with_files a.backing _ (λ p there. there) (resident.behind common);
      leaf = λ valid. (let leaf = resident.leaf valid in record { within = leaf.within; sole = leaf.sole; common = leaf.common });
    })
    by_form (Away a at away) some = Away a at (record { swapped = away.swapped; common = away.common; inside = inside a at some; not_shared = away.not_shared })

  still_page : ((p : FilePage) → c.place (File p) ≢ Home → IsPageFor with_files (File p)) → (p : PageKey) → c.place p ≢ Home → IsPageFor c p → IsPageFor with_files p
  still_page inside (File p) away is = inside p away
  still_page inside (Object p) away is = is

  -- Files are what they are then: each page of a file that lies in memory or swap, and each page of a process with an entry, is inside.
  pub fit_files : IsFit c → ((p : FilePage) → c.place (File p) ≢ Home → IsPageFor with_files (File p))
      → ((q k : ℕ) (a : Attr) → IsPage (top_level mode) k → c.at q k ≡ Some a → entry c q k ≢ 0 → is_past_end files a.backing ≡ false) → IsFit with_files
  fit_files fit pages entries = record {
    counted = counted_kept c with_files (shares_same c.frames c.frames refl) refl (λ n. refl) (λ p. refl) nowhere 0 (λ q k h. ap seat (same_entry q k)) fit.counted;
    rooted = rooted_by c with_files 0 0 fit.rooted (λ q. refl) fit.rooted.forest fit.rooted.roots (λ m table. elim (fit.rooted.used m table) [
      | inl zero ↦ inl zero
      | inr used ↦ inr (used_kept c with_files (IsMapped c) (IsMapped with_files) m (λ a i b p. p) (λ q. refl) (λ q k is. is) used)
    ]);
    granting = granting_by c with_files fit.granting (λ q k. refl) (λ q k h. subst (λ (x : ℕ). IsEntryFor with_files (c.at q k) x) (sym (same_entry q k))
        (still_for (c.at q k) (entry c q k) (λ a at some. entries q k a h at some) (fit.granting.entries q k h)));
    places = places_kept c with_files fit.places (λ p. refl) (still_page pages) (λ p k e. refl) (λ k some. inl some) (λ n e. e) (λ n e. e);
    dirty = dirty_same c with_files fit.dirty (λ p. refl) (λ p. refl) (λ q k h. same_entry q k);
  }

-- a page with an entry is inside its file
entry_inside : {mode : ℕ} (c : Picture mode) (attr : Option Attr) (a : Attr) (e : ℕ) → IsEntryFor c attr e → e ≢ 0 → attr ≡ Some a → is_past_end c.files a.backing ≡ false
entry_inside c attr a e (Nothing none) some at = absurd (some none)
entry_inside c attr a e (Resident b is resident) some at = subst (λ (x : Attr). is_past_end c.files x.backing ≡ false) (same_Some b a (sym is ∙ at)) resident.inside
entry_inside c attr a e (Away b is away) some at = subst (λ (x : Attr). is_past_end c.files x.backing ≡ false) (same_Some b a (sym is ∙ at)) away.inside

-- whether a page begins past a file's end, by its length
end_before : (o : Option FileInfo) (info : FileInfo) (page : ℕ) → o ≡ Some info → 4096 * page < info.length → is_past_end_of o page ≡ false
end_before o info page is low = ap (λ x. is_past_end_of x page) is ∙ (let e : nat_le info.length (4096 * page) ≡ false = grind (arith, nat_tests, low) in e)

before_end : (o : Option FileInfo) (info : FileInfo) (page : ℕ) → o ≡ Some info → is_past_end_of o page ≡ false → 4096 * page < info.length
before_end o info page is out = let e : nat_le info.length (4096 * page) ≡ false = sym (ap (λ x. is_past_end_of x page) is) ∙ out in grind (arith, nat_tests, e)

before_length : (file length : ℕ) (p : FilePage) → is_past file length p ≡ false → p.file ≡ file → 4096 * p.page < length
before_length file length p out same = elim (cases_lt (4096 * p.page) length) [ inl low ↦ low | inr high ↦ absurd (false≢true (sym out ∙ past_true file length p same high)) ]

-- One file gets a length.
module _ {mode : ℕ} (c : Picture mode) (files : Files) (file length : ℕ) (sets : SetsLength c.files files file length) where
  page_inside : (p : FilePage) → (p.file ≡ file → 4096 * p.page < length) → IsPageFor c (File p) → IsPageFor (with_files c files) (File p)
  page_inside p here there = elim (cases_eq p.file file) [
    | inl same ↦ (sets.info, ap files same ∙ sets.there, (let low = here same in omega (arith, low, sets.bytes)))
    | inr ne ↦ (there.0, sets.others p.file ne ∙ there.1, there.2)
  ]

  file_inside : (p : FilePage) → (p.file ≡ file → is_past_end_of (c.files file) p.page ≡ false → 4096 * p.page < length) → is_past_end_of (c.files p.file) p.page ≡ false → is_past_end_of (files p.file) p.page ≡ false
  file_inside p here out = elim (cases_eq p.file file) [
    | inl same ↦ end_before (files p.file) sets.info p.page (ap files same ∙ sets.there)
        (let low = here same (ap (λ f. is_past_end_of (c.files f) p.page) (sym same) ∙ out) in omega (arith, low, sets.bytes))
    | inr ne ↦ ap (λ x. is_past_end_of x p.page) (sets.others p.file ne) ∙ out
  ]

  -- each page of the file in memory or swap begins before the length, and each page of a process with an entry that wasn't past its
  -- file's end isn't then
  pub fit_set : IsFit c → ((p : FilePage) → p.file ≡ file → c.place (File p) ≢ Home → 4096 * p.page < length)
      → ((q k : ℕ) (a : Attr) → IsPage (top_level mode) k → c.at q k ≡ Some a → entry c q k ≢ 0 → is_past_end c.files a.backing ≡ false → is_past_end files a.backing ≡ false) → IsFit (record c { files = files })
  fit_set fit pages entries = fit_files c files fit (λ p away. page_inside p (λ same. pages p same away) (fit.places.inside (File p) away))
      (λ q k a h at some. entries q k a h at some (entry_inside c (c.at q k) a (entry c q k) (fit.granting.entries q k h) some at))

  -- a page that isn't past the length is inside
  still_inside : (b : Backing) → stands_past file length b ≡ false → is_past_end c.files b ≡ false → is_past_end files b ≡ false
  still_inside Anon out inside = refl
  still_inside (Private p) out inside = file_inside p (λ same was. before_length file length p out same) inside
  still_inside (Shared p) out inside = file_inside p (λ same was. before_length file length p out same) inside
  still_inside (Common p) out inside = refl

  -- the length is that past which the pages of the file were dropped
  pub fit_cut : (old : Picture mode) → DropsPages old c file length → IsFit c → IsFit (record c { files = files })
  fit_cut old drops fit = fit_set fit (left_inside old c file length drops) (λ q k a h at some. still_inside a.backing (elim (cases_Bool (stands_past file length a.backing)) [
    | inr out ↦ out
    | inl past ↦ absurd (some (drops.bare q k h (ap (λ x. is_mapped_past file length x) at ∙ past)))
  ]))

  -- the length is no less than the file's
  module _ (was : FileInfo) (there : c.files file ≡ Some was) (longer : was.length ≤ length) where
    grown_inside : (b : Backing) → is_past_end c.files b ≡ false → is_past_end files b ≡ false
    grown_inside Anon inside = refl
    grown_inside (Private p) inside = file_inside p (λ same out. (let low = before_end (c.files file) was p.page there out in omega (arith, low, longer))) inside
    grown_inside (Shared p) inside = file_inside p (λ same out. (let low = before_end (c.files file) was p.page there out in omega (arith, low, longer))) inside
    grown_inside (Common p) inside = refl

    pub fit_grown : IsFit c → IsFit (record c { files = files })
    fit_grown fit = fit_set fit (λ p same away. (
        let is = fit.places.inside (File p) away in
        let bytes : is.0.length ≡ was.length = ap (λ (i : FileInfo). i.length) (same_Some is.0 was (sym is.1 ∙ ap c.files same ∙ there)) in
        let low = is.2 in
        omega (arith, low, bytes, longer)))
        (λ q k a h at some inside. grown_inside a.backing inside)

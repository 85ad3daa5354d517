-- The page within which a file ends is cut in memory: what is held and seen then.
use Rattle.vm_types.specs.declared.mode.Levels as Levels
use Rattle.std.proofs.Common.{◌≡◌, ◌≢◌, ℕ, [], ◌/◌, ◌%◌, Bool, true, false, List, Option, Some, None, refl, sym, ap, ◌∙◌, ◌||◌, eq-eqb, eqb-true}
use Rattle.std.proofs.lemmas.{Bool.{and_parts, and_from, false≢true}, Option.{same_Some}}
use Rattle.std.specs.Prelude.{◌==◌, ◌&&◌, slice_index_or}
use Rattle.vm_types.specs.Files as Files
use Rattle.vm_types.specs.{Files.{bytes_inside, cut}, Truncation.{is_end_page}}
use Rattle.vm_types.specs.declared.{file.FilePage.{FilePage}, object.PageKey.{PageKey, TheVariants.{File, Object}}}
use Rattle.frames.specs.FrameTable.{bytes_of, IsHeld}
use Rattle.sized_stores.specs.Store.{files_of}
use Rattle.swap.specs.Slots.{slots_of}
use Rattle.page_cache.specs.declared.place.Place.{TheVariants.{Home, Frame}}
use Rattle.residency.proofs.Places.{record_of}
use Rattle.residency.specs.{declared.kernel.Core.{Core}, Picture.{Picture, picture_of, entry, view, held, bytes_at, root_in, attr_where}, Parts.{IsFit}, Steps.{SameBeside}}
use Rattle.fault.proofs.Storing.{views_file, held_else, held_written}
use Rattle.truncation.proofs.CutTwice.{end_parts, end_from, end_inside}
use Rattle.truncation.specs.Resizing.{end_page, CutsFrame}

-- whether a page of a file or an object is that within which the file ends
abbrev pub is_end_key : ℕ → ℕ → PageKey → Bool
is_end_key file end (File p) = p.file == file && is_end_page end p.page
is_end_key file end (Object p) = false

-- these are the bytes of what was held, from byte n on zeros
abbrev pub IsCutFrom : Option (List ℕ) → ℕ → List ℕ → Type 0
IsCutFrom was n bytes = (w : List ℕ) × (was ≡ Some w) × (bytes ≡ cut n w)

module _ {mode : ℕ} where
  -- A page of a file or an object has the bytes that it had, and is touched if it was.
  abbrev pub KeepsBytes : Picture mode → Picture mode → PageKey → Type 0
  KeepsBytes old new q = (held new q ≡ held old q) × (new.touched q ≡ old.touched q)

  -- The page within which a file ends is cut, where memory holds it, and touched where the file gets longer; all else is as it was.
  pub record CutsEnd (old new : Picture mode) (file end : ℕ) (longer : Bool) : Type 0 where
    pub root : (pid : ℕ) → new.root pid ≡ old.root pid
    pub at : (pid page : ℕ) → new.at pid page ≡ old.at pid page
    pub views : (pid page : ℕ) → view new pid page ≡ view old pid page
    pub files : (f : ℕ) → new.files f ≡ old.files f
    pub others : (q : PageKey) → is_end_key file end q ≡ false → KeepsBytes old new q
    pub cuts : (p : FilePage) → is_end_key file end (File p) ≡ true → (bytes : List ℕ) → held new (File p) ≡ Some bytes → IsCutFrom (held old (File p)) (bytes_inside end p.page) bytes
    pub marks : (p : FilePage) → is_end_key file end (File p) ≡ true → new.touched (File p) ≡ (old.touched (File p) || longer)

pub one_page : (q p : FilePage) → q.file ≡ p.file → q.page ≡ p.page → q ≡ p
one_page q p e f = ap (λ x. record_of x q.page) e ∙ ap (λ x. record_of p.file x) f

or_none : (b : Bool) → b ≡ (b || false)
or_none true = refl
or_none false = refl

-- it is that page
the_end : (file end : ℕ) (p : FilePage) → is_end_key file end (File p) ≡ true → (end % 4096 ≢ 0) × (p ≡ end_page file end)
the_end file end p is =
    let both = and_parts (p.file == file) (is_end_page end p.page) is in
    let at = end_parts end p.page both.1 in
    (at.0, one_page p (end_page file end) (eqb-true p.file file both.0) at.1)

end_is : (file end : ℕ) → end % 4096 ≢ 0 → is_end_key file end (File (end_page file end)) ≡ true
end_is file end some = and_from _ _ (eq-eqb file file refl) (end_from end (end / 4096) some refl)

not_the_end : (file end : ℕ) (q : PageKey) → end % 4096 ≢ 0 → is_end_key file end q ≡ false → q ≢ File (end_page file end)
not_the_end file end q some other is = false≢true (sym other ∙ ap (λ x. is_end_key file end x) is ∙ end_is file end some)

pub held_home : {mode : ℕ} (c : Picture mode) (p : PageKey) → c.place p ≡ Home → held c p ≡ None
unfolding held
held_home c p home = ap (λ x. bytes_at c.frames c.slots x) home

pub held_frame : {mode : ℕ} (c : Picture mode) (p : PageKey) (n : ℕ) → c.place p ≡ Frame (record { 0 = n }) → held c p ≡ Some (bytes_of c.frames n)
unfolding held
held_frame c p n at = ap (λ x. bytes_at c.frames c.slots x) at

module _ {mode : ℕ} (c : Picture mode) (file end : ℕ) where
  -- the file ends where a page does
  pub cuts_none : (longer : Bool) → end % 4096 ≡ 0 → CutsEnd c c file end longer
  cuts_none longer none = record {
    root = λ pid. refl;
    at = λ pid page. refl;
    views = λ pid page. refl;
    files = λ f. refl;
    others = λ q other. (refl, refl);
    cuts = λ p is. absurd ((the_end file end p is).0 none);
    marks = λ p is. absurd ((the_end file end p is).0 none);
  }

  -- the page within which it ends is at home
  pub cuts_home : c.place (File (end_page file end)) ≡ Home → CutsEnd c c file end false
  cuts_home home = record {
    root = λ pid. refl;
    at = λ pid page. refl;
    views = λ pid page. refl;
    files = λ f. refl;
    others = λ q other. (refl, refl);
    cuts = λ p is bytes there. absurd (let bad : None ≡ Some bytes = sym (held_home c (File p) (ap (λ x. c.place (File x)) (the_end file end p is).1 ∙ home)) ∙ there in (cc));
    marks = λ p is. or_none (c.touched (File p));
  }

-- what is held and seen doesn't tell which pages are touched
module _ {mode : ℕ} (c : Picture mode) (touched : PageKey → Bool) where
  abbrev retouched : Picture mode
  retouched = record c { touched = touched }

  held_retouched : (q : PageKey) → held retouched q ≡ held c q
  unfolding held
  held_retouched q = refl

  view_retouched : (pid page : ℕ) → view retouched pid page ≡ view c pid page
  unfolding view entry
  view_retouched pid page = refl

module _ {M : Type 0} {m : Levels.Ghosts M} {D E : Type 0} (old new : Core D E M m) (file end n : ℕ) (longer : Bool) (some : end % 4096 ≢ 0)
    (fit : IsFit (picture_of old)) (frame : IsHeld old.frames n) (at : (picture_of old).place (File (end_page file end)) ≡ Frame (record { 0 = n }))
    (cut : CutsFrame old new (end_page file end) n (end % 4096) longer) where
  abbrev a : Picture m.mode
  a = picture_of old

  abbrev b : Picture m.mode
  b = picture_of new

  abbrev untouched : Picture m.mode
  untouched = retouched b a.touched

  roots_same : (pid : ℕ) → b.root pid ≡ a.root pid
  roots_same pid = ap (λ r. root_in r.items pid) cut.roots

  at_same : (pid page : ℕ) → b.at pid page ≡ a.at pid page
  at_same pid page = ap (λ r. attr_where (root_in r.items pid) (slice_index_or new.regions.items pid []) page) cut.roots
      ∙ ap (λ r. attr_where (root_in old.roots.items pid) (slice_index_or r.items pid []) page) cut.regions

  beside : SameBeside a untouched
  beside = record {
    slots = ap (λ s. slots_of s) cut.swap;
    root = roots_same;
    at = at_same;
    page_of = λ k. ap (λ p. slice_index_or p.items k 0) cut.page_of;
    place = cut.place;
    touched = λ p. refl;
    files = λ f. ap (λ s. files_of s f) cut.store;
  }

  abbrev w : List ℕ
  w = Files.cut (end % 4096) (bytes_of old.frames n)

  end_held : (p : FilePage) → p ≡ end_page file end → (bytes : List ℕ) → held b (File p) ≡ Some bytes → IsCutFrom (held a (File p)) (bytes_inside end p.page) bytes
  end_held p is bytes there =
      let page = File (end_page file end) in
      let same : File p ≡ page = ap (λ x. File x) is in
      let now = sym (held_retouched b a.touched page) ∙ held_written a untouched n w fit frame cut.frames beside page at in (
        bytes_of old.frames n,
        ap (λ q. held a q) same ∙ held_frame a page n at,
        same_Some bytes w (sym there ∙ ap (λ q. held b q) same ∙ now) ∙ ap (λ k. Files.cut k (bytes_of old.frames n)) (sym (end_inside end p.page (ap (λ x. x.page) is))),
      )

  pub cuts_frame : CutsEnd a b file end longer
  cuts_frame = record {
    root = roots_same;
    at = at_same;
    views = λ pid page. sym (view_retouched b a.touched pid page) ∙ views_file a untouched n w fit frame cut.frames beside (File (end_page file end)) at pid page;
    files = beside.files;
    others = λ q other. (
        let ne = not_the_end file end q some other in
        (sym (held_retouched b a.touched q) ∙ held_else a untouched n w fit frame cut.frames beside (File (end_page file end)) at q ne, cut.others q ne));
    cuts = λ p is. end_held p (the_end file end p is).1;
    marks = λ p is. (
        let same = ap (λ x. File x) (the_end file end p is).1 in
        ap (λ q. b.touched q) same ∙ cut.touched ∙ ap (λ q. a.touched q || longer) (sym same));
  }

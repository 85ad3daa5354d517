-- Which pages begin at or past a length.
use Rattle.std.proofs.Common.{◌≡◌, ◌≢◌, ℕ, ◌+◌, ◌-◌, ◌*◌, ◌<◌, ◌≤◌, inl, inr, ◌⊎◌, true, false, Option, Some, None, refl, sym, ap, ◌∙◌, arith, ◌==◌, eq-eqb, eqb-true}
use Rattle.std.proofs.lemmas.{Bool.{and_parts, and_from, false≢true, cases_Bool, cases_lt, Decides.{nat_tests}}, Option.{same_Some}}
use Rattle.std.specs.Prelude.{nat_le, IsSome}
use Rattle.vm_types.specs.Attributes.{backing_after, backed_by, file_page_after, stands_on}
use Rattle.vm_types.specs.declared.file.FilePage.{FilePage}
use Rattle.vm_types.specs.declared.object.PageKey.TheVariants.{File, Object}
use Rattle.vm_types.specs.declared.region.{Attr.{Attr}, Backing.{Backing, TheVariants.{Anon, Private, Shared, Common}}}
use Rattle.regions.specs.{declared.run.Run.{Run}, Search.{StandsOn}}
use Rattle.truncation.specs.{Cuts.{is_past, is_past_key, stands_past, is_mapped_past, is_cut_off}, Steps.{IsFirstPast, is_run_past}}

pub past_true : (file length : ℕ) (p : FilePage) → p.file ≡ file → length ≤ 4096 * p.page → is_past file length p ≡ true
past_true file length p same past = and_from _ _ (eq-eqb p.file file same) (let e : nat_le length (4096 * p.page) ≡ true = grind (arith, nat_tests, past) in e)

pub past_parts : (file length : ℕ) (p : FilePage) → is_past file length p ≡ true → (p.file ≡ file) × (length ≤ 4096 * p.page)
past_parts file length p is =
    let both = and_parts (p.file == file) (nat_le length (4096 * p.page)) is in
    (eqb-true p.file file both.0, (let t : nat_le length (4096 * p.page) ≡ true = both.1 in grind (arith, nat_tests, t)))

pub past_false : (file length : ℕ) (p : FilePage) → (p.file ≢ file) ⊎ (4096 * p.page < length) → is_past file length p ≡ false
past_false file length p out = elim (cases_Bool (is_past file length p)) [
  | inr e ↦ e
  | inl e ↦ (let at = past_parts file length p e in absurd (elim out [ inl ne ↦ ne at.0 | inr low ↦ omega (arith, low, at) ]))
]

-- what stands behind a page so many pages further on
pub past_after : (b : Backing) (p : FilePage) (file length n : ℕ) → backed_by b ≡ Some p → stands_past file length (backing_after b n) ≡ is_past file length (file_page_after p n)
past_after Anon p file length n is = absurd (let bad : None ≡ Some p = is in (cc))
past_after (Private q) p file length n is = ap (λ x. is_past file length (file_page_after x n)) (same_Some q p is)
past_after (Shared q) p file length n is = ap (λ x. is_past file length (file_page_after x n)) (same_Some q p is)
past_after (Common q) p file length n is = absurd (let bad : None ≡ Some p = is in (cc))

pub never_past : (b : Backing) (file length n : ℕ) → backed_by b ≡ None → stands_past file length (backing_after b n) ≡ false
never_past Anon file length n is = refl
never_past (Private q) file length n is = absurd (let bad : None ≡ Some q = sym is in (cc))
never_past (Shared q) file length n is = absurd (let bad : None ≡ Some q = sym is in (cc))
never_past (Common q) file length n is = refl

-- the pages of a run over a file
module _ (run : Run) (p : FilePage) (file length : ℕ) (is : backed_by run.attr.backing ≡ Some p) where
  pub other_file : p.file ≢ file → (k : ℕ) → is_run_past run file length k ≡ false
  other_file ne k = past_after run.attr.backing p file length (k - run.first) is ∙ past_false file length (file_page_after p (k - run.first)) (inl ne)

  module _ (same : p.file ≡ file) (page : ℕ) (past : length ≤ 4096 * page) (least : (k : ℕ) → length ≤ 4096 * k → page ≤ k)
      (first : ℕ) (at : first ≡ run.first + (page - p.page)) where
    pub before_first : (k : ℕ) → run.first ≤ k → k < first → is_run_past run file length k ≡ false
    before_first k from below = past_after run.attr.backing p file length (k - run.first) is ∙ past_false file length (file_page_after p (k - run.first)) (elim (cases_lt (4096 * (p.page + (k - run.first))) length) [
      | inl low ↦ inr low
      | inr high ↦ absurd (let e = least (p.page + (k - run.first)) high in omega (arith, e, from, below, at))
    ])

    pub first_is : first < run.end → IsFirstPast run file length first
    first_is within = record {
      from = omega (arith, at);
      within = within;
      past = λ k from below. past_after run.attr.backing p file length (k - run.first) is ∙ past_true file length (file_page_after p (k - run.first)) same (omega (arith, past, at, from));
      before = before_first;
    }

-- what stands behind a page, by what it stands on
past_on : (file length : ℕ) (b : Backing) (p : FilePage) → stands_on b ≡ Some (File p) → stands_past file length b ≡ is_past file length p
past_on file length (Private q) p is = ap (λ k. is_past_key file length k) (same_Some (File q) (File p) is)
past_on file length (Shared q) p is = ap (λ k. is_past_key file length k) (same_Some (File q) (File p) is)
past_on file length Anon p is = absurd (let bad : None ≡ Some (File p) = is in (cc))
past_on file length (Common q) p is = absurd (let bad : Object q ≡ File p = same_Some (Object q) (File p) is in (cc))

pub mapped_on : (file length : ℕ) (map : ℕ → Option Attr) (p : FilePage) (k : ℕ) → StandsOn map (File p) k → is_past file length p ≡ true → is_mapped_past file length (map k) ≡ true
mapped_on file length map p k stands past = ap (λ a. is_mapped_past file length a) stands.mapped ∙ past_on file length stands.attr.backing p stands.on ∙ past

-- a private page that is cut off stands on a page past the length, and another page past it is shared
pub cut_past : (file length : ℕ) (b : Backing) → is_cut_off file length b ≡ true → stands_past file length b ≡ true
cut_past file length Anon is = is
cut_past file length (Private p) is = is
cut_past file length (Shared p) is = absurd (false≢true is)
cut_past file length (Common p) is = is

pub unmapped_past : (file length : ℕ) (o : Option Attr) → o ≡ None → is_mapped_past file length o ≡ false
unmapped_past file length o none = ap (λ a. is_mapped_past file length a) none

pub mapped_some : (file length : ℕ) (o : Option Attr) → is_mapped_past file length o ≡ true → IsSome o
mapped_some file length None is = absurd (false≢true is)
mapped_some file length (Some a) is = refl

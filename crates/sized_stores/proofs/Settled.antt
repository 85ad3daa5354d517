-- Lengths that become durable, one file after the other.
use Rattle.std.proofs.Common.{ℕ, ◌≡◌, ◌<◌, ◌+◌, ⊎_elim, Bool, true, false, List, [], ◌∷◌, ◌++◌, length, take, get_or, set, slice_get, eqb, if◌then◌else◌, Some, refl, sym, ap, subst, ◌∙◌, arith}
use Rattle.std.specs.Option.{option_map}
use Rattle.std.proofs.lemmas.{Bool.{cases_eq, cases_Bool, cond-true, cond-false, eq-eqb, ne_eqb, false≢true}, List.{length-set, take_more}, Option.{slice_get-get_or}}
use Rattle.sized_stores.specs.Commit.{is_one_of, settled, AreSettled}
use Rattle.sized_stores.specs.Listing.{no_size}
use Rattle.sized_stores.specs.declared.sizes.Size.{Size}
use Rattle.sized_stores.proofs.Rows.{get_other, get_set}

any_way : (b : Bool) → (if b then true else true) ≡ true
any_way true = refl
any_way false = refl

-- a number is one of a list with another behind it where it is that, or one of the list
is_last : (xs : List ℕ) (x : ℕ) → is_one_of (xs ++ x ∷ []) x ≡ true
is_last [] x = cond-true (eqb x x) true false (eq-eqb x x refl)
is_last (y ∷ ys) x = ap (λ (b : Bool). if eqb y x then true else b) (is_last ys x) ∙ any_way (eqb y x)

is_before : (xs : List ℕ) (x f : ℕ) → (f ≡ x → ⊥) → is_one_of (xs ++ x ∷ []) f ≡ is_one_of xs f
is_before [] x f other = cond-false (eqb x f) true false (ne_eqb x f (λ same. other (sym same)))
is_before (y ∷ ys) x f other = ap (λ (b : Bool). if eqb y f then true else b) (is_before ys x f other)

-- the next file is settled, whether it was before or not
settled_here : (files : List ℕ) (old new : List Size) (f : ℕ) → f < length old → AreSettled files old new → Some (settled (get_or new f no_size)) ≡ option_map settled (slice_get old f)
settled_here files old new f inside are = ⊎_elim
    (λ (before : is_one_of files f ≡ true).
    let there : slice_get new f ≡ Some (get_or new f no_size) = slice_get-get_or new f no_size (let long = are.long in omega (arith, inside, long)) in
    let was : slice_get old f ≡ Some (get_or old f no_size) = slice_get-get_or old f no_size inside in
    let is : Some (get_or new f no_size) ≡ Some (settled (get_or old f no_size)) = sym there ∙ are.these f before ∙ ap (option_map settled) was in
    ap (option_map settled) is ∙ sym (ap (option_map settled) was))
    (λ (other : is_one_of files f ≡ false).
    let there : slice_get new f ≡ Some (get_or new f no_size) = slice_get-get_or new f no_size (let long = are.long in omega (arith, inside, long)) in
    ap (option_map settled) (sym there ∙ are.others f other))
    (cases_Bool (is_one_of files f))

pub settled_more : (files : List ℕ) (old new : List Size) (f : ℕ) → f < length old → AreSettled files old new → AreSettled (files ++ f ∷ []) old (set new f (settled (get_or new f no_size)))
settled_more files old new f inside are =
    let size : Size = settled (get_or new f no_size) in
    let here : slice_get (set new f size) f ≡ Some size = get_set new f size (let long = are.long in omega (arith, inside, long)) in record {
      long = length-set new f size ∙ are.long;
      these = λ g is. ⊎_elim
          (λ (same : g ≡ f). subst (λ (k : ℕ). slice_get (set new f size) k ≡ option_map settled (slice_get old k)) (sym same) (here ∙ settled_here files old new f inside are))
          (λ other. get_other new f g size other ∙ are.these g (sym (is_before files f g other) ∙ is))
          (cases_eq g f);
      others = λ g is_not. ⊎_elim
          (λ (same : g ≡ f). absurd (false≢true (sym is_not ∙ ap (is_one_of (files ++ f ∷ [])) same ∙ is_last files f)))
          (λ other. get_other new f g size other ∙ are.others g (sym (is_before files f g other) ∙ is_not))
          (cases_eq g f);
    }

-- the next of a list of files
pub settled_next : (files : List ℕ) (old new : List Size) (n : ℕ) → n < length files → get_or files n 0 < length old → AreSettled (take n files) old new
    → AreSettled (take (n + 1) files) old (set new (get_or files n 0) (settled (get_or new (get_or files n 0) no_size)))
settled_next files old new n below inside are = subst (λ (l : List ℕ). AreSettled l old (set new (get_or files n 0) (settled (get_or new (get_or files n 0) no_size)))) (sym (take_more files n 0 below))
    (settled_more (take n files) old new (get_or files n 0) inside are)

-- Lists of borrowed words, place by place.
use Rattle.std.proofs.{Common.{◌≡◌, ℕ, ◌≤◌, List, [], ◌∷◌, map, ◌-◌, get_or, take, drop, length, sym, ap, arith}, lemmas.List.{take_all}}
use denote.Ref.{Bor}

-- what the words point to
abbrev pub texts : List (Bor (List ℕ)) → List (List ℕ)
texts words = map (λ w. w.now) words

pub one_or_more : (ws : List (Bor (List ℕ))) (d : Bor (List ℕ)) → 1 ≤ length ws
    → texts ws ≡ (get_or ws 0 d).now ∷ texts (take (length ws - 1) (drop 1 ws))
one_or_more [] d n = absurd (omega arith)
one_or_more (a ∷ more) d n = ap (λ t. a.now ∷ texts t) (sym (take_all (length (a ∷ more) - 1) more (omega arith)))

pub two_or_more : (ws : List (Bor (List ℕ))) (d : Bor (List ℕ)) → 2 ≤ length ws
    → texts ws ≡ (get_or ws 0 d).now ∷ (get_or ws 1 d).now ∷ texts (take (length ws - 2) (drop 2 ws))
two_or_more (a ∷ b ∷ more) d n = ap (λ t. a.now ∷ b.now ∷ texts t) (sym (take_all (length (a ∷ b ∷ more) - 2) more (omega arith)))
two_or_more ws d n = absurd (omega arith)

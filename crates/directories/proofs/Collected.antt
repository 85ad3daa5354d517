-- The extents of all files in one list: all of them, each once, with its file and place.
use Rattle.std.proofs.Common.{ℕ, zero, suc, ◌≡◌, ◌<◌, ◌≤◌, ◌+◌, ◌-◌, ⊎_elim, ◌++◌, ◌∷◌, [], List, length, get_or, slice_get, refl, sym, ap, subst, ◌∙◌, arith, Option, Some, None}
use Rattle.std.proofs.lemmas.Bool.{cases_lt}
use Rattle.std.proofs.lemmas.List.{get_or_append_left, get_or-append_right, length-append}
use Rattle.std.proofs.lemmas.List.Elements.{All-nil, All-cons, All-append, All-weaker, All-get_or, Contains-append_left, Contains-append_right}
use Rattle.std.proofs.lemmas.Option.{none-some, same_Some}
use Rattle.std.specs.List.{All, AllPairs, Contains}
use Rattle.directories.specs.{Homes.{extents_of}, Layouts.{entry_in, IsExtent}, Pieces.{pieces_in, pieces_at, pieces_of}}
use Rattle.directories.specs.declared.entry.Extent.{Extent}
use Rattle.directories.specs.declared.entry.Entry.{Entry}
use Rattle.directories.specs.declared.pieces.Piece.{Piece}

-- two lists in one, of which each pair is related
pub pairs_append : {X : Type 0} (R : X → X → Type 0) (xs ys : List X) → AllPairs R xs → AllPairs R ys
    → ((i j : ℕ) (d : X) → i < length xs → j < length ys → R (get_or xs i d) (get_or ys j d)) → AllPairs R (xs ++ ys)
pairs_append {X} R xs ys front back cross i j d less inside =
    let long = length-append xs ys in
    let left : (k : ℕ) → k < length xs → get_or (xs ++ ys) k d ≡ get_or xs k d = λ k lt. get_or_append_left xs ys d k lt in
    let right : (k : ℕ) → length xs ≤ k → get_or (xs ++ ys) k d ≡ get_or ys (k - length xs) d = λ k le. get_or-append_right xs ys (length xs) k d refl le in
    ⊎_elim
    (λ (j_left : j < length xs). let i_left : i < length xs = omega (arith, less, j_left) in
    subst (λ (v : X). R v (get_or (xs ++ ys) j d)) (sym (left i i_left)) (subst (λ (v : X). R (get_or xs i d) v) (sym (left j j_left)) (front i j d less j_left)))
    (λ (j_right : length xs ≤ j). ⊎_elim
    (λ (i_left : i < length xs).
    subst (λ (v : X). R v (get_or (xs ++ ys) j d)) (sym (left i i_left)) (subst (λ (v : X). R (get_or xs i d) v) (sym (right j j_right))
    (cross i (j - length xs) d i_left (omega (arith, long, inside, j_right)))))
    (λ (i_right : length xs ≤ i).
    subst (λ (v : X). R v (get_or (xs ++ ys) j d)) (sym (right i i_right)) (subst (λ (v : X). R (get_or ys (i - length xs) d) v) (sym (right j j_right))
    (back (i - length xs) (j - length xs) d (omega (arith, less, i_right)) (omega (arith, long, inside, j_right)))))
    (cases_lt i (length xs)))
    (cases_lt j (length xs))

pub pairs_cons : {X : Type 0} (R : X → X → Type 0) (x : X) (xs : List X) → All (λ y. R x y) xs → AllPairs R xs → AllPairs R (x ∷ xs)
pairs_cons {X} R x xs first rest = pairs_append R (x ∷ []) xs (λ i j d less inside. absurd (omega (arith, less, inside))) rest
    (λ i j d i_in j_in.
    let at : i ≡ 0 = omega (arith, i_in) in
    subst (λ k. R (get_or (x ∷ []) k d) (get_or xs j d)) (sym at) (All-get_or (λ y. R x y) xs j d j_in first))

-- pieces with their files and places
abbrev pub IsAt : ℕ → ℕ → Piece → Type 0
IsAt f i p = (p.file ≡ f) × (i ≤ p.place)

pub placed : (f i : ℕ) (xs : List Extent) → All (IsAt f i) (pieces_in f i xs)
placed f i [] = All-nil (IsAt f i)
placed f i (x ∷ xs) = All-cons (IsAt f i) (record { extent = x; file = f; place = i }) (pieces_in f (i + 1) xs) (refl, omega arith)
    (All-weaker (IsAt f (i + 1)) (IsAt f i) (λ p at. (at.0, (let le = at.1 in omega arith))) (pieces_in f (i + 1) xs) (placed f (i + 1) xs))

-- two are of two files, or of two places
abbrev pub Differ : Piece → Piece → Type 0
Differ p q = (p.file ≡ q.file) × (p.place ≡ q.place) → ⊥

abbrev pub IsFrom : ℕ → Piece → Type 0
IsFrom f p = f ≤ p.file

pub placed_at : (f : ℕ) (entry : Option Entry) → All (IsAt f 0) (pieces_at f entry)
placed_at f None = All-nil (IsAt f 0)
placed_at f (Some e) = placed f 0 (extents_of e)

pub filed : (f : ℕ) (entries : List (Option Entry)) → All (IsFrom f) (pieces_of f entries)
filed f [] = All-nil (IsFrom f)
filed f (entry ∷ entries) = All-append (IsFrom f) (pieces_at f entry) (pieces_of (f + 1) entries)
    (All-weaker (IsAt f 0) (IsFrom f) (λ p at. (let e = at.0 in omega arith)) (pieces_at f entry) (placed_at f entry))
    (All-weaker (IsFrom (f + 1)) (IsFrom f) (λ p le. omega arith) (pieces_of (f + 1) entries) (filed (f + 1) entries))

differ_in : (f i : ℕ) (xs : List Extent) → AllPairs Differ (pieces_in f i xs)
differ_in f i [] = λ k m d less inside. absurd (omega (arith, inside))
differ_in f i (x ∷ xs) = pairs_cons Differ (record { extent = x; file = f; place = i }) (pieces_in f (i + 1) xs)
    (All-weaker (IsAt f (i + 1)) (λ q. Differ (record { extent = x; file = f; place = i }) q) (λ q at both. (let le = at.1 in let e = both.1 in omega arith)) (pieces_in f (i + 1) xs) (placed f (i + 1) xs))
    (differ_in f (i + 1) xs)

differ_at : (f : ℕ) (entry : Option Entry) → AllPairs Differ (pieces_at f entry)
differ_at f None = λ k m d less inside. absurd (omega (arith, inside))
differ_at f (Some e) = differ_in f 0 (extents_of e)

pub differ_of : (f : ℕ) (entries : List (Option Entry)) → AllPairs Differ (pieces_of f entries)
differ_of f [] = λ k m d less inside. absurd (omega (arith, inside))
differ_of f (entry ∷ entries) = pairs_append Differ (pieces_at f entry) (pieces_of (f + 1) entries) (differ_at f entry) (differ_of (f + 1) entries)
    (λ i j d i_in j_in both.
    let one = All-get_or (IsAt f 0) (pieces_at f entry) i d i_in (placed_at f entry) in
    let two = All-get_or (IsFrom (f + 1)) (pieces_of (f + 1) entries) j d j_in (filed (f + 1) entries) in
    let same = both.0 in let here = one.0 in omega arith)

-- each extent is there
abbrev pub piece : Extent → ℕ → ℕ → Piece
piece x f i = record { extent = x; file = f; place = i }

contained_in : (f i j : ℕ) (xs : List Extent) (x : Extent) → slice_get xs j ≡ Some x → Contains (pieces_in f i xs) (piece x f (i + j))
contained_in f i j [] x is = absurd (none-some x is)
contained_in f i zero (y ∷ xs) x is =
    let at : i ≡ i + 0 = omega arith in
    (0, (omega arith), ap (λ (z : Extent). piece z f i) (same_Some y x is) ∙ ap (piece x f) at)
contained_in f i (suc j) (y ∷ xs) x is =
    let at : i + 1 + j ≡ i + suc j = omega arith in
    subst (λ n. Contains (pieces_in f i (y ∷ xs)) (piece x f n)) at
    (Contains-append_right (piece y f i ∷ []) (pieces_in f (i + 1) xs) (piece x f (i + 1 + j)) (contained_in f (i + 1) j xs x is))

contained_at : (f j : ℕ) (entry : Option Entry) (e : Entry) (x : Extent) → entry ≡ Some e → slice_get (extents_of e) j ≡ Some x → Contains (pieces_at f entry) (piece x f j)
contained_at f j None e x file is = absurd (none-some e file)
contained_at f j (Some d) e x file is =
    let there : slice_get (extents_of d) j ≡ Some x = ap (λ (a : Entry). slice_get (extents_of a) j) (same_Some d e file) ∙ is in
    let at : 0 + j ≡ j = omega arith in
    subst (λ n. Contains (pieces_in f 0 (extents_of d)) (piece x f n)) at (contained_in f 0 j (extents_of d) x there)

pub contained : (f k j : ℕ) (entries : List (Option Entry)) (e : Entry) (x : Extent) → entry_in entries k ≡ Some e → slice_get (extents_of e) j ≡ Some x
    → Contains (pieces_of f entries) (piece x (f + k) j)
contained f k j [] e x file is = absurd (none-some e file)
contained f zero j (entry ∷ entries) e x file is =
    let at : f ≡ f + 0 = omega arith in
    subst (λ n. Contains (pieces_of f (entry ∷ entries)) (piece x n j)) at
    (Contains-append_left (pieces_at f entry) (pieces_of (f + 1) entries) (piece x f j) (contained_at f j entry e x file is))
contained f (suc k) j (entry ∷ entries) e x file is =
    let at : f + 1 + k ≡ f + suc k = omega arith in
    subst (λ n. Contains (pieces_of f (entry ∷ entries)) (piece x n j)) at
    (Contains-append_right (pieces_at f entry) (pieces_of (f + 1) entries) (piece x (f + 1 + k) j) (contained (f + 1) k j entries e x file is))

-- and no other
abbrev pub IsTrulyAt : List (Option Entry) → Piece → Type 0
IsTrulyAt all p = IsExtent all p.file p.place p.extent

abbrev StandsIn : ℕ → List Extent → Piece → Type 0
StandsIn f xs p = (p.file ≡ f) × (slice_get xs p.place ≡ Some p.extent)

stand_in : (f i : ℕ) (all xs : List Extent) → ((j : ℕ) → slice_get xs j ≡ slice_get all (i + j)) → All (StandsIn f all) (pieces_in f i xs)
stand_in f i all [] same = All-nil (StandsIn f all)
stand_in f i all (x ∷ xs) same =
    let at : i + 0 ≡ i = omega arith in
    All-cons (StandsIn f all) (piece x f i) (pieces_in f (i + 1) xs) (refl, sym (same 0 ∙ ap (slice_get all) at))
    (stand_in f (i + 1) all xs (λ j. let on : i + suc j ≡ i + 1 + j = omega arith in same (suc j) ∙ ap (slice_get all) on))

are_at : (all : List (Option Entry)) (f : ℕ) (entry : Option Entry) → entry_in all f ≡ entry → All (IsTrulyAt all) (pieces_at f entry)
are_at all f None is = All-nil (IsTrulyAt all)
are_at all f (Some e) is =
    let start : (j : ℕ) → slice_get (extents_of e) j ≡ slice_get (extents_of e) (0 + j) = λ j. let at : j ≡ 0 + j = omega arith in ap (slice_get (extents_of e)) at in
    All-weaker (StandsIn f (extents_of e)) (IsTrulyAt all) (λ p stands. record { entry = e; file = ap (entry_in all) stands.0 ∙ is; extent = stands.1 })
    (pieces_in f 0 (extents_of e)) (stand_in f 0 (extents_of e) (extents_of e) start)

pub are_extents : (all entries : List (Option Entry)) (f : ℕ) → ((k : ℕ) → entry_in entries k ≡ entry_in all (f + k)) → All (IsTrulyAt all) (pieces_of f entries)
are_extents all [] f same = All-nil (IsTrulyAt all)
are_extents all (entry ∷ entries) f same =
    let at : f + 0 ≡ f = omega arith in
    All-append (IsTrulyAt all) (pieces_at f entry) (pieces_of (f + 1) entries)
    (are_at all f entry (sym (same 0 ∙ ap (entry_in all) at)))
    (are_extents all entries (f + 1) (λ k. let on : f + suc k ≡ f + 1 + k = omega arith in same (suc k) ∙ ap (entry_in all) on))

-- The journal map as bytes.
use Rattle.sync_journal.proofs.Names.{◌≡◌, ◌⊎◌, ◌≤◌, ◌<◌, ◌+◌, ◌-◌, ◌*◌, ◌^◌, ℕ, zero, suc, List, [], ◌∷◌, ◌++◌, length, take, drop, get_or, replicate, refl, sym, ap, ◌∙◌, ⊎_elim, inl, inr, arith, drop-drop, lit<, get_or-take, get_or-drop}
use Rattle.sync_journal.proofs.Names.{drop-replicate, flat_map, little_number, little_bytes, little_number-reads_back, put_mid, Image, joined, part_of, joined-same, joined_parts}
use Rattle.sync_journal.specs.{Layout.{sizes_1, map_sector, first_body_sector}, Standing.{map_in, map_of}, Map.{map_count, home_in, map_bytes, HasNoHome, HasHomeTwice, IsBadMap}}

-- the map of layout 1 is one sector
pub one_sector : (image : Image) → map_in sizes_1 image ≡ image map_sector
unfolding joined
one_sector image = refl

-- images with the same map sectors have the same map
pub same_map : (new old : Image) → ((k : ℕ) → map_sector ≤ k → k < first_body_sector → new k ≡ old k) → map_of new ≡ map_of old
same_map new old same = joined-same 8 (λ i. new (map_sector + i)) (λ i. old (map_sector + i)) (λ i below. same (map_sector + i) (omega arith) (omega (arith, below)))

-- the map is a page
pub map_page : (image : Image) (page : List ℕ) → length page ≡ 4096 → ((i : ℕ) → i < 8 → image (map_sector + i) ≡ part_of page i) → map_of image ≡ page
map_page image page long holds = joined-same 8 (λ i. image (map_sector + i)) (part_of page) holds ∙ joined_parts page long

-- a part written after the first four bytes
pub overwritten : (a b c d k e : ℕ) (part old buf dst : List ℕ) → buf ≡ a ∷ b ∷ c ∷ d ∷ drop 4 old → dst ≡ part → 4 + k ≡ e
    → put_mid 4 k buf dst ≡ a ∷ b ∷ c ∷ d ∷ (part ++ drop e old)
overwritten a b c d k e part old buf dst front after ends =
    ap (λ bytes. put_mid 4 k bytes dst) front
    ∙ ap (λ bytes. a ∷ b ∷ c ∷ d ∷ (bytes ++ drop k (drop 4 old))) after
    ∙ ap (λ bytes. a ∷ b ∷ c ∷ d ∷ (part ++ bytes)) (drop-drop k 4 old ∙ ap (λ j. drop j old) ends)

-- after the homes a map is zero
pub zeros_after : (n : ℕ) → drop {A = ℕ} (4 + 4 * n) (replicate 4096 0) ≡ replicate (4092 - 4 * n) 0
zeros_after n = let rest : 4096 - (4 + 4 * n) ≡ 4092 - 4 * n = omega arith in drop-replicate (4 + 4 * n) 4096 0 ∙ ap (λ j. replicate j 0) rest

-- four bytes are one number
pub same_number : (xs ys : List ℕ) → ((i : ℕ) → i < 4 → get_or xs i 0 ≡ get_or ys i 0) → little_number 4 xs ≡ little_number 4 ys
same_number xs ys same = let zeroth = same 0 (lit< tt) in let first = same 1 (lit< tt) in let second = same 2 (lit< tt) in let third = same 3 (lit< tt) in cc

-- a number read from the part of the map after its count
pub number_at : (e k : ℕ) (map : List ℕ) → 4 * k + 4 ≤ e → little_number 4 (drop (4 * k) (take e (drop 4 map))) ≡ home_in map k
number_at e k map inside = same_number (drop (4 * k) (take e (drop 4 map))) (drop (4 + 4 * k) map) byte
  where
    byte : (i : ℕ) → i < 4 → get_or (drop (4 * k) (take e (drop 4 map))) i 0 ≡ get_or (drop (4 + 4 * k) map) i 0
    byte i below =
        let at : 4 + (4 * k + i) ≡ 4 + 4 * k + i = omega arith in
        get_or-drop (4 * k) (take e (drop 4 map)) i 0
        ∙ get_or-take e (drop 4 map) (4 * k + i) 0 (omega arith)
        ∙ get_or-drop 4 map (4 * k + i) 0
        ∙ ap (λ j. get_or map j 0) at
        ∙ sym (get_or-drop (4 + 4 * k) map i 0)

-- what is wrong with the numbers that were read is wrong with the map
pub bad_numbers : (most limit count : ℕ) (map homes : List ℕ) → count ≡ map_count map → length homes ≡ count
    → ((j : ℕ) → j < count → get_or homes j 0 ≡ home_in map j)
    → HasNoHome limit (λ j. get_or homes j 0) (length homes) ⊎ HasHomeTwice (λ j. get_or homes j 0) (length homes)
    → IsBadMap most limit map
bad_numbers most limit count map homes counted long read bad = ⊎_elim
    (λ none. inr (inl (none.0, omega (arith, none.1, counted, long), omega (arith, none.2, read none.0 (omega (arith, none.1, long))))))
    (λ twice. inr (inr (
      twice.0,
      twice.1,
      twice.2,
      omega (arith, twice.3, counted, long),
      sym (read twice.0 (omega (arith, twice.2, twice.3, long))) ∙ twice.4 ∙ read twice.1 (omega (arith, twice.3, long)),
    )))
    bad

-- the homes of a map, one by one
home_of : (homes : List ℕ) (j : ℕ) (rest : List ℕ) → j < length homes → get_or homes j 0 < 2 ^ 32
    → little_number 4 (drop (4 * j) (flat_map (little_bytes 4) homes ++ rest)) ≡ get_or homes j 0
home_of [] j rest below small = absurd (omega arith)
home_of (home ∷ homes) zero rest below small = little_number-reads_back 4 home (flat_map (little_bytes 4) homes ++ rest) small
home_of (home ∷ homes) (suc j) rest below small =
    let bytes : List ℕ = flat_map (little_bytes 4) (home ∷ homes) ++ rest in
    let on : 4 * suc j ≡ 4 + 4 * j = omega arith in
    ap (λ n. little_number 4 (drop n bytes)) on
    ∙ ap (little_number 4) (sym (drop-drop (4 * j) 4 bytes))
    ∙ home_of homes j rest (omega arith) small

-- what the map of these homes says
pub counted : (homes : List ℕ) → length homes ≤ 1023 → map_count (map_bytes homes) ≡ length homes
counted homes few = little_number-reads_back 4 (length homes) (flat_map (little_bytes 4) homes ++ replicate (4092 - 4 * length homes) 0) (omega arith)

pub named : (homes : List ℕ) (j : ℕ) → j < length homes → get_or homes j 0 < 2 ^ 32 → home_in (map_bytes homes) j ≡ get_or homes j 0
named homes j below small = ap (little_number 4) (sym (drop-drop (4 * j) 4 (map_bytes homes))) ∙ home_of homes j (replicate (4092 - 4 * length homes) 0) below small

-- Pages in pieces.
use Rattle.file_store.proofs.Names.{◌≡◌, ℕ, ◌+◌, ◌-◌, ◌<◌, ◌≤◌, ⊎_elim, List, ◌++◌, length, get_or, take, drop, replicate, refl, sym, ap, ◌∙◌, arith, length-take, length-drop, take_all, drop_all, append-nil, length-take-le}
use Rattle.file_store.{proofs.Names.{length-replicate, ext_get_or, get_or-take, get_or_past, get_or-replicate, get_or_append_left, get_or-append_right, cases_lt, put_mid-paste, put_mid, mid_of}, specs.Layout.{padded_page}}
use Rattle.std.proofs.Common.{length-append}

-- trimmed to as many bytes as the page has in the file
pub trimmed_fill : (n : ℕ) (page : List ℕ) → length page ≡ 4096 → n ≤ 4096 → take n page ++ replicate (4096 - n) 0 ≡ padded_page n page
unfolding padded_page
trimmed_fill n page size le = ap (λ (k : ℕ). take n page ++ replicate (4096 - k) 0) (sym (length-take-le n page (omega (arith, size, le))))

pub trimmed_put : (n : ℕ) (page zeros : List ℕ) → length page ≡ 4096 → n ≤ 4096 → zeros ≡ replicate (4096 - n) 0 → put_mid n (4096 - n) page zeros ≡ padded_page n page
trimmed_put n page zeros size le is =
    let long : length zeros ≡ 4096 - n = ap length is ∙ length-replicate (4096 - n) 0 in
    put_mid-paste n (4096 - n) page zeros zeros (4096 - n) refl refl (sym long)
    ∙ ap (λ (s : List ℕ). take n page ++ s ++ drop (n + (4096 - n)) page) (take_all (4096 - n) zeros (omega (arith, long)) ∙ is)
    ∙ ap (λ (s : List ℕ). take n page ++ replicate (4096 - n) 0 ++ s) (drop_all (n + (4096 - n)) page (omega (arith, size, le)))
    ∙ append-nil (take n page ++ replicate (4096 - n) 0)
    ∙ trimmed_fill n page size le

pub length_mid : (a k : ℕ) (xs : List ℕ) → a + k ≤ length xs → length (mid_of a k xs) ≡ k
length_mid a k xs room = simp (length-take, length-drop) (omega (arith, room))

pub length-trimmed : (n : ℕ) (page : List ℕ) → n ≤ 4096 → length (padded_page n page) ≡ 4096
unfolding padded_page
length-trimmed n page le = simp (length-append, length-take, length-replicate) (omega (arith, le))

pub get_or-zeros : (m i : ℕ) → ◌≡◌ {A = ℕ} (get_or (replicate m 0) i 0) (0)
get_or-zeros m i = ⊎_elim (λ lt. get_or-replicate m i 0 0 lt) (λ le. get_or_past (replicate m 0) i 0 (omega (arith, le, length-replicate {A = ℕ} m 0))) (cases_lt i m)

get_or-padded : (front : List ℕ) (m i : ℕ) → length front ≤ i → ◌≡◌ {A = ℕ} (get_or (front ++ replicate m 0) i 0) (0)
get_or-padded front m i le = get_or-append_right front (replicate m 0) (length front) i 0 refl le ∙ get_or-zeros m (i - length front)

get_or-trimmed : (n : ℕ) (page : List ℕ) → (i : ℕ) → i < n → ◌≡◌ {A = ℕ} (get_or (padded_page n page) i 0) (get_or page i 0)
unfolding padded_page
get_or-trimmed n page i lt = ⊎_elim
    (λ inside. get_or_append_left (take n page) (replicate (4096 - length (take n page)) 0) 0 i inside ∙ get_or-take n page i 0 lt)
    (λ past. get_or-padded (take n page) (4096 - length (take n page)) i past ∙ sym (get_or_past page i 0 (omega (arith, past, lt, length-take n page))))
    (cases_lt i (length (take n page)))

get_or-trimmed_past : (n : ℕ) (page : List ℕ) → (i : ℕ) → n ≤ i → ◌≡◌ {A = ℕ} (get_or (padded_page n page) i 0) (0)
unfolding padded_page
get_or-trimmed_past n page i past = get_or-padded (take n page) (4096 - length (take n page)) i (omega (arith, past, length-take n page))

-- trimmed twice
pub trimmed-trimmed : (n : ℕ) (page : List ℕ) → n ≤ 4096 → padded_page n (padded_page n page) ≡ padded_page n page
trimmed-trimmed n page le = ext_get_or 0 (padded_page n (padded_page n page)) (padded_page n page) (length-trimmed n (padded_page n page) le ∙ sym (length-trimmed n page le))
    (λ i lt. ⊎_elim (λ below. get_or-trimmed n (padded_page n page) i below)
    (λ past. get_or-trimmed_past n (padded_page n page) i past ∙ sym (get_or-trimmed_past n page i past)) (cases_lt i n))

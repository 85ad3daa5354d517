-- What a change of one node does to the chains of all buckets.
use Rattle.std.proofs.Common.{◌≡◌, ◌≢◌, ℕ, ◌+◌, ◌<◌, ◌≤◌, Bool, true, false, List, length, replicate, get_or, Option, Some, None, refl, sym, ap, ◌∙◌, subst, inl, inr, arith, set, length-set, get_or-set_same, get_or-set_other}
use Rattle.{std.proofs.lemmas.{Bool.{cases_eq, cases_lt, cases_order, both_ways, true≢false, eqb-true, eq-eqb, false_from_ne_true}, List.{length-replicate, get_or-replicate}}, vm_types.specs.declared.object.PageKey.{PageKey}}
use Rattle.page_cache.{proofs.NodeLemmas.{page_at-emptied, page_at-within, holds-false, unheld_at}, specs.{Chains.{bucket_of, is_in_bucket, IsNext, IsLinkOf, AreChained, IsSeat, IsEmptyIndex}, Nodes.{page_at, holds}}}

-- a node holds a page of one bucket
pub bucket-one : (mask b d : ℕ) (held : Option PageKey) → is_in_bucket mask b held ≡ true → is_in_bucket mask d held ≡ true → b ≡ d
bucket-one mask b d None here there = absurd (true≢false (sym here))
bucket-one mask b d (Some page) here there = sym (eqb-true (bucket_of mask page) b here) ∙ eqb-true (bucket_of mask page) d there

pub bucket-some : (mask b : ℕ) (held : Option PageKey) → is_in_bucket mask b held ≡ true → (page : PageKey) × (held ≡ Some page)
bucket-some mask b None here = absurd (true≢false (sym here))
bucket-some mask b (Some page) here = (page, refl)

pub bucket-own : (mask : ℕ) (page : PageKey) → is_in_bucket mask (bucket_of mask page) (Some page) ≡ true
bucket-own mask page = eq-eqb (bucket_of mask page) (bucket_of mask page) refl

pub bucket-inside : (pages : List (Option PageKey)) (mask b n : ℕ) → is_in_bucket mask b (page_at pages n) ≡ true → n < length pages
bucket-inside pages mask b n here =
    let some = bucket-some mask b (page_at pages n) here in
    page_at-within pages n some.0 some.1

-- an index of a link is one of the list
pub link-inside : (pages : List (Option PageKey)) (links : List ℕ) (mask b low at : ℕ) → AreChained pages links mask → b ≤ mask → IsLinkOf pages mask b low at → at < length links
link-inside pages links mask b low at chained within (inl own) = omega (arith, chained.count, own.0)
link-inside pages links mask b low at chained within (inr next) =
    let inside = bucket-inside pages mask b next.0 next.3 in
    omega (arith, chained.count, next.1)

-- one link cannot pass what another one of its bucket stands at
behind : (pages : List (Option PageKey)) (mask b r m k : ℕ) → is_in_bucket mask b (page_at pages m) ≡ true → m < r → k ≤ m
    → ((j : ℕ) → k ≤ j → j < r → is_in_bucket mask b (page_at pages j) ≡ false) → ⊥
behind pages mask b r m k there below above passed = both_ways (is_in_bucket mask b (page_at pages m)) (passed m above below) there

-- two links of a bucket that pass the same nodes up to r are one
pub links-one : (pages : List (Option PageKey)) (mask b r low at low2 at2 : ℕ) → IsLinkOf pages mask b low at → IsLinkOf pages mask b low2 at2
    → low ≤ r → low2 ≤ r
    → ((j : ℕ) → low ≤ j → j < r → is_in_bucket mask b (page_at pages j) ≡ false)
    → ((j : ℕ) → low2 ≤ j → j < r → is_in_bucket mask b (page_at pages j) ≡ false)
    → (at ≡ at2) × (low ≡ low2)
links-one pages mask b r low at low2 at2 (inl own) (inl own2) before before2 passed passed2 = (own.0 ∙ sym own2.0, own.1 ∙ sym own2.1)
links-one pages mask b r low at low2 at2 (inl own) (inr next2) before before2 passed passed2 =
    absurd (behind pages mask b r next2.0 low next2.3 (omega (arith, next2.2)) (omega (arith, own.1)) passed)
links-one pages mask b r low at low2 at2 (inr next) (inl own2) before before2 passed passed2 =
    absurd (behind pages mask b r next.0 low2 next.3 (omega (arith, next.2)) (omega (arith, own2.1)) passed2)
links-one pages mask b r low at low2 at2 (inr next) (inr next2) before before2 passed passed2 = elim (cases_order next.0 next2.0) [
  | inl same ↦ (omega (arith, next.1, next2.1), omega (arith, next.2, next2.2))
  | inr apart ↦ elim apart [
    | inl less ↦ absurd (behind pages mask b r next2.0 low next2.3 (omega (arith, next2.2)) (omega (arith, next.2)) passed)
    | inr more ↦ absurd (behind pages mask b r next.0 low2 next.3 (omega (arith, next.2)) (omega (arith, next2.2)) passed2)
  ]
]

-- an index of a link is of one bucket, and begins at one number
pub link-one : (pages : List (Option PageKey)) (mask b d low at low2 : ℕ) → b ≤ mask → d ≤ mask → IsLinkOf pages mask b low at → IsLinkOf pages mask d low2 at
    → (b ≡ d) × (low ≡ low2)
link-one pages mask b d low at low2 within within2 (inl own) (inl own2) = (sym own.0 ∙ own2.0, own.1 ∙ sym own2.1)
link-one pages mask b d low at low2 within within2 (inl own) (inr next2) = absurd (omega (arith, own.0, next2.1))
link-one pages mask b d low at low2 within within2 (inr next) (inl own2) = absurd (omega (arith, own2.0, next.1))
link-one pages mask b d low at low2 within within2 (inr next) (inr next2) =
    let same : next.0 ≡ next2.0 = omega (arith, next.1, next2.1) in
    (bucket-one mask b d (page_at pages next2.0) (subst (λ (k : ℕ). is_in_bucket mask b (page_at pages k) ≡ true) same next.3) next2.3, omega (arith, next.2, next2.2))

-- nodes but r hold what they held
abbrev pub SameButAt : ℕ → List (Option PageKey) → List (Option PageKey) → Type 0
SameButAt r old new = (m : ℕ) → m ≢ r → page_at new m ≡ page_at old m

-- a link of a node other than r was one before
link-before : (old new : List (Option PageKey)) (r mask b low at : ℕ) → SameButAt r old new → at ≢ mask + 1 + r → IsLinkOf new mask b low at → IsLinkOf old mask b low at
link-before old new r mask b low at same other (inl own) = inl own
link-before old new r mask b low at same other (inr next) =
    let apart : next.0 ≢ r = λ e. other (omega (arith, next.1, e)) in
    inr (next.0, next.1, next.2, sym (ap (is_in_bucket mask b) (same next.0 apart)) ∙ next.3)

-- in a bucket before and after
still : (old new : List (Option PageKey)) (r mask b m : ℕ) → SameButAt r old new → m ≢ r → (t : Bool) → is_in_bucket mask b (page_at old m) ≡ t → is_in_bucket mask b (page_at new m) ≡ t
still old new r mask b m same other t e = ap (is_in_bucket mask b) (same m other) ∙ e

-- what a link leads to, where node r alone changed: it leads to another one, and passes r only where that isn't of its bucket now
moved : (old new : List (Option PageKey)) (r mask d low low2 n : ℕ) → SameButAt r old new → length new ≡ length old → low ≤ low2 → low2 ≤ n → n ≢ r
    → (low2 ≤ r → r < n → is_in_bucket mask d (page_at new r) ≡ false) → IsNext old mask d low n → IsNext new mask d low2 n
moved old new r mask d low low2 n same size more least apart passes next = record {
  within = rw size next.within;
  least = least;
  there = λ below. still old new r mask d n same apart true (next.there (rw size at below));
  passed = λ m above below. elim (cases_eq m r) [
    | inl e ↦ ap (λ (k : ℕ). is_in_bucket mask d (page_at new k)) e ∙ passes (omega arith) (omega arith)
    | inr other ↦ still old new r mask d m same other false (next.passed m (omega arith) below)
  ];
}

module _ (old : List (Option PageKey)) (links : List ℕ) (mask b r at : ℕ) (chained : AreChained old links mask) (within : b ≤ mask)
    (seat : IsSeat old links mask b r at) (from : r ≤ get_or links at 0) where
  seat-next : IsNext old mask b seat.low (get_or links at 0)
  seat-next = chained.link b seat.low at within seat.link

  at-inside : at < length links
  at-inside = link-inside old links mask b seat.low at chained within seat.link

  -- a link of the bucket that passes none of its nodes before r is this one
  sole : (d low at2 n : ℕ) → IsLinkOf old mask d low at2 → IsNext old mask d low n → b ≡ d → low ≤ r → r ≤ n → at2 ≡ at
  sole d low at2 n link next bucket above below =
      let link2 : IsLinkOf old mask b low at2 = subst (λ (k : ℕ). IsLinkOf old mask k low at2) (sym bucket) link in
      let one = links-one old mask b r seat.low at low at2 seat.link link2 seat.before above
      (λ j low_j below_j. seat-next.passed j low_j (omega arith))
      (λ j low_j below_j. subst (λ (k : ℕ). is_in_bucket mask k (page_at old j) ≡ false) (sym bucket) (next.passed j low_j (omega arith))) in
      sym one.0

  -- the node r gives up its page: the link that led to it leads to the next of its bucket
  module _ (held : is_in_bucket mask b (page_at old r) ≡ true) where
    inside : r < length old
    inside = bucket-inside old mask b r held

    -- the link leads to r itself
    leads : get_or links at 0 ≡ r
    leads = elim (cases_lt r (get_or links at 0)) [
      | inl more ↦ absurd (both_ways (is_in_bucket mask b (page_at old r)) (seat-next.passed r seat.before more) held)
      | inr le ↦ omega arith
    ]

    same : SameButAt r old (set old r None)
    same m other = get_or-set_other old r m None None other

    emptied : (d m : ℕ) → m ≡ r → is_in_bucket mask d (page_at (set old r None) m) ≡ false
    emptied d m e = ap (λ (k : ℕ). is_in_bucket mask d (page_at (set old r None) k)) e ∙ ap (is_in_bucket mask d) (page_at-emptied old r)

    -- the link of r itself is no link any more
    not_own : (d low at2 : ℕ) → d ≤ mask → IsLinkOf (set old r None) mask d low at2 → at2 ≢ mask + 1 + r
    not_own d low at2 within2 (inl own) e = omega (arith, own.0, e)
    not_own d low at2 within2 (inr next) e =
        let self : next.0 ≡ r = omega (arith, next.1, e) in
        both_ways (is_in_bucket mask d (page_at (set old r None) next.0)) (emptied d next.0 self) next.3

    removed-at : IsNext (set old r None) mask b seat.low (get_or links (mask + 1 + r) 0)
    removed-at =
        let next = chained.link b (r + 1) (mask + 1 + r) within (inr (r, refl, refl, held)) in
        let own = moved old (set old r None) r mask b (r + 1) (r + 1) (get_or links (mask + 1 + r) 0) same (length-set old r None) (omega arith) next.least (λ e. (omega (arith, next.least))) (λ above below. emptied b r refl) next in
        record {
          within = own.within;
          least = omega (arith, next.least, seat.before);
          there = own.there;
          passed = λ m above below. elim (cases_lt m r) [
            | inl less ↦ still old (set old r None) r mask b m same (λ e. (omega arith)) false (seat-next.passed m above (rw leads less))
            | inr ge ↦ elim (cases_eq m r) [ inl e ↦ emptied b m e | inr other ↦ own.passed m (omega arith) below ]
          ];
        }

    removed-other : (d low at2 : ℕ) → d ≤ mask → IsLinkOf old mask d low at2 → at2 ≢ at → IsNext (set old r None) mask d low (get_or links at2 0)
    removed-other d low at2 within2 link apart =
        let next = chained.link d low at2 within2 link in
        let elsewhere : get_or links at2 0 ≢ r = λ e. (
        let there : is_in_bucket mask d (page_at old r) ≡ true = subst (λ (k : ℕ). is_in_bucket mask d (page_at old k) ≡ true) e (next.there (rw e inside)) in
        apart (sole d low at2 (get_or links at2 0) link next (bucket-one mask b d (page_at old r) held there) (omega (arith, next.least, e)) (omega (arith, e)))
        ) in
        moved old (set old r None) r mask d low low (get_or links at2 0) same (length-set old r None) (omega arith) next.least elsewhere (λ above below. emptied d r refl) next

    pub IsChained-removed : AreChained (set old r None) (set links at (get_or links (mask + 1 + r) 0)) mask
    IsChained-removed = record {
      few = rw (length-set old r None) chained.few;
      count = rw (length-set links at (get_or links (mask + 1 + r) 0), length-set old r None) chained.count;
      link = λ d low at2 within2 link.
          let before = link-before old (set old r None) r mask d low at2 same (not_own d low at2 within2 link) link in
          elim (cases_eq at2 at) [
            | inl e ↦ (let link2 : IsLinkOf old mask d low at = subst (λ (k : ℕ). IsLinkOf old mask d low k) e before in
                let one = link-one old mask b d seat.low at low within within2 seat.link link2 in
                rw (e, get_or-set_same links at (get_or links (mask + 1 + r) 0) 0 at-inside, ← one.0, ← one.1) removed-at)
            | inr apart ↦ rw (get_or-set_other links at at2 (get_or links (mask + 1 + r) 0) 0 apart) (removed-other d low at2 within2 before apart)
          ];
    }

  -- the node r, which holds nothing, is given a page of the bucket: it stands between the link and what that led to
  module _ (page : PageKey) (free : page_at old r ≡ None) (inside2 : r < length old) (bucket : bucket_of mask page ≡ b) where
    unheld : (d : ℕ) → is_in_bucket mask d (page_at old r) ≡ false
    unheld d = ap (is_in_bucket mask d) free

    -- the link leads past r
    beyond : r < get_or links at 0
    beyond = elim (cases_eq r (get_or links at 0)) [
      | inl e ↦ absurd (both_ways (is_in_bucket mask b (page_at old r)) (unheld b)
          (subst (λ (k : ℕ). is_in_bucket mask b (page_at old k) ≡ true) (sym e) (seat-next.there (rw (← e) inside2))))
      | inr other ↦ omega arith
    ]

    same2 : SameButAt r old (set old r (Some page))
    same2 m other = get_or-set_other old r m (Some page) None other

    filled-own : is_in_bucket mask b (page_at (set old r (Some page)) r) ≡ true
    filled-own = ap (is_in_bucket mask b) (get_or-set_same old r (Some page) None inside2) ∙ eq-eqb (bucket_of mask page) b bucket

    filled-one : (d : ℕ) → is_in_bucket mask d (page_at (set old r (Some page)) r) ≡ true → b ≡ d
    filled-one d here = bucket-one mask b d (page_at (set old r (Some page)) r) filled-own here

    not_own2 : at ≢ mask + 1 + r
    not_own2 e = own_link seat.link where
      own_link : IsLinkOf old mask b seat.low at → ⊥
      own_link (inl own) = omega (arith, own.0)
      own_link (inr next) = (let self : next.0 ≡ r = omega (arith, next.1) in
          both_ways (is_in_bucket mask b (page_at old next.0)) (ap (λ (k : ℕ). is_in_bucket mask b (page_at old k)) self ∙ unheld b) next.3)

    inserted-own : IsNext (set old r (Some page)) mask b (r + 1) (get_or links at 0)
    inserted-own =
        moved old (set old r (Some page)) r mask b seat.low (r + 1) (get_or links at 0) same2 (length-set old r (Some page)) (omega (arith, seat.before)) (omega (arith, beyond))
        (λ e. (omega (arith, beyond))) (λ above below. absurd (omega arith)) seat-next

    inserted-at : IsNext (set old r (Some page)) mask b seat.low r
    inserted-at = record {
      within = rw (length-set old r (Some page)) (omega arith);
      least = seat.before;
      there = λ below. filled-own;
      passed = λ m above below. still old (set old r (Some page)) r mask b m same2 (λ e. (omega arith)) false
          (seat-next.passed m above (omega (arith, beyond)));
    }

    inserted-other : (d low at2 : ℕ) → d ≤ mask → IsLinkOf old mask d low at2 → at2 ≢ at → IsNext (set old r (Some page)) mask d low (get_or links at2 0)
    inserted-other d low at2 within2 link apart =
        let next = chained.link d low at2 within2 link in
        moved old (set old r (Some page)) r mask d low low (get_or links at2 0) same2 (length-set old r (Some page)) (omega arith) next.least
        (λ e. both_ways (is_in_bucket mask d (page_at old r)) (unheld d) (subst (λ (k : ℕ). is_in_bucket mask d (page_at old k) ≡ true) e (next.there (rw e inside2))))
        (λ above below. false_from_ne_true (is_in_bucket mask d (page_at (set old r (Some page)) r))
        (λ held. apart (sole d low at2 (get_or links at2 0) link next (filled-one d held) above (omega arith)))) next

    abbrev inserted_links : List ℕ
    inserted_links = set (set links (mask + 1 + r) (get_or links at 0)) at r

    pub IsChained-inserted : AreChained (set old r (Some page)) inserted_links mask
    IsChained-inserted = record {
      few = rw (length-set old r (Some page)) chained.few;
      count = rw (length-set (set links (mask + 1 + r) (get_or links at 0)) at r, length-set links (mask + 1 + r) (get_or links at 0), length-set old r (Some page)) chained.count;
      link = λ d low at2 within2 link.
          elim (cases_eq at2 at) [
            | inl e ↦ (let ne : at2 ≢ mask + 1 + r = λ own. not_own2 (sym e ∙ own) in
                let before = link-before old (set old r (Some page)) r mask d low at2 same2 ne link in
                let link2 : IsLinkOf old mask d low at = subst (λ (k : ℕ). IsLinkOf old mask d low k) e before in
                let one = link-one old mask b d seat.low at low within within2 seat.link link2 in
                let in_all : at < length (set links (mask + 1 + r) (get_or links at 0)) = rw (length-set links (mask + 1 + r) (get_or links at 0)) at-inside in
                rw (e, get_or-set_same (set links (mask + 1 + r) (get_or links at 0)) at r 0 in_all, ← one.0, ← one.1) inserted-at)
            | inr apart ↦ rw (get_or-set_other (set links (mask + 1 + r) (get_or links at 0)) at at2 r 0 apart) (elim (cases_eq at2 (mask + 1 + r)) [
              | inl own ↦ (let own-inside : mask + 1 + r < length links = omega (arith, chained.count) in
                  rw (own, get_or-set_same links (mask + 1 + r) (get_or links at 0) 0 own-inside) (own_link d low within2 (subst (λ (k : ℕ). IsLinkOf (set old r (Some page)) mask d low k) own link)))
              | inr ne ↦ rw (get_or-set_other links (mask + 1 + r) at2 (get_or links at 0) 0 ne)
                  (inserted-other d low at2 within2 (link-before old (set old r (Some page)) r mask d low at2 same2 ne link) apart)
            ])
          ];
    } where
      own_link : (d low : ℕ) → d ≤ mask → IsLinkOf (set old r (Some page)) mask d low (mask + 1 + r) → IsNext (set old r (Some page)) mask d low (get_or links at 0)
      own_link d low within2 (inl own) = absurd (omega (arith, own.0))
      own_link d low within2 (inr next) = (let self : next.0 ≡ r = omega (arith, next.1) in
          let here : is_in_bucket mask d (page_at (set old r (Some page)) r) ≡ true = subst (λ (k : ℕ). is_in_bucket mask d (page_at (set old r (Some page)) k) ≡ true) self next.3 in
          let start : low ≡ r + 1 = omega (arith, next.2) in
          rw (start, ← filled-one d here) inserted-own)

-- what a link passes does not hold a page of its bucket
pub passed-none : (pages : List (Option PageKey)) (mask low n : ℕ) (page : PageKey) → IsNext pages mask (bucket_of mask page) low n
    → ((m : ℕ) → m < low → holds page (page_at pages m) ≡ false) → (m : ℕ) → m < n → holds page (page_at pages m) ≡ false
passed-none pages mask low n page next before m below = elim (cases_lt m low) [
  | inl less ↦ before m less
  | inr ge ↦ holds-false page (page_at pages m) (λ e.
      both_ways (is_in_bucket mask (bucket_of mask page) (page_at pages m)) (next.passed m ge below)
      (ap (is_in_bucket mask (bucket_of mask page)) e ∙ bucket-own mask page))
]

pub IsEmptyIndex-made : (pages : List (Option PageKey)) (links : List ℕ) (mask nodes : ℕ) → nodes ≤ 131072 → pages ≡ replicate nodes None
    → links ≡ replicate (mask + 1 + nodes) nodes → IsEmptyIndex pages links mask nodes
IsEmptyIndex-made pages links mask nodes few empty ends =
    let count : length pages ≡ nodes = ap length empty ∙ length-replicate nodes None in
    let nothing : (b m : ℕ) → is_in_bucket mask b (page_at pages m) ≡ false =
    λ b m. ap (λ (xs : List (Option PageKey)). is_in_bucket mask b (page_at xs m)) empty ∙ ap (is_in_bucket mask b) (unheld_at nodes m) in
    record {
      chained = record {
        few = rw count few;
        count = ap length ends ∙ length-replicate (mask + 1 + nodes) nodes ∙ ap (λ k. mask + 1 + k) (sym count);
        link = λ b low at within link. elim link [
          | inl own ↦ (let here : get_or links at 0 ≡ nodes = ap (λ (xs : List ℕ). get_or xs at 0) ends ∙ get_or-replicate (mask + 1 + nodes) at nodes 0 (omega (arith, own.0)) in
              record {
                within = omega (arith, here, count);
                least = omega (arith, own.1);
                there = λ below. absurd (omega (arith, here, count));
                passed = λ m above below. nothing b m;
              })
          | inr next ↦ absurd (both_ways (is_in_bucket mask b (page_at pages next.0)) (nothing b next.0) next.3)
        ];
      };
      empty = empty;
    }

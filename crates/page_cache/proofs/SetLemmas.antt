-- What the calls on a set of nodes do to its order, its ranks and its members.
use Rattle.std.proofs.Common.{◌≡◌, ◌≢◌, ℕ, zero, suc, ◌+◌, ◌<◌, ◌≤◌, ◌⊎◌, true, false, ltb, List, [], ◌∷◌, length, get_or, refl, sym, ap, ◌∙◌, subst, inl, inr, arith, map, set, length-set, get_or-set_same, get_or-set_other}
use Rattle.{std.proofs.lemmas.{Bool.{cases_eq, cases_lt, both_ways, lt-ltb, le-ltb}, List.{get_or_past, get_or_default}}, page_cache.specs.Sets.{is_member, members, IsOrdered, HaveSwapped, SameMembersBut}}

-- a node past the last is no member
pub is_member-past : (ranks : List ℕ) (count n : ℕ) → length ranks ≤ n → is_member ranks count n ≡ false
is_member-past ranks count n past = ap (λ r. ltb r count) (get_or_past ranks n count past) ∙ le-ltb count count (omega arith)

pub is_member-rank : (ranks : List ℕ) (count n : ℕ) → n < length ranks → is_member ranks count n ≡ ltb (get_or ranks n 0) count
is_member-rank ranks count n inside = ap (λ r. ltb r count) (get_or_default ranks n count 0 inside)

pub is_member-inside : (ranks : List ℕ) (count n : ℕ) → is_member ranks count n ≡ true → n < length ranks
is_member-inside ranks count n member = elim (cases_lt n (length ranks)) [
  | inl inside ↦ inside
  | inr past ↦ absurd (both_ways (is_member ranks count n) (is_member-past ranks count n past) member)
]

-- the list of members says the same
flagged : (count fallback : ℕ) (ranks : List ℕ) (n : ℕ) → ltb fallback count ≡ false
    → get_or (map (λ rank. ltb rank count) ranks) n false ≡ ltb (get_or ranks n fallback) count
flagged count fallback [] n e = sym e
flagged count fallback (r ∷ rs) zero e = refl
flagged count fallback (r ∷ rs) (suc n) e = flagged count fallback rs n e

pub members-at : (ranks : List ℕ) (count n : ℕ) → get_or (members ranks count) n false ≡ is_member ranks count n
members-at ranks count n = flagged count count ranks n (le-ltb count count (omega arith))

-- two places of a list were set, to the same where they are one
put_second : (l : List ℕ) (a b x y : ℕ) → b < length l → get_or (set (set l a x) b y) b 0 ≡ y
put_second l a b x y inside = get_or-set_same (set l a x) b y 0 (rw (length-set l a x) inside)

put_first : (l : List ℕ) (a b x y : ℕ) → a < length l → (a ≡ b → x ≡ y) → get_or (set (set l a x) b y) a 0 ≡ x
put_first l a b x y inside same = elim (cases_eq a b) [
  | inl e ↦ ap (λ (k : ℕ). get_or (set (set l a x) b y) k 0) e ∙ put_second l a b x y (rw (← e) inside) ∙ sym (same e)
  | inr ne ↦ get_or-set_other (set l a x) b a y 0 ne ∙ get_or-set_same l a x 0 inside
]

put_other : (l : List ℕ) (a b x y n : ℕ) → n ≢ a → n ≢ b → get_or (set (set l a x) b y) n 0 ≡ get_or l n 0
put_other l a b x y n not_a not_b = get_or-set_other (set l a x) b n y 0 not_b ∙ get_or-set_other l a n x 0 not_a

-- Of two lists that undo each other two places of one exchange what they hold, and the other follows.
module _ (xs ys : List ℕ) (size a b x y : ℕ) (xs_size : length xs ≡ size) (ys_size : length ys ≡ size) (below : (n : ℕ) → n < size → get_or xs n 0 < size) (undone : (n : ℕ) → n < size → get_or ys (get_or xs n 0) 0 ≡ n)
    (a_in : a < size) (b_in : b < size) (x_in : x < size) (y_in : y < size) (at_a : get_or xs a 0 ≡ y) (at_b : get_or xs b 0 ≡ x) where
  at_x : get_or ys x 0 ≡ b
  at_x = ap (λ (k : ℕ). get_or ys k 0) (sym at_b) ∙ undone b b_in

  at_y : get_or ys y 0 ≡ a
  at_y = ap (λ (k : ℕ). get_or ys k 0) (sym at_a) ∙ undone a a_in

  still_undone : (n : ℕ) → n < size → (get_or (set (set xs a x) b y) n 0 < size) × (get_or (set (set ys x a) y b) (get_or (set (set xs a x) b y) n 0) 0 ≡ n)
  still_undone n inside = elim (cases_eq n b) [
    | inl e ↦ rw (e, put_second xs a b x y (rw xs_size b_in)) (y_in, put_second ys x y a b (rw ys_size y_in))
    | inr not_b ↦ elim (cases_eq n a) [
      | inl e ↦ rw (e, put_first xs a b x y (rw xs_size a_in) (λ f. sym at_b ∙ ap (λ (k : ℕ). get_or xs k 0) (sym f) ∙ at_a))
          (x_in, put_first ys x y a b (rw ys_size x_in) (λ f. sym at_y ∙ ap (λ (k : ℕ). get_or ys k 0) (sym f) ∙ at_x))
      | inr not_a ↦ (let not_x : get_or xs n 0 ≢ x = λ e. not_b (sym (undone n inside) ∙ ap (λ (k : ℕ). get_or ys k 0) e ∙ at_x) in
          let not_y : get_or xs n 0 ≢ y = λ e. not_a (sym (undone n inside) ∙ ap (λ (k : ℕ). get_or ys k 0) e ∙ at_y) in
          rw (put_other xs a b x y n not_a not_b) (below n inside, put_other ys x y a b (get_or xs n 0) not_x not_y ∙ undone n inside))
    ]
  ]

-- the nodes at two ranks change places: order and ranks undo each other still
pub nodes_swapped : (order ranks : List ℕ) (count i j first second : ℕ) → IsOrdered order ranks count → i < length ranks → j < length ranks → get_or order i 0 ≡ first → get_or order j 0 ≡ second
    → IsOrdered (set (set order i second) j first) (set (set ranks second i) first j) count × HaveSwapped order ranks (set (set ranks second i) first j) i j
nodes_swapped order ranks count i j first second ordered i_in j_in at_i at_j =
    let size = length ranks in
    let first_in : first < size = subst (λ (k : ℕ). k < size) at_i (ordered.node_below i i_in) in
    let second_in : second < size = subst (λ (k : ℕ). k < size) at_j (ordered.node_below j j_in) in
    let at_first : get_or ranks first 0 ≡ i = ap (λ (k : ℕ). get_or ranks k 0) (sym at_i) ∙ ordered.rank_there i i_in in
    let at_second : get_or ranks second 0 ≡ j = ap (λ (k : ℕ). get_or ranks k 0) (sym at_j) ∙ ordered.rank_there j j_in in
    let same : length (set (set ranks second i) first j) ≡ size = length-set (set ranks second i) first j ∙ length-set ranks second i in
    let to_nodes = still_undone order ranks size i j second first ordered.equal refl ordered.node_below ordered.rank_there i_in j_in second_in first_in at_i at_j in
    let to_ranks = still_undone ranks order size second first i j refl ordered.equal ordered.rank_below ordered.node_there second_in first_in i_in j_in at_second at_first in (
      record {
        few = rw same ordered.few;
        equal = length-set (set order i second) j first ∙ length-set order i second ∙ ordered.equal ∙ sym same;
        most = rw same ordered.most;
        rank_below = λ n h. rw same (to_ranks n (rw same at h)).0;
        node_there = λ n h. (to_ranks n (rw same at h)).1;
        node_below = λ k h. rw same (to_nodes k (rw same at h)).0;
        rank_there = λ k h. (to_nodes k (rw same at h)).1;
      },
      record {
        nodes = same;
        first = rw at_i (put_second ranks second first i j first_in);
        second = rw at_j (put_first ranks second first i j second_in (λ e. sym at_first ∙ ap (λ (k : ℕ). get_or ranks k 0) (sym e) ∙ at_second));
        others = λ n not_first not_second. put_other ranks second first i j n (λ e. not_second (e ∙ sym at_j)) (λ e. not_first (e ∙ sym at_i));
      },
    )

-- the node at the rank just past the members is put among them, or the one at the last member's is taken out, by a swap and a new count
module _ (order ranks new : List ℕ) (count node edge : ℕ) (ordered : IsOrdered order ranks count) (inside : node < length ranks)
    (edge_in : edge < length ranks) (swapped : HaveSwapped order ranks new (get_or ranks node 0) edge) where
  node_is : get_or order (get_or ranks node 0) 0 ≡ node
  node_is = ordered.node_there node inside

  rank_now : get_or new node 0 ≡ edge
  rank_now = ap (λ (k : ℕ). get_or new k 0) (sym node_is) ∙ swapped.first

  in_new : (n : ℕ) → n < length ranks → n < length new
  in_new n h = rw swapped.nodes h

  -- another node keeps its rank, or had the edge's
  rank_of : (n : ℕ) → n < length ranks → n ≢ node → (get_or new n 0 ≡ get_or ranks n 0) × (get_or ranks n 0 ≢ edge) × (get_or ranks n 0 ≢ get_or ranks node 0)
      ⊎ (get_or new n 0 ≡ get_or ranks node 0) × (get_or ranks n 0 ≡ edge) × (get_or ranks node 0 ≢ edge)
  rank_of n n_in apart = elim (cases_eq (get_or ranks n 0) edge) [
    | inl e ↦ (let there : n ≡ get_or order edge 0 = sym (ordered.node_there n n_in) ∙ ap (λ (k : ℕ). get_or order k 0) e in
        let different : get_or ranks node 0 ≢ edge = λ f. apart (sym (ordered.node_there n n_in) ∙ ap (λ (k : ℕ). get_or order k 0) (e ∙ sym f) ∙ node_is) in
        inr (ap (λ (k : ℕ). get_or new k 0) there ∙ swapped.second, e, different))
    | inr ne ↦ (let not_edge : n ≢ get_or order edge 0 = λ e. ne (ap (λ (k : ℕ). get_or ranks k 0) e ∙ ordered.rank_there edge edge_in) in
        let not_node : n ≢ get_or order (get_or ranks node 0) 0 = λ e. apart (e ∙ node_is) in
        let different : get_or ranks n 0 ≢ get_or ranks node 0 = λ f. apart (sym (ordered.node_there n n_in) ∙ ap (λ (k : ℕ). get_or order k 0) f ∙ node_is) in
        inl (swapped.others n not_node not_edge, ne, different))
  ]

  past : (now n : ℕ) → length ranks ≤ n → is_member new now n ≡ is_member ranks count n
  past now n h = is_member-past new now n (rw swapped.nodes h) ∙ sym (is_member-past ranks count n h)

  by_rank : (now n : ℕ) → n < length ranks → ltb (get_or new n 0) now ≡ ltb (get_or ranks n 0) count → is_member new now n ≡ is_member ranks count n
  by_rank now n h e = is_member-rank new now n (in_new n h) ∙ e ∙ sym (is_member-rank ranks count n h)

  same_test : (x y now before : ℕ) → (x < now → y < before) → (y < before → x < now) → ltb x now ≡ ltb y before
  same_test x y now before to fro = elim (cases_lt x now) [
    | inl less ↦ lt-ltb x now less ∙ sym (lt-ltb y before (to less))
    | inr ge ↦ elim (cases_lt y before) [ inl less ↦ absurd (let bad = fro less in omega arith) | inr above ↦ le-ltb x now ge ∙ sym (le-ltb y before above) ]
  ]

  pub inserted : edge ≡ count → count ≤ get_or ranks node 0 → (is_member new (count + 1) node ≡ true) × SameMembersBut node ranks count new (count + 1)
  inserted at_count out = (
    is_member-rank new (count + 1) node (in_new node inside) ∙ lt-ltb (get_or new node 0) (count + 1) (omega (arith, rank_now)),
    record {
      nodes = swapped.nodes;
      others = λ n apart. elim (cases_lt n (length ranks)) [
        | inr h ↦ past (count + 1) n h
        | inl h ↦ by_rank (count + 1) n h (elim (rank_of n h apart) [
          | inl r ↦ same_test (get_or new n 0) (get_or ranks n 0) (count + 1) count (λ l. omega (arith, r.0, r.1)) (λ l. omega (arith, r.0))
          | inr r ↦ same_test (get_or new n 0) (get_or ranks n 0) (count + 1) count (λ l. omega (arith, r.0, r.1, r.2)) (λ l. omega (arith, r.0, r.1))
        ])
      ];
    },
  )

  pub removed : edge + 1 ≡ count → get_or ranks node 0 < count → (is_member new edge node ≡ false) × SameMembersBut node ranks count new edge
  removed at_last among = (
    is_member-rank new edge node (in_new node inside) ∙ le-ltb (get_or new node 0) edge (omega (arith, rank_now)),
    record {
      nodes = swapped.nodes;
      others = λ n apart. elim (cases_lt n (length ranks)) [
        | inr h ↦ past edge n h
        | inl h ↦ by_rank edge n h (elim (rank_of n h apart) [
          | inl r ↦ same_test (get_or new n 0) (get_or ranks n 0) edge count (λ l. omega (arith, r.0)) (λ l. omega (arith, r.0, r.1))
          | inr r ↦ same_test (get_or new n 0) (get_or ranks n 0) edge count (λ l. omega (arith, r.1)) (λ l. omega (arith, r.0, r.1, r.2))
        ])
      ];
    },
  )

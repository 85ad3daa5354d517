-- Memory while it is made: pushing one more table.
use Rattle.std.proofs.{Common.{◌≡◌, ℕ, ◌+◌, ◌-◌, ◌<◌, ◌≤◌, ◌⊎◌, inl, inr, List, [], ◌∷◌, ◌++◌, length, get_or, refl, sym, ap, ◌∙◌, arith}, lemmas.{Bool.{cases_eq, cases_lt}, List.{length_push, get_or_push, get_or_append_left, get_or_past}}}
use Rattle.frames.specs.{Chain.{IsChained, IsAllTables}, FrameTable.{FrameTable, frame_count, bytes_of, role_of, count_of, IsFrame, IsSound, IsCountFor, IsHeld, Releases, is_handed_out, zero_bytes}, declared.role.Role.{Role}}
use Rattle.frames.specs.declared.role.Role.TheVariants.{Free, Zero, Table}

-- the zero page and then tables, n of all
pub record IsMade (t : FrameTable) (n : ℕ) : Type 0 where
  pub frames : frame_count t ≡ n
  pub all_roles : length t.roles ≡ n
  pub all_counts : length t.counts ≡ n
  pub zero_role : role_of t 0 ≡ Zero
  pub zero_count : count_of t 0 ≡ 0
  pub zero_page : bytes_of t 0 ≡ zero_bytes
  pub tables : (k : ℕ) → 0 < k → k < n → role_of t k ≡ Table
  pub counts : (k : ℕ) → 0 < k → k < n → count_of t k ≡ 1

pub IsMade-first : (bytes none_bytes : List (List ℕ)) (roles none_roles : List Role) (counts none_counts : List ℕ)
    → bytes ≡ none_bytes ++ zero_bytes ∷ [] → none_bytes ≡ [] → roles ≡ none_roles ++ Zero ∷ [] → none_roles ≡ []
    → counts ≡ none_counts ++ 0 ∷ [] → none_counts ≡ [] → IsMade (record { bytes = bytes; roles = roles; counts = counts }) 1
IsMade-first bytes none_bytes roles none_roles counts none_counts b b0 r r0 c c0 = rw (b, b0, r, r0, c, c0) (record {
  frames = refl;
  all_roles = refl;
  all_counts = refl;
  zero_role = refl;
  zero_count = refl;
  zero_page = refl;
  tables = λ k above below. absurd (omega arith);
  counts = λ k above below. absurd (omega arith);
})

at_push : {X : Type 0} (P : X → Type 0) (xs : List X) (x d : X) (n : ℕ) → length xs ≡ n → ((k : ℕ) → 0 < k → k < n → P (get_or xs k d)) → P x
    → (k : ℕ) → 0 < k → k < n + 1 → P (get_or (xs ++ x ∷ []) k d)
at_push P xs x d n len all here k above below = elim (cases_eq k n) [
  | inl e ↦ (let at : length xs ≡ k = len ∙ sym e in rw (get_or_push xs x d k at) here)
  | inr ne ↦ (let within : k < length xs = omega arith in rw (get_or_append_left xs (x ∷ []) d k within) (all k above (omega arith)))
]

pub IsMade-more : (t : FrameTable) (n : ℕ) (w : List ℕ) → 0 < n → IsMade t n
    → IsMade (record { bytes = t.bytes ++ w ∷ []; roles = t.roles ++ Table ∷ []; counts = t.counts ++ 1 ∷ [] }) (n + 1)
IsMade-more t n w above m = record {
  frames = length_push t.bytes w ∙ ap (λ k. k + 1) m.frames;
  all_roles = length_push t.roles Table ∙ ap (λ k. k + 1) m.all_roles;
  all_counts = length_push t.counts 1 ∙ ap (λ k. k + 1) m.all_counts;
  zero_role = get_or_append_left t.roles (Table ∷ []) Free 0 (omega (arith, m.all_roles)) ∙ m.zero_role;
  zero_count = get_or_append_left t.counts (1 ∷ []) 0 0 (omega (arith, m.all_counts)) ∙ m.zero_count;
  zero_page = get_or_append_left t.bytes (w ∷ []) [] 0 (omega (arith, m.frames)) ∙ m.zero_page;
  tables = at_push (λ r. r ≡ Table) t.roles Table Free n m.all_roles m.tables refl;
  counts = at_push (λ c. c ≡ 1) t.counts 1 0 n m.all_counts m.counts refl;
}

role_at : (t : FrameTable) (n k : ℕ) → IsMade t n → k < n → ((k ≡ 0) × (role_of t k ≡ Zero) × (count_of t k ≡ 0)) ⊎ ((0 < k) × (role_of t k ≡ Table) × (count_of t k ≡ 1))
role_at t n k m below = elim (cases_eq k 0) [
  | inl e ↦ inl (e, rw e m.zero_role, rw e m.zero_count)
  | inr ne ↦ (let above : 0 < k = omega arith in inr (above, m.tables k above below, m.counts k above below))
]

no_free : (t : FrameTable) (n k : ℕ) → IsMade t n → k < n → role_of t k ≡ Free → ⊥
no_free t n k m below e = elim (role_at t n k m below) [
  | inl z ↦ absurd (let bad : Zero ≡ Free = sym z.1 ∙ e in (cc))
  | inr z ↦ absurd (let bad : Table ≡ Free = sym z.1 ∙ e in (cc))
]

zero_alone : (t : FrameTable) (n k : ℕ) → IsMade t n → k < n → role_of t k ≡ Zero → k ≡ 0
zero_alone t n k m below e = elim (role_at t n k m below) [ inl z ↦ z.0 | inr z ↦ absurd (let bad : Table ≡ Zero = sym z.1 ∙ e in (cc)) ]

counted : (t : FrameTable) (n k : ℕ) → IsMade t n → k < n → IsCountFor (role_of t k) (count_of t k)
counted t n k m below = elim (role_at t n k m below) [ inl z ↦ rw z.1 z.2 | inr z ↦ rw z.1 z.2 ]

past : (t : FrameTable) (n k : ℕ) → IsMade t n → n ≤ k → role_of t k ≡ Free
past t n k m above = get_or_past t.roles k Free (omega (arith, m.all_roles))

pub IsSound-made : (t : FrameTable) (n : ℕ) → 8 ≤ n → n ≤ 65536 → IsMade t n → IsSound t
IsSound-made t n least most m = record {
  least = omega (arith, m.frames);
  most = omega (arith, m.frames);
  all_roles = m.all_roles ∙ sym m.frames;
  all_counts = m.all_counts ∙ sym m.frames;
  counted = λ k h. counted t n k m (omega (arith, m.frames));
  zero_role = m.zero_role;
  zero_alone = λ k e. elim (cases_lt k n) [
    | inl below ↦ zero_alone t n k m below e
    | inr above ↦ absurd (let bad : Free ≡ Zero = sym (past t n k m above) ∙ e in (cc))
  ];
  zero_page = m.zero_page;
}

pub IsChained-made : (t : FrameTable) (n : ℕ) → IsMade t n → IsChained t 0
IsChained-made t n m = record { free = []; chain = refl; complete = λ k h is_free. no_free t n k m (omega (arith, m.frames)) is_free }

pub IsAllTables-made : (t : FrameTable) (n count : ℕ) → n ≡ count → IsMade t n → IsAllTables t count 1 count
IsAllTables-made t n count e m = record {
  frames = m.frames ∙ e;
  tables = λ k low high. m.tables k (omega arith) (omega arith);
  counts = λ k low high. m.counts k (omega arith) (omega arith);
  free = λ k low high. absurd (omega arith);
}

-- one table less
pub IsAllTables-less : (old new : FrameTable) (count n : ℕ) → 1 < n → n ≤ count → IsAllTables old count 1 n → Releases old new (n - 1)
    → IsAllTables new count 1 (n - 1)
IsAllTables-less old new count n above below all released = record {
  frames = released.others.frames ∙ all.frames;
  tables = λ k low high. released.others.roles k (λ e. (omega arith)) ∙ all.tables k low (omega arith);
  counts = λ k low high. released.others.counts k (λ e. (omega arith)) ∙ all.counts k low (omega arith);
  free = λ k low high. elim (cases_eq k (n - 1)) [
    | inl e ↦ ap (role_of new) e ∙ released.freed (all.counts (n - 1) (omega arith) (omega arith))
    | inr ne ↦ released.others.roles k ne ∙ all.free k (omega arith) high
  ];
}

-- it may be released
pub IsHeld-table : (t : FrameTable) (n : ℕ) → IsFrame t n → role_of t n ≡ Table → IsHeld t n
IsHeld-table t n inside e = record { inside = inside; handed_out = ap is_handed_out e }

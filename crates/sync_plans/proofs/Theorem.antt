-- From what the store says of a plan as a device to what stops of the calls leave.
use Rattle.sync_plans.proofs.{Growth.{alike_leaves, alike_image}, Names.{ℕ, zero, suc, ◌+◌, if◌then◌else◌, ◌<◌, ◌≤◌, ◌≡◌, ◌≢◌, ◌⊎◌, Bool, true, false, ◌||◌, IsTrue, List, [], ◌∷◌, Some, slice_get, length, inl, inr, ⊎_elim, refl, sym, ap, subst, ◌∙◌}}
use Rattle.sync_plans.proofs.Names.{arith, cases_Bool, cases_eq, false≢true, get_or, get_or_past, drop, fun_ext, Image, MayLeave, Nothing, mark, pool_mark, Unmarked, ImageSays, is_pool, in_kind, pool_marked, IsBadLayout, IsBadJournal}
use Rattle.sync_plans.specs.{Device.{label}, PlanDisk.{pages_of, content_of, unsynced_in, IsLost, plan_moment, left_in}, Plans.{row, written_bytes, is_written, writes_to, is_sync_call, is_left_unsynced, IsLeftUnsynced, image_after, StopLeaves, After, Within}}
use Rattle.sync_plans.specs.{Requests.{HasLayout, IsStore}, declared.{call.Call.{Call}, plan_disk.PlanDisk.{PlanDisk}}}

-- nothing is left but what was there
pub nothing_done : (calls : List Call) (rows : List (List ℕ)) (pages : ℕ → List ℕ) (first : Image) (used : ℕ) (c : Image) → used ≡ 0
    → MayLeave (image_after calls rows pages first used) (IsLeftUnsynced calls used) c → c ≡ first
nothing_done calls rows pages first used c e may = fun_ext (λ n. ⊎_elim (λ u. absurd (false≢true u)) (λ same. same)
    ((subst (λ (k : ℕ). MayLeave (image_after calls rows pages first k) (IsLeftUnsynced calls k) c) e may).kept n))

-- what a stop in the midst of writes leaves is what some stop after them does
or_left : (a b : Bool) → IsTrue a → IsTrue (a || b)
or_left true b is = refl
or_left false b is = absurd (false≢true is)

or_right : (a b : Bool) → IsTrue b → IsTrue (a || b)
or_right true b is = refl
or_right false b is = is

module _ (calls : List Call) (rows : List (List ℕ)) (pages : ℕ → List ℕ) (first : Image) (k : ℕ) where
  next_unsynced : (m n : ℕ) → is_sync_call (slice_get calls (k + m)) ≡ false → is_left_unsynced calls (k + suc m) n ≡ (writes_to (slice_get calls (k + m)) n || is_left_unsynced calls (k + m) n)
  next_unsynced m n other = let e : k + suc m ≡ suc (k + m) = omega arith in rw (e, other) refl

  next_image : (m n : ℕ) → image_after calls rows pages first (k + suc m) n ≡ (if writes_to (slice_get calls (k + m)) n then written_bytes rows pages first (k + m) (slice_get calls (k + m)) n else image_after calls rows pages first (k + m) n)
  next_image m n = let e : k + suc m ≡ suc (k + m) = omega arith in rw e refl

  still : (m n : ℕ) → ((j : ℕ) → j < m → is_sync_call (slice_get calls (k + j)) ≡ false) → IsLeftUnsynced calls k n → IsLeftUnsynced calls (k + m) n
  still zero n writes u = let e : k + zero ≡ k = omega arith in rw e u
  still (suc m) n writes u = subst IsTrue (sym (next_unsynced m n (writes m (omega arith))))
      (or_right (writes_to (slice_get calls (k + m)) n) (is_left_unsynced calls (k + m) n) (still m n (λ j lt. writes j (omega (arith, lt))) u))

  written_unsynced : (m n : ℕ) → ((j : ℕ) → j < m → is_sync_call (slice_get calls (k + j)) ≡ false) → IsTrue (is_written calls k m n) → IsLeftUnsynced calls (k + m) n
  written_unsynced zero n writes w = absurd (false≢true w)
  written_unsynced (suc m) n writes w = subst IsTrue (sym (next_unsynced m n (writes m (omega arith)))) (elim (cases_Bool (writes_to (slice_get calls (k + m)) n)) [
    | inl here ↦ or_left (writes_to (slice_get calls (k + m)) n) (is_left_unsynced calls (k + m) n) here
    | inr away ↦ or_right (writes_to (slice_get calls (k + m)) n) (is_left_unsynced calls (k + m) n) (written_unsynced m n (λ j lt. writes j (omega (arith, lt))) (rw away at w))
  ])

  pub unwritten : (m n : ℕ) → is_written calls k m n ≡ false → image_after calls rows pages first (k + m) n ≡ image_after calls rows pages first k n
  unwritten zero n away = let e : k + zero ≡ k = omega arith in rw e refl
  unwritten (suc m) n away = elim (cases_Bool (writes_to (slice_get calls (k + m)) n)) [
    | inl here ↦ absurd (false≢true (sym away ∙ rw here refl))
    | inr other ↦ next_image m n ∙ rw other (unwritten m n (rw other at away))
  ]

pub between : (calls : List Call) (rows : List (List ℕ)) (pages : ℕ → List ℕ) (first : Image) (used : ℕ) (c : Image) → StopLeaves calls rows pages first used c
    → (k : ℕ) × (k ≤ used) × MayLeave (image_after calls rows pages first k) (IsLeftUnsynced calls k) c
between calls rows pages first used c (After k le may) = (k, le, may)
between calls rows pages first used c (Within k m le writes may) = (
  k + m,
  le,
  record {
    kept = λ n. elim (cases_Bool (is_written calls k m n)) [
      | inl here ↦ inl (written_unsynced calls rows pages first k m n writes here)
      | inr away ↦ ⊎_elim (⊎_elim (λ u. inl (still calls rows pages first k m n writes u)) (λ w. absurd (false≢true (sym away ∙ w))))
          (λ e. inr (e ∙ sym (unwritten calls rows pages first k m n away))) (may.kept n)
    ];
  },
)

-- a name is no image of a store
is_none : List ℕ → Bool
is_none [] = true
is_none (b ∷ bytes) = false

no_journal : [] ≢ mark
unfolding mark is_none
no_journal e = false≢true (sym (ap is_none e))

no_pool : [] ≢ pool_mark
unfolding pool_mark is_none
no_pool e = false≢true (sym (ap is_none e))

pub no_layout : (sectors : ℕ) (image : Image) → HasLayout sectors image → image 0 ≡ [] → ⊥
no_layout sectors image good blank = from (is_pool image) refl
  where
    from : (pool : Bool) → is_pool image ≡ pool → ⊥
    from true is = no_pool (sym blank ∙ pool_marked image is)
    from false other = good (in_kind (λ (said : ImageSays). said.HasBadLayout) sectors image other (Unmarked (λ e. no_journal (sym blank ∙ e))))

-- nor one that a caller lends
no_row : (number : ℕ) (first : Image) (image : List (List ℕ)) → label number first ≡ row image → ⊥
unfolding is_none
no_row number first image e = false≢true (ap is_none (ap (λ (f : Image). f (suc (length image))) e ∙ get_or_past image (suc (length image)) [] (omega arith)))

same_number : (m n : ℕ) (one other : Image) → label m one ≡ label n other → m ≡ n
same_number m n one other e = ap (λ (f : Image). get_or (f 1) 0 0) e

same_image : (m n : ℕ) (one other : Image) → label m one ≡ label n other → one ≡ other
same_image m n one other e = fun_ext (λ k. ap (λ (f : Image). drop 1 (f (suc k))) e)

-- A plan that has begun, for which no write was lost,
module _ (d0 : PlanDisk) (none : d0.used ≡ 0) (kept : (k : ℕ) → IsLost d0 k → ⊥) where
  -- leaves the image as it was,
  pub starts : (c : Image) → MayLeave (content_of d0) (unsynced_in d0) c → c ≡ row d0.image.now
  starts c may = nothing_done d0.calls.now d0.rows.now (pages_of d0) (row d0.image.now) d0.used c none
      (record { kept = λ k. ⊎_elim (⊎_elim (λ u. inl u) (λ lost. absurd (kept k lost))) (λ e. inr e) (may.kept k) })

  pub started : content_of d0 ≡ row d0.image.now
  started = ap (λ (k : ℕ). image_after d0.calls.now d0.rows.now (pages_of d0) (row d0.image.now) k) none

  -- and goes on as itself.
  module _ (d : PlanDisk) (Q : Image → Type 0) (no_name : (number : ℕ) (image : Image) → Q (label number image) → ⊥)
      (run : (t : ℕ) (c : Image) → t ≤ plan_moment d0 → left_in d t c → left_in d0 t c ⊎ Q c) where
    no_stop : (number : ℕ) (image : Image) (k : ℕ) → k ≤ d0.used
        → MayLeave (image_after d0.calls.now d0.rows.now (pages_of d0) (row d0.image.now) k) (IsLeftUnsynced d0.calls.now k) (label number image) → ⊥
    no_stop number image k le may = no_row number image d0.image.now
        (nothing_done d0.calls.now d0.rows.now (pages_of d0) (row d0.image.now) k (label number image) (omega (arith, le, none)) may)

    began : label d.room (row d.image.now) ≡ label d0.room (row d0.image.now)
    began = ⊎_elim
        (⊎_elim
        (⊎_elim (λ named. named.1) (⊎_elim (λ named. absurd (omega (arith, named.0))) (λ had. absurd (no_stop d.room (row d.image.now) had.0 had.2 had.3))))
        (λ may. absurd (no_row d.room (row d.image.now) d0.image.now (starts (label d.room (row d.image.now)) may))))
        (λ is. absurd (no_name d.room (row d.image.now) is))
        (run 0 (label d.room (row d.image.now)) (omega arith) (inl (inl (refl, refl))))

    pub same_room : d.room ≡ d0.room
    same_room = same_number d.room d0.room (row d.image.now) (row d0.image.now) began

    pub same_first : row d.image.now ≡ row d0.image.now
    same_first = same_image d.room d0.room (row d.image.now) (row d0.image.now) began

    pub same_pages : pages_of d ≡ pages_of d0
    same_pages = ⊎_elim
        (⊎_elim
        (⊎_elim (λ named. absurd (omega (arith, named.0))) (⊎_elim (λ named. same_image 0 0 (pages_of d) (pages_of d0) named.1) (λ had. absurd (no_stop 0 (pages_of d) had.0 had.2 had.3))))
        (λ may. absurd (no_row 0 (pages_of d) d0.image.now (starts (label 0 (pages_of d)) may))))
        (λ is. absurd (no_name 0 (pages_of d) is))
        (run 1 (label 0 (pages_of d)) (omega arith) (inl (inr (inl (refl, refl)))))

  -- Its room stays, whether its image is one of a store or not.
  module _ (d : PlanDisk)
      (layout_run : IsStore (length d0.image.now) (content_of d0) → (t : ℕ) (c : Image) → t ≤ plan_moment d0 → left_in d t c → left_in d0 t c ⊎ HasLayout (length d0.image.now) c)
      (bad_run : IsBadLayout (length d0.image.now) (content_of d0) ⊎ IsBadJournal (length d0.image.now) (content_of d0)
      → (t : ℕ) (c : Image) → t ≤ plan_moment d0 → left_in d t c → left_in d0 t c ⊎ MayLeave (content_of d0) (λ k. unsynced_in d0 k ⊎ Nothing k) c) where
    as_it_was : (c : Image) → MayLeave (content_of d0) (λ k. unsynced_in d0 k ⊎ Nothing k) c → c ≡ row d0.image.now
    as_it_was c may = starts c (record { kept = λ k. ⊎_elim (⊎_elim (λ u. inl u) (λ no. absurd no)) (λ e. inr e) (may.kept k) })

    pub room_stays : d.room ≡ d0.room
    room_stays = ⊎_elim (λ same. same)
        (λ other.
        let good : IsBadLayout (length d0.image.now) (content_of d0) ⊎ IsBadJournal (length d0.image.now) (content_of d0) → ⊥
        = λ bad. other (same_room d (λ c. MayLeave (content_of d0) (λ k. unsynced_in d0 k ⊎ Nothing k) c)
        (λ number image may. no_row number image d0.image.now (as_it_was (label number image) may)) (bad_run bad)) in
        absurd (other (same_room d (HasLayout (length d0.image.now)) (λ number image is. no_layout (length d0.image.now) (label number image) is refl)
        (layout_run (record { layout = λ bad. good (inl bad); journal = λ bad. good (inr bad) })))))
        (cases_eq d.room d0.room)

-- A plan that is listed on such an image with such pages lent, and copied.
module _ (d : PlanDisk) (calls' : List Call) (rows' image : List (List ℕ)) (pages : ℕ → List ℕ) (first : row image ≡ row d.image.now) (lent : pages ≡ pages_of d)
    (same_calls : (k : ℕ) → k < d.used → slice_get calls' k ≡ slice_get d.calls.now k)
    (same_rows : (k : ℕ) (call : Call) → k < d.used → slice_get d.calls.now k ≡ Some call → call.kind ≡ 1 → row rows' k ≡ row d.rows.now k) where
  pub same_end : image_after calls' rows' pages (row image) d.used ≡ content_of d
  same_end = fun_ext (λ n. alike_image d.calls.now calls' d.used same_calls d.rows.now rows' pages (row image) same_rows d.used n (omega arith))
      ∙ ap (λ (i : Image). image_after d.calls.now d.rows.now pages i d.used) first ∙ ap (λ (p : ℕ → List ℕ). image_after d.calls.now d.rows.now p (row d.image.now) d.used) lent

  -- What a stop within its calls leaves it may leave as a device.
  pub stop_leaves : (t : ℕ) → t ≡ 2 → (c : Image) → StopLeaves calls' rows' pages (row image) d.used c → left_in d t c
  stop_leaves t two c stop =
      let at = between calls' rows' pages (row image) d.used c stop in
      let may = alike_leaves d.calls.now calls' d.used same_calls d.rows.now rows' pages (row image) same_rows at.0 c at.1 at.2 in
      let from_first = subst (λ (i : Image). MayLeave (image_after d.calls.now d.rows.now pages i at.0) (IsLeftUnsynced d.calls.now at.0) c) first may in
      inl (inr (inr (at.0, omega (arith, two), at.1, subst (λ (p : ℕ → List ℕ). MayLeave (image_after d.calls.now d.rows.now p (row d.image.now) at.0) (IsLeftUnsynced d.calls.now at.0) c) lent from_first)))

-- a stop within some of the calls is one within more of them
pub fewer : {calls : List Call} {rows : List (List ℕ)} {pages : ℕ → List ℕ} {first : Image} {m n : ℕ} {c : Image} → m ≤ n → StopLeaves calls rows pages first m c → StopLeaves calls rows pages first n c
fewer le (After k within may) = After k (omega (arith, within, le)) may
fewer le (Within k j within writes may) = Within k j (omega (arith, within, le)) writes may

-- where nothing is to be done, the image stays
pub nothing_listed : (calls : List Call) (rows : List (List ℕ)) (pages : ℕ → List ℕ) (first : Image) (c : Image) → StopLeaves calls rows pages first 0 c → c ≡ first
nothing_listed calls rows pages first c stop = let at = between calls rows pages first 0 c stop in nothing_done calls rows pages first at.0 c (omega (arith, at.1)) at.2

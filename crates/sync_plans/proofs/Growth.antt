-- Plans that grow by a call.
use Rattle.sync_plans.proofs.Names.{ℕ, zero, suc, ◌+◌, ◌*◌, ◌<◌, ◌≤◌, ◌≡◌, ◌≢◌, ◌⊎◌, Bool, true, false, ◌&&◌, ◌||◌, ◌==◌, if◌then◌else◌, IsTrue, List, Option, Some, None, slice_get, length, inl, inr, ⊎_elim, refl, sym, ap, subst, ◌∙◌, arith}
use Rattle.sync_plans.proofs.Names.{eq-eqb, ne_eqb, cases_eq, cases_lt, cases_Bool, false≢true, lt-ltb, le-leb, lt-leb, slice_get-get_or, get_or, fun_ext, ltb, part_of, Image, MayLeave, ChangesOnly, ChangesPage, ChangesPages, IsOfPage, IsOfPages, Elapses}
use Rattle.sync_plans.specs.{declared.call.Call.{Call}, Plans.{row, is_of_pages, pages_written, writes_to, page_bytes, written_bytes, is_sync_call, is_left_unsynced, IsLeftUnsynced, image_after, is_written}, Device.{PlanLeftSince, Lists, NamesPage}}

-- sectors of pages
pub in_pages : (first pages n : ℕ) → IsOfPages first pages n → is_of_pages first pages n ≡ true
in_pages first pages n is = ap (λ (b : Bool). b && ltb n (first + 8 * pages)) (le-leb first n is.0) ∙ lt-ltb n (first + 8 * pages) is.1

pub out_of_pages : (first pages n : ℕ) → (IsOfPages first pages n → ⊥) → is_of_pages first pages n ≡ false
out_of_pages first pages n not = ⊎_elim
    (λ before. ap (λ (b : Bool). b && ltb n (first + 8 * pages)) (lt-leb first n before))
    (λ from. ⊎_elim (λ below. absurd (not (from, below)))
    (λ behind. ap (λ (b : Bool). b && ltb n (first + 8 * pages)) (le-leb first n from) ∙ lt-leb (suc n) (first + 8 * pages) (omega (arith, behind)))
    (cases_lt n (first + 8 * pages)))
    (cases_lt n first)

pub is_or_not : (first pages n : ℕ) → IsOfPages first pages n ⊎ (IsOfPages first pages n → ⊥)
is_or_not first pages n = ⊎_elim (λ before. inr (λ is. omega (arith, before, is.0)))
    (λ from. ⊎_elim (λ below. inl (from, below)) (λ behind. inr (λ is. omega (arith, behind, is.1))) (cases_lt n (first + 8 * pages)))
    (cases_lt n first)

pub of_pages : (first pages n : ℕ) → IsTrue (is_of_pages first pages n) → IsOfPages first pages n
of_pages first pages n is = ⊎_elim (λ here. here) (λ not. absurd (false≢true (sym (out_of_pages first pages n not) ∙ is))) (is_or_not first pages n)

-- a call of another kind than 1 writes to the sectors of its pages, if to any
pub pages_writes : (call : Call) (n : ℕ) → 3 ≤ call.kind → writes_to (Some call) n ≡ is_of_pages call.sector (pages_written call) n
pages_writes call n paged = rw (ne_eqb call.kind 1 (λ one. omega (arith, one, paged)), le-leb 3 call.kind paged) refl

pub pages_written_to : (call : Call) (n : ℕ) → call.kind ≢ 1 → writes_to (Some call) n ≡ true → (3 ≤ call.kind) × IsOfPages call.sector (pages_written call) n
pages_written_to call n other writes = ⊎_elim
    (λ less. let no : writes_to (Some call) n ≡ false = rw (ne_eqb call.kind 1 other, lt-leb 3 call.kind less) refl in absurd (false≢true (sym no ∙ writes)))
    (λ paged. (paged, of_pages call.sector (pages_written call) n (sym (pages_writes call n paged) ∙ writes)))
    (cases_lt call.kind 3)

-- one of kind 3 or 4 to those of one
pub one_page : (call : Call) → call.kind ≢ 5 → pages_written call ≡ 1
one_page call other = ap (λ (b : Bool). if b then call.from else 1) (ne_eqb call.kind 5 other)

pub not_written : (call : Call) (n : ℕ) → n < call.sector → writes_to (Some call) n ≡ false
not_written call n before = ⊎_elim
    (λ one. rw (eq-eqb call.kind 1 one) (ne_eqb n call.sector (λ here. omega (arith, here, before))))
    (λ other. elim (cases_Bool (writes_to (Some call) n)) [
      | inl writes ↦ let to = pages_written_to call n other writes in absurd (let from = to.1.0 in omega (arith, before, from))
      | inr not ↦ not
    ])
    (cases_eq call.kind 1)

pub not_written_behind : (call : Call) (n : ℕ) → (call.kind ≡ 1 → call.sector + 1 ≤ n) → (call.kind ≢ 1 → call.sector + 8 * pages_written call ≤ n) → writes_to (Some call) n ≡ false
not_written_behind call n sector paged = ⊎_elim
    (λ one. let behind = sector one in rw (eq-eqb call.kind 1 one) (ne_eqb n call.sector (λ here. omega (arith, here, behind))))
    (λ other. let behind = paged other in elim (cases_Bool (writes_to (Some call) n)) [
      | inl writes ↦ let to = pages_written_to call n other writes in absurd (let within = to.1.1 in omega (arith, behind, within))
      | inr not ↦ not
    ])
    (cases_eq call.kind 1)

-- the call at a place of the list
pub writes_here : (calls : List Call) (k n : ℕ) (d : Call) → k < length calls → writes_to (slice_get calls k) n ≡ writes_to (Some (get_or calls k d)) n
writes_here calls k n d inside = ap (λ (o : Option Call). writes_to o n) (slice_get-get_or calls k d inside)

module _ (calls : List Call) (rows : List (List ℕ)) (pages : ℕ → List ℕ) (first : Image) where
  abbrev branch : ℕ → ℕ → Bool → List ℕ
  branch k n b = if b then written_bytes rows pages first k (slice_get calls k) n else image_after calls rows pages first k n

  pub written : (m k n : ℕ) → m ≡ suc k → writes_to (slice_get calls k) n ≡ true → image_after calls rows pages first m n ≡ written_bytes rows pages first k (slice_get calls k) n
  written m k n e writes = ap (λ (j : ℕ). image_after calls rows pages first j n) e ∙ ap (branch k n) writes

  pub passed : (m k n : ℕ) → m ≡ suc k → writes_to (slice_get calls k) n ≡ false → image_after calls rows pages first m n ≡ image_after calls rows pages first k n
  passed m k n e other = ap (λ (j : ℕ). image_after calls rows pages first j n) e ∙ ap (branch k n) other

  pub untouched : (m n : ℕ) → is_written calls 0 m n ≡ false → image_after calls rows pages first m n ≡ first n
  untouched zero n away = refl
  untouched (suc m) n away = elim (cases_Bool (writes_to (slice_get calls (0 + m)) n)) [
    | inl here ↦ absurd (false≢true (sym away ∙ rw here refl))
    | inr other ↦ let z : 0 + m ≡ m = omega arith in passed (suc m) m n refl (rw z at other) ∙ untouched m n (rw other at away)
  ]

-- plans with the same first calls
module _ (calls calls' : List Call) (used : ℕ) (same_calls : (k : ℕ) → k < used → slice_get calls' k ≡ slice_get calls k) where
  pub alike_unsynced : (k n : ℕ) → k ≤ used → is_left_unsynced calls' k n ≡ is_left_unsynced calls k n
  alike_unsynced zero n le = refl
  alike_unsynced (suc k) n le = rw (same_calls k (omega (arith, le)), alike_unsynced k n (omega (arith, le))) refl

  pub alike_written : (k n : ℕ) → k ≤ used → is_written calls' 0 k n ≡ is_written calls 0 k n
  alike_written zero n le = refl
  alike_written (suc k) n le = let z : 0 + k ≡ k = omega arith in rw (z, same_calls k (omega (arith, le)), alike_written k n (omega (arith, le))) refl

  module _ (rows rows' : List (List ℕ)) (pages : ℕ → List ℕ) (first : Image)
      (same_rows : (k : ℕ) (call : Call) → k < used → slice_get calls k ≡ Some call → call.kind ≡ 1 → row rows' k ≡ row rows k) where
    same_bytes : (k n : ℕ) (call : Option Call) → k < used → slice_get calls k ≡ call → written_bytes rows' pages first k call n ≡ written_bytes rows pages first k call n
    same_bytes k n None lt is = refl
    same_bytes k n (Some call) lt is = ⊎_elim (λ one. rw (eq-eqb call.kind 1 one) (same_rows k call lt is one)) (λ other. rw (ne_eqb call.kind 1 other) refl) (cases_eq call.kind 1)

    pub alike_image : (k n : ℕ) → k ≤ used → image_after calls' rows' pages first k n ≡ image_after calls rows pages first k n
    alike_image zero n le = refl
    alike_image (suc k) n le = rw (same_calls k (omega (arith, le)), alike_image k n (omega (arith, le)))
        (ap (λ (bytes : List ℕ). if writes_to (slice_get calls k) n then bytes else image_after calls rows pages first k n)
        (same_bytes k n (slice_get calls k) (omega (arith, le)) refl))

    pub alike_leaves : (k : ℕ) (c : Image) → k ≤ used → MayLeave (image_after calls' rows' pages first k) (IsLeftUnsynced calls' k) c → MayLeave (image_after calls rows pages first k) (IsLeftUnsynced calls k) c
    alike_leaves k c le may = record { kept = λ n. ⊎_elim (λ u. inl (subst IsTrue (alike_unsynced k n le) u)) (λ e. inr (e ∙ alike_image k n le)) (may.kept n) }

    pub alike_left : (k : ℕ) (c : Image) → k ≤ used → MayLeave (image_after calls rows pages first k) (IsLeftUnsynced calls k) c → MayLeave (image_after calls' rows' pages first k) (IsLeftUnsynced calls' k) c
    alike_left k c le may = record { kept = λ n. ⊎_elim (λ u. inl (subst IsTrue (sym (alike_unsynced k n le)) u)) (λ e. inr (e ∙ sym (alike_image k n le))) (may.kept n) }

-- a call more
module _ {calls calls' : List Call} {rows rows' : List (List ℕ)} {used used' : ℕ} {call : Call} {bytes : List ℕ} (pages : ℕ → List ℕ) (first : Image) (lists : Lists calls calls' rows rows' used used' call bytes) where
  same_rows : (k : ℕ) (c : Call) → k < used → slice_get calls k ≡ Some c → c.kind ≡ 1 → row rows' k ≡ row rows k
  same_rows k c lt is one = lists.rows_before k lt

  same_image : (k n : ℕ) → k ≤ used → image_after calls' rows' pages first k n ≡ image_after calls rows pages first k n
  same_image = alike_image calls calls' used lists.calls_before rows rows' pages first same_rows

  same_unsynced : (k n : ℕ) → k ≤ used → is_left_unsynced calls' k n ≡ is_left_unsynced calls k n
  same_unsynced = alike_unsynced calls calls' used lists.calls_before

  may_before : (k : ℕ) (c : Image) → k ≤ used → MayLeave (image_after calls' rows' pages first k) (IsLeftUnsynced calls' k) c → MayLeave (image_after calls rows pages first k) (IsLeftUnsynced calls k) c
  may_before = alike_leaves calls calls' used lists.calls_before rows rows' pages first same_rows

  may_after : (k : ℕ) (c : Image) → k ≤ used → MayLeave (image_after calls rows pages first k) (IsLeftUnsynced calls k) c → MayLeave (image_after calls' rows' pages first k) (IsLeftUnsynced calls' k) c
  may_after = alike_left calls calls' used lists.calls_before rows rows' pages first same_rows

  image_now : (n : ℕ) → image_after calls' rows' pages first used' n ≡ (if writes_to (Some call) n then written_bytes rows' pages first used (Some call) n else image_after calls rows pages first used n)
  image_now n = rw (lists.more, lists.call_here, same_image used n (omega arith)) refl

  unsynced_now : (n : ℕ) → is_left_unsynced calls' used' n ≡ (if is_sync_call (Some call) then false else (writes_to (Some call) n || is_left_unsynced calls used n))
  unsynced_now n = rw (lists.more, lists.call_here, same_unsynced used n (omega arith)) refl

  pub time : (room : ℕ) → Elapses (used + 2) (used' + 2) (PlanLeftSince calls rows pages first room used) (PlanLeftSince calls' rows' pages first room used') (image_after calls' rows' pages first used') (IsLeftUnsynced calls' used')
  time room = record {
    later = omega (arith, lists.more);
    nothing_else = λ t c le left. ⊎_elim (λ named. inl (inl named)) (⊎_elim (λ named. inl (inr (inl named)))
        (λ had. ⊎_elim (λ now. inr (subst (λ (k : ℕ). MayLeave (image_after calls' rows' pages first k) (IsLeftUnsynced calls' k) c) (omega (arith, now, had.2, lists.more)) had.3))
        (λ early. inl (inr (inr (had.0, had.1, early, may_before had.0 c early had.3)))) (cases_lt used had.0)))
        left;
    keeps = λ t c le left. ⊎_elim (λ named. inl named) (⊎_elim (λ named. inr (inl named))
        (λ had. inr (inr (had.0, had.1, omega (arith, had.2, lists.more), may_after had.0 c had.2 had.3)))) left;
  }

  or_true : (a b : Bool) → IsTrue b → IsTrue (a || b)
  or_true true b is = refl
  or_true false b is = is

  -- a write
  module _ (n : ℕ) (writes : call ≡ record { kind = 1; sector = n; from = 0 }) where
    row_now : row rows' used ≡ bytes
    row_now = lists.row_here (ap (λ (c : Call). c.kind) writes)

    image_written : (k : ℕ) → image_after calls' rows' pages first used' k ≡ (if k == n then bytes else image_after calls rows pages first used k)
    image_written k = image_now k ∙ rw (writes, row_now) refl

    unsynced_written : (k : ℕ) → is_left_unsynced calls' used' k ≡ ((k == n) || is_left_unsynced calls used k)
    unsynced_written k = unsynced_now k ∙ rw writes refl

    pub changes : ChangesOnly n (image_after calls rows pages first used) (image_after calls' rows' pages first used')
    changes = record { others = λ k ne. image_written k ∙ rw (ne_eqb k n ne) refl }

    pub unsynced_by : (k : ℕ) → IsLeftUnsynced calls' used' k → IsLeftUnsynced calls used k ⊎ (k ≡ n)
    unsynced_by k u = ⊎_elim (λ e. inr e) (λ ne. inl (subst IsTrue (unsynced_written k ∙ rw (ne_eqb k n ne) refl) u)) (cases_eq k n)

    pub still_unsynced : (k : ℕ) → IsLeftUnsynced calls used k → IsLeftUnsynced calls' used' k
    still_unsynced k u = subst IsTrue (sym (unsynced_written k)) (or_true (k == n) (is_left_unsynced calls used k) u)

  -- a write of pages
  module _ (paged : 3 ≤ call.kind) where
    abbrev in_call : ℕ → Bool
    in_call = is_of_pages call.sector (pages_written call)

    image_paged : (k : ℕ) → image_after calls' rows' pages first used' k ≡ (if in_call k then page_bytes pages first call k else image_after calls rows pages first used k)
    image_paged k = image_now k
        ∙ ap (λ (b : Bool). if b then written_bytes rows' pages first used (Some call) k else image_after calls rows pages first used k) (pages_writes call k paged)
        ∙ ap (λ (b : Bool). if in_call k then (if b then row rows' used else page_bytes pages first call k) else image_after calls rows pages first used k)
        (ne_eqb call.kind 1 (λ one. omega (arith, one, paged)))

    unsynced_paged : (k : ℕ) → is_left_unsynced calls' used' k ≡ (in_call k || is_left_unsynced calls used k)
    unsynced_paged k = unsynced_now k
        ∙ ap (λ (b : Bool). if b then false else (writes_to (Some call) k || is_left_unsynced calls used k)) (ne_eqb call.kind 2 (λ two. omega (arith, two, paged)))
        ∙ ap (λ (b : Bool). b || is_left_unsynced calls used k) (pages_writes call k paged)

    pub pages_hold : (k : ℕ) → IsOfPages call.sector (pages_written call) k → image_after calls' rows' pages first used' k ≡ page_bytes pages first call k
    pages_hold k is = image_paged k
        ∙ ap (λ (b : Bool). if b then page_bytes pages first call k else image_after calls rows pages first used k) (in_pages call.sector (pages_written call) k is)

    pub pages_change : ChangesPages call.sector (pages_written call) (image_after calls rows pages first used) (image_after calls' rows' pages first used')
    pages_change = record {
      others = λ k out. image_paged k
          ∙ ap (λ (b : Bool). if b then page_bytes pages first call k else image_after calls rows pages first used k) (out_of_pages call.sector (pages_written call) k out);
    }

    pub pages_unsynced_by : (k : ℕ) → IsLeftUnsynced calls' used' k → IsLeftUnsynced calls used k ⊎ IsOfPages call.sector (pages_written call) k
    pages_unsynced_by k u = ⊎_elim (λ is. inr is)
        (λ out. inl (subst IsTrue (unsynced_paged k ∙ ap (λ (b : Bool). b || is_left_unsynced calls used k) (out_of_pages call.sector (pages_written call) k out)) u))
        (is_or_not call.sector (pages_written call) k)

    pub pages_marked : (k : ℕ) → IsOfPages call.sector (pages_written call) k → IsLeftUnsynced calls' used' k
    pages_marked k is = unsynced_paged k ∙ ap (λ (b : Bool). b || is_left_unsynced calls used k) (in_pages call.sector (pages_written call) k is)

    pub pages_still : (k : ℕ) → IsLeftUnsynced calls used k → IsLeftUnsynced calls' used' k
    pages_still k u = subst IsTrue (sym (unsynced_paged k)) (or_true (in_call k) (is_left_unsynced calls used k) u)

  -- a write of one page whose bytes are named
  module _ (page : List ℕ) (names : NamesPage pages first call.sector page call) where
    one : pages_written call ≡ 1
    one = one_page call (λ five. let most = names.kind.1 in omega (arith, five, most))

    of_one : (k : ℕ) → IsOfPage call.sector k → IsOfPages call.sector (pages_written call) k
    of_one k is = (is.0, let low = is.1 in omega (arith, low, one))

    to_one : (k : ℕ) → IsOfPages call.sector (pages_written call) k → IsOfPage call.sector k
    to_one k is = (is.0, let low = is.1 in omega (arith, low, one))

    pub page_written : (i : ℕ) → i < 8 → image_after calls' rows' pages first used' (call.sector + i) ≡ part_of page i
    page_written i lt = pages_hold names.kind.0 (call.sector + i) (of_one (call.sector + i) (omega arith, omega (arith, lt))) ∙ names.bytes i lt

    pub page_changes : ChangesPage call.sector (image_after calls rows pages first used) (image_after calls' rows' pages first used')
    page_changes = record { others = λ k out. (pages_change names.kind.0).others k (λ is. out (to_one k is)) }

    pub page_unsynced_by : (k : ℕ) → IsLeftUnsynced calls' used' k → IsLeftUnsynced calls used k ⊎ IsOfPage call.sector k
    page_unsynced_by k u = ⊎_elim (λ was. inl was) (λ is. inr (to_one k is)) (pages_unsynced_by names.kind.0 k u)

    pub page_marked : (k : ℕ) → IsOfPage call.sector k → IsLeftUnsynced calls' used' k
    page_marked k is = pages_marked names.kind.0 k (of_one k is)

    pub page_still : (k : ℕ) → IsLeftUnsynced calls used k → IsLeftUnsynced calls' used' k
    page_still = pages_still names.kind.0

  -- a sync
  module _ (syncs : call ≡ record { kind = 2; sector = 0; from = 0 }) where
    pub same_now : image_after calls' rows' pages first used' ≡ image_after calls rows pages first used
    same_now = fun_ext (λ k. image_now k ∙ rw syncs refl)

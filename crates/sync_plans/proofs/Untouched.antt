-- Sectors that no listed call writes, and calls that name sources.
use Rattle.sync_plans.proofs.{Growth.{alike_written}, Names.{ℕ, suc, ◌+◌, ◌<◌, ◌≤◌, ◌≡◌, ◌≢◌, Bool, false, ◌||◌, List, [], Some, slice_get, length, ⊎_elim, sym, ap, subst, ◌∙◌, arith, cases_eq, get_or-set_same, get_or-set_other}}
use Rattle.sync_plans.{proofs.Names.{length-set, same_Some, slice_get-get_or, set}, specs.{Device.{Lists}, Plans.{writes_to, is_written, IsCall, AreCalls, AreSources}, declared.call.Call.{Call}}}

other_call : (calls : List Call) (used k : ℕ) (call : Call) → k ≢ used → k < length calls → slice_get (set calls used call) k ≡ slice_get calls k
other_call calls used k call other inside =
    slice_get-get_or (set calls used call) k call (omega (arith, inside, length-set calls used call))
    ∙ ap Some (get_or-set_other calls used k call call other)
    ∙ sym (slice_get-get_or calls k call inside)

this_call : (calls : List Call) (used : ℕ) (call : Call) → used < length calls → slice_get (set calls used call) used ≡ Some call
this_call calls used call room = slice_get-get_or (set calls used call) used call (omega (arith, room, length-set calls used call)) ∙ ap Some (get_or-set_same calls used call call room)

-- plans with the same first calls
module _ (calls calls' : List Call) (used : ℕ) (same_calls : (k : ℕ) → k < used → slice_get calls' k ≡ slice_get calls k) where
  pub alike_sources : (pages : ℕ → List ℕ) → AreSources pages calls used → AreSources pages calls' used
  alike_sources pages are = record {
    lent = λ k call lt is. are.lent k call lt (sym (same_calls k lt) ∙ is);
    unwritten = λ k call lt is copies i less. alike_written calls calls' used same_calls k (call.from + i) (omega (arith, lt))
        ∙ are.unwritten k call lt (sym (same_calls k lt) ∙ is) copies i less;
  }

-- a call put behind those that are listed
module _ (calls : List Call) (used : ℕ) (call : Call) (room : used < length calls) where
  same_before : (k : ℕ) → k < used → slice_get (set calls used call) k ≡ slice_get calls k
  same_before k lt = other_call calls used k call (omega (arith, lt)) (omega (arith, lt, room))

  pub behind_written : (n : ℕ) → is_written (set calls used call) 0 used n ≡ is_written calls 0 used n
  behind_written n = alike_written calls (set calls used call) used same_before used n (omega arith)

  pub all_behind : (sectors : ℕ) → AreCalls sectors calls used → AreCalls sectors (set calls used call) used
  all_behind sectors all k other lt is = all k other lt (sym (same_before k lt) ∙ is)

  pub sources_behind : (pages : ℕ → List ℕ) → AreSources pages calls used → AreSources pages (set calls used call) used
  sources_behind = alike_sources calls (set calls used call) used same_before

  -- and listed
  is_this : (other : Call) → slice_get (set calls used call) used ≡ Some other → call ≡ other
  is_this other is = same_Some call other (sym (this_call calls used call room) ∙ is)

  pub all_listed : (sectors : ℕ) → AreCalls sectors calls used → IsCall sectors call → AreCalls sectors (set calls used call) (used + 1)
  all_listed sectors all one k other lt is = ⊎_elim
      (λ last. subst (λ (d : Call). IsCall sectors d) (is_this other (ap (slice_get (set calls used call)) (sym last) ∙ is)) one)
      (λ before. all_behind sectors all k other (omega (arith, lt, before)) is)
      (cases_eq k used)

  pub sources_listed : (pages : ℕ → List ℕ) (low high : ℕ) → AreSources pages calls used → ((n : ℕ) → low ≤ n → n < high → is_written calls 0 used n ≡ false)
      → (call.kind ≡ 3 → length (pages call.from) ≡ 4096) → (call.kind ≡ 4 → (low ≤ call.from) × (call.from + 8 ≤ high)) → AreSources pages (set calls used call) (used + 1)
  sources_listed pages low high are between lent unwritten = record {
    lent = λ k other lt is. ⊎_elim
        (λ last. subst (λ (d : Call). d.kind ≡ 3 → length (pages d.from) ≡ 4096) (is_this other (ap (slice_get (set calls used call)) (sym last) ∙ is)) lent)
        (λ before. (sources_behind pages are).lent k other (omega (arith, lt, before)) is)
        (cases_eq k used);
    unwritten = λ k other lt is. ⊎_elim
        (λ last. subst (λ (d : Call). d.kind ≡ 4 → (i : ℕ) → i < 8 → is_written (set calls used call) 0 k (d.from + i) ≡ false) (is_this other (ap (slice_get (set calls used call)) (sym last) ∙ is))
        (λ copies i less. ap (λ (j : ℕ). is_written (set calls used call) 0 j (call.from + i)) last ∙ behind_written (call.from + i)
        ∙ (let within = unwritten copies in between (call.from + i) (omega (arith, within.0)) (omega (arith, less, within.1)))))
        (λ before. (sources_behind pages are).unwritten k other (omega (arith, lt, before)) is)
        (cases_eq k used);
  }

  -- a sector that no call writes is still not written with a call more that doesn't write it
  pub still_untouched : (n : ℕ) → is_written calls 0 used n ≡ false → writes_to (Some call) n ≡ false → is_written (set calls used call) 0 (used + 1) n ≡ false
  still_untouched n before not =
      let e : used + 1 ≡ suc used = omega arith in
      let z : 0 + used ≡ used = omega arith in
      rw (e, z) (ap (λ o. writes_to o n || is_written (set calls used call) 0 used n) (this_call calls used call room)
      ∙ ap (λ (b : Bool). b || is_written (set calls used call) 0 used n) not ∙ behind_written n ∙ before)

  -- with its row, where it has one
  pub listed : (rows : List (List ℕ)) (bytes kept : List ℕ) → used < length rows → (call.kind ≡ 1 → kept ≡ bytes)
      → Lists calls (set calls used call) rows (set rows used kept) used (used + 1) call bytes
  listed rows bytes kept rows_room keeps = record {
    more = omega arith;
    call_here = this_call calls used call room;
    row_here = λ one. get_or-set_same rows used kept [] rows_room ∙ keeps one;
    calls_before = same_before;
    rows_before = λ k lt. get_or-set_other rows used k kept [] (omega (arith, lt));
  }

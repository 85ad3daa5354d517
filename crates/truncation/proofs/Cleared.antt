-- Pages of processes over pages of a file past a length are cleared: a row, a run, a process.
use Rattle.vm_types.specs.declared.mode.Levels as Levels
use Rattle.std.proofs.Common.{◌≡◌, ℕ, ◌+◌, ◌-◌, ◌<◌, ◌≤◌, inl, inr, ◌⊎◌, true, false, Option, Some, None, refl, sym, ap, ◌∙◌, subst, arith}
use Rattle.std.proofs.lemmas.Bool.{false≢true, cases_Bool, cases_eq, cases_lt}
use Rattle.std.specs.Prelude.{is_some}
use Rattle.vm_types.{specs.{Limits.{top_level, user_start, user_end}, Rows.{in_row}}}
use Rattle.regions.specs.declared.run.Run.{Run}
use Rattle.page_tables.specs.Tree.{IsPage}
use Rattle.residency.proofs.Start.{entry-dead, cases_some}
use Rattle.residency.specs.{declared.kernel.Core.{Core}, Picture.{Picture, picture_of, is_live, entry}, Parts.{IsFit, IsGranting}}
use Rattle.ranges.proofs.{Emptied.{in_row_from, row_parts}, ClearedPages.{rest-refl, rest_then}}
use Rattle.ranges.specs.{RowsCleared.{ClearsRow}}
use Rattle.truncation.proofs.{Past.{unmapped_past, mapped_some}, Taken.{maps-refl, maps_then, key-refl, key_then, takes-refl, takes_then, row_keys, row_takes}}
use Rattle.truncation.specs.{Cuts.{is_mapped_past}, Steps.{KeepsPage, LosesEntry, ClearsSome, ClearsMore, ClearsIn, ClearsPast, IsBareIn, IsRunOf, IsFirstPast, is_run_past}}

module _ {mode : ℕ} (file length : ℕ) where
  pub clears-refl : (c : Picture mode) → ClearsSome c c file length
  clears-refl c = record { pages = λ q k h. inl (refl, refl); keys = key-refl c; maps = maps-refl c; takes = takes-refl c }

  pub clears_then : (a b c : Picture mode) → ClearsSome a b file length → ClearsSome b c file length → ClearsSome a c file length
  clears_then a b c one two = record {
    pages = λ q k h. elim (two.pages q k h) [
      | inr lost ↦ inr (ap (λ x. is_mapped_past file length x) (sym (one.maps.at q k)) ∙ lost.0, lost.1)
      | inl kept ↦ elim (one.pages q k h) [ inl same ↦ inl (kept.0 ∙ same.0, kept.1 ∙ same.1) | inr lost ↦ inr (lost.0, kept.0 ∙ lost.1) ]
    ];
    keys = λ p. key_then a b c p (one.keys p) (two.keys p);
    maps = maps_then a b c one.maps two.maps;
    takes = takes_then a b c one.takes two.takes;
  }

  -- what has no entry gets none
  pub stays_bare : (a b : Picture mode) → ClearsSome a b file length → (q k : ℕ) → IsPage (top_level mode) k → entry a q k ≡ 0 → entry b q k ≡ 0
  stays_bare a b some q k h none = elim (some.pages q k h) [ inl kept ↦ kept.0 ∙ none | inr lost ↦ lost.1 ]

  past_before : (a b : Picture mode) → ClearsSome a b file length → (q k : ℕ) → is_mapped_past file length (b.at q k) ≡ true → is_mapped_past file length (a.at q k) ≡ true
  past_before a b some q k is = ap (λ x. is_mapped_past file length x) (sym (some.maps.at q k)) ∙ is

  pub bare_on : (a b : Picture mode) (pid low high : ℕ) → ClearsSome a b file length → IsBareIn a file length pid low high → IsBareIn b file length pid low high
  bare_on a b pid low high some bare k h from below is = stays_bare a b some pid k h (bare k h from below (past_before a b some pid k is))

  -- pages that aren't mapped are passed, and those behind are looked at
  pub bare_then : (a b : Picture mode) (pid low from first stop : ℕ) → ClearsSome a b file length → IsBareIn a file length pid low from → ((k : ℕ) → from ≤ k → k < first → a.at pid k ≡ None)
      → IsBareIn b file length pid first stop → IsBareIn b file length pid low stop
  bare_then a b pid low from first stop some bare gap next k h least below is = elim (cases_lt k from) [
    | inl passed ↦ bare_on a b pid low from some bare k h least passed is
    | inr late ↦ elim (cases_lt k first) [
      | inl between ↦ absurd (false≢true (sym (unmapped_past file length (b.at pid k) (some.maps.at pid k ∙ gap k late between)) ∙ is))
      | inr within ↦ next k h within below is
    ]
  ]

  -- only user pages are mapped
  pub bare_user : (c : Picture mode) (pid : ℕ) → IsGranting c → IsBareIn c file length pid user_start (user_end mode) → (k : ℕ) → IsPage (top_level mode) k → is_mapped_past file length (c.at pid k) ≡ true → entry c pid k ≡ 0
  bare_user c pid granting bare k h is = let user = (granting.user pid).user_pages k (mapped_some file length (c.at pid k) is) in bare k h user.0 user.1 is

  pub bare_dead : (c : Picture mode) (pid low high : ℕ) → c.root pid ≡ None → IsBareIn c file length pid low high
  bare_dead c pid low high dead k h from below is = entry-dead c pid k dead

  -- one process more was looked at
  pub bare_next : (a b : Picture mode) (number : ℕ) → ClearsSome a b file length → IsGranting b → ((q k : ℕ) → IsPage (top_level mode) k → q < number → is_mapped_past file length (a.at q k) ≡ true → entry a q k ≡ 0)
      → IsBareIn b file length number user_start (user_end mode) → (q k : ℕ) → IsPage (top_level mode) k → q < number + 1 → is_mapped_past file length (b.at q k) ≡ true → entry b q k ≡ 0
  bare_next a b number some granting before bare q k h below is = elim (cases_eq q number) [
    | inr ne ↦ stays_bare a b some q k h (before q k h (omega (arith, below, ne)) (past_before a b some q k is))
    | inl same ↦ ap (λ x. entry b x k) same ∙ bare_user b number granting bare k h (ap (λ x. is_mapped_past file length (b.at x k)) (sym same) ∙ is)
  ]

no_root : (o : Option ℕ) → is_some o ≡ false → o ≡ None
no_root None dead = refl
no_root (Some r) dead = absurd (false≢true (sym dead))

-- no process has a number past the last
beyond : {mode : ℕ} (c : Picture mode) → IsFit c → (q : ℕ) → 65 ≤ q → c.root q ≡ None
beyond c fit q high = elim (cases_some (c.root q)) [
  | inl none ↦ none
  | inr some ↦ absurd (let number = (fit.rooted.numbers q some.0 some.1).1 in omega (arith, number, high))
]

-- and none has number 0
pub first_dead : {mode : ℕ} (c : Picture mode) → IsFit c → (q : ℕ) → q < 1 → c.root q ≡ None
first_dead c fit q low = elim (cases_some (c.root q)) [
  | inl none ↦ none
  | inr some ↦ absurd (let number = (fit.rooted.numbers q some.0 some.1).0 in omega (arith, number, low))
]

module _ {M : Type 0} {m : Levels.Ghosts M} {D E : Type 0} (file length : ℕ) where
  pub more-refl : (c : Core D E M m) → IsFit (picture_of c) → ClearsMore c c file length
  more-refl c fit = record { some = clears-refl file length (picture_of c); fit = fit; rest = rest-refl c; refused = refl }

  pub more_then : (a b c : Core D E M m) → ClearsMore a b file length → ClearsMore b c file length → ClearsMore a c file length
  more_then a b c one two = record {
    some = clears_then file length (picture_of a) (picture_of b) (picture_of c) one.some two.some;
    fit = two.fit;
    rest = rest_then a b c one.rest two.rest;
    refused = two.refused ∙ one.refused;
  }

  -- a row of pages over such pages was cleared
  pub more_row : (a b : Core D E M m) (pid first pages : ℕ) → IsFit (picture_of a) → ((k : ℕ) → in_row first pages k ≡ true → is_mapped_past file length ((picture_of a).at pid k) ≡ true)
      → ClearsRow a b pid first pages → ClearsMore a b file length
  more_row a b pid first pages fit past clears = record {
    some = record {
      pages = λ q k h. elim (cases_eq q pid) [
        | inr ne ↦ inl (clears.others q k h ne, clears.row.others q k ne)
        | inl same ↦ subst (λ (x : ℕ). KeepsPage (picture_of a) (picture_of b) x k ⊎ LosesEntry (picture_of a) (picture_of b) file length x k) (sym same) (here k h)
      ];
      keys = row_keys a b pid first pages fit clears;
      maps = record {
        root = clears.row.root;
        at = λ q k. elim (cases_eq q pid) [
          | inr ne ↦ clears.row.others_at q k ne
          | inl same ↦ ap (λ x. (picture_of b).at x k) same ∙ clears.row.at k ∙ ap (λ x. (picture_of a).at x k) (sym same)
        ];
        files = clears.files.files;
      };
      takes = row_takes a b pid first pages fit clears;
    };
    fit = clears.fit;
    rest = clears.rest;
    refused = clears.refused;
  } where
    here : (k : ℕ) → IsPage (top_level m.mode) k → KeepsPage (picture_of a) (picture_of b) pid k ⊎ LosesEntry (picture_of a) (picture_of b) file length pid k
    here k h = elim (cases_Bool (in_row first pages k)) [
      | inl inside ↦ inr (past k inside, clears.row.entries k inside)
      | inr out ↦ inl (clears.row.kept k h out, (let seen = clears.row.views k in rw out at seen))
    ]

  -- the pages of a run from the first on that stands on such a page were cleared
  pub run_cleared : (a b : Core D E M m) (pid : ℕ) (run : Run) (first : ℕ) → IsRunOf (picture_of a) pid run → IsFirstPast run file length first → ClearsRow a b pid first (run.end - first)
      → ClearsIn a b file length pid run.first run.end
  run_cleared a b pid run first of at clears = record { more = more; bare = bare } where
    end : first + (run.end - first) ≡ run.end
    end = omega (arith, at.within)

    more : ClearsMore a b file length
    more = more_row a b pid first (run.end - first) of.fit (λ k inside. (
        let parts = row_parts first (run.end - first) k inside in
        ap (λ x. is_mapped_past file length x) (of.mapped k (omega (arith, at.from, parts)) (omega (arith, parts, end))) ∙ at.past k parts.0 (omega (arith, parts, end)))) clears

    bare : IsBareIn (picture_of b) file length pid run.first run.end
    bare k h from below is = elim (cases_lt k first) [
      | inr late ↦ clears.row.entries k (in_row_from first (run.end - first) k late (omega (arith, below, end)))
      | inl early ↦ absurd (false≢true (sym (ap (λ x. is_mapped_past file length x) (more.some.maps.at pid k ∙ of.mapped k from below) ∙ at.before k from early) ∙ is))
    ]

  -- none of a run stands on such a page
  pub run_kept : (a : Core D E M m) (pid : ℕ) (run : Run) → IsRunOf (picture_of a) pid run → ((k : ℕ) → run.first ≤ k → k < run.end → is_run_past run file length k ≡ false)
      → ClearsIn a a file length pid run.first run.end
  run_kept a pid run of none = record {
    more = more-refl a of.fit;
    bare = λ k h from below is. absurd (false≢true (sym (ap (λ x. is_mapped_past file length x) (of.mapped k from below) ∙ none k from below) ∙ is));
  }

  -- a run more of a process was looked at
  pub process_starts : (a : Core D E M m) (pid low : ℕ) → IsFit (picture_of a) → ClearsIn a a file length pid low low
  process_starts a pid low fit = record { more = more-refl a fit; bare = λ k h from below is. absurd (omega (arith, from, below)) }

  pub process_on : (a b c : Core D E M m) (pid low from first stop : ℕ) → ClearsIn a b file length pid low from → ((k : ℕ) → from ≤ k → k < first → (picture_of b).at pid k ≡ None) → ClearsIn b c file length pid first stop
      → ClearsIn a c file length pid low stop
  process_on a b c pid low from first stop done gap next = record {
    more = more_then a b c done.more next.more;
    bare = bare_then file length (picture_of b) (picture_of c) pid low from first stop next.more.some done.bare gap next.bare;
  }

  pub process_ends : (a b : Core D E M m) (pid low from stop : ℕ) → ClearsIn a b file length pid low from → ((k : ℕ) → from ≤ k → (picture_of b).at pid k ≡ None) → ClearsIn a b file length pid low stop
  process_ends a b pid low from stop done none = record {
    more = done.more;
    bare = λ k h least below is. elim (cases_lt k from) [
      | inl passed ↦ done.bare k h least passed is
      | inr late ↦ absurd (false≢true (sym (unmapped_past file length ((picture_of b).at pid k) (none k late)) ∙ is))
    ];
  }

  -- a process that doesn't live has no entries
  pub process_dead : (a : Core D E M m) (pid low high : ℕ) → IsFit (picture_of a) → is_live (picture_of a) pid ≡ false → ClearsIn a a file length pid low high
  process_dead a pid low high fit dead = record { more = more-refl a fit; bare = bare_dead file length (picture_of a) pid low high (no_root ((picture_of a).root pid) dead) }

  -- all processes were looked at
  pub all_cleared : (a b : Core D E M m) → ClearsMore a b file length → ((q k : ℕ) → IsPage (top_level m.mode) k → q < 65 → is_mapped_past file length ((picture_of b).at q k) ≡ true → entry (picture_of b) q k ≡ 0)
      → ClearsPast a b file length
  all_cleared a b more bare = record {
    more = more;
    bare = λ q k h is. elim (cases_lt q 65) [
      | inl low ↦ bare q k h low is
      | inr high ↦ entry-dead (picture_of b) q k (beyond (picture_of b) more.fit q high)
    ];
  }

-- Tables without entries given back.
use Rattle.vm_types.specs.declared.mode.Levels as Levels
use Rattle.ranges.proofs.Names.{top_level, Attr, ◌≡◌, ◌≢◌, ℕ, suc, inl, inr, ◌⊎◌, ◌+◌, ◌-◌, ◌*◌, ◌/◌, ◌^◌, ◌<◌, ◌≤◌, Option, Some, refl, sym, ap, ◌∙◌, subst, arith, cases_lt, same_Some, IsSome, max, min, Role, Free, Zero, Table, Private}
use Rattle.ranges.proofs.Names.{Cache, FrameTable, IsFrame, role_of, IsSound, index_of, IsPage, IsTable, IsForest, IsRoot, last_table, Way, IsBelowRoot, missing_of, page_entry, Prunes, IsPruned, free_is_no_table, ends, only_way}
use Rattle.ranges.proofs.Names.{missing_of-is, stay_way, still_used, SlotTable, Seat, seat, Picture, entry, bytes_in, IsOwned, IsEntryFor, Nothing, Resident, Away, IsUsed, AsRoot, OnWay, IsMapped, IsRootedBut, IsFit}
use Rattle.ranges.proofs.Names.{nowhere, SameBeside, KeepsShares, entries_kept, entry-of, fit_same, used_kept, rooted_by, bytes_same, used_inside, Core, picture_of, view_seated, each_view, held_same}
use Rattle.ranges.specs.{RowsCleared.{IsPartOf, ClearsNext}, Steps.{KeepsBesideMemory, IsBeside, SameTables, Clears, IsMappedBeside, IsWithoutTables, IsCleared}}
use Rattle.ranges.proofs.{ClearedPages.{but_memory, but_then, by_row, clears_none, not_beside, returned_then}, Gaps.{gap_none, in_span_of, step_gap, user_inside}, Linked.{own_past}, Sharing.{private_data, cache_data}}

cases_table : (r : Role) → (r ≡ Table) ⊎ (r ≢ Table)
cases_table Table = inl refl
cases_table r = inr (λ e. (cc))

table_inside : (t : FrameTable) (n : ℕ) → IsSound t → role_of t n ≡ Table → IsFrame t n
table_inside t n sound table = used_inside t n sound (λ f. (let bad : Free ≡ Table = sym f ∙ table in (cc)))

table_gone : (old new : FrameTable) (top root page n : ℕ) → IsSound old → Prunes old new top root page → role_of old n ≡ Table → (role_of new n ≡ Table) ⊎ (role_of new n ≡ Free)
table_gone old new top root page n sound prunes t = elim (prunes.gone n (record { inside = table_inside old n sound t; role = t })) [
  | inl now ↦ inl now.role
  | inr free ↦ inr free.0
]

shares_pruned : (old new : FrameTable) (top root page : ℕ) → IsSound old → Prunes old new top root page → KeepsShares old new
shares_pruned old new top root page sound prunes =
    let same : (n : ℕ) → (role_of old n ≡ Table → ⊥) → role_of new n ≡ role_of old n = prunes.kept.roles in
    let role_was : (n : ℕ) (r : Role) → r ≢ Free → r ≢ Table → role_of new n ≡ r → role_of old n ≡ r = λ n r used other e. elim (cases_table (role_of old n)) [
      | inl t ↦ elim (table_gone old new top root page n sound prunes t) [ inl now ↦ absurd (other (sym e ∙ now)) | inr free ↦ absurd (used (sym e ∙ free)) ]
      | inr ne ↦ sym (same n ne) ∙ e
    ] in
    record {
      private = λ n e. same n (λ t. (let bad : Private ≡ Table = sym e ∙ t in (cc))) ∙ e;
      was_private = λ n e. role_was n Private (λ b. (cc)) (λ b. (cc)) e;
      cache = λ n e. same n (λ t. (let bad : Cache ≡ Table = sym e ∙ t in (cc))) ∙ e;
      was_cache = λ n e. role_was n Cache (λ b. (cc)) (λ b. (cc)) e;
      counts = λ n e. prunes.kept.counts n (λ t. (let bad : Private ≡ Table = sym e ∙ t in (cc)));
    }

-- where all tables but the root are missing none is left without entries
pub root_pruned : (t : FrameTable) (top r page : ℕ) → IsForest t → IsTable t r → missing_of t top r page ≡ top → IsPruned t top r page
root_pruned t top r page forest table all =
    let none : top - (last_table t page top r).0 ≡ 0 = (let e = sym (missing_of-is t top r page) ∙ all in omega (arith, e)) in
    record { last = inl (subst (λ (x : ℕ). Way t top r page x ((last_table t page top r).1)) none (ends t top r page forest table).way) }

mapped_still : {mode : ℕ} (old new : Picture mode) → SameBeside old new → (q p : ℕ) → IsMapped old q p → IsMapped new q p
mapped_still old new beside q p some = subst (λ (x : Option Attr). IsSome x) (sym (beside.at q p)) some

some_mapped : {mode : ℕ} (c : Picture mode) (o : Option Attr) (e : ℕ) → IsEntryFor c o e → e ≢ 0 → IsSome o
some_mapped c o e (Nothing none) some = absurd (some none)
some_mapped c o e (Resident a is resident) some = subst (λ (x : Option Attr). IsSome x) (sym is) refl
some_mapped c o e (Away a is away) some = subst (λ (x : Option Attr). IsSome x) (sym is) refl

-- tables without entries were given back, on the way to the page `start`
module _ {mode : ℕ} (old new : Picture mode) (pid r start : ℕ) (fit : IsFit old) (sound : IsSound old.frames) (root : old.root pid ≡ Some r)
    (prunes : Prunes old.frames new.frames (top_level mode) r start) (beside : SameBeside old new) where
  is_root : IsRoot (top_level mode) old.frames r
  is_root = fit.rooted.roots pid r root

  -- a table that stays is on the ways that it was on, and is used as it was
  way_stays : (x p m : ℕ) → IsTable new.frames m → IsBelowRoot old.frames (top_level mode) x p m → IsBelowRoot new.frames (top_level mode) x p m
  way_stays x p m table below = (below.0, below.1, stay_way old.frames new.frames (top_level mode) r start fit.rooted.forest prunes x p (suc below.0) m table below.2)

  used_stays : (mapped mapped' : ℕ → ℕ → Type 0) (m : ℕ) → IsTable new.frames m → ((q p : ℕ) → mapped q p → mapped' q p) → IsUsed old mapped m → IsUsed new mapped' m
  used_stays mapped mapped' m table maps (AsRoot q is) = AsRoot q (beside.root q ∙ is)
  used_stays mapped mapped' m table maps (OnWay q x p is here below) =
      OnWay q x p (beside.root q ∙ is) (maps q p here) (way_stays x p m table below)

  rooted_pruned : IsRootedBut new 0
  rooted_pruned = rooted_by old new 0 0 fit.rooted beside.root prunes.forest (λ q x e. prunes.roots x (fit.rooted.roots q x e)) (λ m table. elim (fit.rooted.used m (prunes.kept.tables m table)) [
    | inl z ↦ inl z
    | inr o ↦ inr (used_stays (IsMapped old) (IsMapped new) m table (mapped_still old new beside) o)
  ])

  pub same_pruned : (q p : ℕ) → entry new q p ≡ entry old q p
  same_pruned = entries_kept old new 0 fit.rooted prunes.entries beside.root

  shares : KeepsShares old.frames new.frames
  shares = shares_pruned old.frames new.frames (top_level mode) r start sound prunes

  pub fit_pruned : IsFit new
  fit_pruned = fit_same old new nowhere 0 0 0 fit beside shares (λ q p h. same_pruned q p) rooted_pruned

  seat_bytes : (z : Seat) → IsOwned old z → bytes_in new.frames new.slots z ≡ bytes_in old.frames old.slots z
  seat_bytes = bytes_same old new beside.slots (λ n is. prunes.kept.bytes n (private_data (role_of old.frames n) is))

  -- pages that had lost their entries before have none after it
  pub clears_pruned : (first : Picture mode) (low high : ℕ) → low ≤ start → start < high → Clears first old pid low high → Clears first new pid low high
  clears_pruned first low high le lt clears = record {
    beside = but_then first old new clears.beside (but_memory old new beside);
    returned = returned_then first old new pid low high clears.beside clears.returned (record {
      tables = λ n table. elim (prunes.gone n table) [ inl still ↦ inl still | inr gone ↦ inr (gone.0, (r, start, root, gone.1, le, lt)) ];
      free = λ n e. prunes.kept.roles n (free_is_no_table (role_of old.frames n) e) ∙ e;
      copies = shares.was_private;
      pointers = prunes.pointers;
    });
    slots = record {
      total = ap (λ t. t.total) beside.slots ∙ clears.slots.total;
      fewer = subst (λ (t : SlotTable). (k : ℕ) → t.count k ≤ first.slots.count k) (sym beside.slots) clears.slots.fewer;
      given = λ k page h least below is. ap (λ t. t.count k + 1) beside.slots ∙ clears.slots.given k page h least below is;
      kept = λ k other. ap (λ t. t.count k) beside.slots ∙ clears.slots.kept k other;
      bytes = subst (λ (t : SlotTable). (k : ℕ) → 0 < t.count k → t.bytes k ≡ first.slots.bytes k) (sym beside.slots) clears.slots.bytes;
    };
    gone = λ p h least below. same_pruned pid p ∙ clears.gone p h least below;
    kept = λ q p h out. same_pruned q p ∙ clears.kept q p h out;
    views = λ q p out. each_view old new fit.granting beside.at q p (λ h. view_seated old new q p (beside.at q p) (ap seat (same_pruned q p))
        (λ z is. seat_bytes z (fit.counted.1.named q p z h is))) ∙ clears.views q p out;
    held = λ p. held_same old new p (beside.place p) beside.slots (λ n at. prunes.kept.bytes n (cache_data (role_of old.frames n) (fit.places.cached p n at))) ∙ clears.held p;
  }

  -- where the pages from low on, as far as `start`, were cleared before, and those from there on have no entries
  module _ (low stop : ℕ) (le : low ≤ start) (cleared : IsCleared old pid low start) (none : (page : ℕ) → IsPage (top_level mode) page → start ≤ page → page < stop → entry old pid page ≡ 0) where
    none_now : (page : ℕ) → IsPage (top_level mode) page → low ≤ page → page < stop → entry new pid page ≡ 0
    none_now page h least below = elim (cases_lt page start) [
      | inl front ↦ same_pruned pid page ∙ cleared.none page h least front
      | inr back ↦ same_pruned pid page ∙ none page h back below
    ]

    beside_now : (p : ℕ) → IsPage (top_level mode) p → entry new pid p ≢ 0 → IsBeside pid low stop pid p
    beside_now p h some = elim (by_row pid low stop pid p) [ inl out ↦ out | inr inside ↦ absurd (some (none_now p h inside.1 inside.2)) ]

    some_now : (p : ℕ) → IsPage (top_level mode) p → entry new pid p ≢ 0 → IsMappedBeside new pid low stop pid p
    some_now p h some = (some_mapped new (new.at pid p) (entry new pid p) (fit_pruned.granting.entries pid p h) some, beside_now p h some)

    -- a page of another process, or of none of those that were cleared now
    kept_page : (q p : ℕ) → IsMappedBeside old pid low start q p → IsMappedBeside new pid low stop q p ⊎ ((q ≡ pid) × (start ≤ p) × (p < stop))
    kept_page q p here = elim (by_row pid low stop q p) [
      | inl out ↦ inl (mapped_still old new beside q p here.0, out)
      | inr inside ↦ elim (cases_lt p start) [
        | inl before ↦ absurd (not_beside pid low start q p here.1 inside.0 inside.1 before)
        | inr from ↦ inr (inside.0, from, inside.2)
      ]
    ]

    -- a table below the root is on the way to a page that isn't cleared before
    needed_before : (m p d : ℕ) → d < top_level mode → Way old.frames (top_level mode) r p (suc d) m
        → (q : ℕ) × IsMappedBeside old pid low start pid q × IsBelowRoot old.frames (top_level mode) r q m
    needed_before m p d below w = by_use (cleared.tables m (fit.rooted.forest.onto_tables w.0 (index_of p (top_level mode - d)) m w.2))
      where
        by_use : IsUsed old (IsMappedBeside old pid low start) m → (q : ℕ) × IsMappedBeside old pid low start pid q × IsBelowRoot old.frames (top_level mode) r q m
        by_use (AsRoot q is) = absurd ((fit.rooted.roots q m is).unlinked w.0 (index_of p (top_level mode - d)) w.2)
        by_use (OnWay q x k is here under) =
            let one = only_way old.frames (top_level mode) fit.rooted.forest r p x k is_root.unlinked (fit.rooted.roots q x is).unlinked (suc d) (suc under.0) m w under.2 in
            let mine : old.root q ≡ Some r = is ∙ ap (λ y. Some y) (sym one.1) in
            let who : q ≡ pid = fit.rooted.apart q pid r mine root in
            (k, subst (λ (y : ℕ). IsMappedBeside old pid low start y k) who here, subst (λ (y : ℕ). IsBelowRoot old.frames (top_level mode) y k m) (sym one.1) under)

    -- the pages that are cleared now lie in one block, those of a lowest table, or those in the place of a missing one
    module _ (pruned : IsPruned new.frames (top_level mode) r start) (inside : IsPage (top_level mode) start)
        (e : ℕ) (positive : 0 < e) (size : (e ≡ 1) ⊎ (e ≡ missing_of old.frames (top_level mode) r start))
        (one_table : (p : ℕ) → start ≤ p → p < stop → p / 512 ^ e ≡ start / 512 ^ e) where
      block : (p : ℕ) → IsMappedBeside old pid low start pid p → IsMappedBeside new pid low stop pid p ⊎ (p / 512 ^ e ≡ start / 512 ^ e)
      block p here = elim (kept_page pid p here) [ inl after ↦ inl after | inr between ↦ inr (one_table p between.1 between.2) ]

      entry_new : (p : ℕ) → entry new pid p ≡ page_entry new.frames (top_level mode) r p
      entry_new p = entry-of new pid r p (beside.root pid ∙ root)

      tables_block : IsWithoutTables new pid low stop
      tables_block m table = by_use (cleared.tables m (prunes.kept.tables m table))
        where
          by_use : IsUsed old (IsMappedBeside old pid low start) m → IsUsed new (IsMappedBeside new pid low stop) m
          by_use (AsRoot q is) = AsRoot q (beside.root q ∙ is)
          by_use (OnWay q x p is here below) = elim (kept_page q p here) [
            | inl after ↦ OnWay q x p (beside.root q ∙ is) after (way_stays x p m table below)
            | inr between ↦ (
                let who : old.root pid ≡ Some x = ap old.root (sym between.0) ∙ is in
                let same : Some x ≡ Some r = sym who ∙ root in
                let mine : x ≡ r = (cc) in
                let W : ℕ → Type 0 = λ y. Way old.frames (top_level mode) y p (suc below.0) m in
                let Q : ℕ → Type 0 = λ y. IsMappedBeside old pid low start y p in
                let left = still_used (top_level mode) old.frames new.frames r start fit.rooted.forest is_root prunes pruned inside e positive size (IsMappedBeside old pid low start pid) (IsMappedBeside new pid low stop pid) block
                (λ k h some. some_now k h (λ none'. some (sym (entry_new k) ∙ none'))) needed_before m p below.0 below.1 table (subst Q between.0 here) (subst W mine below.2) in
                OnWay pid r left.0 (beside.root pid ∙ root) left.1 left.2)
          ]

      pub cleared_block : IsCleared new pid low stop
      cleared_block = record { none = none_now; tables = tables_block }

-- k tables are missing on the way to the first page of a step, and those above them that had no entries were given back
module _ {M : Type 0} {m : Levels.Ghosts M} {D E : Type 0} (was now : Core D E M m) (pid r start end stop gap k : ℕ) (part : IsPartOf (picture_of was) pid start end) (root : (picture_of was).root pid ≡ Some r)
    (prunes : Prunes was.frames now.frames (top_level m.mode) r start) (beside : SameBeside (picture_of was) (picture_of now)) (pruned : IsPruned now.frames (top_level m.mode) r start)
    (missing : missing_of was.frames (top_level m.mode) r start ≡ k) (lacks : k ≢ 0) (at : gap ≡ (start / 512 ^ k + 1) * 512 ^ k) (is : stop ≡ min end gap) where
  abbrev old : Picture m.mode
  old = picture_of was

  abbrev new : Picture m.mode
  new = picture_of now

  in_span : (p : ℕ) → start ≤ p → p < stop → p / 512 ^ k ≡ start / 512 ^ k
  in_span p from below = in_span_of start p stop gap k from below (omega (arith, is)) at

  none_there : (p : ℕ) → IsPage (top_level m.mode) p → start ≤ p → p < stop → entry old pid p ≡ 0
  none_there p h from below = gap_none old pid r root k start p missing lacks (sym (in_span p from below))

  some_passed : start < stop
  some_passed = let past = own_past start gap k at in omega (arith, part.some, past, is)

  pub passes_missing : KeepsBesideMemory was now → now.refused ≡ was.refused → ClearsNext was now pid start end stop
  passes_missing rest refused = record {
    cleans = record {
      pages = record {
        clears = clears_pruned old new pid r start part.fit was.sound root prunes beside old start stop (omega arith) some_passed (clears_none old pid start stop none_there);
        fit = fit_pruned old new pid r start part.fit was.sound root prunes beside;
        rest = rest;
        refused = refused;
      };
      cleared = λ low le cleared. cleared_block old new pid r start part.fit was.sound root prunes beside low stop le cleared none_there pruned
          (user_inside m.mode start end part.some part.high) k (omega (arith, lacks)) (inr (sym missing)) in_span;
    };
    further = some_passed;
    within = omega (arith, is);
    ends = λ x lives. (
        let same = ap (λ y. missing_of was.frames (top_level m.mode) y start) (sym (same_Some r x (sym root ∙ lives))) ∙ missing in
        subst (λ (n : ℕ). stop ≡ min end ((start / 512 ^ max 1 n + 1) * 512 ^ max 1 n)) (sym same) (step_gap start end stop gap k lacks at is));
  }

-- no page was cleared yet
pub cleared_none : {mode : ℕ} (c : Picture mode) (pid page : ℕ) → IsFit c → IsSound c.frames → IsCleared c pid page page
cleared_none c pid page fit sound = record {
  none = λ k h least below. absurd (omega (arith, least, below));
  tables = λ m table. elim (fit.rooted.used m table) [
    | inl z ↦ (let bad : Zero ≡ Table = sym sound.zero_role ∙ ap (role_of c.frames) (sym z) ∙ table.role in (cc))
    | inr o ↦ used_kept c c (IsMapped c) (IsMappedBeside c pid page page) m (λ a i b p. p) (λ q. refl) (λ q k some. (
      some,
      elim (by_row pid page page q k) [ inl out ↦ out | inr inside ↦ absurd (omega (arith, inside)) ],
    )) o
  ];
}

-- pages that were cleared before stay so while those from `start` on are
pub cleared_still : {mode : ℕ} (a b : Picture mode) (pid low start stop : ℕ) → Clears a b pid start stop → SameTables a.frames b.frames → IsCleared a pid low start → IsCleared b pid low start
cleared_still a b pid low start stop clears same cleared = record {
  none = λ k h least below. clears.kept pid k h (inr (inl below)) ∙ cleared.none k h least below;
  tables = λ m table. used_kept a b (IsMappedBeside a pid low start) (IsMappedBeside b pid low start) m (λ x i y p. (same.pointers x i y).0 p) clears.beside.root
      (λ q k here. ((subst (λ (o : Option Attr). IsSome o) (sym (clears.beside.at q k)) here.0), here.1)) (cleared.tables m ((same.tables m).1 table));
}

-- A fork that stalls: what it took of memory is given back.
use Rattle.vm_types.specs.declared.mode.Levels as Levels
use Rattle.lifecycle.proofs.Names.{top_level, user_end, PageKey, Object, Stall, ◌≡◌, ◌≢◌, ℕ, suc, inl, inr, ◌⊎◌, ◌+◌, Option, Some, None, refl, sym, ap, ◌∙◌, subst, arith, cases_eq, Role, Free, Zero, Table, Private, Cache, role_of}
use Rattle.lifecycle.proofs.Names.{count_of, IsCountFor, IsFull, IsSound, IsPage, IsTable, InFrame, InSlot, seat, holders_at, off, Picture, entry, page_in, IsFit, nowhere, Frees, Refuses, GivesForTables, KeepsRoles, holders_none, off-none}
use Rattle.lifecycle.proofs.Names.{◌<◌, Ghosts, Core, Pages, StallCause, SwapDevice, StoreDevice}
use Rattle.lifecycle.{proofs.Names.{seat-none, KeepsRoom, IsTableOnWay, used_inside, KeepsEntriesOfOthers, LosesSlots}, specs.{Changes.{FreesTables, StallsToFork}, Steps.{HasCopy, LacksTableForCopy}}}

-- the cause of a stall stands after a step that was refused nothing and asked no device
pub stall_before : {M : Type 0} {m : Levels.Ghosts M} → {D E : Type 0} (h : Ghosts E) (a b c : Core D E M m) (stall : Stall) → c.refused ≡ b.refused → c.swap.pages ≡ b.swap.pages
    → StallCause h a b stall → StallCause h a c stall
stall_before h a b c SwapDevice refused pages cause =
    (ap (λ r. r.number) refused ∙ cause.0, subst (λ (p : Pages _). h.failures a.swap.pages.disk < h.failures p.disk) (sym pages) cause.1)
stall_before h a b c StoreDevice refused pages cause = absurd cause
stall_before h a b c stall refused pages cause = (ap (λ r. r.number) refused ∙ cause.0, ap (λ p. h.failures p.disk) pages ∙ cause.1)

-- no frame was to be had for the root
pub stalls_first : {mode : ℕ} (old new : Picture mode) (parent child : ℕ) (stall : Stall) → old.root child ≡ None → IsFit new → Frees old new None
    → (tried : Option ℕ) × GivesForTables old new tried → KeepsRoles old new → IsFull new.frames → Refuses new None stall → StallsToFork old new parent child stall
stalls_first old new parent child stall dead fit frees gives still full refuses =
    let was_table : (n : ℕ) → IsTable new.frames n → IsTable old.frames n = λ n table. (
    record { inside = omega (arith, table.inside, frees.count); role = sym (still n) ∙ table.role }) in
    record {
      asked = new;
      fit = fit;
      tried = gives.0;
      gives = gives.1;
      linked = λ n table. inl (was_table n table);
      full = full;
      refuses = refuses;
      lacking = inl (frees.pages.root child ∙ dead);
      roles = λ n. inl refl;
      tables = was_table;
      entries = λ q page ne h. refl;
      places = λ p. refl;
      touched = λ p. refl;
      slots = refl;
      shares = λ k. refl;
    }

private_or : (r : Role) → (r ≡ Private) ⊎ (r ≢ Private)
private_or Private = inl refl
private_or r = inr (λ e. (cc))

-- A process without entries went, and its tables with it.
module _ {mode : ℕ} (old new : Picture mode) (pid : ℕ) (fit : IsFit old) (fit' : IsFit new) (sound : IsSound old.frames) (sound' : IsSound new.frames) (tables : FreesTables old new pid)
    (others : KeepsEntriesOfOthers old new pid) (bare : (page : ℕ) → IsPage (top_level mode) page → entry old pid page ≡ 0) (place : (p : PageKey) → new.place p ≡ old.place p)
    (touched : (p : PageKey) → new.touched p ≡ old.touched p) (slots : LosesSlots old new pid 0 (user_end mode)) (room : KeepsRoom old new) where
  -- a frame of own copies has a sharer, which is another process
  private_left : (n : ℕ) → role_of old.frames n ≡ Private → role_of new.frames n ≡ Private
  private_left n is = elim (private_or (role_of new.frames n)) [
    | inl private ↦ private
    | inr other ↦ absurd (
        let page = page_in old fit.counted.0 (InFrame n) in
        let h : IsPage (top_level mode) page = fit.counted.1.pages (InFrame n) is in
        let none : holders_at (entry old) page (InFrame n) ≡ 0 = holders_none (entry old) page (InFrame n) (λ q there. elim (cases_eq q pid) [
          | inl e ↦ (
              let gone : seat (entry old q page) ≡ None = ap seat (ap (λ x. entry old x page) e ∙ bare page h) ∙ seat-none in
              let bad : None ≡ Some (InFrame n) = sym gone ∙ there in (cc))
          | inr ne ↦ other (fit'.counted.1.named q page (InFrame n) h (ap seat (others q page h ne) ∙ there))
        ]) in
        let count : count_of old.frames n ≡ holders_at (entry old) page (InFrame n) + off nowhere 0 (InFrame n) = fit.counted.1.counts (InFrame n) is in
        let used = used_inside old.frames n sound (λ free. (let bad : Private ≡ Free = sym is ∙ free in (cc))) in
        let some = (subst (λ (r : Role). IsCountFor r (count_of old.frames n)) is (sound.counted n used)).0 in
        omega (arith, none, count, off-none nowhere (InFrame n), some))
  ]

  by_role : (n : ℕ) (kind : Role) → role_of old.frames n ≡ kind → (role_of new.frames n ≡ kind) ⊎ ((role_of new.frames n ≡ Free) × IsTable old.frames n)
  by_role n Free is = inl (tables.free n is)
  by_role n Zero is = inl (ap (role_of new.frames) (sound.zero_alone n is) ∙ sound'.zero_role)
  by_role n Table is =
      let used = used_inside old.frames n sound (λ free. (let bad : Table ≡ Free = sym is ∙ free in (cc))) in
      let table : IsTable old.frames n = record { inside = used; role = is } in
      elim (tables.others n table) [ inl still ↦ inl still.role | inr on ↦ inr (tables.own on.0 on.1 n on.2 on.3, table) ]
  by_role n Private is = inl (private_left n is)
  by_role n Cache is = let p = fit.places.held n is in inl (fit'.places.cached p.0 n (place p.0 ∙ p.1))

  roles_left : (n : ℕ) → (role_of new.frames n ≡ role_of old.frames n) ⊎ ((role_of new.frames n ≡ Free) × IsTable old.frames n)
  roles_left n = by_role n (role_of old.frames n) refl

  no_free_table : (n : ℕ) → IsTable new.frames n → role_of new.frames n ≡ Free → ⊥
  no_free_table n table free = let bad : Table ≡ Free = sym table.role ∙ free in (cc)

  still_table : (n : ℕ) → IsTable new.frames n → IsTable old.frames n
  still_table n table = elim (roles_left n) [
    | inl same ↦ record { inside = omega (arith, table.inside, room.frames); role = sym same ∙ table.role }
    | inr freed ↦ freed.1
  ]

  -- no slot was its own, and each that held a page of a file or an object does so
  shares_left : (k : ℕ) → new.slots.count k ≡ old.slots.count k
  shares_left k = elim (cases_eq (old.slots.count k) 0) [
    | inl none ↦ (let fewer = slots.fewer k in omega (arith, none, fewer))
    | inr some ↦ elim (fit.places.used k (omega (arith, some))) [
      | inl own ↦ slots.kept k (λ page h low below there. (let bad : None ≡ Some (InSlot k) = sym (ap seat (bare page h) ∙ seat-none) ∙ there in (cc))) (λ p. own.1 (Object p))
      | inr here ↦ fit'.places.slotted here.0 k (place here.0 ∙ here.1) ∙ sym (fit.places.slotted here.0 k here.1)
    ]
  ]

  -- Its tables were made since memory was as it was first, to no avail.
  module _ (first : Picture mode) (parent : ℕ)
      (linked : (n : ℕ) → IsTable old.frames n
      → IsTable first.frames n ⊎ ((old.root pid ≡ Some n) ⊎ ((page : ℕ) × HasCopy first parent page × IsTableOnWay old pid page n))) where
    table_first : (n : ℕ) → IsTable new.frames n → IsTable first.frames n
    table_first n table = elim (linked n (still_table n table)) [
      | inl was ↦ was
      | inr own ↦ absurd (no_free_table n table (elim own [
        | inl root ↦ tables.own n 0 n root (0, (omega arith), refl)
        | inr on ↦ (let way = on.2 in let below = way.2 in tables.own way.0 on.0 n way.1 (suc below.0, (let low = below.1 in omega (arith, low)), below.2))
      ]))
    ]

    pub stalls_later : (tried : Option ℕ) → GivesForTables first old tried → IsFull old.frames → LacksTableForCopy old parent pid → (stall : Stall) → Refuses old None stall → StallsToFork first new parent pid stall
    stalls_later tried gives full lacks stall refuses = record {
      asked = old;
      fit = fit;
      tried = tried;
      gives = gives;
      linked = linked;
      full = full;
      refuses = refuses;
      lacking = inr lacks;
      roles = roles_left;
      tables = table_first;
      entries = λ q page ne h. others q page h ne;
      places = place;
      touched = touched;
      slots = room.slots;
      shares = shares_left;
    }

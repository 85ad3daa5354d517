-- What a store keeps of its files, and what a state says of them, after calls.
use Rattle.vm_types.specs.declared.mode.Levels as Levels
use Rattle.machine.proofs.Names.{ℕ, ◌≡◌, Bool, true, false, length, refl, sym, ap, ◌∙◌, subst, rules, Ghosts, Touches, Nothing, stays, ReadsStore, Command, Stall, Reply, Stalled, Past, State, outcome, ruling, takes, Contents}
use Rattle.machine.proofs.Names.{SizedStore, can_resize_in, directory_in, directory_of, disk_of, files_in, is_resized_in, kept_of, shortest_in, HaveSizes, StoreKept, OfJournal, OfPool, AnyDirectory, SizedDirectory, Size, List}
use Rattle.machine.{specs.Engine.{TellsFiles}, proofs.Steps.{changes_lengths, outcome_keeps}}
use Rattle.std.proofs.Common.{inl, inr, arith}
use Rattle.stores.specs.Store as Durable

-- whether files may get other lengths is said by what is kept of those that are durable
abbrev resizes_by : AnyDirectory → Bool
resizes_by (inl directory) = false
resizes_by (inr directory) = true

can_resize-by : (kept : StoreKept) → can_resize_in kept ≡ resizes_by (Durable.directory_in kept)
can_resize-by (OfJournal directory journal) = refl
can_resize-by (OfPool directory journal) = refl

-- files have as many places for lengths as what is durable says
pub as_many : (kept : StoreKept) (sizes others : List Size) → HaveSizes kept sizes → HaveSizes kept others → length sizes ≡ length others
as_many (OfJournal directory journal) sizes others have had = ap (λ (z : List Size). length z) (have ∙ sym had)
as_many (OfPool directory journal) sizes others have had = have ∙ sym had

module _ {D : Type 0} where
  -- the same of another store and another state
  pub tells_same : (old new : SizedStore D) (s t : State) → directory_of new ≡ directory_of old → t.durable ≡ s.durable → t.resizes ≡ s.resizes → t.resized ≡ s.resized
      → t.shortest ≡ s.shortest → TellsFiles old s → TellsFiles new t
  tells_same old new s t same durable resizes resized shortest tells = record {
    files = λ f. ap (λ (d : Contents). d.files f) durable ∙ tells.files f ∙ sym (ap (λ (d : SizedDirectory). Durable.files_in d.durable f) same);
    whole = λ f k. ap (λ (d : Contents). length (d.pages f k)) durable ∙ tells.whole f k;
    resizes = resizes ∙ tells.resizes ∙ can_resize-by (kept_of old) ∙ sym (ap (λ (d : SizedDirectory). resizes_by d.durable) same) ∙ sym (can_resize-by (kept_of new));
    resized = λ f. ap (λ (r : ℕ → Bool). r f) resized ∙ tells.resized f ∙ sym (ap (λ (d : SizedDirectory). is_resized_in d.sizes f) same);
    shortest = λ f. ap (λ (r : ℕ → ℕ). r f) shortest ∙ tells.shortest f ∙ sym (ap (λ (d : SizedDirectory). shortest_in d f) same);
  }

  -- the history is none of the store's
  pub told_past : (store : SizedStore D) (s : State) (past : Past) → TellsFiles store s → TellsFiles store (record s { past = past })
  told_past store s past tells = search rules

  -- What the store keeps of files after a command is what the state after it says, done or stalled.
  pub record TellsStill (new : SizedStore D) (s : State) (command : Command) (reply : Reply) : Type 0 where
    pub done : reply ≡ (outcome s command).reply → TellsFiles new (outcome s command).state
    pub stalled : (stall : Stall) → reply ≡ Stalled stall → TellsFiles new s

  -- so it is after a command that leaves lengths alone
  pub tells_still : (old new : SizedStore D) (s : State) (command : Command) (reply : Reply) → directory_of new ≡ directory_of old → changes_lengths command ≡ false
      → takes s (ruling s command) s.durable ≡ s.durable → TellsFiles old s → TellsStill new s command reply
  tells_still old new s command reply same lengths none tells =
      let all = outcome_keeps s command in
      record {
        done = λ _. tells_same old new s (outcome s command).state same (all.durable_is ∙ none) all.resizes (all.resized lengths) (all.shortest lengths) tells;
        stalled = λ _ _. tells_same old new s s same refl refl refl refl tells;
      }

  -- what is kept of files durably, and their lengths
  pub directory_same : (old new : SizedStore D) → kept_of new ≡ kept_of old → new.sizes.items ≡ old.sizes.items → directory_of new ≡ directory_of old
  directory_same old new kept sizes = ap (λ (k : StoreKept). directory_in k new.sizes.items) kept ∙ ap (λ (z : List Size). directory_in (kept_of old) z) sizes

module _ {D : Type 0} (g : Ghosts D) where
  -- The device of a store was read, and what is durable is as it was. Files may have got other lengths.
  pub record ReadsDevice (old new : SizedStore D) : Type 0 where
    pub size : g.sector_count (disk_of new) ≡ g.sector_count (disk_of old)
    pub kept : g.keeps_model (disk_of new) → g.keeps_model (disk_of old)
    pub touches : g.keeps_model (disk_of new) → Touches g Nothing (disk_of old) (disk_of new)
    pub same : kept_of new ≡ kept_of old

  -- files have the lengths that they had
  pub reads_device : (old new : SizedStore D) → ReadsStore g old new → ReadsDevice old new
  reads_device old new reads = search rules

  -- a call that leaves the store alone reads it, too
  pub unread : (old new : SizedStore D) → new ≡ old → ReadsStore g old new
  unread old new same = record {
    size = ap (λ (store : SizedStore D). g.sector_count (disk_of store)) same;
    kept = λ k. subst (λ (store : SizedStore D). g.keeps_model (disk_of store)) same k;
    failures = rw same (omega arith);
    touches = λ k. subst (λ (store : SizedStore D). Touches g Nothing (disk_of old) (disk_of store)) (sym same) (stays g Nothing (disk_of old));
    same = ap (λ (store : SizedStore D). kept_of store) same;
    sizes = ap (λ (store : SizedStore D). store.sizes.items) same;
  }

-- A truncate on a machine: the store is read at most, and keeps of its files what the state after it says.
use Rattle.vm_types.specs.declared.mode.Levels as Levels
use Rattle.machine.proofs.Names.{ℕ, ◌≡◌, ◌≢◌, ◌⊎◌, ◌==◌, ◌∙◌, inl, inr, Bool, true, false, if◌then◌else◌, Option, Some, None, refl, sym, ap, subst, rules, Ghosts, Touches, Nothing, Core, picture_of}
use Rattle.machine.proofs.Names.{Command, Truncate, Errno, Reply, Done, Refused, Stalled, State, Outcome, outcome, answers, first_of, refused_or, truncate_checks, truncated, length_in, IsReadySized, SizedStore, can_resize_in, directory_of, is_resized, kept_of, shortest_in, shortest_of}
use Rattle.machine.{specs.{Accesses.{AsksForEnd}, Engine.{TellsFiles}}, proofs.{Accesses.{IsCall}, Flat.{keeps_all, tells_of}, Told.{ReadsDevice, TellsStill, directory_same, reads_device, tells_same, unread}}}
use Rattle.std.proofs.{Common.{eq-eqb, eqb-true, ne_eqb}, lemmas.Bool.{cases_eq}}
use Rattle.std.specs.Prelude.{min, slice_get}
use Rattle.sized_stores.specs.{Resizing.{ResizesFile}, Store.{length_of}, declared.sizes.Size.{Size}}
use Rattle.stores.specs.Store as Durable
use Rattle.stores.specs.declared.store.Store.{Store}
use Rattle.spaces.specs.{Calls.{Carries}, Truncating.{KeepsToFile}}
use Rattle.truncation.specs.Resizing.{length_now}
use Rattle.msync.specs.Shows.{CoreShows}
use Rattle.vm_types.specs.declared.file.FileInfo.{FileInfo}

done_or_not : (reply : Reply) → (reply ≡ Done) ⊎ (reply ≢ Done)
done_or_not Done = inl refl
done_or_not reply = inr (λ e. cc)

same_length : (o : Option FileInfo) → length_of o ≡ length_in o
same_length None = refl
same_length (Some info) = refl

module _ {D : Type 0} (g : Ghosts D) where
  -- lengths of files are none of what is durable
  beside_lengths : (old found new : SizedStore D) → new.store ≡ found.store → ReadsDevice g old found → ReadsDevice g old new
  beside_lengths old found new same reads = record {
    size = ap (λ (x : Store D). g.sector_count (Durable.disk_of x)) same ∙ reads.size;
    kept = λ k. reads.kept (subst (λ (x : Store D). g.keeps_model (Durable.disk_of x)) same k);
    touches = λ k. subst (λ (x : Store D). Touches g Nothing (Durable.disk_of old.store) (Durable.disk_of x)) (sym same)
        (reads.touches (subst (λ (x : Store D). g.keeps_model (Durable.disk_of x)) same k));
    same = ap (λ (x : Store D). Durable.kept_of x) same ∙ reads.same;
  }

  -- a file that has got another length
  tells_resized : (found new : SizedStore D) (s : State) (file length : ℕ) → ResizesFile g found new file length → TellsFiles found s → TellsFiles new (truncated s file length)
  tells_resized found new s file length grows told = record {
    files = λ f. told.files f ∙ sym (ap (λ (x : Store D). Durable.files_of x f) grows.same);
    whole = told.whole;
    resizes = told.resizes ∙ sym (ap (λ (x : Store D). can_resize_in (Durable.kept_of x)) grows.same);
    resized = λ f. elim (cases_eq f file) [
      | inl here ↦ rw (here, eq-eqb file file refl, grows.sized) refl
      | inr other ↦ rw (ne_eqb f file other) (told.resized f ∙ sym (ap is_resized (grows.others f other)))
    ];
    shortest = λ f. elim (cases_eq f file) [
      | inl here ↦ rw (here, eq-eqb file file refl, grows.sized) (ap (λ n. min n length) (told.shortest file))
      | inr other ↦ rw (ne_eqb f file other) (told.shortest f ∙ sym (ap (λ (x : Store D). shortest_of (Durable.files_of x f) (slice_get new.sizes.items f)) grows.same
          ∙ ap (λ (o : Option Size). shortest_of (Durable.files_of found.store f) o) (grows.others f other)))
    ];
  }

module _ {M : Type 0} {levels : Levels.Ghosts M} {D E : Type 0} (g : Ghosts D) (h : Ghosts E) where
  pub ends_asked : (old new : Core D E M levels) (file length : ℕ) (reply : Reply) → KeepsToFile g h old new file length reply → AsksForEnd g h old new file length reply
  ends_asked old new file length reply keeps = search rules

  module _ (old new : Core D E M levels) (file length : ℕ) (reply : Reply) (keeps : KeepsToFile g h old new file length reply) where
    was_read : ReadsDevice g old.store keeps.found
    was_read = reads_device g old.store keeps.found keeps.reads

    reads : ReadsDevice g old.store new.store
    reads = elim (done_or_not reply) [
      | inl done ↦ elim (cases_eq (length_now old file) length) [
        | inl same ↦ reads_device g old.store new.store (unread g old.store new.store (ap (λ (c : Core D E M levels). c.store) (keeps.still same)))
        | inr other ↦ beside_lengths g old.store keeps.found new.store (keeps.resizes done other).same was_read
      ]
      | inr never ↦ subst (λ (x : SizedStore D). ReadsDevice g old.store x) (sym (keeps.left (λ done. absurd (never done)))) was_read
    ]

    -- as it was read, the store keeps of its files what it kept
    module _ (s : State) (shows : CoreShows g old s) where
      told : TellsFiles keeps.found s
      told = tells_same old.store keeps.found s s (directory_same old.store keeps.found keeps.reads.same keeps.reads.sizes) refl refl refl refl (tells_of g h old s shows)

      left : reply ≢ Done → TellsFiles new.store s
      left never = subst (λ (x : SizedStore D). TellsFiles x s) (sym (keeps.left (λ done. absurd (never done)))) told

      length_said : length_now old file ≡ length_in (s.files file)
      length_said = same_length ((picture_of old).files file) ∙ ap length_in (sym (shows.pages.files file))

      abbrev resized_or_not : Bool → Outcome
      resized_or_not same = if same then answers s Done else record { reply = Done; state = truncated s file length }

      sized : (same : Bool) → (length_in (s.files file) == length) ≡ same → reply ≡ Done → TellsFiles new.store (resized_or_not same).state
      sized true same done =
          let still = keeps.still (length_said ∙ eqb-true _ _ same) in
          subst (λ (x : SizedStore D). TellsFiles x s) (sym (ap (λ (c : Core D E M levels). c.store) still)) (tells_of g h old s shows)
      sized false other done =
          tells_resized g keeps.found new.store s file length
          (keeps.resizes done (λ e. let never : true ≡ false = sym (eq-eqb _ _ (sym length_said ∙ e)) ∙ other in absurd (cc))) told

      answered : (o : Option Errno) → reply ≡ (refused_or s o (resized_or_not (length_in (s.files file) == length))).reply
          → TellsFiles new.store (refused_or s o (resized_or_not (length_in (s.files file) == length))).state
      answered (Some errno) is = left (λ done. let never : Refused errno ≡ Done = sym is ∙ done in absurd (cc))
      answered None is = sized (length_in (s.files file) == length) refl (is ∙ done_either (length_in (s.files file) == length))
        where
          done_either : (same : Bool) → (resized_or_not same).reply ≡ Done
          done_either true = refl
          done_either false = refl

    pub resized : Carries g h old new (Truncate file length) reply → IsCall g h old new (Truncate file length) reply
    resized carries = record {
      carries = carries;
      accounts = keeps.accounts;
      reads = reads;
      tells = λ s shows. record {
        done = answered s shows (first_of (truncate_checks s file length));
        stalled = λ stall is. left s shows (λ done. let never : Stalled stall ≡ Done = sym is ∙ done in absurd (cc));
      };
      device = keeps.device;
      idle = λ s e. keeps_all g h old new (keeps.denied e);
    }

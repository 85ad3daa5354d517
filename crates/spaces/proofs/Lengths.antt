-- After a truncate the state says of the files what the store keeps of them.
use Rattle.vm_types.specs.declared.mode.Levels as Levels
use Rattle.spaces.proofs.Names.{ℕ, ◌≡◌, ◌≢◌, ◌⊎◌, ◌==◌, ◌||◌, true, false, inl, inr, if◌then◌else◌, min, Option, Some, None, refl, sym, ap, ◌∙◌, subst, cases_Bool, cases_eq, eq-eqb, ne_eqb, eqb-true, Ghosts, AnyStore, directory_of, files_of, kept_of}
use Rattle.spaces.proofs.Names.{Core, CoreShows, ReadsStore, Errno, Reply, Process, Address, Done, Value, Faulted, Refused, Stalled, Truncate, State, Outcome, outcome, answers, refused_or, first_of}
use Rattle.spaces.{specs.Truncating.{KeepsToFile}, proofs.Room.{lengths_left}}
use Rattle.sized_stores.specs.{Resizing.{ResizesFile}, Store.{can_resize, can_resize_in, durable_in, durable_files_of, is_resized, is_resized_in, length_of, shortest_in, shortest_of}}
use Rattle.{std.specs.Prelude.{slice_get}, stores.specs.declared.store.Store.{Store}}
use Rattle.stores.specs.Store as Durable
use Rattle.truncation.specs.Resizing.{length_now}
use Rattle.vm_types.specs.{Truncation.{length_in, truncate_checks, truncated}, declared.{file.FileInfo.{FileInfo}, reply.Reply.TheVariants.{Halted, Past}}}

module _ {D : Type 0} where
  -- A state says of all files what a store keeps of them:
  pub record ShowsLengths (store : AnyStore D) (s : State) : Type 0 where
    -- which there are durably, and whether they can get other lengths,
    pub files : (f : ℕ) → s.durable.files f ≡ durable_files_of store f
    pub resizes : s.resizes ≡ can_resize store
    -- and which have got one, and how short they have been.
    pub resized : (f : ℕ) → s.resized f ≡ is_resized_in store.sizes.items f
    pub shortest : (f : ℕ) → s.shortest f ≡ shortest_in (directory_of store) f

module _ {D : Type 0} (g : Ghosts D) (old new : AnyStore D) (s : State) (shows : ShowsLengths old s) where
  -- still where it was read
  pub lengths_read : ReadsStore g old new → ShowsLengths new s
  lengths_read reads = record {
    files = λ f. shows.files f ∙ sym (ap (λ k. Durable.files_in (Durable.directory_in k) f) reads.same);
    resizes = shows.resizes ∙ sym (ap can_resize_in reads.same);
    resized = λ f. shows.resized f ∙ sym (ap (λ z. is_resized_in z f) reads.sizes);
    shortest = λ f. shows.shortest f ∙ sym (ap (λ d. shortest_in d f) (lengths_left old new reads.same reads.sizes));
  }

  -- and where a file got another length, once the state says so
  pub lengths_resized : (file bytes : ℕ) → ResizesFile g old new file bytes → ShowsLengths new (truncated s file bytes)
  lengths_resized file bytes done =
      let kept : kept_of new ≡ kept_of old = ap (λ (x : Store D). Durable.kept_of x) done.same in
      let durable : (f : ℕ) → durable_files_of new f ≡ durable_files_of old f = λ f. ap (λ k. Durable.files_in (Durable.directory_in k) f) kept in
      record {
        files = λ f. shows.files f ∙ sym (durable f);
        resizes = shows.resizes ∙ sym (ap can_resize_in kept);
        resized = λ f. elim (cases_eq f file) [
          | inl same ↦ rw (eq-eqb f file same) (sym (ap (is_resized_in new.sizes.items) same ∙ ap is_resized done.sized))
          | inr ne ↦ rw (ne_eqb f file ne) (shows.resized f ∙ sym (ap is_resized (done.others f ne)))
        ];
        shortest = λ f. elim (cases_eq f file) [
          | inl same ↦ rw (eq-eqb f file same) (
              ap (λ n. min n bytes) (shows.shortest f ∙ ap (shortest_in (directory_of old)) same)
              ∙ sym (ap (shortest_in (directory_of new)) same ∙ ap (shortest_of (durable_files_of new file)) done.sized))
          | inr ne ↦ rw (ne_eqb f file ne) (
              shows.shortest f ∙ sym (ap (λ z. shortest_of (durable_files_of new f) z) (done.others f ne) ∙ ap (λ o. shortest_of o (slice_get old.sizes.items f)) (durable f)))
        ];
      }

-- the bytes of a file by both words
same_long : (o : Option FileInfo) → length_in o ≡ length_of o
same_long None = refl
same_long (Some info) = refl

long_same : (a b : Option FileInfo) → a ≡ b → length_in a ≡ length_of b
long_same a b same = same_long a ∙ ap length_of same

-- whether it is done
done_or : (reply : Reply) → (reply ≡ Done) ⊎ (reply ≢ Done)
done_or Done = inl refl
done_or (Process pid) = inr (λ e. cc)
done_or (Address addr) = inr (λ e. cc)
done_or (Value width value) = inr (λ e. cc)
done_or (Faulted fault) = inr (λ e. cc)
done_or (Refused errno) = inr (λ e. cc)
done_or (Stalled stall) = inr (λ e. cc)
done_or Halted = inr (λ e. cc)
done_or (Past past) = inr (λ e. cc)

module _ {M : Type 0} {m : Levels.Ghosts M} {D E : Type 0} (g : Ghosts D) (h : Ghosts E) (old new : Core D E M m) (file bytes : ℕ) (reply : Reply) (keeps : KeepsToFile g h old new file bytes reply) where
  -- what is durable is as it was found
  pub durable_found : new.store.store ≡ keeps.found.store
  durable_found = elim (done_or reply) [
    | inl done ↦ elim (cases_eq (length_now old file) bytes) [
      | inl same ↦ ap (λ (x : AnyStore D). x.store) (keeps.left (λ e. same))
      | inr other ↦ (keeps.resizes done other).same
    ]
    | inr other ↦ ap (λ (x : AnyStore D). x.store) (keeps.left (λ e. absurd (other e)))
  ]

  module _ (s : State) (shows : ShowsLengths old.store s) where
    -- where nothing was done
    pub lengths_stalled : reply ≢ Done → ShowsLengths new.store s
    lengths_stalled other = subst (λ (x : AnyStore D). ShowsLengths x s) (sym (keeps.left (λ e. absurd (other e)))) (lengths_read g old.store keeps.found s shows keeps.reads)

    same_length : length_now old file ≡ bytes → ShowsLengths new.store s
    same_length same = subst (λ (x : AnyStore D). ShowsLengths x s) (sym (keeps.left (λ e. same))) (lengths_read g old.store keeps.found s shows keeps.reads)

    other_length : reply ≡ Done → length_now old file ≢ bytes → ShowsLengths new.store (truncated s file bytes)
    other_length done other = lengths_resized g keeps.found new.store s (lengths_read g old.store keeps.found s shows keeps.reads) file bytes (keeps.resizes done other)

    -- where it did as the flat model does
    judged_so : (o : Option Errno) → length_in (s.files file) ≡ length_now old file
        → reply ≡ (refused_or s o (if length_in (s.files file) == bytes then answers s Done else record { reply = Done; state = truncated s file bytes })).reply
        → ShowsLengths new.store (refused_or s o (if length_in (s.files file) == bytes then answers s Done else record { reply = Done; state = truncated s file bytes })).state
    judged_so (Some errno) long is = lengths_stalled (λ done. let never : Refused errno ≡ Done = sym is ∙ done in cc)
    judged_so None long is = elim (cases_eq (length_in (s.files file)) bytes) [
      | inl same ↦ rw (eq-eqb (length_in (s.files file)) bytes same) (same_length (sym long ∙ same))
      | inr other ↦ rw (ne_eqb (length_in (s.files file)) bytes other) (other_length (is ∙ rw (ne_eqb (length_in (s.files file)) bytes other) refl) (λ e. other (long ∙ e)))
    ]

    pub lengths_truncated : s.files file ≡ files_of old.store file → reply ≡ (outcome s (Truncate file bytes)).reply → ShowsLengths new.store (outcome s (Truncate file bytes)).state
    lengths_truncated there is = judged_so (first_of (truncate_checks s file bytes)) (long_same (s.files file) (files_of old.store file) there) is

-- How the ends of a commit are those of an msync.
use Rattle.vm_types.specs.declared.mode.Levels as Levels
use Rattle.msync.{proofs.{Names.{◌≡◌, ◌⊎◌, inl, inr, rules, EIO, Stall, Answer, Stalled, Ghosts, Core, picture_of}, SettledPages.{settles_nothing}}, specs.{Shows.{IsSoundCore}, SyncEnds.{EndsCommit}}}
use Rattle.vm_types.specs.declared.reply.Answer.TheVariants.{Refused}

either : (few many A : Type 0) → (few → many) → A ⊎ few → A ⊎ many
either few many A more (inl a) = inl a
either few many A more (inr x) = inr (more x)

module _ {M : Type 0} {m : Levels.Ghosts M} {D E : Type 0} (g : Ghosts D) (h : Ghosts E) where
  -- nothing was done, and neither device failed
  pub ends_nothing : (slotted : Type 0) (core : Core D E M m) (result : Answer) → IsSoundCore g h core → (result ≡ Refused EIO → ⊥) → ((stall : Stall) → result ≡ Stalled stall → ⊥)
      → EndsCommit g h slotted core core result
  ends_nothing slotted core result sound no_fault no_stall = let memory = settles_nothing (picture_of core) in search rules

  -- where one of fewer pages lies in a slot, one of more does
  pub ends_under : (few many : Type 0) (old new : Core D E M m) (result : Answer) → (few → many) → EndsCommit g h few old new result → EndsCommit g h many old new result
  ends_under few many old new result more ends = let away = either few many (new.swap ≡ old.swap) more ends.away in search rules

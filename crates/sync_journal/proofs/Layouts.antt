-- What holds of every layout: what follows from what is kept, and the moments of a recovery.
use Rattle.sync_journal.proofs.{Names.{◌≡◌, ◌<◌, ℕ, true, false, List, Result, Ok, Err, inl, refl, sym, subst, ◌∙◌, IsErr, IsErrOf, Image, MayLeave, AsksOnly, LeavesOnly, Nothing, Ghosts, weaker}, Runs.{of_more}, Sectors.{while_read, so_before}}
use Rattle.sync_journal.specs.{Committing.{HomesStandOr}, Recovering.{StaysThrough, Restores, RecoversBy}, Runs.{RunsOnDevice}, Steps.{BlamesJournal}, Layouts.{Layout, HomesStandAs, IsKept, KeepsHomes, StandsForPages}, declared.faults.RecoverFault.{RecoverFault}}
use Rattle.{sync_journal.specs.declared.faults.RecoverFault.TheVariants.{BadJournal}, disk_model.proofs.Moments.{joined}}

-- what lies outside of an image does so of one that agrees with it there
abbrev pub FixesOutside : {S : Type 0} → Layout S → Type 0
FixesOutside layout = (sectors : ℕ) (a b : Image) → ((k : ℕ) → layout.IsOutside a sectors k → b k ≡ a k) → (k : ℕ) → layout.IsOutside a sectors k → layout.IsOutside b sectors k

module _ {S : Type 0} (layout : Layout S) where
  -- an image of the same sectors stands for the same
  pub same_stands : (sectors : ℕ) (content image : Image) → image ≡ content → HomesStandAs layout sectors content image
  same_stands sectors content image same = subst (HomesStandAs layout sectors content) (sym same) (record { stands = record { each = λ h i below. refl }; journal = λ bad. bad; outside = λ k outside. refl })

  -- what stands as before stands as before or after
  pub or_before : (sectors : ℕ) (homes : List ℕ) (pages : ℕ → List ℕ) (content image : Image) → HomesStandAs layout sectors content image → HomesStandOr layout sectors homes pages content image
  or_before sectors homes pages content image kept = record { stands = inl kept.stands; journal = kept.journal; outside = kept.outside }

  -- what stands for pages stands for the same ones
  pub same_pages : (found pages : ℕ → ℕ → List ℕ) → ((h i : ℕ) → i < 8 → found h i ≡ pages h i) → (image : Image) → StandsForPages layout found image → StandsForPages layout pages image
  same_pages found pages same image stands = record { each = λ h i below. stands.each h i below ∙ same h i below }

  module _ (fixes : FixesOutside layout) where
    -- what is kept of what was kept
    pub kept_again : (sectors : ℕ) (first content image : Image) (P Q : Image → Type 0) → HomesStandAs layout sectors first content → (P image → Q image) → IsKept layout sectors content P image → IsKept layout sectors first Q image
    kept_again sectors first content image P Q was more kept = record {
      stands = more kept.stands;
      journal = λ bad. was.journal (kept.journal bad);
      outside = λ k outside. kept.outside k (fixes sectors first content was.outside k outside) ∙ was.outside k outside;
    }

    pub stands_again : (sectors : ℕ) (first content image : Image) → HomesStandAs layout sectors first content → HomesStandAs layout sectors content image → HomesStandAs layout sectors first image
    stands_again sectors first content image was kept = kept_again sectors first content image _ _ was (same_pages _ _ was.stands.each image) kept

    -- at every moment, and of what stood for an earlier image
    pub stays : {D : Type 0} (g : Ghosts D) (old new : D) → (g.keeps_model new → ((k : ℕ) → g.unsynced old k → ⊥) → KeepsHomes layout g old new)
        → StaysThrough g (HomesStandAs layout (g.sector_count old)) old new
    stays g old new moments = record {
      any_moment = moments;
      in_a_row = λ keeps still first was. weaker g old new (HomesStandAs layout (g.sector_count old) (g.content old)) (HomesStandAs layout (g.sector_count old) first)
          (λ image. stands_again (g.sector_count old) first (g.content old) image was) (moments keeps still);
    }

    -- A look at a device.
    module _ {D : Type 0} (g : Ghosts D) (old read : D) (only_now : g.keeps_model old → (image : Image) → g.left_since old (g.moment old) image → MayLeave (g.content old) (g.unsynced old) image)
        (looks : RunsOnDevice g Nothing old read) where
      pub looking : g.keeps_model read → ((k : ℕ) → g.unsynced old k → ⊥) → KeepsHomes layout g old read
      looking keeps still = while_read g old read (looks.touches keeps) (HomesStandAs layout (g.sector_count old) (g.content old)) (same_stands (g.sector_count old) (g.content old) (g.content old) refl)
          (only_now (looks.kept keeps)) still

      -- and then what was read is recovered
      pub looked_then : (new : D) → (g.keeps_model new → g.keeps_model read) → g.keeps_model new → ((k : ℕ) → g.unsynced old k → ⊥) → KeepsHomes layout g read new → KeepsHomes layout g old new
      looked_then new kept keeps still run = joined g old read new (HomesStandAs layout (g.sector_count old) (g.content old)) (looking (kept keeps) still)
          (so_before g old read (looks.touches (kept keeps)) (λ n image. LeavesOnly g read new (HomesStandAs layout n image)) looks.size run)

      -- where nothing but gate and map is read
      pub only_looked : {T : Type 0} (state : T → S) (result : Result T RecoverFault) → IsErr result → (g.keeps_model read → AsksOnly g (layout.IsAsked (g.content old)) old read) → BlamesJournal g old read result
          → (g.keeps_model read → IsErrOf result BadJournal → layout.IsBad (g.sector_count old) (g.content old)) → Restores g layout state old read result
      only_looked state (Ok found) is asks blames bad = let none : false ≡ true = is in cc
      only_looked state (Err fault) is asks blames bad = record {
        ok = λ keeps. tt;
        synced = λ keeps. tt;
        stays = stays g old read looking;
        run = of_more g Nothing (layout.IsRecovered (g.content old) (g.sector_count old)) old read (λ k none. absurd none) looks;
        bad_unwritten = λ keeps is. looks.touches keeps;
        closed_unwritten = λ keeps none. looks.touches keeps;
        asks = asks;
        blames = blames;
        good = λ keeps. tt;
        bad = bad;
      }

      pub looked_at : {T : Type 0} (state : T → S) (result : Result T RecoverFault) → IsErr result → (g.keeps_model read → AsksOnly g (layout.IsAsked (g.content old)) old read) → BlamesJournal g old read result
          → (g.keeps_model read → IsErrOf result BadJournal → layout.IsBad (g.sector_count old) (g.content old)) → RecoversBy g layout state old read result
      looked_at state (Ok found) is asks blames bad = let none : false ≡ true = is in cc
      looked_at state (Err fault) is asks blames bad = record { restores = only_looked state (Err fault) is asks blames bad; emptied = λ keeps. tt }

-- What a store stands for stays while it is opened.
use Rattle.std.proofs.Common.{◌≡◌, ℕ, Bool, not, sym, subst, ⊎_elim, inl, inr, Result}
use Rattle.std.proofs.lemmas.Bool.{cases_eq}
use Rattle.disk_model.{proofs.Moments.{weaker, joined}, specs.{Moments.{Nothing, LeavesOnly}, Stop.{Image, MayLeave}, declared.sector_disk.{DiskFault.{DiskFault}, SectorDisk.{Ghosts}}}}
use Rattle.directories.specs.Kinds.{IsKind}
use Rattle.pool_journal.specs.{Gates.{IsPoolGate}, Pools.{pool, pool_home_count, pool_named, IsPoolMap}, Recovering.{AnewInBlocks, WritesAnew}, declared.pool.PoolJournal.{PoolJournal}}
use Rattle.sync_journal.{proofs.{Shared.{blocks_weaker}, Sectors.{so_before, while_read}}, specs.{Layouts.{HomesStandAs}, Runs.{RunsOnDevice}}}
use Rattle.pool_store.{proofs.{OneKind.{one_kind}, Standing.{stands_kept}}, specs.{Files.{StandsAs}, Pools.{files_in_pool, IsBadPool.{OtherKind}}, Resume.{KeepsStore}}}

-- what stands for what one image stood for, where that does so for what an earlier one stood for
pub stands_again : (m d n sectors : ℕ) (first old image : Image) → StandsAs (files_in_pool m d n) sectors first old → HomesStandAs (pool m n) sectors old image → StandsAs (files_in_pool m d n) sectors first image
stands_again m d n sectors first old image was kept files pages stood = stands_kept m d n sectors old image kept files pages (was files pages stood)

module _ {D : Type 0} (g : Ghosts D) where
  -- A map is written anew under stops that spoil whole blocks.
  anew_weaker : (m : ℕ) (second : Bool) (P Q : Image → Type 0) (old new : D) → ((image : Image) → P image → Q image) → AnewInBlocks g m second P old new → AnewInBlocks g m second Q old new
  anew_weaker m second P Q old new more = ⊎_elim (λ map. inl (blocks_weaker g (IsPoolMap m second) P Q old new more map))
      (λ run. inr (run.0, blocks_weaker g (IsPoolMap m second) P Q old run.0 more run.1, blocks_weaker g IsPoolGate P Q run.0 new more run.2))

  module _ (old read : D) (only_now : g.keeps_model old → (image : Image) → g.left_since old (g.moment old) image → MayLeave (g.content old) (g.unsynced old) image)
      (looks : RunsOnDevice g Nothing old read) where
    -- a look
    pub keeps_reading : (m d n : ℕ) → KeepsStore g m d n old read
    keeps_reading m d n = record {
      through = record {
        any_moment = λ keeps still. stood (g.content old) keeps still (λ files pages was. was);
        in_a_row = λ keeps still first was. stood first keeps still was;
      };
      blocks = λ keeps still kind first was. inl (looks.touches keeps);
    }
      where
        stood : (first : Image) → g.keeps_model read → ((k : ℕ) → g.unsynced old k → ⊥) → StandsAs (files_in_pool m d n) (g.sector_count old) first (g.content old)
            → LeavesOnly g old read (StandsAs (files_in_pool m d n) (g.sector_count old) first)
        stood first keeps still was = while_read g old read (looks.touches keeps) (StandsAs (files_in_pool m d n) (g.sector_count old) first) was (only_now (looks.kept keeps)) still

    -- and then what was read is written anew
    pub keeps_renewing : (d : ℕ) (found now : PoolJournal) (new : D) {r : Result (Unit {0}) DiskFault} → (g.keeps_model read → found.second ≡ pool_named (g.content old)) → WritesAnew g found now read new r
        → KeepsStore g found.sizes.blocks d found.sizes.homes old new
    keeps_renewing d found now new named w = record {
      through = record {
        any_moment = λ keeps still. stood (g.content old) keeps still (λ files pages was. was);
        in_a_row = λ keeps still first was. stood first keeps still was;
      };
      blocks = λ keeps still kind first was. inr (
        read,
        looks.touches (w.kept keeps),
        anew_weaker m (not (pool_named (g.content old))) (Homes (g.sector_count old) (g.content old)) (Files first) read new (λ image. stands_again m d n (g.sector_count old) first (g.content old) image was)
            (subst (λ b. AnewInBlocks g m (not b) (Homes (g.sector_count old) (g.content old)) read new) (named (w.kept keeps))
            (so_before g old read (looks.touches (w.kept keeps)) (λ k image. AnewInBlocks g m (not found.second) (Homes k image) read new) looks.size (w.blocks keeps))),
      );
    }
      where
        m : ℕ
        m = found.sizes.blocks

        n : ℕ
        n = found.sizes.homes

        Homes : ℕ → Image → Image → Type 0
        Homes = HomesStandAs (pool m n)

        Files : Image → Image → Type 0
        Files = StandsAs (files_in_pool m d n) (g.sector_count old)

        stood : (first : Image) → g.keeps_model new → ((k : ℕ) → g.unsynced old k → ⊥) → Files first (g.content old) → LeavesOnly g old new (Files first)
        stood first keeps still was = joined g old read new (Files first) (while_read g old read (looks.touches (w.kept keeps)) (Files first) was (only_now (looks.kept (w.kept keeps))) still)
            (weaker g read new (Homes (g.sector_count old) (g.content old)) (Files first) (λ image. stands_again m d n (g.sector_count old) first (g.content old) image was)
            (so_before g old read (looks.touches (w.kept keeps)) (λ k image. LeavesOnly g read new (Homes k image)) looks.size (w.any_moment keeps)))

  -- What stays where the image is of one kind stays whichever kind it may be.
  pub keeps_all : (a b : ℕ) (old new : D) → (g.keeps_model new → IsKind a b (g.content old 1)) → KeepsStore g a b (pool_home_count a (g.sector_count old)) old new
      → (m d : ℕ) → KeepsStore g m d (pool_home_count m (g.sector_count old)) old new
  keeps_all a b old new kind keeps m d = ⊎_elim
      (λ maps. ⊎_elim (λ pages. subst (λ x. KeepsStore g x d (pool_home_count x (g.sector_count old)) old new) (sym maps) (subst (λ y. KeepsStore g a y (pool_home_count a (g.sector_count old)) old new) (sym pages) keeps))
      (λ other. none (λ is own. other (one_kind m d a b (g.content old 1) is own).1)) (cases_eq d b))
      (λ other. none (λ is own. other (one_kind m d a b (g.content old 1) is own).0)) (cases_eq m a)
    where
      Files : Image → Image → Type 0
      Files = StandsAs (files_in_pool m d (pool_home_count m (g.sector_count old))) (g.sector_count old)

      -- of another kind it stands for nothing
      none : (IsKind m d (g.content old 1) → IsKind a b (g.content old 1) → ⊥) → KeepsStore g m d (pool_home_count m (g.sector_count old)) old new
      none other = record {
        through = record {
          any_moment = λ still synced. nothing (g.content old) still synced (λ files pages was. was);
          in_a_row = λ still synced first was. nothing first still synced was;
        };
        blocks = λ still synced is first was. absurd (other is (kind still));
      }
        where
          nothing : (first : Image) → g.keeps_model new → ((k : ℕ) → g.unsynced old k → ⊥) → Files first (g.content old) → LeavesOnly g old new (Files first)
          nothing first still synced was = weaker g old new _ (Files first) (λ image here files pages stood. absurd ((was files pages stood).good (OtherKind (λ is. other is (kind still))))) (keeps.any_moment still synced)

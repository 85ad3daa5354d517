-- The journal of a pool, taken up as it stands.
use Rattle.std.proofs.Common.{◌≡◌, ℕ, refl, ap, ◌∙◌, ⊎_elim}
use Rattle.disk_model.{specs.{Moments.{Nothing, Touches}, Stop.{Image, MayLeave}, declared.sector_disk.SectorDisk.{Ghosts}}}
use Rattle.sync_journal.{proofs.{Layouts.{same_stands}, Sectors.{same_image, reads_unsynced, while_read}}, specs.Layouts.{Layout, HomesStandAs, IsSettled, KeepsHomes}}

-- A device of which nothing is unsynced, and which is read alone.
module _ {S D : Type 0} (layout : Layout S) (g : Ghosts D) (old new : D) (reads : Touches g Nothing old new) (synced : (k : ℕ) → g.unsynced old k → ⊥) where
  pub still_synced : (k : ℕ) → g.unsynced new k → ⊥
  still_synced k u = synced k (reads_unsynced g old new reads k u)

  pub settled_so : (state : S) → layout.IsRest g state new → IsSettled layout g (g.sector_count old) (g.content old) state new (layout.standing (g.content old))
  settled_so state rest = record {
    rest = rest;
    stands = (same_stands layout (g.sector_count old) (g.content old) (g.content new) (same_image g old new reads)).stands;
    outside = λ k out. ap (λ (image : Image). image k) (same_image g old new reads);
    left = λ image may. same_stands layout (g.sector_count old) (g.content old) image
        (λ t k. (⊎_elim {C = image k ≡ g.content new k} (λ u. absurd (still_synced k u)) (λ e. e) (may.kept k) ∙ ap (λ (held : Image). held k) (same_image g old new reads)) t);
  }

  pub kept_reading : ((image : Image) → g.left_since old (g.moment old) image → MayLeave (g.content old) (g.unsynced old) image) → KeepsHomes layout g old new
  kept_reading only_now = while_read g old new reads (HomesStandAs layout (g.sector_count old) (g.content old)) (same_stands layout (g.sector_count old) (g.content old) (g.content old) refl) only_now synced

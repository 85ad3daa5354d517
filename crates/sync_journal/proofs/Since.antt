-- A commit's own part, seen from before a first part, which left the homes as they stood.
use Rattle.sync_journal.{proofs.{Layouts.{FixesOutside, kept_again, or_before, same_pages, stands_again}, Names.{◌≡◌, ◌<◌, ℕ, List, ap, subst, ◌∙◌, ⊎_elim, inl, inr, refl, LeavesOnly, Ghosts, weaker}}, specs.Commit.{sector_or}}
use Rattle.{sync_journal.specs.{Commit.{changed}, Committing.{HomesStandOr}, Layouts.{Layout, HomesStandAs, IsSettled, KeepsHomes, StandsForPages}, Map.{home_rank}}, disk_model.proofs.Moments.{joined}}

-- a commit changes the same in the same pages
pub changed_same : (before since : ℕ → ℕ → List ℕ) (homes : List ℕ) (pages : ℕ → List ℕ) (h i : ℕ) → since h i ≡ before h i
    → changed since homes pages h i ≡ changed before homes pages h i
unfolding changed
changed_same before since homes pages h i same = ap (λ old. sector_or pages old i (home_rank homes h)) same

module _ {S D : Type 0} (layout : Layout S) (fixes : FixesOutside layout) (g : Ghosts D) (old mid new : D) (size : g.sector_count mid ≡ g.sector_count old)
    {first : S} (finished : IsSettled layout g (g.sector_count old) (g.content old) first mid (layout.standing (g.content old))) where
  held : HomesStandAs layout (g.sector_count old) (g.content old) (g.content mid)
  held = finished.left (g.content mid) (record { kept = λ k. inr refl })

  settled_with : (state : S) (found pages : ℕ → ℕ → List ℕ) → ((h i : ℕ) → i < 8 → found h i ≡ pages h i) → IsSettled layout g (g.sector_count mid) (g.content mid) state new found
      → IsSettled layout g (g.sector_count old) (g.content old) state new pages
  settled_with state found pages same settled =
      let here = subst (λ n. IsSettled layout g n (g.content mid) state new found) size settled in
      record {
        rest = here.rest;
        stands = same_pages layout found pages same (g.content new) here.stands;
        outside = λ k out. here.outside k (fixes (g.sector_count old) (g.content old) (g.content mid) held.outside k out) ∙ held.outside k out;
        left = λ image may. kept_again layout fixes (g.sector_count old) (g.content old) (g.content mid) image (StandsForPages layout found) (StandsForPages layout pages) held
            (same_pages layout found pages same image) (here.left image may);
      }

  -- the moments of both parts where the source failed, and their end
  pub both_before : KeepsHomes layout g old mid → KeepsHomes layout g mid new → KeepsHomes layout g old new
  both_before earlier later = joined g old mid new (HomesStandAs layout (g.sector_count old) (g.content old)) earlier
      (weaker g mid new (HomesStandAs layout (g.sector_count old) (g.content mid)) (HomesStandAs layout (g.sector_count old) (g.content old))
      (λ image. stands_again layout fixes (g.sector_count old) (g.content old) (g.content mid) image held)
      (subst (λ n. LeavesOnly g mid new (HomesStandAs layout n (g.content mid))) size later))

  pub settled_before : (state : S) → IsSettled layout g (g.sector_count mid) (g.content mid) state new (layout.standing (g.content mid))
      → IsSettled layout g (g.sector_count old) (g.content old) state new (layout.standing (g.content old))
  settled_before state = settled_with state _ _ held.stands.each

  -- and where it gave these pages
  module _ (homes : List ℕ) (pages : ℕ → List ℕ) where
    same_changed : (h i : ℕ) → i < 8 → changed (layout.standing (g.content mid)) homes pages h i ≡ changed (layout.standing (g.content old)) homes pages h i
    same_changed h i below = changed_same (layout.standing (g.content old)) (layout.standing (g.content mid)) homes pages h i (held.stands.each h i below)

    pub both_either : KeepsHomes layout g old mid → LeavesOnly g mid new (HomesStandOr layout (g.sector_count mid) homes pages (g.content mid))
        → LeavesOnly g old new (HomesStandOr layout (g.sector_count old) homes pages (g.content old))
    both_either earlier later = joined g old mid new (HomesStandOr layout (g.sector_count old) homes pages (g.content old))
        (weaker g old mid _ _ (or_before layout (g.sector_count old) homes pages (g.content old)) earlier)
        (weaker g mid new (HomesStandOr layout (g.sector_count old) homes pages (g.content mid)) (HomesStandOr layout (g.sector_count old) homes pages (g.content old))
        (λ image. kept_again layout fixes (g.sector_count old) (g.content old) (g.content mid) image _ _ held
        (⊎_elim (λ before. inl (same_pages layout _ _ held.stands.each image before)) (λ after. inr (same_pages layout _ _ same_changed image after))))
        (subst (λ n. LeavesOnly g mid new (HomesStandOr layout n homes pages (g.content mid))) size later))

    pub settled_after : (state : S) → IsSettled layout g (g.sector_count mid) (g.content mid) state new (changed (layout.standing (g.content mid)) homes pages)
        → IsSettled layout g (g.sector_count old) (g.content old) state new (changed (layout.standing (g.content old)) homes pages)
    settled_after state = settled_with state _ _ same_changed

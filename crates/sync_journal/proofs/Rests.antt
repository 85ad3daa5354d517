-- What a device holds between two commits.
use Rattle.sync_journal.proofs.Names.{◌≡◌, ◌<◌, ◌+◌, ℕ, List, [], ◌∷◌, length, take, get_or, sym, ap, subst, ◌∙◌, arith, Ghosts, Image, Touches, Nothing, joined, joined-same}
use Rattle.sync_journal.specs.{Map.{home_rank}, Standing.{standing_single, place_or_home, IsOpenFor}, Gate.{is_open}, Commit.{IsQuiet, IsLive, IsAtRest}, Journal.{live_homes}, declared.journal.Journal.{Journal}}
use Rattle.sync_journal.proofs.{Sectors.{same_image, reads_unsynced}, Images.{no_place, standing_closed, standing_open}}

-- a journal of no pages is not live
pub none_live : (journal : Journal) → journal.count ≡ 0 → live_homes journal ≡ []
none_live journal none = ap (λ n. take n journal.homes) none

module _ {D : Type 0} (g : Ghosts D) where
  pub live_at_rest : (homes : List ℕ) (d : D) → 0 < length homes → IsLive g homes d → IsAtRest g homes d
  live_at_rest [] d some live = absurd (omega (arith, some))
  live_at_rest (home ∷ homes) d some live = live

  pub rest_quiet : (homes : List ℕ) (d : D) → homes ≡ [] → IsAtRest g homes d → IsQuiet g d
  rest_quiet homes d none rest = subst (λ live. IsAtRest g live d) none rest

  -- reading leaves what is at rest
  pub rest_read : (homes : List ℕ) (old new : D) → Touches g Nothing old new → IsAtRest g homes old → IsAtRest g homes new
  rest_read [] old new run quiet = record { closed = ap (λ (image : Image). is_open image) (same_image g old new run) ∙ quiet.closed; synced = λ k u. quiet.synced k (reads_unsynced g old new run k u) }
  rest_read (home ∷ more) old new run live = record { opened = subst (IsOpenFor (home ∷ more)) (sym (same_image g old new run)) live.opened; synced = λ k u. live.synced k (reads_unsynced g old new run k u) }

  -- where a home page stands: in the body where the journal is live with it
  pub standing_rest : (homes : List ℕ) (d : D) (h i : ℕ) → IsAtRest g homes d → standing_single (g.content d) h i ≡ g.content d (place_or_home h (home_rank homes h) + i)
  standing_rest [] d h i rest = standing_closed (g.content d) h i rest.closed ∙ ap (λ o. g.content d (place_or_home h o + i)) (sym (no_place (λ j. get_or [] j 0) h))
  standing_rest (home ∷ homes) d h i rest = standing_open (home ∷ homes) (g.content d) h i rest.opened

  -- a page read from where its home page stands
  pub page_stands : (homes : List ℕ) (d : D) (h first : ℕ) → IsAtRest g homes d → first ≡ place_or_home h (home_rank homes h)
      → joined (λ i. g.content d (first + i)) 8 ≡ joined (standing_single (g.content d) h) 8
  page_stands homes d h first rest at = joined-same 8 (λ i. g.content d (first + i)) (standing_single (g.content d) h)
      (λ i below. ap (λ n. g.content d (n + i)) at ∙ sym (standing_rest homes d h i rest))

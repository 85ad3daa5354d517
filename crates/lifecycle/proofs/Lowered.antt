-- The entry of a process's own page is set to a weaker one.
use Rattle.lifecycle.proofs.Names.{top_level, ◌≡◌, ◌≢◌, ℕ, true, Some, None, get_or, sym, ap, ◌∙◌, false≢true, Free, is_valid, frame_of, SetsEntry, IsPage, row_stays, InFrame, seat, is_private, Picture, entry, IsRootedBut, IsEntryFor}
use Rattle.lifecycle.proofs.Names.{IsFit, nowhere, SameBeside, SetsPage, entry_for-same, behind_kept, fit_set, set_views, set_held, sets_page, rooted_set, seat_own, tables_same}
use Rattle.lifecycle.{specs.Shares.{IsTableFor, Weakens, Withdraws}, proofs.{Given.{set_counts}, Weaker.{weaker_for, weaker_seat, weaker_lowered, leaf_own}}}

-- an entry was set
pub places_set : {mode : ℕ} (old new : Picture mode) (m r page number : ℕ) → IsRootedBut old m → ((pid : ℕ) → new.root pid ≡ old.root pid)
    → SetsEntry old.frames new.frames (top_level mode) r page number → (q row n : ℕ) → IsTableFor old q row n → IsTableFor new q row n
places_set {mode = mode} old new m r page number rooted root sets q row n place x is =
    row_stays old.frames new.frames (top_level mode) r page number sets x row n (rooted.roots q x (sym (root q) ∙ is)) (place x (sym (root q) ∙ is))

module _ {mode : ℕ} (old new : Picture mode) (pid r page e : ℕ) (fit : IsFit old) (root : old.root pid ≡ Some r) (h : IsPage (top_level mode) page) (valid : is_valid (entry old pid page) ≡ true)
    (some : seat (entry old pid page) ≢ None) (weaker : Weakens (entry old pid page) e) (sets : SetsEntry old.frames new.frames (top_level mode) r page e) (beside : SameBeside old new) where
  own : is_private (entry old pid page) ≡ true
  own = leaf_own (entry old pid page) valid some

  page_set : SetsPage old new pid page e
  page_set = sets_page old new 0 pid r page e fit.rooted root h sets beside

  for_page : IsEntryFor new (old.at pid page) e
  for_page = weaker_for new (old.at pid page) (entry old pid page) e own weaker
      (entry_for-same old new (old.at pid page) (entry old pid page) (behind_kept old new beside)
      (λ private write one. page_set.shares.counts (frame_of (entry old pid page)) (fit.counted.1.named pid page (InFrame (frame_of (entry old pid page))) h (seat_own (entry old pid page) private)) ∙ one)
      (fit.granting.entries pid page h))

  pub fit_lowered : IsFit new
  fit_lowered = fit_set old new pid page e 0 page_set h for_page (rooted_set old new 0 r page e fit.rooted sets beside)
      (λ p v common. absurd (false≢true (sym common ∙ weaker.private ∙ own))) (weaker_seat (entry old pid page) e weaker) nowhere 0 fit

  pub withdraws : Withdraws old new pid page e
  withdraws = record {
    sets = page_set;
    lowered = weaker_lowered (entry old pid page) e own weaker;
    seated = weaker_seat (entry old pid page) e weaker;
    unwritten = λ v. weaker.unwritten valid;
    views = set_views old new pid page e 0 nowhere 0 fit page_set h (weaker_seat (entry old pid page) e weaker);
    held = set_held old new pid page e 0 nowhere 0 fit page_set;
    room = record { frames = sets.kept.frames; slots = ap (λ t. t.total) beside.slots };
    tables = tables_same old new (λ q x p lives. sets.missing x p (fit.rooted.roots q x lives));
    roles = λ n. ap (λ rs. get_or rs n Free) sets.kept.roles;
    counts = set_counts old new beside.slots sets.kept;
    pointers = λ n i m. (sets.pointers n i m).0;
  }

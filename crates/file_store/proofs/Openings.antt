-- What opening leaves meanwhile.
use Rattle.file_store.proofs.{Names.{◌≡◌, ◌≤◌, ℕ, Result, Ok, Err, OnOk, ⊎_elim, subst, Image, Nothing, Touches, LeavesOnly, Ghosts, weaker, one_journal, HomesStandAs, Version}, Images.{stands_kept, layout_is_good_in}, Reading.{same_content}, Stops.{stands_as_again}}
use Rattle.file_store.specs.{Versions.{homes_of, home_pages_of, directory_of, mark_of}, Directory.{AreGood}, Standing.{StandsAs, IsBadLayoutIn}}

-- a layout with its mark and a good directory is good
pub good_when : {T E : Type 0} (r : Result T E) (version : Version) (n m : ℕ) (old mid : Image) → m ≡ n → mid ≡ old → homes_of version ≤ n → old 0 ≡ mark_of version
    → OnOk r (AreGood (home_pages_of version m) (mid (directory_of version)) 64) → OnOk r (IsBadLayoutIn version n old → ⊥)
good_when (Err e) version n m old mid size same room marked good = tt
good_when (Ok x) version n m old mid size same room marked good = layout_is_good_in version n old room marked
    (subst (λ (image : Image). AreGood (home_pages_of version n) (image (directory_of version)) 64) same (subst (λ k. AreGood (home_pages_of version k) (mid (directory_of version)) 64) size good))

module _ {D : Type 0} (g : Ghosts D) where
  pub content_is : (old new : D) → Touches g Nothing old new → g.content new ≡ g.content old
  content_is old new run = λ t k. (same_content g old new run k) t

  -- reads leave nothing unsynced
  pub still_synced : (old new : D) → Touches g Nothing old new → ((k : ℕ) → g.unsynced old k → ⊥) → (k : ℕ) → g.unsynced new k → ⊥
  still_synced old new run synced k u = ⊎_elim (synced k) (λ none. none) (run.unsynced k u)

  -- where the homes stand, the files stand as they did before any earlier stop
  pub files_stand : (old new : D) (sectors : ℕ) (first : Image) → StandsAs sectors first (g.content old)
      → LeavesOnly g old new (HomesStandAs one_journal sectors (g.content old)) → LeavesOnly g old new (StandsAs sectors first)
  files_stand old new sectors first was homes = weaker g old new (HomesStandAs one_journal sectors (g.content old)) (StandsAs sectors first)
      (λ image kept. stands_as_again sectors first (g.content old) image was (stands_kept sectors (g.content old) image kept)) homes

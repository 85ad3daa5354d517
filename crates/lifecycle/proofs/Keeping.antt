-- What steps keep of the processes and of the files.
use Rattle.lifecycle.proofs.Names.{◌≡◌, ℕ, inl, inr, Option, Some, None, false, refl, sym, ap, ◌∙◌, subst, false≢true, PageKey, FrameNo, is_some, Free, Private, FrameTable, frame_count, role_of, Points, Picture, is_live, entry, KeepsPages}
use Rattle.lifecycle.{proofs.Names.{Frees, Same, GivesForTables}, specs.Changes.{KeepsProcesses, TakesNoCopy}}

-- whether a process lives
pub live_same : {mode : ℕ} (old new : Picture mode) (pid : ℕ) → new.root pid ≡ old.root pid → is_live new pid ≡ is_live old pid
live_same old new pid root = ap is_some root

pub dead_root : (root : Option ℕ) → is_some root ≡ false → root ≡ None
dead_root None dead = refl
dead_root (Some r) dead = absurd (false≢true (sym dead))

pub pages_kept : {mode : ℕ} (old new : Picture mode) → KeepsPages old new → KeepsProcesses old new
pages_kept old new pages = record { live = λ pid. live_same old new pid (pages.root pid); views = pages.views }

-- a frame that is given up is no process's own
pub no_copy_freed : {mode : ℕ} (old new : Picture mode) (keep : Option FrameNo) → Frees old new keep → TakesNoCopy old.frames new.frames
no_copy_freed old new keep frees n is = elim (frees.roles n) [ inl same ↦ sym same ∙ is | inr freed ↦ (let bad : Free ≡ Private = sym freed.0 ∙ is in (cc)) ]

-- nothing is given up where frames, entries and places are the same
pub gives_alike : {mode : ℕ} (old new : Picture mode) → new.frames ≡ old.frames → ((q page : ℕ) → entry new q page ≡ entry old q page) → ((p : PageKey) → new.place p ≡ old.place p)
    → GivesForTables old new None
gives_alike old new frames entries places = record {
  count = ap frame_count frames;
  roles = λ n. inl (ap (λ t. role_of t n) frames);
  entries = λ q page h. Same (entries q page);
  pointers = λ n i m points. subst (λ (t : FrameTable). Points t n i m) (sym frames) points;
  needed = inr (record { roles = λ n held. ap (λ t. role_of t n) frames; entries = λ q page h. entries q page; places = places });
}

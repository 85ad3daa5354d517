-- Calls that take nothing.
use Rattle.vm_types.specs.declared.mode.Levels as Levels
use Rattle.spaces.proofs.Names.{ℕ, inl, inr, ◌≡◌, List, refl, sym, ap, ◌∙◌, cases_Bool, get_or, Role, Free, TakesNoFrame, none_taken, still_framed, place_of, is_touched, KeepsNamed, without_maps, KeepsEntriesOfOthers, ReturnsTables}
use Rattle.spaces.proofs.Names.{true, false, not, false≢true, subst, arith, nat_tests, in_row, page_count, Errno, Reply, Refused, Prot, Ghosts, IsSoundCore}
use Rattle.spaces.{proofs.Names.{KeepsFrames, Core, IsFit, Picture, picture_of, root_in, Object, is_named}, specs.{Calls.{AccountsFor}, Ranges.{EmptiesRange, GivesPagesBack, PermitsRange, TakesNothing, is_range_done}}}
use Rattle.vm_types.specs.{Prefix.{is_io_error}, declared.refusal.Errno.TheVariants.{EIO}}

-- a call that changes nothing takes nothing
pub takes_none : {mode : ℕ} (c : Picture mode) (pid first pages : ℕ) → TakesNothing c c pid first pages
takes_none c pid first pages = record { frames = λ n. inl refl; place = λ p named. refl; touched = λ p named. refl; gone = λ p. inl refl; others = λ q page h ne. refl }

-- and no entry, where it is not done
pub empties_none : {mode : ℕ} (c : Picture mode) (pid first pages : ℕ) (reply : Reply) → is_range_done reply ≡ false → EmptiesRange c c pid first pages reply
empties_none c pid first pages reply not_done = record { beside = λ page h out. refl; bare = λ done. absurd (false≢true (sym not_done ∙ done)) }

pub permits_none : {mode : ℕ} (c : Picture mode) (pid first pages : ℕ) (prot : Prot) (reply : Reply) → is_range_done reply ≡ false → PermitsRange c c pid first pages prot reply
permits_none c pid first pages prot reply not_done = record { beside = λ page h out. refl; permits = λ done. absurd (false≢true (sym not_done ∙ done)) }

same_errno : (a b : Errno) → Refused a ≡ Refused b → a ≡ b
same_errno a b e = cc

-- a call that a check refuses, which is never by EIO, does nothing
module _ {M : Type 0} {m : Levels.Ghosts M} {D E : Type 0} (g : Ghosts D) (h : Ghosts E) (core : Core D E M m) (errno : Errno) (other : not (is_io_error errno) ≡ true) (sound : IsSoundCore g h core) where
  no_error : Refused errno ≡ Refused EIO → ⊥
  no_error e = false≢true (subst (λ (n : Errno). not (is_io_error n) ≡ true) (same_errno errno EIO e) other)

  pub accounts_refused : AccountsFor g h core core (Refused errno)
  accounts_refused = record {
    sound = sound;
    room = record { frames = refl; slots = refl };
    denied = λ denied. refl;
    caused = record {
      later = omega arith;
      swap_later = omega arith;
      calm = λ named. refl;
      swap_calm = λ named. refl;
      counted = omega arith;
      failed = λ e. absurd (no_error e);
      stalled = λ stall e. cc;
    };
  }

  pub returns_refused : (pid first pages : ℕ) → GivesPagesBack g h core core pid first pages (Refused errno)
  returns_refused pid first pages = record {
    accounts = accounts_refused;
    devices = record { store = refl; pages = refl };
    takes = takes_none (picture_of core) pid first pages;
  }

-- no bytes are those of no page
pub no_page : (first len page : ℕ) → len ≡ 0 → in_row first (page_count len) page ≡ true → ⊥
no_page first len page none inside =
    let count : page_count len ≡ 0 = omega (arith, none) in
    let at : in_row first 0 page ≡ true = subst (λ (n : ℕ). in_row first n page ≡ true) count inside in
    grind (arith, nat_tests)

-- pages of objects that only a row named went
pub takes_named : {mode : ℕ} (old new : Picture mode) (pid first pages : ℕ) → TakesNoFrame old.frames new.frames
    → KeepsNamed (without_maps old.at pid first pages) old new → KeepsEntriesOfOthers old new pid → TakesNothing old new pid first pages
takes_named old new pid first pages frames keeps others = record {
  frames = frames;
  place = keeps.place;
  touched = keeps.touched;
  gone = λ p. elim (cases_Bool (is_named (without_maps old.at pid first pages) p.object p.page)) [
    | inl named ↦ inl (keeps.place (Object p) named)
    | inr none ↦ inr (keeps.gone p none)
  ];
  others = others;
}

module _ {M : Type 0} {m : Levels.Ghosts M} {D E : Type 0} (old new : Core D E M m) (pid first pages : ℕ) where
  -- tables and own copies went, and pages of objects that only a row named
  pub takes_remapped : IsFit (picture_of old) → IsFit (picture_of new) → new.roots ≡ old.roots → ReturnsTables (picture_of old) (picture_of new) pid
      → KeepsNamed (without_maps (picture_of old).at pid first pages) (picture_of old) (picture_of new) → KeepsEntriesOfOthers (picture_of old) (picture_of new) pid
      → TakesNothing (picture_of old) (picture_of new) pid first pages
  takes_remapped fit fit' roots returned keeps others =
      takes_named (picture_of old) (picture_of new) pid first pages
      (none_taken (picture_of old) (picture_of new) pid fit fit' old.sound new.sound (λ q. ap (λ r. root_in r.items q) roots) returned
      (still_framed (picture_of old) (picture_of new) (without_maps (picture_of old).at pid first pages) keeps)) keeps others

  -- no page of a file or an object went
  pub takes_cached : new.cache ≡ old.cache → TakesNoFrame old.frames new.frames → KeepsEntriesOfOthers (picture_of old) (picture_of new) pid
      → TakesNothing (picture_of old) (picture_of new) pid first pages
  takes_cached cache frames others = record {
    frames = frames;
    place = λ p named. ap (λ t. place_of t p) cache;
    touched = λ p named. ap (λ t. is_touched t p) cache;
    gone = λ p. inl (ap (λ t. place_of t (Object p)) cache);
    others = others;
  }

  -- tables and own copies went
  pub takes_cleared : IsFit (picture_of old) → IsFit (picture_of new) → new.roots ≡ old.roots → ReturnsTables (picture_of old) (picture_of new) pid
      → new.cache ≡ old.cache → KeepsEntriesOfOthers (picture_of old) (picture_of new) pid → TakesNothing (picture_of old) (picture_of new) pid first pages
  takes_cleared fit fit' roots returned cache others =
      takes_cached cache
      (none_taken (picture_of old) (picture_of new) pid fit fit' old.sound new.sound (λ q. ap (λ r. root_in r.items q) roots) returned
      (λ p n at. sym (ap (λ t. place_of t p) cache) ∙ at)) others

  -- bytes of tables changed alone
  pub takes_rewritten : KeepsFrames old.frames new.frames → new.cache ≡ old.cache → KeepsEntriesOfOthers (picture_of old) (picture_of new) pid
      → TakesNothing (picture_of old) (picture_of new) pid first pages
  takes_rewritten keeps cache others = takes_cached cache (λ n. inl (ap (λ (roles : List Role). get_or roles n Free) keeps.roles)) others

-- A commit of what is listed is one of changes, as a source gives them by their places.
use Rattle.std.proofs.Common.{ℕ, ◌≡◌, List, Option, Some, None, Result, Ok, Err, IsErrAnd, refl, sym, ap, subst, ◌∙◌}
use Rattle.disk_model.specs.declared.sector_disk.SectorDisk.{Ghosts}
use Rattle.vm_types.specs.declared.file.FilePage.{FilePage}
use Rattle.growth.specs.declared.changes.Change.{Change}
use Rattle.pool_growth.specs.{Commit.{CommitsInSlots}, Files.{ChangesFiles}}
use Rattle.pool_store.specs.declared.store.PoolStore.{PoolStore}
use Rattle.sync_journal.specs.Source.{Asks, HasCauses}
use Rattle.sync_journal.specs.declared.{faults.CommitFault.{CommitFault}, source.PageSource.{Ghosts as SourceGhosts}}
use Rattle.sized_stores.specs.{Faults.{fault_of, told_of}, Given.{given_page, page_in, place_of}, Listed.{listed_in, CommitsListed}}
use Rattle.sized_stores.specs.declared.{faults.SizeFault.{SizeFault}, room.SizeRoom.{SizeRoom}}

-- a fault is told as what it stands for
pub told_so : (fault : CommitFault) (result : Result (Unit {0}) SizeFault) → IsErrAnd result (λ e. e ≡ fault_of fault) → result ≡ told_of (Err fault)
told_so fault (Ok done) is = absurd is
told_so fault (Err e) is = ap Err is

-- the same pages give the same in their places
page_same : (pages others : ℕ → List ℕ) → ((k : ℕ) → pages k ≡ others k) → (o : Option ℕ) → page_in pages o ≡ page_in others o
page_same pages others same None = refl
page_same pages others same (Some place) = same place

-- and so they do where they are sure
page_sure : (pages others : ℕ → List ℕ) (o : Option ℕ) → ((place : ℕ) → o ≡ Some place → pages place ≡ others place) → page_in pages o ≡ page_in others o
page_sure pages others None same = refl
page_sure pages others (Some place) same = same place refl

module _ {S : Type 0} (s : SourceGhosts S) (room : SizeRoom) (from left : S) where
  asks_listed : Asks s from left → Asks (listed_in room s) from left
  asks_listed asks = record {
    kept = asks.kept;
    later = asks.later;
    same = λ keeps k. page_same (s.pages left) (s.pages from) (asks.same keeps) (place_of room.fresh.places.items room.kept.places.items k);
    sure = λ k sure. (
      λ place is. (asks.sure place (sure place is)).0,
      page_sure (s.pages left) (s.pages from) (place_of room.fresh.places.items room.kept.places.items k) (λ place is. (asks.sure place (sure place is)).1),
    );
    still = λ k gives place is. asks.still place (gives place is);
    follows = asks.follows;
  }

  -- Another source gives what is listed:
  module _ {D L : Type 0} (g : Ghosts D) (l : SourceGhosts L) (old new : PoolStore D) (given spent : L)
      (pages : l.pages given ≡ given_page room.fresh.places.items room.kept.places.items (s.pages from)) (keeps : s.keeps_model left → l.keeps_model spent)
      (failed : l.failures given ≡ s.failures from) (fails : l.failures spent ≡ s.failures left) (asks : Asks s from left) where
    commits_listed : (told : Result (Unit {0}) CommitFault) → CommitsInSlots g l old new room.changes.items room.fresh.pages.items room.kept.pages.items given spent told
        → CommitsInSlots g (listed_in room s) old new room.changes.items room.fresh.pages.items room.kept.pages.items from left told
    commits_listed told e = record {
      ok = λ kept gives files before after now changed. e.ok kept (keeps gives) files before after now (as_given files before after changed);
      synced = e.synced;
      ready = e.ready;
      files = e.files;
      room = e.room;
      any_moment = λ kept gives files before after now changed. e.any_moment kept (keeps gives) files before after now (as_given files before after changed);
      blocks = λ kept gives files before after now changed. e.blocks kept (keeps gives) files before after now (as_given files before after changed);
      source = e.source;
      source_now = e.source_now;
      room_after_source = e.room_after_source;
      settles_after_source = e.settles_after_source;
      ready_after_source = e.ready_after_source;
      files_after_error = e.files_after_error;
      sizes = e.sizes;
      pages = e.pages;
      size = e.size;
      kept = e.kept;
      asks = asks_listed asks;
      asks_device = e.asks_device;
      touches = e.touches;
      causes = subst (λ n. HasCauses (g.failures old.disk) (g.failures new.disk) n (s.failures left) told) failed
          (subst (λ n. HasCauses (g.failures old.disk) (g.failures new.disk) (l.failures given) n told) fails e.causes);
    }
      where
        as_given : (files : _) (before after : ℕ → ℕ → List ℕ) → ChangesFiles files room.changes.items room.fresh.pages.items room.kept.pages.items ((listed_in room s).pages from) before after
            → ChangesFiles files room.changes.items room.fresh.pages.items room.kept.pages.items (l.pages given) before after
        as_given files before after = subst (λ (given : ℕ → List ℕ). ChangesFiles files room.changes.items room.fresh.pages.items room.kept.pages.items given before after) (sym pages)

  -- Lists of the room are committed, as a source gives them,
  module _ {D L : Type 0} (g : Ghosts D) (l : SourceGhosts L) (old new : PoolStore D) (given spent : L) (changes : List Change) (fresh list : List FilePage) (places others : List ℕ)
      (changes_are : changes ≡ room.changes.items) (fresh_are : fresh ≡ room.fresh.pages.items) (list_are : list ≡ room.kept.pages.items)
      (places_are : places ≡ room.fresh.places.items) (others_are : others ≡ room.kept.places.items)
      (pages : l.pages given ≡ given_page places others (s.pages from)) (keeps : s.keeps_model left → l.keeps_model spent)
      (failed : l.failures given ≡ s.failures from) (fails : l.failures spent ≡ s.failures left) (asks : Asks s from left) where
    -- and so what is listed is.
    pub is_listed : (told : Result (Unit {0}) CommitFault) → CommitsInSlots g l old new changes fresh list given spent told
        → (result : Result (Unit {0}) SizeFault) → result ≡ told_of told → (end : S) → end ≡ left → CommitsListed g s old new room from end result
    is_listed told e result is end ends = subst (λ (left : S). CommitsListed g s old new room from left result) (sym ends)
        (record {
          outcome = told;
          told = is;
          commits = commits_listed g l old new given spent (pages ∙ ap (λ (xs : List ℕ). given_page xs others (s.pages from)) places_are ∙ ap (λ (xs : List ℕ). given_page room.fresh.places.items xs (s.pages from)) others_are)
              keeps failed fails asks told
              (subst (λ (ps : List FilePage). CommitsInSlots g l old new room.changes.items room.fresh.pages.items ps given spent told) list_are
              (subst (λ (ps : List FilePage). CommitsInSlots g l old new room.changes.items ps list given spent told) fresh_are
              (subst (λ (cs : List Change). CommitsInSlots g l old new cs fresh list given spent told) changes_are e)));
          asks = asks;
        })

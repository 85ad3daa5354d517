-- An opening after a look at the mark, or a store taken up after it, a device without a sector, and stops in a row.
use Rattle.stores.proofs.Names.{ℕ, zero, suc, Bool, true, false, not, Result, Ok, Err, ◌≡◌, ◌⊎◌, ◌∙◌, ⊎_elim, inl, inr, refl, sym, ap, subst, arith, stays, then, wider}
use Rattle.stores.proofs.Names.{Ghosts, Image, AsksOnly, LeavesNow, LeavesOnly, MayLeave, Nothing, Touches, RunsOnDevice}
use Rattle.std.specs.Prelude.{MatchResult}
use Rattle.disk_model.{proofs.{Moments.{asks_named, asks_none, asks_then, joined}, Naming.{once_named, once_still}}, specs.Stop.{NamesOnce}}
use Rattle.sync_journal.proofs.Sectors.{reads_unsynced, same_content, so_before, while_read}
use Rattle.file_store.specs.Standing.IsBadLayoutIn.{TooSmall as FewSectors}
use Rattle.pool_journal.specs.{Pools.{pool_named}, Recovering.{RestoresInBlocks}}
use Rattle.pool_store.specs.{Opened.{ReadsThenRenews}, Pools.{IsBadPool.{TooSmall}}, Resume.{HasPoolHead, IsReadOf}}
use Rattle.stores.specs.Images.{free_pages, is_pool, map_blocks, most_pages, says_by, IsBadLayout, IsBadJournal, IsClosed, IsOutside, IsAskedToOpen, IsWrittenToOpen, SaysMostOf, StandsAs}
use Rattle.stores.specs.{Commit.{KeepsHomesIn}, Marks.{LooksAtMark}, Opened.{IsCarriedOut, LeftInARow, OpensFrom, OpensOnce, OpensWith, RefusesToOpen, RunsOpening}, Resumed.{IsAsNamed, ResumesFrom, ResumesOnce, ResumesWith, RefusesToResume, RunsResuming}, Store.{disk_of, kept_of, free_of, always_free_in}}
use Rattle.stores.specs.declared.{faults.OpenFault.{OpenFault, TheVariants.{Device, BadLayout}}, store.{Store.{Store}, Store.TheVariants.{Journal, Pool}}}

-- Every layout has sectors before its homes, so that a device without one has no store, whatever its image.
none_fits : (in_pool : Bool) (sectors : ℕ) (image : Image) → sectors ≡ 0 → (says_by in_pool sectors image).HasBadLayout
none_fits false sectors image none = FewSectors (omega (arith, none))
none_fits true sectors image none = TooSmall (omega (arith, none))

-- Every opening asks for the mark.
mark_asked : (in_pool : Bool) (sectors : ℕ) (image : Image) (k : ℕ) → k ≡ 0 → (says_by in_pool sectors image).IsAsked k
mark_asked false sectors image k at = inl (inl (omega (arith, at)))
mark_asked true sectors image k at = inl (omega (arith, at))

module _ {D : Type 0} (g : Ghosts D) (old : D) (only_now : (d : D) (image : Image) → g.keeps_model d → g.left_since d (g.moment d) image → MayLeave (g.content d) (g.unsynced d) image) where
  -- Where nothing is written, what an opening must keep is kept.
  reads_alone : (new : D) → RunsOnDevice g Nothing old new → AsksOnly g (IsAskedToOpen (g.sector_count old) (g.content old)) old new → RunsOpening g old new
  reads_alone new run asks = record {
    size = run.size;
    kept = run.kept;
    later = run.later;
    asks = λ keeps. asks;
    touches = λ keeps. wider g Nothing (IsWrittenToOpen (g.sector_count old) (g.content old)) old new (λ k none. absurd none) (run.touches keeps);
    closed_unwritten = λ keeps closed. run.touches keeps;
    outside = λ keeps k out. same_content g old new (run.touches keeps) k;
    any_moment = λ keeps synced. while_read g old new (run.touches keeps) (StandsAs (g.sector_count old) (g.content old)) (λ files pages stands. stands)
        (λ image left. only_now old image (run.kept keeps) left) synced;
    blocks = λ keeps synced marked. inl (run.touches keeps);
    most_moment = λ keeps synced. while_read g old new (run.touches keeps) (SaysMostOf (g.sector_count old) (g.content old)) refl
        (λ image left. only_now old image (run.kept keeps) left) synced;
  }

  -- A device without a sector is refused, and not looked at.
  pub refuses_none : g.sector_count old ≡ 0 → RefusesToOpen g old BadLayout old
  refuses_none none = record {
    err_run = reads_alone old (record { size = refl; kept = λ keeps. keeps; later = omega arith; touches = λ keeps. stays g Nothing old })
        (asks_none g (IsAskedToOpen (g.sector_count old) (g.content old)) old old (λ k. refl));
    device = λ is. cc;
    err_calm = λ other. refl;
    unwritten = λ keeps other. stays g Nothing old;
    bad_unwritten = λ keeps bad. stays g Nothing old;
    bad_layout = λ keeps is. none_fits (is_pool (g.content old)) (g.sector_count old) (g.content old) none;
    bad_journal = λ keeps is. cc;
    layout_first = λ keeps is bad. cc;
    memory = λ keeps is. cc;
  }

  pub refuses_to_resume_none : g.sector_count old ≡ 0 → RefusesToResume g old BadLayout old
  refuses_to_resume_none none =
      let r = refuses_none none in
      record { refused = r; resuming = record { run = r.err_run; pool_unwritten = λ keeps marked. stays g Nothing old } }

  -- So does a look at the mark, of which every opening asks.
  looks_alone : {E : Type 0} {r : Result Bool E} (mid : D) → LooksAtMark g old mid r → RunsOpening g old mid
  looks_alone mid look = reads_alone mid look.run
      (asks_named g (IsAskedToOpen (g.sector_count old) (g.content old)) (λ k. k ≡ 0) old mid (mark_asked (is_pool (g.content old)) (g.sector_count old) (g.content old)) look.once)

  -- It may fail,
  pub refuses_look : {E : Type 0} (e : E) (mid : D) → LooksAtMark g old mid (Err e) → RefusesToOpen g old Device mid
  refuses_look e mid look = record {
    err_run = looks_alone mid look;
    device = λ is. look.cause.failed refl;
    err_calm = λ other. absurd (other refl);
    unwritten = λ keeps other. absurd (other refl);
    bad_unwritten = λ keeps bad. look.run.touches keeps;
    bad_layout = λ keeps is. cc;
    bad_journal = λ keeps is. cc;
    layout_first = λ keeps is bad. cc;
    memory = λ keeps is. cc;
  }

  pub refuses_to_resume_look : {E : Type 0} (e : E) (mid : D) → LooksAtMark g old mid (Err e) → RefusesToResume g old Device mid
  refuses_to_resume_look e mid look =
      let r = refuses_look e mid look in
      record { refused = r; resuming = record { run = r.err_run; pool_unwritten = λ keeps marked. look.run.touches keeps } }

  -- and what comes of an opening after it came of the device before it.
  module _ {E : Type 0} (in_pool : Bool) (mid : D) (look : LooksAtMark {E = E} g old mid (Ok in_pool)) where
    before : (P : ℕ → Image → Type 0) → g.keeps_model mid → P (g.sector_count mid) (g.content mid) → P (g.sector_count old) (g.content old)
    before P keeps = so_before g old mid (look.run.touches keeps) P look.run.size

    run_since : (new : D) → RunsOpening g mid new → RunsOpening g old new
    run_since new run =
        let first = looks_alone mid look in
        record {
          size = run.size ∙ look.run.size;
          kept = λ keeps. look.run.kept (run.kept keeps);
          later = (let one = look.run.later in let two = run.later in omega (arith, one, two));
          asks = λ keeps. asks_then g (IsAskedToOpen (g.sector_count old) (g.content old)) old mid new (first.asks (run.kept keeps))
              (before (λ n image. AsksOnly g (IsAskedToOpen n image) mid new) (run.kept keeps) (run.asks keeps));
          touches = λ keeps. then g (IsWrittenToOpen (g.sector_count old) (g.content old)) old mid new (first.touches (run.kept keeps))
              (before (λ n image. Touches g (IsWrittenToOpen n image) mid new) (run.kept keeps) (run.touches keeps));
          closed_unwritten = λ keeps closed. then g Nothing old mid new (look.run.touches (run.kept keeps))
              (before (λ n image. IsClosed n image → Touches g Nothing mid new) (run.kept keeps) (run.closed_unwritten keeps) closed);
          outside = λ keeps k out. before (λ n image. IsOutside n image k → g.content new k ≡ g.content mid k) (run.kept keeps) (run.outside keeps k) out
              ∙ same_content g old mid (look.run.touches (run.kept keeps)) k;
          any_moment = λ keeps synced. joined g old mid new (StandsAs (g.sector_count old) (g.content old)) (first.any_moment (run.kept keeps) synced)
              (before (λ n image. LeavesOnly g mid new (StandsAs n image)) (run.kept keeps)
              (run.any_moment keeps (λ k u. synced k (reads_unsynced g old mid (look.run.touches (run.kept keeps)) k u))));
          blocks = λ keeps synced marked. ⊎_elim
              (λ none. inl (then g Nothing old mid new (look.run.touches (run.kept keeps)) none))
              (λ anew. inr (anew.0, then g Nothing old mid anew.0 (look.run.touches (run.kept keeps)) anew.1, anew.2))
              (before (λ n image. is_pool image ≡ true → RestoresInBlocks g (map_blocks image) (not (pool_named image)) (StandsAs n image) mid new) (run.kept keeps)
              (run.blocks keeps (λ k u. synced k (reads_unsynced g old mid (look.run.touches (run.kept keeps)) k u))) marked);
          most_moment = λ keeps synced. joined g old mid new (SaysMostOf (g.sector_count old) (g.content old)) (first.most_moment (run.kept keeps) synced)
              (before (λ n image. LeavesOnly g mid new (SaysMostOf n image)) (run.kept keeps)
              (run.most_moment keeps (λ k u. synced k (reads_unsynced g old mid (look.run.touches (run.kept keeps)) k u))));
        }

    -- after whatever was looked at before no sector but the mark is looked at once more
    then_looked : (looked : D) → NamesOnce Nothing (g.asked mid) (g.asked looked) → NamesOnce (λ k. k ≡ 0) (g.asked old) (g.asked looked)
    then_looked looked none = once_still (λ k. k ≡ 0) (g.asked old) (g.asked mid) (g.asked looked)
        (once_named (λ k. k ≡ 0) (λ k. k ≡ 0) (g.asked old) (g.asked mid) (λ k at. at) look.once) (λ k. ⊎_elim (λ same. same) (λ named. absurd named.0) (none.each k))

    once_since : (store : Store D) → g.keeps_model mid → OpensOnce g Nothing mid store → OpensOnce g (λ k. k ≡ 0) old store
    once_since (Journal store) kept once = tt
    once_since (Pool store) kept once =
        (once.0, then_looked once.0 once.1, before (λ n image. ReadsThenRenews g store image once.0 store.disk) kept once.2)

    resumed_once : (store : Store D) → g.keeps_model mid → ResumesOnce g Nothing mid store → ResumesOnce g (λ k. k ≡ 0) old store
    resumed_once (Journal store) kept once = tt
    resumed_once (Pool store) kept once =
        (once.0, then_looked once.0 once.1, before (λ n image. NamesOnce (IsReadOf store image) (g.asked once.0) (g.asked store.disk)) kept once.2)

    opens_since : (store : Store D) → OpensWith g Nothing mid store → OpensFrom g old store
    opens_since store o = record {
      run = run_since (disk_of store) o.run;
      ready = o.ready;
      bounded = o.bounded;
      good_layout = λ keeps. before (λ n image. IsBadLayout n image → ⊥) (o.run.kept keeps) (o.good_layout keeps);
      good_journal = λ keeps. before (λ n image. IsBadJournal n image → ⊥) (o.run.kept keeps) (o.good_journal keeps);
      now = λ keeps. before (λ n image. LeavesNow g (disk_of store) (StandsAs n image)) (o.run.kept keeps) (o.now keeps);
      homes = λ keeps. before (λ n image. LeavesNow g (disk_of store) (KeepsHomesIn (kept_of store) n image)) (o.run.kept keeps) (o.homes keeps);
      synced = o.synced;
      most = λ keeps. before (λ n image. always_free_in (kept_of store) ≡ most_pages n image) (o.run.kept keeps) (o.most keeps);
      carried = λ keeps. before (λ n image. IsCarriedOut (kept_of store) image) (o.run.kept keeps) (o.carried keeps);
      emptied = λ keeps. before (λ n image. is_pool image ≡ false → IsClosed n (g.content (disk_of store))) (o.run.kept keeps) (o.emptied keeps);
      once = λ keeps. once_since store (o.run.kept keeps) (o.once keeps);
      calm = o.calm ∙ look.cause.calm;
    }

    refuses_since : (fault : OpenFault) (new : D) → RefusesToOpen g mid fault new → RefusesToOpen g old fault new
    refuses_since fault new r = record {
      err_run = run_since new r.err_run;
      device = λ is. (let failed = r.device is in let calm = look.cause.calm in omega (arith, failed, calm));
      err_calm = λ other. r.err_calm other ∙ look.cause.calm;
      unwritten = λ keeps other. then g Nothing old mid new (look.run.touches (r.err_run.kept keeps)) (r.unwritten keeps other);
      bad_unwritten = λ keeps bad. then g Nothing old mid new (look.run.touches (r.err_run.kept keeps))
          (before (λ n image. IsBadLayout n image ⊎ IsBadJournal n image → Touches g Nothing mid new) (r.err_run.kept keeps) (r.bad_unwritten keeps) bad);
      bad_layout = λ keeps is. before IsBadLayout (r.err_run.kept keeps) (r.bad_layout keeps is);
      bad_journal = λ keeps is. before IsBadJournal (r.err_run.kept keeps) (r.bad_journal keeps is);
      layout_first = λ keeps is. before (λ n image. IsBadLayout n image → ⊥) (r.err_run.kept keeps) (r.layout_first keeps is);
      memory = λ keeps is. before HasPoolHead (r.err_run.kept keeps) (r.memory keeps is);
    }

    pub since_look : (r : Result (Store D) (OpenFault × D)) → MatchResult r (λ store. OpensWith g Nothing mid store) (λ e. RefusesToOpen g mid e.0 e.1)
        → MatchResult r (λ store. OpensFrom g old store) (λ e. RefusesToOpen g old e.0 e.1)
    since_look (Ok store) opened = opens_since store opened
    since_look (Err e) refused = refuses_since e.0 e.1 refused

    -- So it is of a store that is taken up.
    resuming_since : (new : D) → RunsResuming g mid new → RunsResuming g old new
    resuming_since new r = record {
      run = run_since new r.run;
      pool_unwritten = λ keeps marked. then g Nothing old mid new (look.run.touches (r.run.kept keeps))
          (before (λ n image. is_pool image ≡ true → Touches g Nothing mid new) (r.run.kept keeps) (r.pool_unwritten keeps) marked);
    }

    resumes_since : (store : Store D) → ResumesWith g Nothing mid store → ResumesFrom g old store
    resumes_since store r = record {
      resuming = resuming_since (disk_of store) r.resuming;
      ready = r.ready;
      bounded = r.bounded;
      good_layout = λ keeps. before (λ n image. IsBadLayout n image → ⊥) (r.resuming.run.kept keeps) (r.good_layout keeps);
      good_journal = λ keeps. before (λ n image. IsBadJournal n image → ⊥) (r.resuming.run.kept keeps) (r.good_journal keeps);
      now = λ keeps. before (λ n image. LeavesNow g (disk_of store) (StandsAs n image)) (r.resuming.run.kept keeps) (r.now keeps);
      homes = λ keeps. before (λ n image. LeavesNow g (disk_of store) (KeepsHomesIn (kept_of store) n image)) (r.resuming.run.kept keeps) (r.homes keeps);
      synced = r.synced;
      named = λ keeps. before (λ n image. IsAsNamed (kept_of store) image) (r.resuming.run.kept keeps) (r.named keeps);
      free = λ keeps. before (λ n image. free_of store ≡ free_pages n image) (r.resuming.run.kept keeps) (r.free keeps);
      most = λ keeps. before (λ n image. always_free_in (kept_of store) ≡ most_pages n image) (r.resuming.run.kept keeps) (r.most keeps);
      once = λ keeps. resumed_once store (r.resuming.run.kept keeps) (r.once keeps);
      calm = r.calm ∙ look.cause.calm;
    }

    pub resumed_since_look : (r : Result (Store D) (OpenFault × D)) → MatchResult r (λ store. ResumesWith g Nothing mid store) (λ e. RefusesToResume g mid e.0 e.1)
        → MatchResult r (λ store. ResumesFrom g old store) (λ e. RefusesToResume g old e.0 e.1)
    resumed_since_look (Ok store) resumed = resumes_since store resumed
    resumed_since_look (Err e) r = record { refused = refuses_since e.0 e.1 r.refused; resuming = resuming_since e.1 r.resuming }

-- What any number of stops in a row leave, each within an opening of what the one before left, stands for what stood at first,
pub still_stands : {D : Type 0} (g : Ghosts D) (sectors n : ℕ) (first last : Image) → LeftInARow g sectors n first last → StandsAs sectors first last
still_stands g sectors zero first last same = subst (StandsAs sectors first) (sym same) (λ files pages was. was)
still_stands g sectors (suc n) first last stops =
    let old = stops.1 in
    let opens = stops.4 in
    let here = subst (λ k. StandsAs k stops.0 last) opens.size
    (subst (λ (held : Image). StandsAs (g.sector_count old) held last) opens.held (opens.stands.each last stops.5)) in
    λ files pages was. here files pages (still_stands g sectors n first stops.0 stops.3 files pages was)

-- and says of commits what was said at first.
pub still_most : {D : Type 0} (g : Ghosts D) (sectors n : ℕ) (first last : Image) → LeftInARow g sectors n first last → SaysMostOf sectors first last
still_most g sectors zero first last same = ap (most_pages sectors) same
still_most g sectors (suc n) first last stops =
    let old = stops.1 in
    let opens = stops.4 in
    subst (λ k. SaysMostOf k stops.0 last) opens.size
    (subst (λ (held : Image). SaysMostOf (g.sector_count old) held last) opens.held (opens.most.each last stops.5))
    ∙ still_most g sectors n first stops.0 stops.3

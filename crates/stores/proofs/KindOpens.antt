-- What an opening of a store of layout 2 leaves, and one that takes it up, in the words of every layout.
use Rattle.stores.proofs.{Front.{most_stays}, Heads.{same_mark}, Says.{as_kind}, Names.{◌≡◌, ◌≤◌, ◌⊎◌, ◌∙◌, ◌<◌, ℕ, false, refl, sym, ap, subst, ⊎_elim, inl, arith, true≢false}}
use Rattle.stores.proofs.Names.{Image, MayLeave, Nothing, Touches, AsksOnly, LeavesOnly, Ghosts, weaker}
use Rattle.file_store.proofs.Outside.{left_outside}
use Rattle.sync_journal.specs.{Commit.{one_journal}, Layout.{page_limit, IsRecovered}}
use Rattle.file_store.specs.Opened as KindOpened
use Rattle.file_store.specs.Standing as InFiles
use Rattle.file_store.specs.declared.{store.FileStore.{FileStore}, faults.OpenFault.{OpenFault as KindFault, TheVariants.{Device as KindDevice, BadLayout as KindLayout, BadJournal as KindJournal}}}
use Rattle.stores.specs.{Faults.{of_kind}, Images.{is_pool, ImageSays, says, says_by}, Opened.{RunsOpening, OpensWith, RefusesToOpen}, Resumed.{RunsResuming, ResumesWith, RefusesToResume}}
use Rattle.stores.specs.declared.{faults.OpenFault.TheVariants.{Device, BadLayout, BadJournal, Memory}, store.Store.TheVariants.{Journal}}

-- what the words of layout 2 say of an image without the mark of a pool, it says
pub in_kind : (P : ImageSays → Type 0) (sectors : ℕ) (image : Image) → is_pool image ≡ false → P (says_by false sectors image) → P (says sectors image)
in_kind P sectors image unmarked = subst (λ pool. P (says_by pool sectors image)) (sym unmarked)

-- an opening writes neither mark nor directory
front_unwritten : (sectors k : ℕ) → k < 2 → IsRecovered sectors k → ⊥
front_unwritten sectors k low = ⊎_elim (λ gate. omega (arith, gate, low)) (λ home. omega (arith, home.0, low))

-- a fault that is told is the one that came
device_was : (fault : KindFault) → of_kind fault ≡ Device → fault ≡ KindDevice
device_was KindDevice is = refl
device_was KindLayout is = cc
device_was KindJournal is = cc

layout_was : (fault : KindFault) → of_kind fault ≡ BadLayout → fault ≡ KindLayout
layout_was KindDevice is = cc
layout_was KindLayout is = refl
layout_was KindJournal is = cc

journal_was : (fault : KindFault) → of_kind fault ≡ BadJournal → fault ≡ KindJournal
journal_was KindDevice is = cc
journal_was KindLayout is = cc
journal_was KindJournal is = refl

no_memory : (fault : KindFault) → of_kind fault ≡ Memory → ⊥
no_memory KindDevice is = cc
no_memory KindLayout is = cc
no_memory KindJournal is = cc

-- A device without the mark of a pool,
module _ {D : Type 0} (g : Ghosts D) (old : D) (unmarked : g.keeps_model old → is_pool (g.content old) ≡ false)
    (only_now : (d : D) (image : Image) → g.keeps_model d → g.left_since d (g.moment d) image → MayLeave (g.content d) (g.unsynced d) image) where
  abbrev sectors : ℕ
  sectors = g.sector_count old

  abbrev content : Image
  content = g.content old

  -- whatever comes of an opening of it,
  runs : (new : D) → g.sector_count new ≡ sectors → (g.keeps_model new → g.keeps_model old) → g.failures old ≤ g.failures new
      → (g.keeps_model new → AsksOnly g (InFiles.IsAskedToOpen content) old new) → (g.keeps_model new → Touches g (IsRecovered sectors) old new)
      → (g.keeps_model new → one_journal.IsClosed content → Touches g Nothing old new)
      → (g.keeps_model new → ((k : ℕ) → g.unsynced old k → ⊥) → LeavesOnly g old new (InFiles.StandsAs sectors content)) → RunsOpening g old new
  runs new size kept later asks touches closed moment = record {
    size = size;
    kept = kept;
    later = later;
    asks = λ keeps. in_kind (λ said. AsksOnly g said.IsAsked old new) sectors content (unmarked (kept keeps)) (asks keeps);
    touches = λ keeps. in_kind (λ said. Touches g said.IsWritten old new) sectors content (unmarked (kept keeps)) (touches keeps);
    closed_unwritten = λ keeps. in_kind (λ said. said.IsClosed → Touches g Nothing old new) sectors content (unmarked (kept keeps)) (closed keeps);
    outside = λ keeps. in_kind (λ said. (k : ℕ) → said.IsOutside k → g.content new k ≡ content k) sectors content (unmarked (kept keeps))
        (left_outside g sectors old new (touches keeps));
    any_moment = λ keeps synced. weaker g old new _ _ (λ image. as_kind sectors content image (unmarked (kept keeps))) (moment keeps synced);
    blocks = λ keeps synced marked. absurd (true≢false (sym marked ∙ unmarked (kept keeps)));
    most_moment = λ keeps synced. most_stays g (IsRecovered sectors) old new (λ image left. only_now old image (kept keeps) left)
        (λ k low. synced k) (front_unwritten sectors) (touches keeps);
  }

  -- which leaves the mark,
  still_unmarked : (new : D) → (g.keeps_model new → g.keeps_model old) → (g.keeps_model new → Touches g (IsRecovered sectors) old new)
      → g.keeps_model new → is_pool (g.content new) ≡ false
  still_unmarked new kept touches keeps = same_mark content (g.content new)
      (left_outside g sectors old new (touches keeps) 0 (inl (omega arith))) ∙ unmarked (kept keeps)

  -- the store itself,
  pub opens : (store : FileStore D) → KindOpened.OpensFrom g old store → OpensWith g Nothing old (Journal store)
  opens store found = record {
    run = runs store.disk found.size found.kept found.later found.asks found.touches found.closed_unwritten found.any_moment;
    ready = (found.ready, still_unmarked store.disk found.kept found.touches);
    bounded = found.bounded;
    good_layout = λ keeps. in_kind (λ said. said.HasBadLayout → ⊥) sectors content (unmarked (found.kept keeps)) (found.good_layout keeps);
    good_journal = λ keeps. in_kind (λ said. said.HasBadJournal → ⊥) sectors content (unmarked (found.kept keeps)) (found.good_journal keeps);
    now = λ keeps image may. as_kind sectors content image (unmarked (found.kept keeps)) (found.now keeps image may);
    homes = found.homes;
    synced = found.synced;
    most = λ keeps. in_kind (λ said. page_limit ≡ said.most) sectors content (unmarked (found.kept keeps)) refl;
    carried = λ keeps. found.closed;
    emptied = λ keeps none. in_kind (λ said. said.IsClosed) sectors (g.content store.disk) (still_unmarked store.disk found.kept found.touches keeps) (found.emptied keeps);
    once = λ keeps. tt;
    calm = found.calm;
  }

  -- and the fault with which it is given back.
  pub refuses : (fault : KindFault) (new : D) → KindOpened.RefusesToOpen g old fault new → RefusesToOpen g old (of_kind fault) new
  refuses fault new refused = record {
    err_run = runs new refused.err_size refused.err_kept refused.err_later refused.err_asks refused.err_touches refused.err_closed_unwritten refused.err_moment;
    device = λ told. refused.device (device_was fault told);
    err_calm = λ other. refused.err_calm (λ was. other (ap of_kind was));
    unwritten = λ keeps other. refused.unwritten keeps (λ was. other (ap of_kind was));
    bad_unwritten = λ keeps. in_kind (λ said. said.HasBadLayout ⊎ said.HasBadJournal → Touches g Nothing old new) sectors content (unmarked (refused.err_kept keeps))
        (refused.bad_unwritten keeps);
    bad_layout = λ keeps told. in_kind (λ said. said.HasBadLayout) sectors content (unmarked (refused.err_kept keeps)) (refused.bad_layout keeps (layout_was fault told));
    bad_journal = λ keeps told. in_kind (λ said. said.HasBadJournal) sectors content (unmarked (refused.err_kept keeps)) (refused.bad_journal keeps (journal_was fault told));
    layout_first = λ keeps told. in_kind (λ said. said.HasBadLayout → ⊥) sectors content (unmarked (refused.err_kept keeps)) (refused.layout_first keeps (journal_was fault told));
    memory = λ keeps told. absurd (no_memory fault told);
  }

  -- Where it is taken up no more is done than by an opening,
  of_run : (new : D) → RunsOpening g old new → RunsResuming g old new
  of_run new run = record { run = run; pool_unwritten = λ keeps marked. absurd (true≢false (sym marked ∙ unmarked (run.kept keeps))) }

  -- whether it is found
  pub resumes : (store : FileStore D) → KindOpened.OpensFrom g old store → ResumesWith g Nothing old (Journal store)
  resumes store found =
      let o = opens store found in
      record {
        resuming = of_run store.disk o.run;
        ready = o.ready;
        bounded = o.bounded;
        good_layout = o.good_layout;
        good_journal = o.good_journal;
        now = o.now;
        homes = o.homes;
        synced = o.synced;
        named = λ keeps. found.closed;
        free = λ keeps. in_kind (λ said. page_limit ≡ said.free) sectors content (unmarked (found.kept keeps)) refl;
        most = o.most;
        once = λ keeps. tt;
        calm = o.calm;
      }

  -- or given back.
  pub refuses_resume : (fault : KindFault) (new : D) → KindOpened.RefusesToOpen g old fault new → RefusesToResume g old (of_kind fault) new
  refuses_resume fault new refused = let r = refuses fault new refused in record { refused = r; resuming = of_run new r.err_run }

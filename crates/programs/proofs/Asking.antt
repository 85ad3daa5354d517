-- What is asked of a device where a file is shown.
use Rattle.{std.proofs.Common.{◌≡◌, ℕ, subst, ◌∙◌, ap, inl, inr}, file_store.specs.Standing.{IsPageOf}}
use Rattle.disk_model.{proofs.Moments.{asks_then, asks_wider, then, weaker, wider}, specs.{Moments.{Nothing, AsksOnly, LeavesOnly}, Stop.{Image}, declared.sector_disk.SectorDisk.{Ghosts}}}
use Rattle.stores.specs.{Images.{IsAskedToOpen, IsWrittenToOpen, StandsAs}, Opened.{OpensFrom, RunsOpening}, Store.{StoreKept, disk_of, kept_of, files_of, IsSectorIn, IsSectorOf}, declared.store.Store.{Store}}
use Rattle.programs.{proofs.{Copies.{same_content, still_stands}, FilePages.{in_file}}, specs.Showing.{IsAskedToShow, IsSectorOfFile, KeepsImage, KeepsToFile, OnlyReads}}

module _ {D : Type 0} (g : Ghosts D) where
  -- a page of a file is read after those before
  asks_page : (first mid : Store D) (new : D) (f page : ℕ) → kept_of mid ≡ kept_of first → IsPageOf (files_of first) f page
      → AsksOnly g (IsSectorOfFile first f) (disk_of first) (disk_of mid) → AsksOnly g (IsSectorOf mid (record { file = f; page = page })) (disk_of mid) new
      → AsksOnly g (IsSectorOfFile first f) (disk_of first) new
  asks_page first mid new f page same inside before read =
      asks_then g (IsSectorOfFile first f) (disk_of first) (disk_of mid) new before
      (asks_wider g (IsSectorOf mid (record { file = f; page = page })) (IsSectorOfFile first f) (disk_of mid) new
      (λ k sector. (page, inside, subst (λ (kept : StoreKept). IsSectorIn kept (record { file = f; page = page }) k) same sector)) read)

  pub reads_more : (first mid new : Store D) (f page : ℕ) → IsPageOf (files_of first) f page
      → OnlyReads g (IsSectorOfFile first f) first mid → OnlyReads g (IsSectorOf mid (record { file = f; page = page })) mid new → OnlyReads g (IsSectorOfFile first f) first new
  reads_more first mid new f page inside before read = record {
    same = read.same ∙ before.same;
    ready = read.ready;
    size = read.size ∙ before.size;
    kept = λ keeps. before.kept (read.kept keeps);
    touches = λ keeps. then g Nothing (disk_of first) (disk_of mid) (disk_of new) (before.touches (read.kept keeps)) (read.touches keeps);
    asks = asks_page first mid (disk_of new) f page before.same inside before.asks read.asks;
  }

  -- a store that was opened, and of which a file was shown then
  keeps_to : (old : D) (store new : Store D) (f : ℕ) → OpensFrom g old store → OnlyReads g (IsSectorOfFile store f) store new → KeepsToFile g f old (disk_of new)
  keeps_to old store new f opened shown = record {
    asks = λ keeps.
        let first = shown.kept keeps in
        let shows = IsAskedToShow (g.sector_count old) (g.content old) f in
        asks_then g shows old (disk_of store) (disk_of new)
        (asks_wider g (IsAskedToOpen (g.sector_count old) (g.content old)) shows old (disk_of store) (λ k a. inl a) (opened.asks first))
        (asks_wider g (IsSectorOfFile store f) shows (disk_of store) (disk_of new) (λ k s. inr (in_file g old store f k opened first s)) shown.asks);
    outside = λ keeps k out.
        ap (λ (image : Image). image k) (same_content g (disk_of store) (disk_of new) (shown.touches keeps)) ∙ opened.outside (shown.kept keeps) k out;
  }

  -- what stands for what the image stood for at first stands for what it did before any earlier stop
  again : (old new : D) (first : Image) → StandsAs (g.sector_count old) first (g.content old)
      → LeavesOnly g old new (StandsAs (g.sector_count old) (g.content old)) → LeavesOnly g old new (StandsAs (g.sector_count old) first)
  again old new first stood = weaker g old new (StandsAs (g.sector_count old) (g.content old)) (StandsAs (g.sector_count old) first)
      (λ image stands files pages was. stands files pages (stood files pages was))

  -- whatever comes of showing a file of a store that was just opened
  pub keeps_image : (old : D) (store new : Store D) (f : ℕ) → OpensFrom g old store → OnlyReads g (IsSectorOfFile store f) store new → KeepsImage g f old (disk_of new)
  keeps_image old store new f opened shown = record {
    kept = λ keeps. opened.kept (shown.kept keeps);
    any_moment = λ keeps synced. leaves keeps synced (g.content old) (λ files pages was. was);
    in_a_row = leaves;
    asks = keeps_to old store new f opened shown;
    touches = λ keeps. then g (IsWrittenToOpen (g.sector_count old) (g.content old)) old (disk_of store) (disk_of new) (opened.touches (shown.kept keeps))
        (wider g Nothing (IsWrittenToOpen (g.sector_count old) (g.content old)) (disk_of store) (disk_of new) (λ k none. absurd none) (shown.touches keeps));
    closed_unwritten = λ keeps closed. then g Nothing old (disk_of store) (disk_of new) (opened.closed_unwritten (shown.kept keeps) closed) (shown.touches keeps);
  }
    where
      leaves : g.keeps_model (disk_of new) → ((k : ℕ) → g.unsynced old k → ⊥) → (first : Image) → StandsAs (g.sector_count old) first (g.content old)
          → LeavesOnly g old (disk_of new) (StandsAs (g.sector_count old) first)
      leaves keeps synced first stood =
          let before = shown.kept keeps in
          still_stands g old (disk_of store) (disk_of new) (StandsAs (g.sector_count old) first) (again old (disk_of store) first stood (opened.any_moment before synced))
          (λ image may files pages was. opened.now before image may files pages (stood files pages was)) (shown.touches keeps)

  -- and of an image that could not be opened
  pub keeps_unopened : (old new : D) (f : ℕ) → RunsOpening g old new → KeepsImage g f old new
  keeps_unopened old new f run = record {
    kept = run.kept;
    any_moment = run.any_moment;
    in_a_row = λ keeps synced first stood. again old new first stood (run.any_moment keeps synced);
    asks = record {
      asks = λ keeps. asks_wider g (IsAskedToOpen (g.sector_count old) (g.content old)) (IsAskedToShow (g.sector_count old) (g.content old) f) old new (λ k a. inl a) (run.asks keeps);
      outside = run.outside;
    };
    touches = run.touches;
    closed_unwritten = run.closed_unwritten;
  }

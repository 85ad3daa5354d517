-- New pages, written one after the other where they are to stand, and what stands beside them.
use Rattle.std.proofs.Common.{ℕ, Bool, true, false, not, Option, Some, None, List, length, replicate, slice_get, Result, Ok, Err, IsErrAnd, IsErrOf, OnOk, ◌≡◌, ◌<◌, ◌≤◌, ◌+◌, ◌*◌, ◌⊎◌, ◌∙◌, refl, sym, ap, subst, inl, inr, ⊎_elim, arith}
use Rattle.std.proofs.lemmas.Bool.{cases_eq, false≢true}
use Rattle.disk_model.proofs.{Moments.{started, goes_on, stays}, Naming.{once_apart, once_named}}
use Rattle.disk_model.specs.{Moments.{Touches, LeavesOnly}, Sectors.{part_of, sector_bytes}, Stop.{Image, MayLeave, Names, NamesOnce}}
use Rattle.disk_model.specs.declared.sector_disk.SectorDisk.{Ghosts}
use Rattle.vm_types.specs.declared.file.FilePage.{FilePage}
use Rattle.file_store.specs.Layout.{padded_page}
use Rattle.growth.specs.declared.changes.Change.{Change}
use Rattle.pool_growth.proofs.{New.{new_apart, new_inside, new_is_new}, Owning.{at_home, map_block, slot_block, home_block, own_once, own_place, own_not_map, own_not_gate, own_not_behind, own_whole, IsOwn}}
use Rattle.pool_growth.specs.Asked.{AreFileChanges, AreNewPages}
use Rattle.pool_growth.specs.Putting.{home_then, inside_then, is_sparse, new_home, new_at, cut_new, AreZeros, BlanksNewPages, HoldsNewPages, IsBroughtSector, IsNewHome, IsNewSector, IsPutSector, LeavesOtherHomes, NewPagesStand, OthersAreBlank, PutsNewPages}
use Rattle.pool_growth.specs.Settling.{once_synced}
use Rattle.pool_journal.proofs.Loose.{Gives, slot_gives, slot_same, same_entry, same_place, no_map, no_home, map_low, maps_apart, loose_high, loose_low, few, stood}
use Rattle.pool_journal.specs.{Maps.{entries_of}, Pools.{pool_gate, pool_entry, pool_named, pool_under, pool_stands, pool_standing, slot_by, IsPoolRest, IsPoolMap, IsLoose}}
use Rattle.pool_journal.specs.declared.pool.PoolJournal.{PoolJournal}
use Rattle.pool_store.specs.{Places.{number_of}, Store.{info_by, IsPoolOf}, declared.directory.Directory.{Directory}}
use Rattle.sync_journal.proofs.Runs.{of_more, one_more}
use Rattle.sync_journal.specs.{Blocks.{IsSameBlock, LeavesInBlocks}, Gate.{is_open_sector}, Layout.{IsPageSector}, Runs.{RunsOnDevice}, Steps.{FillsBody, TakesPages}}
use Rattle.sync_journal.specs.declared.{faults.CommitFault.{CommitFault, TheVariants.{Source}}, source.PageSource.{Ghosts as SourceGhosts}}

loose_block : (m : ℕ) (second : Bool) (entries : Bool → ℕ → ℕ) (k j : ℕ) → IsSameBlock k j → IsLoose m second entries j → IsLoose m second entries k
loose_block m second entries k j same = ⊎_elim (λ map. inl (map_block m (not second) k j same map))
    (⊎_elim (λ slot. inr (inl (slot.0, slot.1, slot.2, slot.3, slot_block m slot.0 slot.1 k j same slot.4)))
    (λ home. inr (inr (home.0, home.1, home.2, home_block m home.0 k j same home.3))))

-- A page that stands is not loose.
not_loose : (m : ℕ) (entries : Bool → ℕ → ℕ) (second : Bool) (h k : ℕ) → IsPageSector (at_home m entries h) k → IsLoose m second entries k → ⊥
not_loose m entries second h k = here (slot_by m entries h) refl (slot_gives m entries h)
  where
    here : (o : Option (Bool × ℕ)) → slot_by m entries h ≡ o → Gives m entries h o → IsPageSector (pool_stands m h o) k → IsLoose m second entries k → ⊥
    here None is gives at = ⊎_elim (λ map. map_low m (not second) k map (omega (arith, at.0)))
        (⊎_elim (λ slot. no_home m slot.0 slot.1 k slot.2 slot.4 (omega (arith, at.0)))
        (λ home. (let same : home.0 ≡ h = omega (arith, home.3.0, home.3.1, at.0, at.1) in
        let none : Some home.1 ≡ None = sym home.2 ∙ ap (slot_by m entries) same ∙ is in absurd (let bad = none in cc))))
    here (Some place) is gives at = ⊎_elim (λ map. no_map m (not second) place.0 place.1 k gives.0 at map)
        (⊎_elim (λ slot. (let one = same_place m slot.0 place.0 slot.1 place.1 k slot.2 gives.0 slot.4 at in
        let free : entries place.0 place.1 ≡ 0 = subst (λ b. entries b place.1 ≡ 0) one.0 (subst (λ r. entries slot.0 r ≡ 0) one.1 slot.3) in omega (arith, free, gives.1)))
        (λ home. no_home m place.0 place.1 k gives.0 at (omega (arith, home.3.0))))

-- Over a device at rest sectors of some homes are written.
module _ {D : Type 0} (g : Ghosts D) (m n : ℕ) (second : Bool) (entries : Bool → ℕ → ℕ) (old : D) (rest : IsPoolRest g m n second entries old) (Written : ℕ → Type 0) (inside : (h : ℕ) → Written h → h < n) where
  abbrev pub W : ℕ → Type 0
  W k = (h : ℕ) × Written h × IsOwn m entries h k

  abbrev pub Others : Image → Type 0
  Others = LeavesOtherHomes m n Written (g.content old)

  -- an image that agrees with the device but for them, and for what is loose,
  abbrev pub IsBeside : Image → Type 0
  IsBeside image = (k : ℕ) → (IsLoose m second entries k ⊎ W k) ⊎ (image k ≡ g.content old k)

  -- has the same gate,
  pub gate_beside : (image : Image) → IsBeside image → pool_named image ≡ second
  gate_beside image same = ap is_open_sector (⊎_elim
      (⊎_elim (λ loose. absurd (loose_high m second entries pool_gate loose (omega arith))) (λ w. absurd (own_not_gate m entries w.0 pool_gate w.2 (omega arith))))
      (λ e. e) (same pool_gate))
      ∙ rest.gate

  -- the same map,
  pub map_beside : (image : Image) → IsBeside image → (body : Bool) (r : ℕ) → r < 504 * m → pool_entry m n second image body r ≡ entries body r
  map_beside image same body r below = same_entry m n second (g.content old) image there body r below ∙ rest.map body r below
    where
      there : (k : ℕ) → IsPoolMap m second k → image k ≡ g.content old k
      there k map = ⊎_elim (⊎_elim
          (⊎_elim (λ other. absurd (maps_apart m second k map other)) (⊎_elim (λ slot. absurd (no_map m second slot.0 slot.1 k slot.2 slot.4 map))
          (λ home. absurd (map_low m second k map (omega (arith, home.3.0))))))
          (λ w. absurd (own_not_map m entries second w.0 k w.2 map)))
          (λ e. e) (same k)

  -- so that each home stands in the same place,
  pub place_beside : (image : Image) → IsBeside image → (h i : ℕ) → pool_standing m n image h i ≡ image (at_home m entries h + i)
  place_beside image same h i = ap (λ b. pool_under m n b image h i) (gate_beside image same)
      ∙ ap (λ o. image (pool_stands m h o + i)) (slot_same m (pool_entry m n second image) entries h (map_beside image same))

  -- and those that are not written as they did.
  pub others_beside : (image : Image) → IsBeside image → Others image
  others_beside image same = record {
    stands = λ h i other below. place_beside image same h i ∙ kept h i other below ∙ sym (stood g m n second entries old rest h i);
    outside = λ k. ⊎_elim
        (λ front. ⊎_elim (⊎_elim (λ loose. absurd (loose_high m second entries k loose (omega (arith, front))))
        (λ w. absurd (own_not_gate m entries w.0 k w.2 (omega (arith, front))))) (λ e. e) (same k))
        (λ after. ⊎_elim (⊎_elim (λ loose. absurd (loose_low m n second entries (few g m n second entries old rest) k loose after))
        (λ w. absurd (own_not_behind m entries n w.0 k (inside w.0 w.1) w.2 after))) (λ e. e) (same k));
  }
    where
      kept : (h i : ℕ) → (Written h → ⊥) → i < 8 → image (at_home m entries h + i) ≡ g.content old (at_home m entries h + i)
      kept h i other below =
          let k = at_home m entries h + i in
          let here : IsPageSector (at_home m entries h) k = (omega arith, omega (arith, below)) in
          ⊎_elim (⊎_elim (λ loose. absurd (not_loose m entries second h k here loose))
          (λ w. absurd (other (subst Written (own_once m entries w.0 h k w.2 (own_place m entries h k here)) w.1))))
          (λ e. e) (same k)

  module _ (only_now : (image : Image) → g.left_since old (g.moment old) image → MayLeave (g.content old) (g.unsynced old) image) (new : D) (run : Touches g W old new) where
    around : (image : Image) → MayLeave (g.content old) (λ k. g.unsynced old k ⊎ W k) image → Others image
    around image may = others_beside image (λ k. ⊎_elim (⊎_elim (λ u. inl (inl (rest.synced k u))) (λ w. inl (inr w))) (λ e. inr e) (may.kept k))

    -- So every stop leaves the others,
    pub while_written : LeavesOnly g old new Others
    while_written = goes_on g W old old new Others
        (started g old Others only_now (λ image may. around image (record { kept = λ k. ⊎_elim (λ u. inl (inl u)) (λ e. inr e) (may.kept k) })))
        run around

    -- even one that spoils whole blocks,
    pub blocks_written : LeavesInBlocks g W Others old new
    blocks_written = record {
      writes = run;
      each = λ d wrote image may. others_beside image (λ k. ⊎_elim
          (λ block. inl (⊎_elim (λ u. inl (loose_block m second entries k block.0 block.1 (rest.synced block.0 u))) (λ w. inr (w.0, w.1, own_whole m entries w.0 k block.0 block.1 w.2)) (wrote.unsynced block.0 block.2)))
          (λ e. ⊎_elim (λ w. inl (inr w)) (λ e'. inr (e ∙ e')) (wrote.content k))
          (may.kept k));
    }

    beside_now : IsBeside (g.content new)
    beside_now k = ⊎_elim (λ w. inl (inr w)) (λ e. inr e) (run.content k)

    -- but for what is unsynced the device is at rest as it was,
    pub rest_beside : IsPoolRest (once_synced g) m n second entries new
    rest_beside = record { gate = gate_beside (g.content new) beside_now; map = map_beside (g.content new) beside_now; synced = λ k u. absurd u }

    -- and so it is when all is synced,
    pub rest_written : ((k : ℕ) → g.unsynced new k → ⊥) → IsPoolRest g m n second entries new
    rest_written synced = record { gate = gate_beside (g.content new) beside_now; map = map_beside (g.content new) beside_now; synced = λ k u. absurd (synced k u) }

    -- with each home in its place.
    pub place_written : (h i : ℕ) → pool_standing m n (g.content new) h i ≡ g.content new (at_home m entries h + i)
    place_written = place_beside (g.content new) beside_now

-- nothing is promised of an error
pub none_of_error : {T E : Type 0} (result : Result T E) (Is : E → Type 0) (P : Type 0) → IsErrAnd result Is → OnOk result P
none_of_error (Ok x) Is P told = absurd told
none_of_error (Err e) Is P told = tt

-- New page i is
module _ (journal : PoolJournal) (directory : Directory) (changes : List Change) (fresh : List FilePage) (i : ℕ) (p : FilePage) (is : slice_get fresh i ≡ Some p) where
  -- written where it is to stand,
  pub stands_new : (home at : ℕ) → home_then directory changes (Some p) ≡ Some home → at ≡ pool_stands journal.sizes.blocks home (slot_by journal.sizes.blocks (entries_of journal.map) home)
      → at ≡ new_at journal directory changes fresh i
  stands_new home at home_is at_is = at_is
      ∙ sym (ap (λ h. pool_stands journal.sizes.blocks h (slot_by journal.sizes.blocks (entries_of journal.map) h)) (ap (λ o. number_of (home_then directory changes o)) is ∙ ap number_of home_is))

  -- as it is given, with zeros past its file's end.
  pub given_new : (given : ℕ → List ℕ) (inside : ℕ) (read bytes : List ℕ) → inside ≡ inside_then directory changes (Some p) → read ≡ given i → bytes ≡ padded_page inside read
      → bytes ≡ cut_new directory changes fresh given i
  given_new given inside read bytes inside_is read_is bytes_are = bytes_are
      ∙ ap (λ n. padded_page n read) (inside_is ∙ ap (inside_then directory changes) (sym is))
      ∙ ap (padded_page (inside_then directory changes (slice_get fresh i))) read_is

-- New pages of changes:
module _ (journal : PoolJournal) (directory : Directory) (changes : List Change) (are : AreFileChanges journal.sizes.homes directory changes)
    (fresh : List FilePage) (news : AreNewPages (info_by directory) changes fresh) where
  abbrev pub m : ℕ
  m = journal.sizes.blocks

  abbrev pub n : ℕ
  n = journal.sizes.homes

  abbrev pub names : Bool → ℕ → ℕ
  names = entries_of journal.map

  abbrev pub at : ℕ → ℕ
  at = new_at journal directory changes fresh

  abbrev pub IsPut : ℕ → ℕ → Type 0
  IsPut = IsPutSector journal directory changes fresh

  abbrev pub IsNew : ℕ → Type 0
  IsNew = IsNewSector journal directory changes

  -- each stands in sectors of its home,
  pub put_new : (put k : ℕ) → put ≤ length fresh → IsPut put k → IsNew k
  put_new put k low of = (
    new_home directory changes fresh of.0,
    new_is_new n directory changes are fresh news of.0 (omega (arith, of.1, low)),
    own_place m names (new_home directory changes fresh of.0) k of.2,
  )

  -- and of no other's.
  pub two_new : (i j k : ℕ) → i < j → j < length fresh → IsPageSector (at i) k → IsPageSector (at j) k → ⊥
  two_new i j k less below first second =
      let one = new_home directory changes fresh i in
      let two = new_home directory changes fresh j in
      let same = new_apart n directory changes are fresh news i j (omega (arith, less, below)) below (own_once m names one two k (own_place m names one k first) (own_place m names two k second)) in
      omega (arith, same, less)

  -- One more is written.
  pub once_more : (i : ℕ) (before mid now : ℕ → ℕ) → i < length fresh → NamesOnce (IsPut i) before mid → Names (IsPageSector (at i)) mid now → NamesOnce (IsPut (i + 1)) before now
  once_more i before mid now below so_far page = once_apart (IsPut i) (IsPageSector (at i)) (IsPut (i + 1)) before mid now
      (λ k was. (was.0, omega (arith, was.1), was.2)) (λ k here. (i, omega arith, here)) (λ k was here. two_new was.0 i k was.1 below was.2 here)
      so_far (once_named (IsPageSector (at i)) (IsPageSector (at i)) mid now (λ k here. here) page)

  -- Where the first `put` of them are written:
  module _ (put : ℕ) (low : put ≤ length fresh) {D : Type 0} (g : Ghosts D) (i : ℕ) (old mid new : D) (below : i < put) (run : RunsOnDevice g (IsPageSector (at i)) mid new) where
    pub run_more : RunsOnDevice g (IsPut put) old mid → RunsOnDevice g (IsPut put) old new
    run_more before = one_more g (IsPut put) old mid new before (of_more g (IsPageSector (at i)) (IsPut put) mid new (λ k here. (i, below, here)) run)

    pub held_more : (given : ℕ → List ℕ) (page : List ℕ) → page ≡ cut_new directory changes fresh given i → g.keeps_model new → HoldsNewPages journal directory changes fresh given i (g.content mid)
        → ((j : ℕ) → j < 8 → g.content new (at i + j) ≡ part_of page j) → HoldsNewPages journal directory changes fresh given (i + 1) (g.content new)
    held_more given page is keeps held written p j before small = ⊎_elim
        (λ same. subst (λ s. g.content new (at s + j) ≡ part_of (cut_new directory changes fresh given s) j) (sym same) (written j small ∙ ap (λ b. part_of b j) is))
        (λ other. (let less : p < i = omega (arith, before, other) in
        ⊎_elim {C = g.content new (at p + j) ≡ g.content mid (at p + j)}
        (λ here. absurd (two_new p i (at p + j) less (omega (arith, below, low)) (omega arith, omega (arith, small)) here)) (λ e. e) ((run.touches keeps).content (at p + j))
        ∙ held p j less small))
        (cases_eq p i)

-- Where some new pages are not given, all were made zeros first:
pub record AreMadeZeros {D : Type 0} (g : Ghosts D) (journal : PoolJournal) (directory : Directory) (changes : List Change) (sparse : Bool) (old blank : D) : Type 0 where
  pub run : RunsOnDevice g (IsNewSector journal directory changes) old blank
  pub calm : g.failures blank ≡ g.failures old
  pub asks : (k : ℕ) → ((sparse ≡ true) × IsNewSector journal directory changes k) ⊎ (g.asked blank k ≡ g.asked old k)
  pub still : sparse ≡ false → (k : ℕ) → g.asked blank k ≡ g.asked old k
  pub zeros : sparse ≡ true → g.keeps_model blank → AreZeros g journal (IsNewHome directory changes) blank

module _ {D : Type 0} (g : Ghosts D) (journal : PoolJournal) (directory : Directory) (changes : List Change) (sparse : Bool) (old : D) where
  pub made_zeros : (blank : D) → sparse ≡ true → BlanksNewPages g journal directory changes old blank (Ok (tt {0})) → AreMadeZeros g journal directory changes sparse old blank
  made_zeros blank is blanks = record {
    run = blanks.run;
    calm = blanks.calm;
    asks = λ k. ⊎_elim (λ same. inr same) (λ new. inl (is, new.0)) (blanks.once.each k);
    still = λ not_so. absurd (false≢true (sym not_so ∙ is));
    zeros = λ so. blanks.done;
  }

  pub none_made : sparse ≡ false → AreMadeZeros g journal directory changes sparse old old
  none_made is = record {
    run = record { size = refl; kept = λ keeps. keeps; later = omega arith; touches = λ keeps. stays g (IsNewSector journal directory changes) old };
    calm = refl;
    asks = λ k. inr refl;
    still = λ so k. refl;
    zeros = λ so. absurd (false≢true (sym is ∙ so));
  }

-- The first `put` new pages of changes are put on a store's device:
module _ (journal : PoolJournal) (directory : Directory) (changes : List Change) (are : AreFileChanges journal.sizes.homes directory changes)
    (fresh : List FilePage) (news : AreNewPages (info_by directory) changes fresh) (put : ℕ) (low : put ≤ length fresh) {D S : Type 0} (g : Ghosts D) (s : SourceGhosts S) (old : D) (from : S) where
  abbrev pub IsPutHere : ℕ → Type 0
  IsPutHere = IsPutSector journal directory changes fresh put

  abbrev pub IsNewHere : ℕ → Type 0
  IsNewHere = IsNewSector journal directory changes

  abbrev pub IsBroughtHere : ℕ → Type 0
  IsBroughtHere = IsBroughtSector journal directory changes fresh put

  -- They were written over what was made zeros, perhaps:
  module _ (blank mid : D) (left : S) (result : Result (Unit {0}) CommitFault) (made : AreMadeZeros g journal directory changes (is_sparse directory changes fresh) old blank)
      (fills : FillsBody g s IsPutHere IsPutHere (HoldsNewPages journal directory changes fresh (s.pages from) put (g.content mid)) blank mid from left result) where
    pub written_run : RunsOnDevice g IsNewHere old mid
    written_run = one_more g IsNewHere old blank mid made.run (of_more g IsPutHere IsNewHere blank mid (λ k of. put_new journal directory changes are fresh news put k low of) fills.run)

    -- of each sector is told who asked for it,
    pub written_asks : (k : ℕ) → IsBroughtHere k ⊎ (g.asked mid k ≡ g.asked old k)
    written_asks k = ⊎_elim
        (λ same. ⊎_elim (λ new. inl (inl new)) (λ before. inr (same ∙ before)) (made.asks k))
        (λ of. inl (inr of.0))
        (fills.once.each k)

    pub written_once : is_sparse directory changes fresh ≡ false → NamesOnce IsPutHere (g.asked old) (g.asked mid)
    written_once is = record { each = λ k. ⊎_elim (λ same. inl (same ∙ made.still is k)) (λ of. inr (of.0, of.1 ∙ ap (λ times. times + 1) (made.still is k))) (fills.once.each k) }

    -- and what was not written over is zeros still.
    pub still_zeros : is_sparse directory changes fresh ≡ true → g.keeps_model mid → (h j : ℕ) → IsNewHome directory changes h → ((i : ℕ) → i < put → new_home directory changes fresh i ≡ h → ⊥) → j < 8
        → g.content mid (at_home journal.sizes.blocks (entries_of journal.map) h + j) ≡ replicate sector_bytes 0
    still_zeros sparse keeps h j new other below =
        let k = at_home journal.sizes.blocks (entries_of journal.map) h + j in
        let own = own_place journal.sizes.blocks (entries_of journal.map) in
        ⊎_elim
        (λ of. absurd (other of.0 of.1 (own_once journal.sizes.blocks (entries_of journal.map) (new_home directory changes fresh of.0) h k
        (own (new_home directory changes fresh of.0) k of.2) (own h k (omega arith, omega (arith, below))))))
        (λ same. same ∙ made.zeros sparse (fills.run.kept keeps) h j new below)
        ((fills.run.touches keeps).content k)

  -- Where nothing but their sectors was written
  module _ (is : IsPoolOf g journal directory old) (only_now : g.keeps_model old → (image : Image) → g.left_since old (g.moment old) image → MayLeave (g.content old) (g.unsynced old) image)
      (new : D) (left : S) (result : Result (Unit {0}) CommitFault) (takes : TakesPages g s IsNewHere old new from left result)
      (asks : (k : ℕ) → IsBroughtHere k ⊎ (g.asked new k ≡ g.asked old k)) (once : is_sparse directory changes fresh ≡ false → NamesOnce IsPutHere (g.asked old) (g.asked new)) where
    rest : g.keeps_model new → IsPoolRest g journal.sizes.blocks journal.sizes.homes journal.second (entries_of journal.map) old
    rest keeps = (is.at_rest (takes.kept keeps)).rest

    inside : (h : ℕ) → IsNewHome directory changes h → h < journal.sizes.homes
    inside h new' = (new_inside journal.sizes.homes directory changes are h new').1

    -- they are put, if all stand there and it is at rest,
    pub puts : (g.keeps_model new → s.keeps_model left → OnOk result (NewPagesStand journal.sizes.blocks journal.sizes.homes directory changes fresh (s.pages from) put (g.content new)))
        → (g.keeps_model new → is_sparse directory changes fresh ≡ true → OnOk result (OthersAreBlank journal.sizes.blocks journal.sizes.homes directory changes fresh put (g.content new)))
        → (g.keeps_model new → OnOk result (IsPoolRest g journal.sizes.blocks journal.sizes.homes journal.second (entries_of journal.map) new)) → (IsErrOf result Source → put ≡ 0 → ⊥)
        → PutsNewPages g s journal directory changes fresh put old new from left result
    puts stand blanks at_rest some = record {
      puts = stand;
      blanks = blanks;
      rest = at_rest;
      rest_once_synced = λ keeps. rest_beside g journal.sizes.blocks journal.sizes.homes journal.second (entries_of journal.map) old (rest keeps) (IsNewHome directory changes) inside
          (only_now (takes.kept keeps)) new (takes.touches keeps);
      some = some;
      any_moment = λ keeps. while_written g journal.sizes.blocks journal.sizes.homes journal.second (entries_of journal.map) old (rest keeps) (IsNewHome directory changes) inside
          (only_now (takes.kept keeps)) new (takes.touches keeps);
      blocks = λ keeps. blocks_written g journal.sizes.blocks journal.sizes.homes journal.second (entries_of journal.map) old (rest keeps) (IsNewHome directory changes) inside
          (only_now (takes.kept keeps)) new (takes.touches keeps);
      takes = takes;
      asks_device = record { others = asks };
      once = once;
    }

    -- or a fault is told;
    pub not_put : (fault : CommitFault) → IsErrAnd result (λ e. e ≡ fault) → (IsErrOf result Source → put ≡ 0 → ⊥) → PutsNewPages g s journal directory changes fresh put old new from left result
    not_put fault told = puts (λ keeps kept. none_of_error result (λ e. e ≡ fault) _ told) (λ keeps sparse. none_of_error result (λ e. e ≡ fault) _ told)
        (λ keeps. none_of_error result (λ e. e ≡ fault) _ told)

    -- it is, once all is synced,
    pub still_rest : g.keeps_model new → ((k : ℕ) → g.unsynced new k → ⊥) → IsPoolRest g journal.sizes.blocks journal.sizes.homes journal.second (entries_of journal.map) new
    still_rest keeps = rest_written g journal.sizes.blocks journal.sizes.homes journal.second (entries_of journal.map) old (rest keeps) (IsNewHome directory changes) inside
        (only_now (takes.kept keeps)) new (takes.touches keeps)

    -- with each home in its place.
    pub place_now : g.keeps_model new → (h i : ℕ) → pool_standing journal.sizes.blocks journal.sizes.homes (g.content new) h i ≡ g.content new (at_home journal.sizes.blocks (entries_of journal.map) h + i)
    place_now keeps = place_written g journal.sizes.blocks journal.sizes.homes journal.second (entries_of journal.map) old (rest keeps) (IsNewHome directory changes) inside
        (only_now (takes.kept keeps)) new (takes.touches keeps)

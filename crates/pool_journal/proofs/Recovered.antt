-- A recovery of a pool: a sync and a look, and then what was read is written anew.
use Rattle.std.proofs.Common.{◌≡◌, ◌⊎◌, ◌<◌, ◌+◌, ◌*◌, ℕ, Bool, true, false, not, Result, Ok, Err, refl, sym, ap, subst, ◌∙◌, ⊎_elim, inl, inr, arith}
use Rattle.std.{specs.Prelude.{IsErr, IsErrOf, IfOk, OnOk}, proofs.lemmas.Result.{on_ok_weaker}}
use Rattle.disk_model.proofs.{Moments.{asks_once, asks_then, wider, then as and_then}, Naming.{once_none, once_wider}}
use Rattle.disk_model.specs.{Moments.{AsksOnly, Nothing, Touches}, Stop.{Image, MayLeave, NamesOnce}, declared.sector_disk.{DiskFault.{DiskFault}, SectorDisk.{Ghosts}}}
use Rattle.pool_journal.{proofs.{BlockReads.{of_counted}, BlockWrites.{of_noted}, Phases.{pool_fixes}}, specs.{Journal.{IsPoolJournal}, Maps.{entries_of}, Pools.{pool_named, IsPoolMap}}}
use Rattle.pool_journal.specs.{Recovering.{layout_in, state_of, AnewInBlocks, GivesNone, GivesAsNamed, IsGateOrMap, IsGateOrNamed, IsGateOrNoted, WritesAnew, RecoversPool}, declared.{map.SlotMap.{SlotMap}, pool.PoolJournal.{PoolJournal}, sizes.PoolSizes.{PoolSizes}}}
use Rattle.sync_journal.proofs.{Layouts.{stays, only_looked, looked_then}, Sectors.{same_image, so_before}}
use Rattle.sync_journal.specs.{Layouts.{HomesStandAs, IsSettled, KeepsHomes}, Runs.{RunsOnDevice}, Steps.{BlamesJournal}, declared.faults.RecoverFault.{RecoverFault, TheVariants.{BadJournal}}}

-- a map that is read or written is one of the two
of_maps : (m : ℕ) (second : Bool) (k : ℕ) → IsPoolMap m second k → IsPoolMap m false k ⊎ IsPoolMap m true k
of_maps m false k map = inl map
of_maps m true k map = inr map

-- What a look after a sync finds stood before the sync.
module _ {D : Type 0} (g : Ghosts D) (old mid read : D) (syncs : RunsOnDevice g Nothing old mid) (kept : g.keeps_model read → g.keeps_model mid) where
  pub held : g.keeps_model read → g.content mid ≡ g.content old
  held keeps = same_image g old mid (syncs.touches (kept keeps))

  pub asked_since : (m : ℕ) → ((k : ℕ) → g.asked mid k ≡ g.asked old k) → (g.keeps_model read → NamesOnce (IsGateOrNamed m (g.content mid)) (g.asked mid) (g.asked read))
      → g.keeps_model read → NamesOnce (IsGateOrNamed m (g.content old)) (g.asked old) (g.asked read)
  asked_since m unasked once keeps =
      let here = subst (λ (image : Image). NamesOnce (IsGateOrNamed m image) (g.asked mid) (g.asked read)) (held keeps) (once keeps) in
      record { each = λ k. ⊎_elim (λ e. inl (e ∙ unasked k)) (λ at. inr (at.0, at.1 ∙ ap (λ n. n + 1) (unasked k))) (here.each k) }

  pub named_since : (second : Bool) → (g.keeps_model read → second ≡ pool_named (g.content mid)) → g.keeps_model read → second ≡ pool_named (g.content old)
  named_since second named keeps = named keeps ∙ ap (λ (image : Image). pool_named image) (held keeps)

  pub given_since : (sizes : PoolSizes) (map : SlotMap) → (g.keeps_model read → GivesAsNamed sizes map (g.content mid)) → g.keeps_model read → GivesAsNamed sizes map (g.content old)
  given_since sizes map given keeps = subst (λ (image : Image). GivesAsNamed sizes map image) (held keeps) (given keeps)

module _ {D : Type 0} (g : Ghosts D) (was : PoolJournal) (old read : D) (only_now : g.keeps_model old → (image : Image) → g.left_since old (g.moment old) image → MayLeave (g.content old) (g.unsynced old) image)
    (looks : RunsOnDevice g Nothing old read) (once : g.keeps_model read → NamesOnce (IsGateOrNamed was.sizes.blocks (g.content old)) (g.asked old) (g.asked read)) where
  abbrev sizes : PoolSizes
  sizes = was.sizes

  abbrev named : Bool
  named = pool_named (g.content old)

  is_asked : (second : Bool) (k : ℕ) → IsGateOrMap sizes.blocks second k → (layout_in sizes).IsAsked (g.content old) k
  is_asked second k = ⊎_elim (λ at. inl at) (λ map. inr (of_maps sizes.blocks second k map))

  is_looked : (k : ℕ) → IsGateOrNamed sizes.blocks (g.content old) k → (layout_in sizes).IsAsked (g.content old) k
  is_looked k = ⊎_elim (λ at. inl at) (λ map. inr (of_maps sizes.blocks named k (of_counted sizes.blocks named _ k map)))

  looked_asks : g.keeps_model read → AsksOnly g ((layout_in sizes).IsAsked (g.content old)) old read
  looked_asks keeps = asks_once g ((layout_in sizes).IsAsked (g.content old)) (IsGateOrNamed sizes.blocks (g.content old)) old read is_looked (once keeps)

  -- where nothing but gate and map is read
  pub looked : (now : PoolJournal) → IsPoolJournal now → now.sizes ≡ sizes → (result : Result (Unit {0}) RecoverFault) → IsErr result → BlamesJournal g old read result
      → (IsErrOf result BadJournal → ⊥) → RecoversPool g was now old read result
  looked now is same (Ok done) told blames bad = let none : false ≡ true = told in cc
  looked now is same (Err fault) told blames bad = record {
    restores = only_looked (layout_in sizes) (pool_fixes sizes.blocks sizes.homes) g old read only_now looks _ (Err fault) told looked_asks blames (λ keeps. bad);
    blocks = λ keeps. inl (looks.touches keeps);
    map = λ keeps. tt;
    anew = λ keeps given. tt;
    once = λ keeps. record { between = g.asked read; reads = once keeps; writes = once_none _ (g.asked read) (g.asked read) (λ k. refl) };
    is = is;
    sizes = same;
  }

  -- and then what was read is written anew
  module _ (found now : PoolJournal) (new : D) (same : found.sizes ≡ sizes) (second_is : g.keeps_model read → found.second ≡ named) (map_is : g.keeps_model read → GivesAsNamed sizes found.map (g.content old))
      {r : Result (Unit {0}) DiskFault} (w : WritesAnew g found now read new r) where
    -- what is written, in the words of the image
    to_image : (P : ℕ → Bool → Type 0) → g.keeps_model read → P found.sizes.blocks (not found.second) → P sizes.blocks (not named)
    to_image P keeps here = subst (λ m. P m (not named)) (ap (λ s. s.blocks) same) (subst (λ b. P found.sizes.blocks (not b)) (second_is keeps) here)

    moments : g.keeps_model new → ((k : ℕ) → g.unsynced old k → ⊥) → KeepsHomes (layout_in sizes) g old new
    moments keeps still = looked_then (layout_in sizes) (pool_fixes sizes.blocks sizes.homes) g old read only_now looks new w.kept keeps still
        (subst (λ s. KeepsHomes (layout_in s) g read new) same (w.any_moment keeps))

    touched : g.keeps_model new → Touches g (IsGateOrMap sizes.blocks (not named)) old new
    touched keeps = and_then g (IsGateOrMap sizes.blocks (not named)) old read new
        (wider g Nothing (IsGateOrMap sizes.blocks (not named)) old read (λ k none. absurd none) (looks.touches (w.kept keeps)))
        (to_image (λ m b. Touches g (IsGateOrMap m b) read new) (w.kept keeps) (w.touches keeps))

    asked_then : g.keeps_model new → NamesOnce (IsGateOrMap sizes.blocks (not named)) (g.asked read) (g.asked new)
    asked_then keeps = to_image (λ m b. NamesOnce (IsGateOrMap m b) (g.asked read) (g.asked new)) (w.kept keeps)
        (once_wider (IsGateOrNoted found.sizes.blocks (not found.second) (entries_of found.map)) (IsGateOrMap found.sizes.blocks (not found.second)) (g.asked read) (g.asked new)
        (λ k. ⊎_elim (λ at. inl at) (λ map. inr (of_noted found.sizes.blocks (not found.second) (entries_of found.map) k map))) w.once)

    -- a map that gives slots as a closed one does gives none
    gives_none : g.keeps_model read → (layout_in sizes).IsClosed (g.content old) → GivesNone found.sizes.blocks (entries_of found.map)
    gives_none keeps closed body r below =
        let inside : r < 504 * sizes.blocks = subst (λ s. r < 504 * s.blocks) same below in
        map_is keeps body r inside ∙ closed body r inside

    still_closed : g.keeps_model read → GivesNone found.sizes.blocks (entries_of found.map) → (layout_in sizes).IsClosed (g.content old)
    still_closed keeps none body r below = sym (map_is keeps body r below) ∙ none body r (subst (λ s. r < 504 * s.blocks) (sym same) below)

    anew_blocks : g.keeps_model new → AnewInBlocks g sizes.blocks (not named) (HomesStandAs (layout_in sizes) (g.sector_count old) (g.content old)) read new
    anew_blocks keeps = so_before g old read (looks.touches (w.kept keeps)) (λ k image. AnewInBlocks g sizes.blocks (not named) (HomesStandAs (layout_in sizes) k image) read new) looks.size
        (subst (λ s. AnewInBlocks g sizes.blocks (not named) (HomesStandAs (layout_in s) (g.sector_count read) (g.content read)) read new) same
        (to_image (λ m b. AnewInBlocks g m b (HomesStandAs (layout_in found.sizes) (g.sector_count read) (g.content read)) read new) (w.kept keeps) (w.blocks keeps)))

    -- after Ok
    pub settled : g.keeps_model new → OnOk r (IsSettled (layout_in sizes) g (g.sector_count old) (g.content old) (state_of now) new ((layout_in sizes).standing (g.content old)))
    settled keeps = on_ok_weaker r (λ here. so_before g old read (looks.touches (w.kept keeps)) (λ k image. IsSettled (layout_in sizes) g k image (state_of now) new ((layout_in sizes).standing image)) looks.size
        (subst (λ s. IsSettled (layout_in s) g (g.sector_count read) (g.content read) (state_of now) new ((layout_in s).standing (g.content read))) same here)) (w.done keeps)

    pub turned : g.keeps_model new → ((layout_in sizes).IsClosed (g.content old) → ⊥) → OnOk r (now.second ≡ not named)
    turned keeps given = on_ok_weaker r (λ other. other ∙ ap not (second_is (w.kept keeps))) (w.turned (λ none. given (still_closed (w.kept keeps) none)))

    pub recovered : (result : Result (Unit {0}) RecoverFault)
        → (g.keeps_model new → OnOk result (IsSettled (layout_in sizes) g (g.sector_count old) (g.content old) (state_of now) new ((layout_in sizes).standing (g.content old))))
        → (g.keeps_model new → OnOk result ((k : ℕ) → g.unsynced new k → ⊥)) → (g.keeps_model new → ((layout_in sizes).IsClosed (g.content old) → ⊥) → OnOk result (now.second ≡ not named))
        → BlamesJournal g old new result → (IsErrOf result BadJournal → ⊥) → RecoversPool g was now old new result
    recovered result ok synced anew blames bad = record {
      restores = record {
        ok = ok_if result ok;
        synced = synced;
        stays = stays (layout_in sizes) (pool_fixes sizes.blocks sizes.homes) g old new moments;
        run = record { size = w.size ∙ looks.size; kept = λ keeps. looks.kept (w.kept keeps); later = omega (arith, looks.later, w.later); touches = touched };
        bad_unwritten = λ keeps none. absurd none;
        closed_unwritten = λ keeps closed. subst (λ after. Touches g Nothing old after) (sym (w.idle (gives_none (w.kept keeps) closed))) (looks.touches (w.kept keeps));
        asks = λ keeps. asks_then g ((layout_in sizes).IsAsked (g.content old)) old read new (looked_asks (w.kept keeps))
            (asks_once g ((layout_in sizes).IsAsked (g.content old)) (IsGateOrMap sizes.blocks (not named)) read new (is_asked (not named)) (asked_then keeps));
        blames = blames;
        good = λ keeps. good_if result;
        bad = λ keeps. bad;
      };
      blocks = λ keeps. inr (read, looks.touches (w.kept keeps), anew_blocks keeps);
      map = λ keeps. map_if result (subst (λ map. GivesAsNamed sizes map (g.content old)) (sym w.map) (map_is (w.kept keeps)));
      anew = anew;
      once = λ keeps. record { between = g.asked read; reads = once (w.kept keeps); writes = asked_then keeps };
      is = w.is;
      sizes = w.sizes ∙ same;
    }
      where
        ok_if : (told : Result (Unit {0}) RecoverFault) → (g.keeps_model new → OnOk told (IsSettled (layout_in sizes) g (g.sector_count old) (g.content old) (state_of now) new ((layout_in sizes).standing (g.content old))))
            → g.keeps_model new → IfOk told (λ done. IsSettled (layout_in sizes) g (g.sector_count old) (g.content old) (state_of now) new ((layout_in sizes).standing (g.content old)))
        ok_if (Ok done) here = here
        ok_if (Err fault) here = λ keeps. tt

        good_if : (told : Result (Unit {0}) RecoverFault) → OnOk told (⊥ → ⊥)
        good_if (Ok done) = λ none. none
        good_if (Err fault) = tt

        map_if : {P : Type 0} (told : Result (Unit {0}) RecoverFault) → P → OnOk told P
        map_if (Ok done) p = p
        map_if (Err fault) p = tt

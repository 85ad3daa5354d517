-- A store that is opened, or taken up.
use Rattle.sync_plans.proofs.Names.{ℕ, ◌*◌, ◌≡◌, ◌⊎◌, Bool, true, false, not, false≢true, List, Option, Result, inr, ⊎_elim, refl, sym, ap, subst, ◌∙◌, fun_ext, rules, Err, IfErr, IfErr-at_err, IfErr-weaker}
use Rattle.sync_plans.proofs.Names.{Ghosts, Image, LeavesNow, LeavesOnly, Nothing, Touches, weaker, FileInfo, FilePage, pool_home_count, pool_named}
use Rattle.sync_plans.proofs.Names.{same_blocks, same_mark, same_pages, in_kind, by_head, of_head, files_said, kind_outside, mark_outside, outside_alike, stands_for_own, head_of, ImageSays, is_pool, file_info, says_by, says, standing_page}
use Rattle.sync_plans.proofs.Names.{capacity_by, capacity_pages, most_pages, IsBadJournal, IsBadLayout, IsClosed, IsOutside, StandsAs, StandsFor, KeepsHomesIn, PutsHomesIn, OpensFrom, RefusesToOpen, RunsOpening, ResumesFrom}
use Rattle.sync_plans.proofs.Names.{capacity_in, disk_of, files_of, kept_of, IsReadyStore, OpenFault, Store, Journal, Pool}
use Rattle.sync_plans.specs.{Requests.{IsStore, KeepsOutside, HasLayout, RefusesImage, RefusesOn, StaysStore}, declared.requests.Refusal.{Refusal, TheVariants.{Device, BadLayout, BadJournal, BadPages, ReadOnly, Memory}}}
use Rattle.stores.specs.declared.faults.OpenFault.TheVariants.{Device as OpenDevice, BadLayout as OpenBadLayout, BadJournal as OpenBadJournal, Memory as OpenMemory}

module _ {D : Type 0} (g : Ghosts D) (sectors : ℕ) (files : ℕ → Option FileInfo) (before : ℕ → ℕ → List ℕ) (old mid : D) (left : LeavesNow g old (StandsFor sectors files before)) where
  was : StandsFor sectors files before (g.content old)
  was = left (g.content old) (record { kept = λ k. inr refl })

  -- while it is opened it stands for what it did
  pub while_opening : LeavesOnly g old mid (StandsAs sectors (g.content old)) → LeavesOnly g old mid (StandsFor sectors files before)
  while_opening run = weaker g old mid (StandsAs sectors (g.content old)) (StandsFor sectors files before) (λ image stands. stands files before was) run

  -- and so it does then
  pub when_open : LeavesNow g mid (StandsAs sectors (g.content old)) → LeavesNow g mid (StandsFor sectors files before)
  when_open now image may = now image may files before was

-- what an image without the mark of a pool says, it says by the words of layout 2
of_kind : (P : ImageSays → Type 0) (sectors : ℕ) (image : Image) → is_pool image ≡ false → P (says sectors image) → P (says_by false sectors image)
of_kind P sectors image unmarked = subst (λ (pool : Bool). P (says_by pool sectors image)) unmarked

-- what lies outside of gate, journal, pool and homes of an image does so of an image that keeps it
still_outside : (sectors : ℕ) (old new : Image) → KeepsOutside sectors old new → (k : ℕ) → IsOutside sectors old k → IsOutside sectors new k
still_outside sectors old new kept k out = from (is_pool old) refl
  where
    first : new 0 ≡ old 0
    first = kept 0 (mark_outside sectors old)

    from : (pool : Bool) → is_pool old ≡ pool → IsOutside sectors new k
    from true marked = outside_alike sectors old new first (kept 1 (kind_outside sectors old marked)) marked k out
    from false unmarked = in_kind (λ (said : ImageSays). said.IsOutside k) sectors new (same_mark old new first ∙ unmarked)
        (of_kind (λ (said : ImageSays). said.IsOutside k) sectors old unmarked out)

-- so that it is kept in a row
pub outside_then : (sectors : ℕ) (old mid new : Image) → KeepsOutside sectors old mid → KeepsOutside sectors mid new → KeepsOutside sectors old new
outside_then sectors old mid new first second k out = second k (still_outside sectors old mid first k out) ∙ first k out

module _ {D : Type 0} (g : Ghosts D) where
  -- a commit keeps it,
  pub committed_outside : (store : Store D) → IsReadyStore g store → g.keeps_model (disk_of store) → (list : List FilePage) (given : ℕ → List ℕ) (image : Image)
      → PutsHomesIn (kept_of store) (g.sector_count (disk_of store)) list given (g.content (disk_of store)) image
      → KeepsOutside (g.sector_count (disk_of store)) (g.content (disk_of store)) image
  committed_outside (Journal store) ready keeps list given image puts k out =
      puts.outside k (of_kind (λ (said : ImageSays). said.IsOutside k) (g.sector_count store.disk) (g.content store.disk) (ready.1 keeps) out)
  committed_outside (Pool store) ready keeps list given image puts k out =
      puts.outside k (of_head store.journal.sizes.blocks store.directory.pages store.journal.sizes.homes (g.sector_count store.disk) ready.pool.homes (g.content store.disk) (head_of g store ready keeps)
      (λ (said : ImageSays). said.IsOutside k) out)

  -- and so does what leaves the homes as they stand
  pub freed_outside : (store : Store D) → IsReadyStore g store → g.keeps_model (disk_of store) → (image : Image)
      → KeepsHomesIn (kept_of store) (g.sector_count (disk_of store)) (g.content (disk_of store)) image
      → KeepsOutside (g.sector_count (disk_of store)) (g.content (disk_of store)) image
  freed_outside (Journal store) ready keeps image stands k out =
      stands.outside k (of_kind (λ (said : ImageSays). said.IsOutside k) (g.sector_count store.disk) (g.content store.disk) (ready.1 keeps) out)
  freed_outside (Pool store) ready keeps image stands k out =
      stands.outside k (of_head store.journal.sizes.blocks store.directory.pages store.journal.sizes.homes (g.sector_count store.disk) ready.pool.homes (g.content store.disk) (head_of g store ready keeps)
      (λ (said : ImageSays). said.IsOutside k) out)

-- a store that was taken up has the files of the image that it was taken up on
pub same_files : {D : Type 0} (g : Ghosts D) (disk : D) (store : Store D) → ResumesFrom g disk store → g.keeps_model (disk_of store)
    → files_of store ≡ file_info (g.sector_count disk) (g.content disk)
same_files g disk store resumed k =
    let size = resumed.run.size in
    let stands = resumed.now k (g.content (disk_of store)) (record { kept = λ n. inr refl }) (file_info (g.sector_count disk) (g.content disk)) (standing_page (g.sector_count disk) (g.content disk))
    (stands_for_own (g.sector_count disk) (g.content disk) (resumed.good_layout k) (resumed.good_journal k)) in
    fun_ext (λ f. files_said g store resumed.ready k f ∙ ap (λ (sectors : ℕ). file_info sectors (g.content (disk_of store)) f) size ∙ stands.facts f)

-- and its commits may take as many pages as that image says
pub same_capacity : {D : Type 0} (g : Ghosts D) (disk : D) (store : Store D) → ResumesFrom g disk store → g.keeps_model (disk_of store)
    → capacity_in (kept_of store) ≡ capacity_pages (g.sector_count disk) (g.content disk)
same_capacity g disk (Journal store) resumed k =
    let unmarked : is_pool (g.content disk) ≡ false = sym (same_mark (g.content disk) (g.content store.disk) (resumed.run.outside k 0 (mark_outside (g.sector_count disk) (g.content disk)))) ∙ resumed.ready.1 k in
    resumed.most k ∙ sym (ap (λ (pool : Bool). capacity_by pool (most_pages (g.sector_count disk) (g.content disk))) unmarked)
same_capacity g disk (Pool store) resumed k =
    let marked : is_pool (g.content disk) ≡ true = sym (same_mark (g.content disk) (g.content store.disk) (resumed.run.outside k 0 (mark_outside (g.sector_count disk) (g.content disk)))) ∙ (head_of g store resumed.ready k).mark in
    ap (λ (most : ℕ). 2 * most) (resumed.most k) ∙ sym (ap (λ (pool : Bool). capacity_by pool (most_pages (g.sector_count disk) (g.content disk))) marked)

-- and that image is one of a store
pub found_store : {D : Type 0} (g : Ghosts D) (disk : D) (store : Store D) → ResumesFrom g disk store → g.keeps_model (disk_of store) → IsStore (g.sector_count disk) (g.content disk)
found_store g disk store resumed k = record { layout = resumed.good_layout k; journal = resumed.good_journal k }

-- a store that is not opened or taken up is refused for what it is refused for, told in other words
pub told_so : {D : Type 0} (g : Ghosts D) (old new : D) (fault : OpenFault) (refusal : Refusal) {bad denied : Type 0} → RefusesToOpen g old fault new
    → (refusal ≡ Device → fault ≡ OpenDevice) → (refusal ≡ BadLayout → fault ≡ OpenBadLayout) → (refusal ≡ BadJournal → fault ≡ OpenBadJournal) → (refusal ≡ Memory → fault ≡ OpenMemory)
    → (refusal ≡ BadPages → ⊥) → (refusal ≡ ReadOnly → ⊥) → RefusesOn g old new bad denied refusal
told_so g old new fault refusal refused device layout journal memory pages read_only = record {
  cause = λ is. refused.device (device is);
  layout = λ k is. refused.bad_layout k (layout is);
  journal = λ k is. record { layout = refused.layout_first k (journal is); journal = refused.bad_journal k (journal is) };
  memory = λ k is. refused.memory k (memory is);
  pages = λ is. absurd (pages is);
  read_only = λ is. absurd (read_only is);
}

-- the gate of a pool that was opened names the other map, where pages stood in slots
pub opened_anew : {D : Type 0} (g : Ghosts D) (disk : D) (store : Store D) → OpensFrom g disk store → g.keeps_model (disk_of store) → is_pool (g.content disk) ≡ true
    → (IsClosed (g.sector_count disk) (g.content disk) → ⊥) → pool_named (g.content (disk_of store)) ≡ not (pool_named (g.content disk))
opened_anew g disk (Journal store) opened k marked some =
    absurd (false≢true (sym (opened.ready.1 k) ∙ same_mark (g.content disk) (g.content store.disk) (opened.run.outside k 0 (mark_outside (g.sector_count disk) (g.content disk))) ∙ marked))
opened_anew g disk (Pool store) opened k marked some =
    let sectors = g.sector_count disk in
    let was = g.content disk in
    let now = g.content store.disk in
    let m = store.journal.sizes.blocks in
    let kind : was 1 ≡ now 1 = sym (opened.run.outside k 1 (kind_outside sectors was marked)) in
    let head = head_of g store opened.ready k in
    (opened.ready.at_rest k).rest.gate
    ∙ (opened.carried k).1 (λ closed. some (by_head m store.directory.pages store.journal.sizes.homes sectors (opened.ready.pool.homes ∙ ap (pool_home_count m) opened.run.size) was
    (record { mark = marked; blocks = same_blocks now was kind ∙ head.blocks; pages = same_pages now was kind ∙ head.pages })
    (λ (said : ImageSays). said.IsClosed) closed))

-- Whatever comes of an opening, or of a store that is taken up,
module _ {D : Type 0} (g : Ghosts D) (old mid : D) (run : RunsOpening g old mid) (synced : g.keeps_model old → (k : ℕ) → g.unsynced old k → ⊥) where
  abbrev sectors : ℕ
  sectors = g.sector_count old

  abbrev content : Image
  content = g.content old

  pub own : IsStore sectors content → StandsFor sectors (file_info sectors content) (standing_page sectors content) content
  own store = stands_for_own sectors content store.layout store.journal

  pub layout_kept : g.keeps_model mid → IsStore sectors content → LeavesOnly g old mid (HasLayout sectors)
  layout_kept k store = weaker g old mid (StandsAs sectors content) (HasLayout sectors) (λ image stands. (stands (file_info sectors content) (standing_page sectors content) (own store)).layout)
      (run.any_moment k (synced (run.kept k)))

  -- the store that was refused stays,
  pub stays_refused : (g.keeps_model mid → IsBadLayout sectors content ⊎ IsBadJournal sectors content → Touches g Nothing old mid) → StaysStore g old mid
  stays_refused unwritten = record { size = run.size; layout_moment = layout_kept; bad_unwritten = unwritten }

  -- and so does one that was found
  pub stays_found : (g.keeps_model mid → IsBadLayout sectors content → ⊥) → (g.keeps_model mid → IsBadJournal sectors content → ⊥) → StaysStore g old mid
  stays_found layout journal = stays_refused (λ k. ⊎_elim (λ bad. absurd (layout k bad)) (λ bad. absurd (journal k bad)))

-- what is refused on a device that kept its model is refused for its image
pub refuses_image : {D T : Type 0} (g : Ghosts D) (old new : D) {bad denied bad' denied' : Type 0} (result : Result T Refusal) → g.keeps_model new → (bad → bad') → (denied → denied')
    → IfErr result (RefusesOn g old new bad denied) → IfErr result (RefusesImage (g.sector_count old) (g.content old) bad' denied')
refuses_image g old new result k bad_so denied_so = IfErr-weaker result _ _
    (λ refusal r. record { layout = r.layout k; journal = r.journal k; memory = r.memory k; pages = λ is. bad_so (r.pages is); read_only = λ is. denied_so (r.read_only is) })

-- or for want of room, whatever else came of it
pub refuses_told : {T : Type 0} (sectors : ℕ) (image : Image) (bad denied : Type 0) (outcome : Result (Unit {0}) Refusal) (result : Result T Refusal)
    → IfErr result (λ refusal. (refusal ≡ Device) ⊎ (outcome ≡ Err refusal)) → IfErr outcome (RefusesImage sectors image bad denied) → IfErr result (RefusesImage sectors image bad denied)
refuses_told sectors image bad denied outcome result told refused = IfErr-weaker result _ _
    (λ refusal. ⊎_elim
    (λ full. subst (RefusesImage sectors image bad denied) (sym full) (record { layout = search rules; journal = search rules; memory = search rules; pages = search rules; read_only = search rules }))
    (λ same. IfErr-at_err (RefusesImage sectors image bad denied) same refused)) told

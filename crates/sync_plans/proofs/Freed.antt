-- A store that was taken up, and whose pages are then brought home.
use Rattle.sync_plans.proofs.{Changed.{put_pages, changes_so}, Names.{ℕ, ◌<◌, ◌≤◌, ◌≡◌, true, List, Option, Some, Result, length, slice_get, inl, inr, ⊎_elim, refl, sym, subst, ◌∙◌}}
use Rattle.sync_plans.proofs.Names.{Ghosts, Image, LeavesNow, LeavesOnly, joined, weaker, DiskFault, FileInfo, FilePage, Changes, same_mark, in_kind, mark_outside, head_of, ImageSays, is_pool, file_info, standing_page, IsAtRest}
use Rattle.sync_plans.proofs.Names.{IsClosed, IsPageOf, StandsFor, StandsForEither, ArePages, FreesSlots, IsAsNamed, IsTidyIn, ResumesFrom, directory_of, disk_of, files_in, files_of, free_of, kept_of, AnyDirectory, IsReadyStore, Store, Journal, Pool}
use Rattle.sync_plans.{proofs.Runs.{while_opening, when_open, own, layout_kept, freed_outside, outside_then}, specs.Requests.{IsStore, KeepsOutside, HasLayout, StaysStore}}

-- pages that a commit may take where enough slots are free it may take where as many are as they are
pub fits : {D : Type 0} (store new : Store D) (most : ℕ) (list : List FilePage) → ArePages (files_of store) most list → directory_of new ≡ directory_of store
    → length list ≤ free_of new → ArePages (files_of new) (free_of new) list
fits store new most list are same room = record {
  some = are.some;
  few = room;
  inside = λ i p at. subst (λ (directory : AnyDirectory). IsPageOf (files_in directory) p.file p.page) (sym same) (are.inside i p at);
  distinct = are.distinct;
}

module _ {D : Type 0} (g : Ghosts D) where
  -- no page of a tidied store stands in a journal or in a slot alone
  pub tidied_closed : (store new : Store D) (named : Image) → IsReadyStore g store → g.keeps_model (disk_of store) → IsAsNamed (kept_of store) named
      → (IsTidyIn (kept_of store) → new ≡ store) → g.content (disk_of new) 0 ≡ g.content (disk_of store) 0
      → (is_pool (g.content (disk_of new)) ≡ true → IsClosed (g.sector_count (disk_of new)) (g.content (disk_of new)))
      → IsClosed (g.sector_count (disk_of new)) (g.content (disk_of new))
  tidied_closed (Journal store) new named ready keeps none idle mark closed =
      let quiet = subst (λ (live : List ℕ). IsAtRest g live store.disk) none (ready.0.at_rest keeps).journal in
      subst (λ (s : Store D). IsClosed (g.sector_count (disk_of s)) (g.content (disk_of s))) (sym (idle refl))
      (in_kind (λ (said : ImageSays). said.IsClosed) (g.sector_count store.disk) (g.content store.disk) (ready.1 keeps) quiet.closed)
  tidied_closed (Pool store) new named ready keeps as_named idle mark closed =
      closed (same_mark (g.content store.disk) (g.content (disk_of new)) mark ∙ (head_of g store ready keeps).mark)

module _ {D : Type 0} (g : Ghosts D) (old : D) (store new : Store D) (result : Result (Unit {0}) DiskFault) (found : ResumesFrom g old store)
    (frees : FreesSlots g store new result) (synced : g.keeps_model old → (k : ℕ) → g.unsynced old k → ⊥) where
  abbrev sectors : ℕ
  sectors = g.sector_count old

  abbrev content : Image
  content = g.content old

  abbrev mid : D
  mid = disk_of store

  abbrev last : D
  last = disk_of new

  pub freed_size : g.sector_count last ≡ sectors
  freed_size = frees.size ∙ found.run.size

  -- What it stood for it stands for while that is done, and then.
  module _ (k : g.keeps_model last) (files : ℕ → Option FileInfo) (before : ℕ → ℕ → List ℕ) where
    from_taken : LeavesNow g mid (StandsFor sectors files before) → LeavesOnly g mid last (StandsFor sectors files before)
    from_taken now = subst (λ (s : ℕ). LeavesOnly g mid last (StandsFor s files before)) found.run.size
        (frees.any_moment k files before (subst (λ (s : ℕ). LeavesNow g mid (StandsFor s files before)) (sym found.run.size) now))

    then_freed : LeavesNow g mid (StandsFor sectors files before) → LeavesNow g last (StandsFor sectors files before)
    then_freed now = subst (λ (s : ℕ). LeavesNow g last (StandsFor s files before)) found.run.size
        (frees.stands k files before (subst (λ (s : ℕ). LeavesNow g mid (StandsFor s files before)) (sym found.run.size) now))

    module _ (left : LeavesNow g old (StandsFor sectors files before)) where
      taken : LeavesNow g mid (StandsFor sectors files before)
      taken = when_open g sectors files before old mid left (found.now (frees.kept k))

      pub when_freed : LeavesNow g last (StandsFor sectors files before)
      when_freed = then_freed taken

      pub while_freed : LeavesOnly g old last (StandsFor sectors files before)
      while_freed = joined g old mid last (StandsFor sectors files before)
          (while_opening g sectors files before old mid left (found.run.any_moment (frees.kept k) (synced (found.run.kept (frees.kept k)))))
          (from_taken taken)

      -- a commit more
      pub then_committed : (after : ℕ → ℕ → List ℕ) (end : D) → LeavesOnly g last end (StandsForEither sectors files before after) → LeavesOnly g old end (StandsForEither sectors files before after)
      then_committed after end second = joined g old last end (StandsForEither sectors files before after)
          (weaker g old last (StandsFor sectors files before) (StandsForEither sectors files before after) (λ image s. inl s) while_freed) second

  -- What lies outside of gate, journal, pool and homes is as it was,
  pub kept_outside : g.keeps_model last → KeepsOutside sectors content (g.content last)
  kept_outside k = outside_then sectors content (g.content mid) (g.content last) (found.run.outside (frees.kept k))
      (subst (λ (s : ℕ). KeepsOutside s (g.content mid) (g.content last)) found.run.size
      (freed_outside g store found.ready (frees.kept k) (g.content last) (frees.homes k (g.content last) (record { kept = λ n. inr refl }))))

  -- as is the mark.
  pub kept_mark : g.keeps_model last → g.content last 0 ≡ g.content mid 0
  kept_mark k = freed_outside g store found.ready (frees.kept k) (g.content last) (frees.homes k (g.content last) (record { kept = λ n. inr refl })) 0
      (mark_outside (g.sector_count mid) (g.content mid))

  -- The store stays,
  own_taken : g.keeps_model mid → IsStore sectors content → LeavesNow g mid (StandsFor sectors (file_info sectors content) (standing_page sectors content))
  own_taken k is image may = found.now k image may (file_info sectors content) (standing_page sectors content) (own g old mid found.run synced is)

  layout_freed : g.keeps_model last → IsStore sectors content → LeavesOnly g old last (HasLayout sectors)
  layout_freed k is = joined g old mid last (HasLayout sectors) (layout_kept g old mid found.run synced (frees.kept k) is)
      (weaker g mid last (StandsFor sectors (file_info sectors content) (standing_page sectors content)) (HasLayout sectors) (λ image s. s.layout)
      (from_taken k (file_info sectors content) (standing_page sectors content) (own_taken (frees.kept k) is)))

  pub stays_freed : StaysStore g old last
  stays_freed = record {
    size = freed_size;
    layout_moment = layout_freed;
    bad_unwritten = λ k. ⊎_elim (λ bad. absurd (found.good_layout (frees.kept k) bad)) (λ bad. absurd (found.good_journal (frees.kept k) bad));
  }

  -- and was committed to.
  pub stays_committed : (end : D) (list : List FilePage) (given : ℕ → List ℕ)
      → ((a b : ℕ) (q : FilePage) → a < b → slice_get list a ≡ Some q → slice_get list b ≡ Some q → ⊥)
      → g.sector_count end ≡ g.sector_count last → (g.keeps_model end → g.keeps_model last)
      → (g.keeps_model end → (files : ℕ → Option FileInfo) (before after : ℕ → ℕ → List ℕ) → LeavesNow g last (StandsFor (g.sector_count last) files before)
      → Changes files list given before after → LeavesOnly g last end (StandsForEither (g.sector_count last) files before after))
      → StaysStore g old end
  stays_committed end list given distinct size kept moment = record {
    size = size ∙ freed_size;
    layout_moment = λ k is.
        let files = file_info sectors content in
        let before = standing_page sectors content in
        let after = put_pages files list given before in
        let now = then_freed (kept k) files before (own_taken (frees.kept (kept k)) is) in
        let run = subst (λ (s : ℕ). LeavesOnly g last end (StandsForEither s files before after)) freed_size
        (moment k files before after (subst (λ (s : ℕ). LeavesNow g last (StandsFor s files before)) (sym freed_size) now) (changes_so files given before list distinct)) in
        joined g old last end (HasLayout sectors) (layout_freed (kept k) is)
        (weaker g last end (StandsForEither sectors files before after) (HasLayout sectors) (λ image. ⊎_elim (λ s. s.layout) (λ s. s.layout)) run);
    bad_unwritten = λ k. ⊎_elim (λ bad. absurd (found.good_layout (frees.kept (kept k)) bad)) (λ bad. absurd (found.good_journal (frees.kept (kept k)) bad));
  }

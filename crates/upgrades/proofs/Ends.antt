-- How an upgrade ends.
use Rattle.upgrades.proofs.Names.{◌≡◌, ◌⊎◌, ◌∙◌, ℕ, List, Option, Result, Err, inl, inr, refl, ⊎_elim, sym, ap, subst, arith, IsErrAnd, AsksOnly, Ghosts, Image, NamesOnce, Nothing, RunsOnDevice, Touches, once_apart, once_wider}
use Rattle.vm_types.specs.declared.file.FileInfo.{FileInfo}
use Rattle.directories.specs.Kinds.{IsKind}
use Rattle.file_store.proofs.{Causes.{is_this, same_Err}, Openings.{content_is}}
use Rattle.file_store.specs.{Blocks.{KindBehind}, Format.{IsFrom, IsMarkSector}, Layout.{IsMark}, Making.{LooksFirst}, Upgrade.{HasUpgradeCauses, IsOldAsked as IsVersionAsked, IsOldHead}}
use Rattle.file_store.specs.declared.{faults.UpgradeFault.{UpgradeFault, TheVariants.{OldDevice, OldLayout, OldJournal, NewSmall, Formatted}}, old_store.OldStore.{OldStore}}
use Rattle.pool_store.proofs.Stopped.{LeavesNoPart, SameFrom}
use Rattle.pool_store.specs.{Format.{IsUnmarkedPoolSector, new_pages}, Pools.{pool_mark}}
use Rattle.upgrades.proofs.{Old.{bounded_is, file_is, head_apart, page_is_cut}, Tables.{inner_moves}, Versions.{with_kind, without_mark}, Whole.{AreFiles, facts, good, page_stands}}
use Rattle.upgrades.specs.{Copying.{WritesKindLast}, Finding.{LooksAtKind}, NewPool.{HasRoomFor, IsInnerUpgrade, IsTooSmall, IsTooSmall.{FewHomes, FewSectors}, IsUnmarkedUpgrade, IsUpgradeIfHeaded, IsUpgradeIfMarked, IsUpgradeOf, IsUpgradeSector, pages_before}}
use Rattle.upgrades.specs.{Old.{IsBadJournal, IsBadLayout, IsOldPage, IsReadable, file_info, files_of, standing_page, version_in}, Upgraded.{IsOldAsked, UpgradesToPool}}

-- an image without a mark is no store
module _ (m old_sectors sectors : ℕ) (old : Image) where
  pub lacks_mark : (held : List ℕ) → (IsMark held → ⊥) → (c : Image) → c 0 ≡ held → IsUpgradeIfMarked m old_sectors sectors old c
  lacks_mark held unmarked c same = record {
    store = λ marked. absurd (unmarked (inr (inr (inr (sym same ∙ marked)))));
    made = λ any. absurd (unmarked (subst IsMark same any));
    older = without_mark sectors c (λ any. unmarked (subst IsMark same any));
  }

  pub lacks_head : (held : List ℕ) → (IsMark held → ⊥) → (c : Image) → c 0 ≡ held → IsUpgradeIfHeaded m old_sectors sectors old c
  lacks_head held unmarked c same = λ kind marked. absurd (unmarked (inr (inr (inr (sym same ∙ marked)))))

  module _ (are : AreFiles (file_info old) (standing_page old)) (room : HasRoomFor m sectors (file_info old)) where
    -- with kind and mark it is
    upgraded : (c : Image) → IsUnmarkedUpgrade m (file_info old) (standing_page old) c → c 0 ≡ pool_mark → IsUpgradeOf m old_sectors sectors old c
    upgraded c all marked =
        let files = file_info old in let pages = standing_page old in
        record {
          good = good files pages are m sectors room c all marked;
          stands = λ given bytes was. record {
            good = good files pages are m sectors room c all marked;
            journal = λ bad. bad;
            facts = λ f. facts files pages are m sectors room c all f ∙ was.facts f;
            same = λ f k inside. page_stands files pages are m sectors room c all f k (inside.0, was.facts f ∙ inside.1, inside.2) ∙ was.same f k inside;
          };
          made = all;
        }

    pub headed : (tables c : Image) → IsInnerUpgrade m (file_info old) (standing_page old) tables → SameFrom 8 tables c → IsUpgradeIfHeaded m old_sectors sectors old c
    headed tables c inner same = λ kind marked. upgraded c (record { kind = kind; inner = inner_moves m (file_info old) (standing_page old) tables c same inner }) marked

    pub with_mark : (made c : Image) → IsUnmarkedUpgrade m (file_info old) (standing_page old) made → SameFrom 1 made c → IsUpgradeIfMarked m old_sectors sectors old c
    with_mark made c all same =
        let kind : IsKind m new_pages (c 1) = subst (λ (sector : List ℕ). IsKind m new_pages sector) (sym (same 1 (omega arith))) all.kind in
        let moved : IsUnmarkedUpgrade m (file_info old) (standing_page old) c = record { kind = kind; inner = inner_moves m (file_info old) (standing_page old) made c (λ k far. same k (omega (arith, far))) all.inner } in
        record { store = upgraded c moved; made = λ any. moved; older = with_kind m new_pages sectors c kind }

-- what is made when the kind is written behind the rest
pub unmarked_of : {D : Type 0} (g : Ghosts D) (m : ℕ) (files : ℕ → Option FileInfo) (pages : ℕ → ℕ → List ℕ) (old made : D) → KindBehind g (IsFrom 8) (IsInnerUpgrade m files pages) old made
    → IsKind m new_pages (g.content made 1) → IsUnmarkedUpgrade m files pages (g.content made)
unmarked_of g m files pages old made behind kind = record {
  kind = kind;
  inner = inner_moves m files pages (g.content behind.tables) (g.content made) (λ k far. ⊎_elim (λ at. absurd (omega (arith, at, far))) (λ same. same) (behind.kind.content k)) behind.holds;
}

-- where there is room it is not too small
pub room_is_not_small : (m sectors : ℕ) (files : ℕ → Option FileInfo) → HasRoomFor m sectors files → IsTooSmall m sectors files → ⊥
room_is_not_small m sectors files has (FewSectors few) = let front = has.front in omega (arith, few, front)
room_is_not_small m sectors files has (FewHomes few) = let homes = has.homes in omega (arith, few, homes)

-- what was asked for at most
pub old_asked : {D : Type 0} (g : Ghosts D) (image : Image) (old new : D) → LooksAtKind g (IsVersionAsked (version_in image) image) old new → AsksOnly g (IsOldAsked image) old new
old_asked g image old new once = record {
  others = λ k. ⊎_elim
      (λ same. ⊎_elim (λ before. inr (same ∙ before)) (λ kind. inl (inl (inl kind.0))) (once.kind.each k))
      (λ at. inl (⊎_elim (λ head. inl (inr head)) (λ page. inr page) at.0))
      (once.rest.each k);
}

pub new_asked : {D : Type 0} (g : Ghosts D) (W : ℕ → Type 0) (old new : D) → ((k : ℕ) → IsMarkSector k → W k) → LooksFirst W (g.asked old) (g.asked new) → AsksOnly g W old new
new_asked g W old new mark once = record {
  others = λ k. ⊎_elim
      (λ same. ⊎_elim (λ before. inr (same ∙ before)) (λ looked. inl (mark k looked.0)) (once.looks.each k))
      (λ made. inl made.0) (once.makes.each k);
}

module _ {D E : Type 0} (g : Ghosts D) (h : Ghosts E) (m : ℕ) (old : D) (new new' : E) where
  -- what a stop leaves of the new device
  abbrev pub Leaves : Type 0
  Leaves = LeavesNoPart h (IsUpgradeIfMarked m (g.sector_count old) (h.sector_count new) (g.content old)) (IsUpgradeIfHeaded m (g.sector_count old) (h.sector_count new) (g.content old))
      (IsInnerUpgrade m (file_info (g.content old)) (standing_page (g.content old))) new (IsMark (h.content new 0) → ⊥) new'

module _ {D E T : Type 0} (g : Ghosts D) (h : Ghosts E) (m : ℕ) (old old' : D) (new new' : E) where
  -- refused
  pub upgrade_refused : (fault : UpgradeFault) (r : Result T UpgradeFault) → IsErrAnd r (λ f. f ≡ fault) → RunsOnDevice g Nothing old old' → h.sector_count new' ≡ h.sector_count new → (h.keeps_model new' → h.keeps_model new)
      → (g.keeps_model old' → LooksAtKind g (IsVersionAsked (version_in (g.content old)) (g.content old)) old old') → (g.keeps_model old' → LooksFirst (IsUpgradeSector m (g.content old)) (h.asked new) (h.asked new'))
      → HasUpgradeCauses {T = T} (g.failures old) (g.failures old') (h.failures new) (h.failures new') (Err fault)
      → (g.keeps_model old' → h.keeps_model new' → Leaves g h m old new new')
      → (g.keeps_model old' → fault ≡ OldLayout → IsBadLayout (g.sector_count old) (g.content old))
      → (g.keeps_model old' → IsBadLayout (g.sector_count old) (g.content old) → (fault ≡ OldLayout) ⊎ (fault ≡ OldDevice))
      → (g.keeps_model old' → fault ≡ OldJournal → IsBadJournal (g.sector_count old) (g.content old))
      → (g.keeps_model old' → IsBadJournal (g.sector_count old) (g.content old) → (fault ≡ OldLayout) ⊎ ((fault ≡ OldJournal) ⊎ (fault ≡ OldDevice)))
      → (g.keeps_model old' → fault ≡ NewSmall → IsTooSmall m (h.sector_count new) (file_info (g.content old)))
      → (g.keeps_model old' → IsTooSmall m (h.sector_count new) (file_info (g.content old)) → (fault ≡ OldLayout) ⊎ ((fault ≡ OldJournal) ⊎ ((fault ≡ OldDevice) ⊎ (fault ≡ NewSmall))))
      → (h.keeps_model new' → fault ≡ Formatted → IsMark (h.content new 0)) → (h.keeps_model new' → IsMark (h.content new 0) → Touches h Nothing new new')
      → (h.keeps_model new' → (fault ≡ OldLayout) ⊎ ((fault ≡ OldJournal) ⊎ ((fault ≡ NewSmall) ⊎ (fault ≡ Formatted))) → Touches h Nothing new new')
      → UpgradesToPool g h m old old' new new' r
  upgrade_refused fault r is run size kept once_old once causes leaves old_layout good_layout old_journal good_journal new_small large formatted marked unwritten =
      subst (λ r. UpgradesToPool g h m old old' new new' r) (sym (is_this r fault is)) (record {
        ok = λ k k'. tt;
        marked = λ k. tt;
        synced = λ k. tt;
        any_moment = λ k k'. (leaves k k').any_moment;
        blocks = λ k k'. (leaves k k').blocks;
        old_size = run.size;
        size = size;
        old_kept = run.kept;
        kept = kept;
        only_read = run.touches;
        asks_old = λ k. old_asked g (g.content old) old old' (once_old k);
        once_old = once_old;
        asks = λ k. new_asked h (IsUpgradeSector m (g.content old)) new new' (λ s at. inl at) (once k);
        once = once;
        old_layout = λ k e. old_layout k (same_Err _ _ e);
        good_layout = λ k bad. ⊎_elim (λ e. inl (ap Err e)) (λ e. inr (ap Err e)) (good_layout k bad);
        old_journal = λ k e. old_journal k (same_Err _ _ e);
        good_journal = λ k bad. ⊎_elim (λ e. inl (ap Err e)) (⊎_elim (λ e. inr (inl (ap Err e))) (λ e. inr (inr (ap Err e)))) (good_journal k bad);
        new_small = λ k e. new_small k (same_Err _ _ e);
        large = λ k small. ⊎_elim (λ e. inl (ap Err e)) (⊎_elim (λ e. inr (inl (ap Err e))) (⊎_elim (λ e. inr (inr (inl (ap Err e)))) (λ e. inr (inr (inr (ap Err e)))))) (large k small);
        formatted = λ k e. formatted k (same_Err _ _ e);
        not_formatted = λ k mark. (refl, marked k mark);
        unwritten = λ k. ⊎_elim (λ e. unwritten k (inl (same_Err _ _ e)))
            (⊎_elim (λ e. unwritten k (inr (inl (same_Err _ _ e)))) (⊎_elim (λ e. unwritten k (inr (inr (inl (same_Err _ _ e))))) (λ e. unwritten k (inr (inr (inr (same_Err _ _ e)))))));
        causes = causes;
      })

-- Under a store that was found on a later state of the device:
module _ {D : Type 0} (g : Ghosts D) (store : OldStore) (old found : D) (run : RunsOnDevice g Nothing old found) (ready : IsReadable g store found) where
  same_image : g.keeps_model found → g.content found ≡ g.content old
  same_image k = content_is g old found (run.touches k)

  -- what it says is what the image said,
  pub file_was : g.keeps_model found → (f : ℕ) → files_of store f ≡ file_info (g.content old) f
  file_was k f = file_is g store found ready k f ∙ ap (λ (image : Image). file_info image f) (same_image k)

  pub are_files : g.keeps_model found → AreFiles (file_info (g.content old)) (standing_page (g.content old))
  are_files k = record {
    bounded = λ f info is. bounded_is g store found ready k f info (ap (λ (image : Image). file_info image f) (same_image k) ∙ is);
    cut = page_is_cut (g.content old);
  }

  -- and its files are asked for after what is looked at.
  pub files_asked : (new : D) → g.keeps_model found → LooksAtKind g (IsOldHead (version_in (g.content old)) (g.content old)) old found → NamesOnce (IsOldPage (g.content found)) (g.asked found) (g.asked new)
      → LooksAtKind g (IsVersionAsked (version_in (g.content old)) (g.content old)) old new
  files_asked new k looks pages =
      let image = g.content old in let version = version_in (g.content old) in
      record {
        looked = looks.looked;
        kind = looks.kind;
        rest = once_apart (IsOldHead version image) (IsOldPage image) (IsVersionAsked version image) looks.looked (g.asked found) (g.asked new) (λ s at. inl at) (λ s at. inr at) (head_apart version image)
            looks.rest (subst (λ (i : Image). NamesOnce (IsOldPage i) (g.asked found) (g.asked new)) (same_image k) pages);
      }

pub head_asked : {D : Type 0} (g : Ghosts D) (image : Image) (old new : D) → LooksAtKind g (IsOldHead (version_in image) image) old new → LooksAtKind g (IsVersionAsked (version_in image) image) old new
head_asked g image old new looks = record {
  looked = looks.looked;
  kind = looks.kind;
  rest = once_wider (IsOldHead (version_in image) image) (IsVersionAsked (version_in image) image) looks.looked (g.asked new) (λ s at. inl at) looks.rest;
}

-- what is written of the files that it lists is written of those of the image
pub last_of : {E T U : Type 0} (h : Ghosts E) (b m : ℕ) (listed files : ℕ → Option FileInfo) (was image : Image) (mid made : E) (r : Result T U) → b ≡ m → listed ≡ files → was ≡ image
    → WritesKindLast h b (IsInnerUpgrade b listed (standing_page was)) mid made r → WritesKindLast h m (IsInnerUpgrade m files (standing_page image)) mid made r
last_of h b m listed files was image mid made r blocks same content last =
    subst (λ (i : Image). WritesKindLast h m (IsInnerUpgrade m files (standing_page i)) mid made r) content
    (subst (λ (f : ℕ → Option FileInfo). WritesKindLast h m (IsInnerUpgrade m f (standing_page was)) mid made r) same
    (subst (λ x. WritesKindLast h x (IsInnerUpgrade x listed (standing_page was)) mid made r) blocks last))

pub sector_of : (b m : ℕ) (listed : ℕ → Option FileInfo) (image : Image) → b ≡ m → listed ≡ file_info image → (s : ℕ) → IsUnmarkedPoolSector b (pages_before listed 64) s → IsUpgradeSector m image s
sector_of b m listed image blocks same s at =
    inr (subst (λ p. IsUnmarkedPoolSector m p s) (ap (λ f. pages_before f 64) same) (subst (λ x. IsUnmarkedPoolSector x (pages_before listed 64) s) blocks at))

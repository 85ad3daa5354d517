-- How pages go on being copied, and how it ends.
use Rattle.file_store.proofs.{Causes.{is_this, same_Err}, Looking.{ok_is_no_err}, Names.{◌≡◌, ◌+◌, ◌<◌, ◌≤◌, ℕ, length, Option, None, Some, Result, Ok, Err, ⊎_elim, inl, inr, refl, sym, ap, subst, ◌∙◌, arith, IsErrAnd, Image, Names, NamesOnce, Nothing, Ghosts}}
use Rattle.file_store.proofs.Names.{once_named, once_apart, once_wider, home_count, home_rank, IsPageSector, old_home_count, old_homes, old_sizes, old_place, place_or_home_in, places_apart, place_behind, sizes_under, OldJournal, StandsAsFound, RunsOnDevice, One}
use Rattle.file_store.proofs.Openings.{content_is}
use Rattle.file_store.specs.{Directory.{home_end, IsSoundDirectory}, Faults.{old_fault}, Making.{Makes}, Opened.{LooksAt}, Store.{entry_of}, Upgrade.{IsOldStore, IsOldHead, IsOldFile, IsOldEntry, IsOldPage, IsOldAsked, HasUpgradeCauses, old_entry}, Upgraded.{IsCopiable, CopiesPages}}
use Rattle.file_store.specs.declared.{directory.Entry.{Entry}, faults.{OpenFault.{OpenFault, TheVariants.{Device as OpenDevice}}, UpgradeFault.{UpgradeFault, TheVariants.{OldDevice, NewDevice}}}, old_store.OldStore.{OldStore}}

old_no_new : ◌≡◌ {A = UpgradeFault} OldDevice NewDevice → ⊥
old_no_new e = cc

new_no_old : ◌≡◌ {A = UpgradeFault} NewDevice OldDevice → ⊥
new_no_old e = cc

-- a fault after a calm part
pub causes_after : {T U : Type 0} (fault : UpgradeFault) (a b c x y z : ℕ) → b ≡ a → y ≡ x → HasUpgradeCauses {T = T} b c y z (Err fault) → HasUpgradeCauses {T = U} a c x z (Err fault)
causes_after fault a b c x y z calm still causes = record {
  old_later = let later = causes.old_later in omega (arith, later, calm);
  new_later = let later = causes.new_later in omega (arith, later, still);
  old_device = λ e. let more = causes.old_device (ap Err (same_Err _ _ e)) in omega (arith, more, calm);
  new_device = λ e. let more = causes.new_device (ap Err (same_Err _ _ e)) in omega (arith, more, still);
  old_still = λ other. causes.old_still (λ e. other (ap Err (same_Err _ _ e))) ∙ calm;
  new_still = λ other. causes.new_still (λ e. other (ap Err (same_Err _ _ e))) ∙ still;
}

-- none, that of the new device after a calm part, and those of the old store, before the new device is asked for anything
pub causes_none : {T : Type 0} (x : T) (a b c d : ℕ) → b ≡ a → d ≡ c → HasUpgradeCauses a b c d (Ok x)
causes_none x a b c d calm still = record {
  old_later = omega (arith, calm);
  new_later = omega (arith, still);
  old_device = λ e. absurd (ok_is_no_err x _ e);
  new_device = λ e. absurd (ok_is_no_err x _ e);
  old_still = λ _. calm;
  new_still = λ _. still;
}

pub causes_marking : {T : Type 0} (a b c d e : ℕ) → b ≡ a → d ≡ c → d < e → HasUpgradeCauses {T = T} a b c e (Err NewDevice)
causes_marking a b c d e calm still failed = record {
  old_later = omega (arith, calm);
  new_later = omega (arith, still, failed);
  old_device = λ is. absurd (new_no_old (same_Err _ _ is));
  new_device = λ _. omega (arith, still, failed);
  old_still = λ _. calm;
  new_still = λ other. absurd (other refl);
}

pub old_is_no_new : (f : OpenFault) → old_fault f ≡ NewDevice → ⊥
old_is_no_new OpenDevice e = cc
old_is_no_new f e = cc

pub old_device_from : (f : OpenFault) → old_fault f ≡ OldDevice → f ≡ OpenDevice
old_device_from OpenDevice e = refl
old_device_from f e = cc

pub causes_before : {D T U : Type 0} {g : Ghosts D} (fault : OpenFault) (old new : D) (x : ℕ) → LooksAt g {T = T} old new (Err fault) → g.failures old ≤ g.failures new
    → HasUpgradeCauses {T = U} (g.failures old) (g.failures new) x x (Err (old_fault fault))
causes_before fault old new x looks later = record {
  old_later = later;
  new_later = omega arith;
  old_device = λ e. looks.device (ap Err (old_device_from fault (same_Err _ _ e)));
  new_device = λ e. absurd (old_is_no_new fault (same_Err _ _ e));
  old_still = λ other. looks.still (λ e. other (ap Err (ap old_fault (same_Err _ _ e))));
  new_still = λ _. refl;
}

-- the head of a store of layout 1 lies before all pages
head_low : (image : Image) (k : ℕ) → IsOldHead One image k → k < 4
head_low image k = ⊎_elim (⊎_elim (λ low. omega (arith, low)) (λ at. omega (arith, at))) (⊎_elim (λ gate. omega (arith, gate)) (λ map. omega (arith, map.1.1)))

module _ (image : Image) (journal : OldJournal) (is : journal.version ≡ One) (stands : StandsAsFound journal image) where
  -- where a page stands, in the words of the journal's list of homes
  listed : (h k : ℕ) → IsPageSector (old_place One image h) k → IsPageSector (place_or_home_in (old_sizes journal) h (home_rank (old_homes journal) h)) k
  listed h k at = subst (λ first. IsPageSector first k) (stands.at h) (subst (λ v. IsPageSector (old_place v image h) k) (sym is) at)

  file_behind : (o : Option Entry) (k : ℕ) → IsOldEntry One image o k → 4 ≤ k
  file_behind None k none = absurd none
  file_behind (Some e) k at =
      let from = place_behind journal.version journal.is_open (e.first + at.0) k (home_rank (old_homes journal) (e.first + at.0)) (listed (e.first + at.0) k at.2) in
      subst (λ v. (sizes_under v journal.is_open).body ≤ k) is from

  -- two pages have no sector in common
  pages_apart : length (old_homes journal) ≤ (old_sizes journal).most → (a b k : ℕ) → IsPageSector (old_place One image a) k → IsPageSector (old_place One image b) k → a ≡ b
  pages_apart few a b k at_a at_b = places_apart journal.version journal.is_open (old_homes journal) few a b k (listed a k at_a) (listed b k at_b)

-- the head of the old store is asked for, and then its files
pub copied_old_once : {D : Type 0} (g : Ghosts D) (journal : OldJournal) (old read new : D) → journal.version ≡ One → g.content read ≡ g.content old → StandsAsFound journal (g.content old)
    → NamesOnce (IsOldHead One (g.content old)) (g.asked old) (g.asked read) → NamesOnce (IsOldFile One (g.content read)) (g.asked read) (g.asked new)
    → NamesOnce (IsOldAsked One (g.content old)) (g.asked old) (g.asked new)
copied_old_once g journal old read new is same stands head files =
    let image = g.content old in
    once_apart (IsOldHead One image) (IsOldFile One image) (IsOldAsked One image) (g.asked old) (g.asked read) (g.asked new) (λ k at. inl at) (λ k at. inr at)
    (λ k first second. let low = head_low image k first in let behind = file_behind image journal is stands (old_entry One image second.0) k second.1 in omega (arith, low, behind))
    head (subst (λ (i : Image). NamesOnce (IsOldFile One i) (g.asked read) (g.asked new)) same files)

-- a file's pages, and one more where it stands
pub page_once : {D : Type 0} (g : Ghosts D) (journal : OldJournal) (e : Entry) (k more : ℕ) (old mid new : D) → k < more → journal.version ≡ One → g.content mid ≡ g.content old
    → StandsAsFound journal (g.content old) → length (old_homes journal) ≤ (old_sizes journal).most → NamesOnce (IsOldPage One (g.content old) e k) (g.asked old) (g.asked mid)
    → Names (IsPageSector (old_place journal.version (g.content mid) (e.first + k))) (g.asked mid) (g.asked new) → NamesOnce (IsOldPage One (g.content old) e more) (g.asked old) (g.asked new)
page_once g journal e k more old mid new less is same stands few so_far page =
    let image = g.content old in
    let V : ℕ → Type 0 = IsPageSector (old_place One image (e.first + k)) in
    once_apart (IsOldPage One image e k) V (IsOldPage One image e more) (g.asked old) (g.asked mid) (g.asked new)
    (λ s at. (at.0, omega (arith, at.1, less), at.2)) (λ s at. (k, less, at))
    (λ s before now. let one = pages_apart image journal is stands few (e.first + before.0) (e.first + k) s before.2 now in omega (arith, one, before.1))
    so_far
    (once_named V (IsPageSector (old_place journal.version (g.content mid) (e.first + k))) (g.asked mid) (g.asked new) (λ s at.
    subst (λ (held : Image). IsPageSector (old_place One held (e.first + k)) s) same (subst (λ v. IsPageSector (old_place v (g.content mid) (e.first + k)) s) is at)) page)

-- a sector in which a page of one of the first n files stands
abbrev pub IsOldFirst : Image → ℕ → ℕ → Type 0
IsOldFirst image n k = (f : ℕ) × (f < n) × IsOldEntry One image (old_entry One image f) k

-- two files have no sector in common
module _ (image : Image) (store : OldStore) (n : ℕ) (is : store.journal.version ≡ One) (known : IsOldStore One image store) (few : length (old_homes store.journal) ≤ (old_sizes store.journal).most)
    (sound : IsSoundDirectory n (entry_of store.directory)) (f h s : ℕ) (less : f < h) where
  files_apart : (o p : Option Entry) → old_entry One image f ≡ o → old_entry One image h ≡ p → IsOldEntry One image o s → IsOldEntry One image p s → ⊥
  files_apart None p is_a is_b at_a at_b = at_a
  files_apart (Some a) None is_a is_b at_a at_b = at_b
  files_apart (Some a) (Some b) is_a is_b at_a at_b =
      let one : a.first + at_a.0 ≡ b.first + at_b.0 = pages_apart image store.journal is known.stands few (a.first + at_a.0) (b.first + at_b.0) s at_a.2 at_b.2 in
      sound.apart f h (a.first + at_a.0) a b less (known.entries f ∙ is_a) (known.entries h ∙ is_b) (omega arith, omega (arith, at_a.1)) (omega (arith, one), omega (arith, one, at_b.1))

-- some files, and one more
pub file_once : {D : Type 0} (g : Ghosts D) (store : OldStore) (n f : ℕ) (old mid new : D) → store.journal.version ≡ One → g.content mid ≡ g.content old → IsOldStore One (g.content old) store
    → length (old_homes store.journal) ≤ (old_sizes store.journal).most → IsSoundDirectory n (entry_of store.directory) → NamesOnce (IsOldFirst (g.content old) f) (g.asked old) (g.asked mid)
    → NamesOnce (IsOldEntry One (g.content mid) (entry_of store.directory f)) (g.asked mid) (g.asked new) → NamesOnce (IsOldFirst (g.content old) (f + 1)) (g.asked old) (g.asked new)
file_once g store n f old mid new is same known few sound so_far entry =
    let image = g.content old in
    let V : ℕ → Type 0 = IsOldEntry One image (old_entry One image f) in
    once_apart (IsOldFirst image f) V (IsOldFirst image (f + 1)) (g.asked old) (g.asked mid) (g.asked new)
    (λ s at. (at.0, omega (arith, at.1), at.2)) (λ s at. (f, omega arith, at))
    (λ s before now. files_apart image store n is known few sound before.0 f s before.1 (old_entry One image before.0) (old_entry One image f) refl refl before.2 now)
    so_far
    (once_wider (IsOldEntry One (g.content mid) (entry_of store.directory f)) V (g.asked mid) (g.asked new) (λ s at.
    subst (λ (o : Option Entry). IsOldEntry One image o s) (known.entries f) (subst (λ (i : Image). IsOldEntry One i (entry_of store.directory f) s) same at)) entry)

module _ {D E : Type 0} (g : Ghosts D) (h : Ghosts E) where
  -- what was known of the store is known of it still where it is only read
  pub copiable_still : (store : OldStore) (old old' : D) (n m : ℕ) → m ≡ n → RunsOnDevice g Nothing old old' → IsCopiable g store old n → IsCopiable g store old' m
  copiable_still store old old' n m same run copied = record {
    version = copied.version;
    sound = subst (λ (s : ℕ). IsSoundDirectory (old_home_count One s) (entry_of store.directory)) (sym run.size) copied.sound;
    few = copied.few;
    found = λ k. subst (λ (image : Image). IsOldStore One image store) (sym (content_is g old old' (run.touches k))) (copied.found (run.kept k));
    fits = λ f e is. subst (λ s. home_end e ≤ home_count s) (sym same) (copied.fits f e is);
  }

  module _ {T : Type 0} (R W : ℕ → Type 0) (old old' : D) (new new' : E) (old_run : RunsOnDevice g Nothing old old') (once_old : g.keeps_model old' → NamesOnce R (g.asked old) (g.asked old')) (run : Makes h W new new') where
    -- all are copied
    pub copies_done : (x : T) → g.failures old' ≡ g.failures old → h.failures new' ≡ h.failures new → CopiesPages g h R W old old' new new' (Ok x)
    copies_done x calm still = record {
      old_run = old_run;
      once_old = once_old;
      run = run;
      causes = record {
        old_later = omega (arith, calm);
        new_later = omega (arith, still);
        old_device = λ e. absurd (ok_is_no_err x _ e);
        new_device = λ e. absurd (ok_is_no_err x _ e);
        old_still = λ _. calm;
        new_still = λ _. still;
      };
      others = tt;
    }

    -- a part was refused
    pub copies_error : {U : Type 0} (V X : ℕ → Type 0) (fault : UpgradeFault) (r : Result T UpgradeFault) (mid : D) (made : E) → IsErrAnd r (λ f. f ≡ fault)
        → g.failures mid ≡ g.failures old → h.failures made ≡ h.failures new → CopiesPages g {T = U} h V X mid old' made new' (Err fault) → CopiesPages g h R W old old' new new' r
    copies_error V X fault r mid made is calm still copies = subst (λ r. CopiesPages g h R W old old' new new' r) (sym (is_this r fault is)) (record {
      old_run = old_run;
      once_old = once_old;
      run = run;
      causes = causes_after fault _ _ _ _ _ _ calm still copies.causes;
      others = ⊎_elim (λ e. inl (ap Err (same_Err _ _ e))) (λ e. inr (ap Err (same_Err _ _ e))) copies.others;
    })

    -- the one device failed, or the other
    pub copies_unread : (fault : UpgradeFault) (r : Result T UpgradeFault) → IsErrAnd r (λ f. f ≡ fault) → fault ≡ OldDevice → g.failures old < g.failures old' → h.failures new' ≡ h.failures new
        → CopiesPages g h R W old old' new new' r
    copies_unread fault r is device failed still = subst (λ r. CopiesPages g h R W old old' new new' r) (sym (is_this r fault is ∙ ap Err device)) (record {
      old_run = old_run;
      once_old = once_old;
      run = run;
      causes = record {
        old_later = omega (arith, failed);
        new_later = omega (arith, still);
        old_device = λ _. failed;
        new_device = λ e. absurd (old_no_new (same_Err _ _ e));
        old_still = λ other. absurd (other refl);
        new_still = λ _. still;
      };
      others = inl refl;
    })

    pub copies_unwritten : (r : Result T UpgradeFault) → IsErrAnd r (λ f. f ≡ NewDevice) → g.failures old' ≡ g.failures old → h.failures new < h.failures new' → CopiesPages g h R W old old' new new' r
    copies_unwritten r is calm failed = subst (λ r. CopiesPages g h R W old old' new new' r) (sym (is_this r NewDevice is)) (record {
      old_run = old_run;
      once_old = once_old;
      run = run;
      causes = record {
        old_later = omega (arith, calm);
        new_later = omega (arith, failed);
        old_device = λ e. absurd (new_no_old (same_Err _ _ e));
        new_device = λ _. failed;
        old_still = λ _. calm;
        new_still = λ other. absurd (other refl);
      };
      others = inr refl;
    })

-- The old store: what it says, and where its pages stand.
use Rattle.upgrades.proofs.Names.{◌≡◌, ◌⊎◌, ◌≤◌, ◌<◌, ◌+◌, ◌^◌, ◌∙◌, ℕ, Bool, true, false, List, length, Option, Some, None, ⊎_elim, inl, inr, refl, sym, ap, subst, arith, option_map, joined, Ghosts, Image, Names, NamesOnce, Nothing, RunsOnDevice, once_apart, once_named, once_wider, stays, IsPageSector}
use Rattle.vm_types.specs.declared.file.FileInfo.{FileInfo}
use Rattle.sync_journal.proofs.OldJournals.{place_behind, places_apart}
use Rattle.sync_journal.specs.{Layout.{IsMapIn}, Map.{home_in, map_count, place_among}, OldJournal.{StandsAsFound, old_homes, old_sizes}, OldLayouts.{holds_in, is_old_open, old_gate, old_home_count, old_place, old_standing, sizes_in, sizes_under}, Standing.{map_in, standing_under}}
use Rattle.sync_journal.specs.declared.{old_journal.OldJournal.{OldJournal}, version.Version.{Version, TheVariants.{One, Two, Three}}}
use Rattle.file_store.proofs.{Homes.{entry_behind}, Openings.{content_is}, Pieces.{trimmed-trimmed}}
use Rattle.file_store.specs.{Directory.{IsSoundDirectory}, Layout.{bytes_inside, padded_page}, Standing.{IsHeadIn, listed_entry, page_standing_in}, Store.{entry_of}, Upgrade.{IsOldEntry, IsOldFile, IsOldHead, IsOldPage as IsPageOfEntry, IsOldStore, old_entry}}
use Rattle.file_store.specs.declared.{directory.Entry.{Entry}, old_store.OldStore.{OldStore}}
use Rattle.upgrades.specs.{NewPool.{HaveShortLengths, files_in}, Old.{IsOldPage, IsReadable, file_info, files_of, standing_page, version_in}}

-- files of a store have lengths of four bytes,
short_file : (store : OldStore) (f : ℕ) (info : FileInfo) → files_of store f ≡ Some info → info.length < 2 ^ 32
short_file store f info is =
    let b = entry_behind (entry_of store.directory f) info is in let size = ap (λ (i : FileInfo). i.length) b.2 in let short = store.directory.lengths f b.0 b.1 in
    omega (arith, size, short)

-- and so have those of a list of them
pub short_listed : (store : OldStore) (list : List (Option FileInfo)) → ((f : ℕ) → files_in list f ≡ files_of store f) → HaveShortLengths list
short_listed store list are f info is = short_file store f info (sym (are f) ∙ is)

-- no two homes stand in one sector
homes_apart : (journal : OldJournal) (image : Image) → length (old_homes journal) ≤ (old_sizes journal).most → StandsAsFound journal image → (a b k : ℕ)
    → IsPageSector (old_place journal.version image a) k → IsPageSector (old_place journal.version image b) k → a ≡ b
homes_apart journal image few stands a b k at_a at_b =
    places_apart journal.version journal.is_open (old_homes journal) few a b k (subst (λ first. IsPageSector first k) (stands.at a) at_a) (subst (λ first. IsPageSector first k) (stands.at b) at_b)

-- a sector in which a page of one of the first n files stands
abbrev pub IsOldFirst : Version → Image → ℕ → ℕ → Type 0
IsOldFirst version image n k = (f : ℕ) × (f < n) × IsOldEntry version image (old_entry version image f) k

module _ (store : OldStore) (image : Image) (few : length (old_homes store.journal) ≤ (old_sizes store.journal).most) (known : IsOldStore store.journal.version image store) where
  -- some pages of a file, and then one more
  pub page_once : (e : Entry) (k more : ℕ) (before mid now : ℕ → ℕ) → k < more → NamesOnce (IsPageOfEntry store.journal.version image e k) before mid
      → Names (IsPageSector (old_place store.journal.version image (e.first + k))) mid now → NamesOnce (IsPageOfEntry store.journal.version image e more) before now
  page_once e k more before mid now less so_far page =
      let V : ℕ → Type 0 = IsPageSector (old_place store.journal.version image (e.first + k)) in
      once_apart (IsPageOfEntry store.journal.version image e k) V (IsPageOfEntry store.journal.version image e more) before mid now
      (λ s at. (at.0, omega (arith, at.1, less), at.2)) (λ s at. (k, less, at))
      (λ s one two. let same = homes_apart store.journal image few known.stands (e.first + one.0) (e.first + k) s one.2 two in omega (arith, same, one.1))
      so_far (once_named V V mid now (λ s at. at) page)

  module _ (homes : ℕ) (sound : IsSoundDirectory homes (entry_of store.directory)) where
    -- two files have no sector in common
    files_apart : (f h s : ℕ) → f < h → (o p : Option Entry) → old_entry store.journal.version image f ≡ o → old_entry store.journal.version image h ≡ p
        → IsOldEntry store.journal.version image o s → IsOldEntry store.journal.version image p s → ⊥
    files_apart f h s less None p is_a is_b at_a at_b = at_a
    files_apart f h s less (Some a) None is_a is_b at_a at_b = at_b
    files_apart f h s less (Some a) (Some b) is_a is_b at_a at_b =
        let one : a.first + at_a.0 ≡ b.first + at_b.0 = homes_apart store.journal image few known.stands (a.first + at_a.0) (b.first + at_b.0) s at_a.2 at_b.2 in
        sound.apart f h (a.first + at_a.0) a b less (known.entries f ∙ is_a) (known.entries h ∙ is_b) (omega arith, omega (arith, at_a.1)) (omega (arith, one), omega (arith, one, at_b.1))

    -- some files, and then one more
    pub file_once : (f : ℕ) (before mid now : ℕ → ℕ) → NamesOnce (IsOldFirst store.journal.version image f) before mid
        → NamesOnce (IsOldEntry store.journal.version image (entry_of store.directory f)) mid now → NamesOnce (IsOldFirst store.journal.version image (f + 1)) before now
    file_once f before mid now so_far file =
        let version = store.journal.version in
        let V : ℕ → Type 0 = IsOldEntry version image (old_entry version image f) in
        once_apart (IsOldFirst version image f) V (IsOldFirst version image (f + 1)) before mid now
        (λ s at. (at.0, omega (arith, at.1), at.2)) (λ s at. (f, omega arith, at))
        (λ s one two. files_apart one.0 f s one.1 (old_entry version image one.0) (old_entry version image f) refl refl one.2 two)
        so_far (once_wider (IsOldEntry version image (entry_of store.directory f)) V mid now (λ s at. subst (λ (o : Option Entry). IsOldEntry version image o s) (known.entries f) at) file)

-- those are pages of the files
pub first_asked : (version : Version) (image : Image) → version_in image ≡ version → (n s : ℕ) → IsOldFirst version image n s → IsOldPage image s
first_asked version image is n s at = subst (λ v. IsOldFile v image s) (sym is) (at.0, at.2)

-- What is looked at first lies before the journal's body,
head_low : (version : Version) (gate : Bool) (k : ℕ) → IsHeadIn version k ⊎ ((k ≡ old_gate version) ⊎ IsMapIn (sizes_under version gate) k) → k < (sizes_under version gate).body
head_low One gate k = ⊎_elim (⊎_elim (λ low. omega (arith, low)) (λ at. omega (arith, at))) (⊎_elim (λ at. omega (arith, at)) (λ map. omega (arith, map.1)))
head_low Two gate k = ⊎_elim (⊎_elim (λ low. omega (arith, low)) (λ at. omega (arith, at))) (⊎_elim (λ at. omega (arith, at)) (λ map. omega (arith, map.1)))
head_low Three false k = ⊎_elim (⊎_elim (λ low. omega (arith, low)) (λ at. omega (arith, at))) (⊎_elim (λ at. omega (arith, at)) (λ map. omega (arith, map.1)))
head_low Three true k = ⊎_elim (⊎_elim (λ low. omega (arith, low)) (λ at. omega (arith, at))) (⊎_elim (λ at. omega (arith, at)) (λ map. omega (arith, map.1)))

-- and no page stands there.
page_high : (version : Version) (image : Image) (h k : ℕ) → IsPageSector (old_place version image h) k → (sizes_in version image).body ≤ k
unfolding standing_under
page_high version image h k at = here (holds_in version image) at
  where
    map : List ℕ
    map = map_in (sizes_in version image) image

    here : (b : Bool) → IsPageSector (standing_under (sizes_in version image) b map h) k → (sizes_in version image).body ≤ k
    here true at = place_behind version (is_old_open version image) h k (place_among (home_in map) h (map_count map)) at
    here false at = place_behind version (is_old_open version image) h k None at

entry_high : (version : Version) (image : Image) (o : Option Entry) (k : ℕ) → IsOldEntry version image o k → (sizes_in version image).body ≤ k
entry_high version image None k none = absurd none
entry_high version image (Some e) k at = page_high version image (e.first + at.0) k at.2

pub head_apart : (version : Version) (image : Image) (k : ℕ) → IsOldHead version image k → IsOldFile version image k → ⊥
head_apart version image k head file =
    let low = head_low version (is_old_open version image) k (⊎_elim (λ at. inl at) (⊎_elim (λ gate. inr (inl gate)) (λ map. inr (inr map.1))) head) in
    let high = entry_high version image (old_entry version image file.0) k file.1 in
    omega (arith, low, high)

module _ {D : Type 0} (g : Ghosts D) where
  -- nothing was asked for
  pub not_run : (d : D) → RunsOnDevice g Nothing d d
  not_run d = record { size = refl; kept = λ k. k; later = omega arith; touches = λ k. stays g Nothing d }

  module _ (store : OldStore) where
    -- a store that may be read may be read still
    pub still_readable : (old new : D) → RunsOnDevice g Nothing old new → IsReadable g store old → IsReadable g store new
    still_readable old new run ready = record {
      sound = subst (λ m. IsSoundDirectory (old_home_count store.journal.version m) (entry_of store.directory)) (sym run.size) ready.sound;
      few = ready.few;
      version = λ k. ap (λ (i : Image). version_in i) (content_is g old new (run.touches k)) ∙ ready.version (run.kept k);
      found = λ k. subst (λ (i : Image). IsOldStore store.journal.version i store) (sym (content_is g old new (run.touches k))) (ready.found (run.kept k));
    }

    -- a file's first pages were read, and then one more
    pub read_once : (old mid new : D) → IsReadable g store old → RunsOnDevice g Nothing old mid → (g.keeps_model new → g.keeps_model mid) → (e : Entry) (k more : ℕ) → k < more
        → (g.keeps_model mid → NamesOnce (IsPageOfEntry store.journal.version (g.content old) e k) (g.asked old) (g.asked mid))
        → (g.keeps_model new → Names (IsPageSector (old_place store.journal.version (g.content mid) (e.first + k))) (g.asked mid) (g.asked new))
        → g.keeps_model new → NamesOnce (IsPageOfEntry store.journal.version (g.content old) e more) (g.asked old) (g.asked new)
    read_once old mid new ready run kept e k more less so_far page keeps =
        let was = kept keeps in
        page_once store (g.content old) ready.few (ready.found (run.kept was)) e k more (g.asked old) (g.asked mid) (g.asked new) less (so_far was)
        (subst (λ (i : Image). Names (IsPageSector (old_place store.journal.version i (e.first + k))) (g.asked mid) (g.asked new)) (content_is g old mid (run.touches was)) (page keeps))

    -- the first files were read, and then one more
    pub copied_once : (old mid new : D) → IsReadable g store old → RunsOnDevice g Nothing old mid → (g.keeps_model new → g.keeps_model mid) → (f : ℕ)
        → (g.keeps_model mid → NamesOnce (IsOldFirst store.journal.version (g.content old) f) (g.asked old) (g.asked mid))
        → (g.keeps_model new → NamesOnce (IsOldEntry store.journal.version (g.content mid) (entry_of store.directory f)) (g.asked mid) (g.asked new))
        → g.keeps_model new → NamesOnce (IsOldFirst store.journal.version (g.content old) (f + 1)) (g.asked old) (g.asked new)
    copied_once old mid new ready run kept f so_far file keeps =
        let was = kept keeps in
        file_once store (g.content old) ready.few (ready.found (run.kept was)) (old_home_count store.journal.version (g.sector_count old)) ready.sound f (g.asked old) (g.asked mid) (g.asked new) (so_far was)
        (subst (λ (i : Image). NamesOnce (IsOldEntry store.journal.version i (entry_of store.directory f)) (g.asked mid) (g.asked new)) (content_is g old mid (run.touches was)) (file keeps))

    -- what was read of the first files is theirs
    pub first_once : (old new : D) → IsReadable g store old → RunsOnDevice g Nothing old new → (n : ℕ)
        → (g.keeps_model new → NamesOnce (IsOldFirst store.journal.version (g.content old) n) (g.asked old) (g.asked new))
        → g.keeps_model new → NamesOnce (IsOldPage (g.content old)) (g.asked old) (g.asked new)
    first_once old new ready run n once keeps =
        once_wider (IsOldFirst store.journal.version (g.content old) n) (IsOldPage (g.content old)) (g.asked old) (g.asked new)
        (first_asked store.journal.version (g.content old) (ready.version (run.kept keeps)) n) (once keeps)

    module _ (disk : D) (ready : IsReadable g store disk) (keeps : g.keeps_model disk) where
      -- a page in the words of its file's entry
      pub page_is : (f k : ℕ) (o : Option Entry) → entry_of store.directory f ≡ o
          → page_standing_in (old_standing store.journal.version (g.content disk)) k o ≡ standing_page (g.content disk) f k
      page_is f k o is =
          ap (page_standing_in (old_standing store.journal.version (g.content disk)) k) (sym is ∙ (ready.found keeps).entries f)
          ∙ ap (λ v. page_standing_in (old_standing v (g.content disk)) k (listed_entry v (g.content disk) f)) (sym (ready.version keeps))

      -- what the store says is what the image says
      pub file_is : (f : ℕ) → files_of store f ≡ file_info (g.content disk) f
      file_is f = ap (option_map (λ e. e.info)) ((ready.found keeps).entries f ∙ ap (λ v. listed_entry v (g.content disk) f) (sym (ready.version keeps)))

      -- the files' numbers and lengths are in their bounds
      pub bounded_is : (f : ℕ) (info : FileInfo) → file_info (g.content disk) f ≡ Some info → (f < 64) × (info.length < 2 ^ 32)
      bounded_is f info is =
          let b = entry_behind (entry_of store.directory f) info (file_is f ∙ is) in (store.directory.numbers f b.0 b.1, short_file store f info (file_is f ∙ is))

-- a page as it stands has zeros past its file's end
pub page_is_cut : (image : Image) (f k : ℕ) (info : FileInfo) → file_info image f ≡ Some info → padded_page (bytes_inside info.length k) (standing_page image f k) ≡ standing_page image f k
page_is_cut image f k info is =
    let stands = old_standing (version_in image) image in
    let b = entry_behind (listed_entry (version_in image) image f) info is in
    let inside = bytes_inside info.length k in let small : bytes_inside info.length k ≤ 4096 = omega arith in
    let was = joined (stands (b.0.first + k)) 8 in
    let page : standing_page image f k ≡ padded_page inside was = ap (page_standing_in stands k) b.1 ∙ ap (λ (i : FileInfo). padded_page (bytes_inside i.length k) was) b.2 in
    ap (padded_page inside) page ∙ trimmed-trimmed inside was small ∙ sym page

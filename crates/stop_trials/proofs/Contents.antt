-- The lengths and bytes of all files, as an image stands for them and as an open store gives them.
use Rattle.{std.{proofs.Common.{◌≡◌, ◌<◌, ◌*◌, ◌++◌, ℕ, List, [], take, Option, Some, None, refl, sym, ap, ◌∙◌, arith}, specs.{Int.{to_le_bytes, w64}, Option.{option_map, unwrap_or}}}, vm_types.specs.declared.file.FileInfo.{FileInfo}}
use Rattle.{disk_model.{proofs.Pieces.{joined-same}, specs.{Sectors.{joined}, Stop.{Image}, declared.sector_disk.SectorDisk.{Ghosts}}}, file_store.specs.{Layout.{pages_of_length}, Standing.{IsPageOf}}}
use Rattle.{file_store.specs.Standing.{bytes_of_pages}, stores.proofs.Said.{files_said, stands_for_own}}
use Rattle.stores.specs.{Images.{IsBadLayout, IsBadJournal, StandsAs, file_info, standing_file, standing_page}, Store.{IsReadyStore, disk_of, files_of}, declared.store.Store.{Store}}
use Rattle.stop_trials.specs.Standing.{length_bytes, standing_bytes, standing_contents}

-- the length and the bytes of a file of these pages, none where there is none
of_file : (ℕ → List ℕ) → Option FileInfo → List ℕ
of_file pages info = length_bytes info ++ unwrap_or (option_map (bytes_of_pages pages) info) []

-- the same bytes for pages that are the same inside the file
same_pages : (info : Option FileInfo) (xs ys : ℕ → List ℕ) → ((k : ℕ) (i : FileInfo) → info ≡ Some i → 4096 * k < i.length → xs k ≡ ys k) → of_file xs info ≡ of_file ys info
unfolding of_file
same_pages None xs ys same = refl
same_pages (Some i) xs ys same = ap (λ (s : List ℕ). to_le_bytes w64 i.length ++ take i.length s) (joined-same (pages_of_length i.length) xs ys (λ k lt. same k i refl (inside i k lt)))
  where
    inside : (i : FileInfo) (k : ℕ) → k < pages_of_length i.length → 4096 * k < i.length
    inside i k lt = omega (arith, lt)

same_bytes : (sectors : ℕ) (old new : Image) (f : ℕ) → file_info sectors new f ≡ file_info sectors old f
    → ((k : ℕ) → IsPageOf (file_info sectors old) f k → standing_page sectors new f k ≡ standing_page sectors old f k) → standing_bytes sectors new f ≡ standing_bytes sectors old f
unfolding of_file
same_bytes sectors old new f facts pages =
    ap (of_file (standing_page sectors new f)) facts
    ∙ same_pages (file_info sectors old f) (standing_page sectors new f) (standing_page sectors old f) (λ k i is inside. pages k (i, is, inside))

-- an image that stands for what another one does has the same bytes in its files
pub same_contents : (sectors : ℕ) (old new : Image) → (IsBadLayout sectors old → ⊥) → (IsBadJournal sectors old → ⊥) → StandsAs sectors old new
    → standing_contents sectors new ≡ standing_contents sectors old
same_contents sectors old new layout journal stands =
    let now = stands (file_info sectors old) (standing_page sectors old) (stands_for_own sectors old layout journal) in
    joined-same 4096 (standing_bytes sectors new) (standing_bytes sectors old) (λ f lt. same_bytes sectors old new f (now.facts f) (now.same f))

module _ {D : Type 0} (g : Ghosts D) where
  -- what an open store says of a file is what its device stands for
  pub known_file : (store : Store D) (f : ℕ) (info : FileInfo) → IsReadyStore g store → g.keeps_model (disk_of store) → files_of store f ≡ Some info
      → standing_file (g.sector_count (disk_of store)) (g.content (disk_of store)) f ≡ Some (unwrap_or (standing_file (g.sector_count (disk_of store)) (g.content (disk_of store)) f) [])
  known_file store f info ready keeps file =
      let sectors = g.sector_count (disk_of store) in
      let image = g.content (disk_of store) in
      let facts : file_info sectors image f ≡ Some info = sym (files_said g store ready keeps f) ∙ file in
      let bytes : Option FileInfo → Option (List ℕ) = option_map (bytes_of_pages (standing_page sectors image f)) in
      ap bytes facts ∙ sym (ap (λ (i : Option FileInfo). Some (unwrap_or (bytes i) [])) facts)

  pub known_length : (store : Store D) (f : ℕ) (info : FileInfo) → IsReadyStore g store → g.keeps_model (disk_of store) → files_of store f ≡ Some info
      → length_bytes (file_info (g.sector_count (disk_of store)) (g.content (disk_of store)) f) ≡ to_le_bytes w64 info.length
  known_length store f info ready keeps file = ap length_bytes (sym (files_said g store ready keeps f) ∙ file)

  pub no_file : (store : Store D) (f : ℕ) → IsReadyStore g store → g.keeps_model (disk_of store) → files_of store f ≡ None
      → standing_bytes (g.sector_count (disk_of store)) (g.content (disk_of store)) f ≡ []
  no_file store f ready keeps none =
      let sectors = g.sector_count (disk_of store) in
      let image = g.content (disk_of store) in
      ap (λ (i : Option FileInfo). length_bytes i ++ unwrap_or (option_map (bytes_of_pages (standing_page sectors image f)) i) []) (sym (files_said g store ready keeps f) ∙ none)

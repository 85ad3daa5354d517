-- A page of a file as the image of its store has it: it has 4,096 bytes, with zeros past the end of the file.
use Rattle.machine.proofs.Names.{ℕ, ◌≡◌, ◌≤◌, ◌<◌, ◌*◌, ◌+◌, ◌∙◌, List, length, Option, Some, None, refl, sym, ap, subst, arith, Ghosts, standing_page}
use Rattle.std.{proofs.lemmas.Option.{none-some, same_Some}, specs.Option.{option_map}}
use Rattle.disk_model.specs.Sectors.{joined}
use Rattle.directories.specs.{Homes.{home_of_page}, declared.entry.Entry.{Entry as PoolEntry}}
use Rattle.file_store.{proofs.Pieces.{length-trimmed, trimmed-trimmed, trimmed_fill}, specs.{Layout.{padded_page}, Standing.{directory_entry, page_standing_in, standing}, declared.directory.Entry.{Entry}}}
use Rattle.pool_store.{proofs.{Entries.{entry_stood}, Homes.{entry_there, page_found}}, specs.{Files.{page_at, page_of}, Store.{layout_of}}}
use Rattle.stores.proofs.{KindOpens.{in_kind}, PoolOpens.{by_head}, Says.{head_of}}
use Rattle.stores.specs.{Images.{ImageSays}, Store.{disk_of, files_of, IsReadyStore}}
use Rattle.stores.specs.declared.store.{Store.{Store}, Store.TheVariants.{Journal, Pool}}
use Rattle.vm_types.specs.{Files.{bytes_inside, cut, inside_of}, declared.file.{FileInfo.{FileInfo}, FilePage.{FilePage}}}

-- the page has so many of these bytes, and then zeros
pub record IsPadded (inside : ℕ) (page : List ℕ) : Type 0 where
  pub bytes : List ℕ
  pub is : page ≡ padded_page inside bytes

in_file : (stands : ℕ → ℕ → List ℕ) (k : ℕ) (o : Option Entry) (info : FileInfo) → option_map (λ e. e.info) o ≡ Some info → IsPadded (bytes_inside info.length k) (page_standing_in stands k o)
in_file stands k None info is = absurd (none-some info is)
in_file stands k (Some e) info is = record {
  bytes = joined (stands (e.first + k)) 8;
  is = ap (λ (i : FileInfo). padded_page (bytes_inside i.length k) (joined (stands (e.first + k)) 8)) (same_Some e.info info is);
}

at_home : (stands : ℕ → ℕ → List ℕ) (inside : ℕ) (o : Option ℕ) (h : ℕ) → o ≡ Some h → IsPadded inside (page_at stands inside o)
at_home stands inside o h is = subst (λ (x : Option ℕ). IsPadded inside (page_at stands inside x)) (sym is) (record { bytes = joined (stands h) 8; is = refl })

in_pool : (stands : ℕ → ℕ → List ℕ) (k : ℕ) (o : Option PoolEntry) (e : PoolEntry) (h : ℕ) → o ≡ Some e → home_of_page e k ≡ Some h → IsPadded (bytes_inside e.length k) (page_of stands k o)
in_pool stands k o e h is home = subst (λ (x : Option PoolEntry). IsPadded (bytes_inside e.length k) (page_of stands k x)) (sym is) (at_home stands (bytes_inside e.length k) (home_of_page e k) h home)

-- A page that begins inside its file is so by the image of a ready store.
module _ {D : Type 0} (g : Ghosts D) where
  pub page_padded : (store : Store D) → IsReadyStore g store → g.keeps_model (disk_of store) → (f k : ℕ) (info : FileInfo) → files_of store f ≡ Some info → 4096 * k < info.length
      → IsPadded (bytes_inside info.length k) (standing_page (g.sector_count (disk_of store)) (g.content (disk_of store)) f k)
  page_padded (Journal store) ready keeps f k info is inside =
      let image = g.content store.disk in
      in_kind (λ (said : ImageSays). IsPadded (bytes_inside info.length k) (said.page f k)) (g.sector_count store.disk) image (ready.1 keeps)
      (in_file (standing image) k (directory_entry image f) info (ap (option_map (λ e. e.info)) (sym ((ready.0.at_rest keeps).directory f)) ∙ is))
  page_padded (Pool store) ready keeps f k info is inside =
      let m = store.journal.sizes.blocks in
      let d = store.directory.pages in
      let n = store.journal.sizes.homes in
      let image = g.content store.disk in
      let stands = (layout_of store).pages.standing image in
      let at = entry_there _ info is in
      let page : FilePage = record { file = f; page = k } in
      let home = page_found n store.directory page at.0 k (home_of_page at.0 k) ready.is_directory (info, is, inside) at.1 refl refl in
      by_head m d n (g.sector_count store.disk) ready.pool.homes image (head_of g store ready keeps) (λ (said : ImageSays). IsPadded (bytes_inside info.length k) (said.page f k))
      (subst (λ (i : FileInfo). IsPadded (bytes_inside i.length k) (page_of stands k ((layout_of store).entry image f))) at.2
      (in_pool stands k ((layout_of store).entry image f) at.0 home.0 (entry_stood d stands store.directory.entries.items ready.is_directory.size (ready.at_rest keeps).said f ∙ at.1) home.1))

-- no more than a whole page lies inside
few_inside : (o : Option FileInfo) (k : ℕ) → inside_of o k ≤ 4096
few_inside None k = omega arith
few_inside (Some info) k = omega arith

-- the pages of files, each with zeros past the end of its file
abbrev pub padded_pages : (ℕ → Option FileInfo) → (ℕ → ℕ → List ℕ) → ℕ → ℕ → List ℕ
padded_pages files pages f k = padded_page (inside_of (files f) k) (pages f k)

pub padded_whole : (files : ℕ → Option FileInfo) (pages : ℕ → ℕ → List ℕ) (f k : ℕ) → length (padded_pages files pages f k) ≡ 4096
padded_whole files pages f k = length-trimmed (inside_of (files f) k) (pages f k) (few_inside (files f) k)

-- one that has them already is as it was,
pub padded_still : (o : Option FileInfo) (k : ℕ) (page : List ℕ) → IsPadded (inside_of o k) page → page ≡ padded_page (inside_of o k) page
padded_still o k page padded = sym (ap (padded_page (inside_of o k)) padded.is ∙ trimmed-trimmed (inside_of o k) padded.bytes (few_inside o k) ∙ sym padded.is)

-- and to cut it there leaves it so
pub padded_cut : (o : Option FileInfo) (k : ℕ) (page : List ℕ) → padded_page (inside_of o k) page ≡ cut (inside_of o k) (padded_page (inside_of o k) page)
padded_cut o k page =
    let few = few_inside o k in
    sym (trimmed_fill (inside_of o k) (padded_page (inside_of o k) page) (length-trimmed (inside_of o k) page few) few ∙ trimmed-trimmed (inside_of o k) page few)

-- A file that gets another length.
use Rattle.std.proofs.Common.{ℕ, zero, suc, ◌≡◌, ◌<◌, ◌≤◌, min, ⊎_elim, true, List, [], ◌∷◌, length, set, get_or, slice_get, Option, Some, None, Vec, Global, refl, sym, ap, subst, ◌∙◌, arith}
use Rattle.std.proofs.lemmas.{Bool.{cases_eq, false≢true, true≢false}, List.{length-set}, Option.{none-some, same_Some, slice_get-get_or}}
use Rattle.std.specs.Prelude.{IsSome}
use Rattle.std.specs.Option.{option_map}
use Rattle.vm_types.specs.{Limits.{longest_file}, declared.file.FileInfo.{FileInfo}}
use Rattle.disk_model.specs.declared.sector_disk.SectorDisk.{Ghosts}
use Rattle.directories.specs.declared.entry.Entry.{Entry}
use Rattle.pool_store.specs.Files.{info_of}
use Rattle.stores.specs.Store.{StoreKept, directory_in}
use Rattle.stores.specs.Store as Durable
use Rattle.sized_stores.specs.Listing.{no_size}
use Rattle.sized_stores.specs.Resizing.{ResizesFile}
use Rattle.sized_stores.specs.Store.{can_resize, can_resize_in, durable_files_of, files_of, kept_of, shortest_of, with_length, HaveSizes, IsReadySized, IsSizeOf}
use Rattle.sized_stores.specs.declared.{sizes.Size.{Size}, store.SizedStore.{SizedStore}}
use Rattle.sized_stores.proofs.Rows.{get_other, get_set}

-- a file that is there has its place in a directory
entry_inside : (entries : List (Option Entry)) (f : ℕ) (info : FileInfo) → option_map info_of (get_or entries f None) ≡ Some info → f < length entries
entry_inside [] f info is = absurd (none-some info is)
entry_inside (e ∷ entries) zero info is = omega arith
entry_inside (e ∷ entries) (suc f) info is = (let inner = entry_inside entries f info is in omega (arith, inner))

-- and a length, where files may get other ones
pub sized_in : (kept : StoreKept) (sizes : List Size) (f : ℕ) (info : FileInfo) → can_resize_in kept ≡ true → HaveSizes kept sizes → Durable.files_in (directory_in kept) f ≡ Some info → f < length sizes
sized_in (StoreKept.OfJournal directory journal) sizes f info can have is = absurd (false≢true can)
sized_in (StoreKept.OfPool directory journal) sizes f info can have is = (let inside = entry_inside directory.entries.items f info is in omega (arith, inside, have))

still_there : (info : Option FileInfo) (size : Option Size) → IsSome (with_length info size) → (i : FileInfo) × (info ≡ Some i)
still_there None size some = absurd (false≢true some)
still_there (Some info) size some = (info, refl)

have_set : (kept : StoreKept) (sizes : List Size) (f : ℕ) (size : Size) → HaveSizes kept sizes → HaveSizes kept (set sizes f size)
have_set (StoreKept.OfJournal directory journal) sizes f size none = ap (λ (l : List Size). set l f size) none
have_set (StoreKept.OfPool directory journal) sizes f size have = length-set sizes f size ∙ have

module _ {D : Type 0} (g : Ghosts D) (old : SizedStore D) (ready : IsReadySized g old) where
  pub has_size : (f : ℕ) → can_resize old ≡ true → IsSome (files_of old f) → f < length old.sizes.items
  has_size f can some =
      let there = still_there (durable_files_of old f) (slice_get old.sizes.items f) some in
      sized_in (kept_of old) old.sizes.items f there.0 can ready.have there.1

  module _ (file long : ℕ) (sizes : Vec Size Global) where
    -- the length that the file gets
    abbrev pub resized : Size
    resized = record { length = long; shortest = min (get_or old.sizes.items file no_size).shortest long; resized = true }

    pub resizes_file : can_resize old ≡ true → IsSome (files_of old file) → long ≤ longest_file → sizes.items ≡ set old.sizes.items file resized
        → ResizesFile g old (record old { sizes = sizes }) file long
    resizes_file can some most items =
        let inside : file < length old.sizes.items = has_size file can some in
        let was : Size = get_or old.sizes.items file no_size in
        let at : slice_get old.sizes.items file ≡ Some was = slice_get-get_or old.sizes.items file no_size inside in
        let now : slice_get sizes.items file ≡ Some resized = ap (λ (l : List Size). slice_get l file) items ∙ get_set old.sizes.items file resized inside in
        let others : (f : ℕ) → (f ≡ file → ⊥) → slice_get sizes.items f ≡ slice_get old.sizes.items f =
        λ f other. ap (λ (l : List Size). slice_get l f) items ∙ get_other old.sizes.items file f resized other in record {
          sized = now ∙ ap (λ (s : Option Size). Some (record { length = long; shortest = min (shortest_of (durable_files_of old file) s) long; resized = true })) (sym at);
          others = others;
          same = refl;
          ready = record {
            ready = ready.ready;
            have = subst (HaveSizes (kept_of old)) (sym items) (have_set (kept_of old) old.sizes.items file resized ready.have);
            each = λ f info size is there. ⊎_elim
                (λ (here : f ≡ file).
                let before : IsSizeOf info was = ready.each f info was is (ap (slice_get old.sizes.items) here ∙ at) in
                subst (IsSizeOf info) (same_Some resized size (sym now ∙ ap (slice_get sizes.items) (sym here) ∙ there)) (record {
                  most = most;
                  is = omega arith;
                  was = (let short = before.was in omega (arith, short));
                  same = λ is_not. absurd (true≢false is_not);
                }))
                (λ other. ready.each f info size is (sym (others f other) ∙ there))
                (cases_eq f file);
            space = ready.space;
          };
        }

-- A file of a store has another length: what is there of files then, and how short they have been.
use Rattle.std.proofs.Common.{◌≡◌, ◌≢◌, ℕ, ◌<◌, ◌≤◌, inl, inr, Option, Some, None, refl, sym, ap, ◌∙◌, arith}
use Rattle.std.proofs.lemmas.{Bool.{cases_eq}, Option.{same_Some}}
use Rattle.std.specs.Prelude.{min, slice_get}
use Rattle.vm_types.specs.{Limits.{file_limit, longest_file}, Truncation.{with_length as long_info}, declared.file.FileInfo.{FileInfo}}
use Rattle.disk_model.specs.declared.sector_disk.SectorDisk.{Ghosts}
use Rattle.file_store.specs.Standing.{AreBounded}
use Rattle.stores.specs.Store as Durable
use Rattle.sized_stores.specs.{Resizing.{ResizesFile}, declared.{sizes.Size.{Size}, store.SizedStore.{SizedStore}}}
use Rattle.sized_stores.specs.Store.{directory_of, disk_of, durable_files_of, files_of, shortest_in, shortest_of, with_length, IsReadySized, IsSizeOf}
use Rattle.truncation.specs.Lengths.{SetsLength}

-- a file that is there, of another length
long_there : (o : Option FileInfo) (size : Option Size) (next : Size) (info : FileInfo) → with_length o size ≡ Some info → with_length o (Some next) ≡ Some (long_info next.length info)
long_there None size next info is = absurd (let bad : None ≡ Some info = is in (cc))
long_there (Some i) None next info is = ap (λ (x : FileInfo). Some (long_info next.length x)) (same_Some i info is)
long_there (Some i) (Some size) next info is = ap (λ (x : FileInfo). Some (long_info next.length x)) (same_Some (long_info size.length i) info is)

-- it has been no longer than it is
short_there : (o : Option FileInfo) (size : Option Size) (info : FileInfo) → with_length o size ≡ Some info
    → ((i : FileInfo) (z : Size) → o ≡ Some i → size ≡ Some z → IsSizeOf i z) → shortest_of o size ≤ info.length
short_there None size info is each = absurd (let bad : None ≡ Some info = is in (cc))
short_there (Some i) None info is each = (let e : i.length ≡ info.length = ap (λ (x : FileInfo). x.length) (same_Some i info is) in omega (arith, e))
short_there (Some i) (Some size) info is each =
    let e : size.length ≡ info.length = ap (λ (x : FileInfo). x.length) (same_Some (long_info size.length i) info is) in
    let low = (each i size refl refl).is in
    omega (arith, e, low)

module _ {D : Type 0} (g : Ghosts D) where
  pub shortest_most : (store : SizedStore D) (file : ℕ) (info : FileInfo) → IsReadySized g store → files_of store file ≡ Some info → shortest_in (directory_of store) file ≤ info.length
  shortest_most store file info ready there =
      short_there (durable_files_of store file) (slice_get store.sizes.items file) info there (λ i z is size. ready.each file i z is size)

  module _ (old new : SizedStore D) (file long : ℕ) (resizes : ResizesFile g old new file long) where
    pub disk_same : disk_of new ≡ disk_of old
    disk_same = ap Durable.disk_of resizes.same

    durable_same : (f : ℕ) → durable_files_of new f ≡ durable_files_of old f
    durable_same f = ap (λ s. Durable.files_of s f) resizes.same

    pub files_here : (info : FileInfo) → files_of old file ≡ Some info → files_of new file ≡ Some (long_info long info)
    files_here info there =
        ap (λ o. with_length o (slice_get new.sizes.items file)) (durable_same file) ∙ ap (λ z. with_length (durable_files_of old file) z) resizes.sized
        ∙ long_there (durable_files_of old file) (slice_get old.sizes.items file) _ info there

    pub files_others : (f : ℕ) → f ≢ file → files_of new f ≡ files_of old f
    files_others f ne =
        ap (λ o. with_length o (slice_get new.sizes.items f)) (durable_same f) ∙ ap (λ z. with_length (durable_files_of old f) z) (resizes.others f ne)

    pub shortest_here : shortest_in (directory_of new) file ≡ min (shortest_in (directory_of old) file) long
    shortest_here = ap (λ z. shortest_of (durable_files_of new file) z) resizes.sized

    pub shortest_others : (f : ℕ) → f ≢ file → shortest_in (directory_of new) f ≡ shortest_in (directory_of old) f
    shortest_others f ne =
        ap (λ o. shortest_of o (slice_get new.sizes.items f)) (durable_same f) ∙ ap (λ z. shortest_of (durable_files_of old f) z) (resizes.others f ne)

    pub sets_length : (info : FileInfo) → files_of old file ≡ Some info → SetsLength (files_of old) (files_of new) file long
    sets_length info there = record { info = long_info long info; there = files_here info there; bytes = refl; others = files_others }

    -- there are no more files, and no more pages, than the store's format has numbers for
    pub still_bounded : (info : FileInfo) → files_of old file ≡ Some info → file < file_limit → long ≤ longest_file → AreBounded (files_of old) → AreBounded (files_of new)
    still_bounded info there number most bounded = record {
      each = λ f k inside. elim (cases_eq f file) [
        | inl same ↦ (
            let is : inside.0.length ≡ long = ap (λ (i : FileInfo). i.length) (same_Some inside.0 (long_info long info) (sym inside.1 ∙ ap (λ x. files_of new x) same ∙ files_here info there)) in
            let low = inside.2 in
            (omega (arith, same, number), omega (arith, low, is, most)))
        | inr ne ↦ bounded.each f k (inside.0, sym (files_others f ne) ∙ inside.1, inside.2)
      ];
    }

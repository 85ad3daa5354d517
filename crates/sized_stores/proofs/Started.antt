-- A store that is opened with the lengths that its files have durably.
use Rattle.std.proofs.Common.{ℕ, ◌≡◌, ◌<◌, ◌≤◌, ◌+◌, ⊎_elim, false, List, [], ◌∷◌, ◌++◌, length, get_or, slice_get, Option, Some, None, Vec, Global, refl, sym, ap, subst, ◌∙◌, arith}
use Rattle.std.proofs.lemmas.{Bool.{cases_eq, cases_lt}, List.{length_push}, Option.{none-some, same_Some, slice_get_past, slice_get_within}}
use Rattle.std.specs.Option.{option_map}
use Rattle.vm_types.specs.{Limits.{longest_file}, declared.file.FileInfo.{FileInfo}}
use Rattle.disk_model.specs.declared.sector_disk.SectorDisk.{Ghosts}
use Rattle.directories.specs.declared.entry.Entry.{Entry}
use Rattle.pool_store.specs.{Files.{info_of}, Store.{info_by}}
use Rattle.stores.specs.Store as Durable
use Rattle.stores.specs.declared.store.Store.{Store}
use Rattle.stores.specs.declared.store.Store.TheVariants.{Journal, Pool}
use Rattle.sized_stores.specs.Store.{is_resized, length_of, with_length, AreDurable, AreParts, IsSizeOf, StartsSized}
use Rattle.sized_stores.specs.declared.{room.SizeRoom.{SizeRoom}, sizes.Size.{Size}}
use Rattle.sized_stores.proofs.Rows.{get_last, get_left}

-- a file is no longer than a file may be
short_enough : (entry : Option Entry) (info : FileInfo) → ((e : Entry) → entry ≡ Some e → e.length ≤ longest_file) → option_map info_of entry ≡ Some info → info.length ≤ longest_file
short_enough None info short is = absurd (none-some info is)
short_enough (Some e) info short is = subst (λ (i : FileInfo). i.length ≤ longest_file) (same_Some (info_of e) info is) (short e refl)

-- the length that a file has durably, with nothing cut off
abbrev pub durable_size : Option FileInfo → Size
durable_size info = record { length = length_of info; shortest = length_of info; resized = false }

with_none : (info : Option FileInfo) → with_length info None ≡ info
with_none None = refl
with_none (Some info) = refl

with_durable : (info : Option FileInfo) → with_length info (Some (durable_size info)) ≡ info
with_durable None = refl
with_durable (Some info) = refl

-- whatever holds of a file with the length that it has durably, and of one with none
of_each : (files : ℕ → Option FileInfo) (places : ℕ) (sizes : List Size) → AreDurable files places sizes → (P : ℕ → Option Size → Type 0) → ((f : ℕ) → P f (Some (durable_size (files f))))
    → ((f : ℕ) → P f None) → (f : ℕ) → P f (slice_get sizes f)
of_each files places sizes are P some none f = ⊎_elim
    (λ (inside : f < places). subst (P f) (sym (are.each f inside)) (some f))
    (λ past. subst (P f) (sym (slice_get_past sizes f (let long = are.long in omega (arith, long, past)))) (none f))
    (cases_lt f places)

of_none : (sizes : List Size) → sizes ≡ [] → (f : ℕ) → slice_get sizes f ≡ None
of_none sizes are f = ap (λ (l : List Size). slice_get l f) are

size_of : (info known : FileInfo) (size : Size) → Some info ≡ Some known → Some (durable_size (Some info)) ≡ Some size → info.length ≤ longest_file → IsSizeOf known size
size_of info known size is there short =
    subst (λ (i : FileInfo). IsSizeOf i size) (same_Some info known is) (subst (IsSizeOf info) (same_Some (durable_size (Some info)) size there) (record {
      most = short;
      is = omega arith;
      was = omega arith;
      same = λ _. (refl, refl);
    }))

durable_one : (files : ℕ → Option FileInfo) (places : ℕ) (sizes : List Size) → AreDurable files places sizes → (f : ℕ) (info : FileInfo) (size : Size) → files f ≡ Some info
    → slice_get sizes f ≡ Some size → info.length ≤ longest_file → IsSizeOf info size
durable_one files places sizes are f info size is there short =
    let inside : f < places = (let long = are.long in omega (arith, slice_get_within sizes f size there, long)) in
    let here : Some (durable_size (Some info)) ≡ Some size = ap (λ (i : Option FileInfo). Some (durable_size i)) (sym is) ∙ sym (are.each f inside) ∙ there in
    size_of info info size refl here short

-- one file more has its length
pub durable_more : (files : ℕ → Option FileInfo) (n : ℕ) (sizes then : List Size) → then ≡ sizes ++ durable_size (files n) ∷ [] → AreDurable files n sizes → AreDurable files (n + 1) then
durable_more files n sizes then more are = record {
  long = ap length more ∙ length_push sizes (durable_size (files n)) ∙ ap (λ k. k + 1) are.long;
  each = λ f less. ⊎_elim
      (λ (last : f ≡ n). subst (λ (k : ℕ). slice_get then k ≡ Some (durable_size (files k))) (sym last)
      (ap (λ (l : List Size). slice_get l n) more ∙ ap (slice_get (sizes ++ durable_size (files n) ∷ [])) (sym are.long) ∙ get_last sizes (durable_size (files n))))
      (λ other.
      (let inside : f < n = omega (arith, less, other) in
      ap (λ (l : List Size). slice_get l f) more ∙ get_left sizes (durable_size (files n) ∷ []) f (let long = are.long in omega (arith, inside, long)) ∙ are.each f inside))
      (cases_eq f n);
}

module _ {D : Type 0} (g : Ghosts D) where
  pub starts : (store : Store D) (sizes : Vec Size Global) (room : Option SizeRoom) → Durable.IsReadyStore g store → AreParts store sizes.items room
      → StartsSized g store (record { store = store; sizes = sizes; room = room })
  starts (Journal store) sizes room ready parts = record {
    same = refl;
    is_ready = record {
      ready = ready;
      have = parts;
      each = λ f info size is there. absurd (none-some size (sym (of_none sizes.items parts f) ∙ there));
      space = tt;
    };
    files = λ f. ap (with_length (Durable.files_of (Journal store) f)) (of_none sizes.items parts f) ∙ with_none (Durable.files_of (Journal store) f);
    none = λ f. ap is_resized (of_none sizes.items parts f);
  }
  starts (Pool store) sizes room ready parts = record {
    same = refl;
    is_ready = record {
      ready = ready;
      have = parts.0.long;
      each = λ f info size is there. durable_one (info_by store.directory) (length store.directory.entries.items) sizes.items parts.0 f info size is there
          (short_enough (get_or store.directory.entries.items f None) info (λ e at. store.directory.lengths f e at) is);
      space = parts.1;
    };
    files = of_each (info_by store.directory) (length store.directory.entries.items) sizes.items parts.0 (λ f size. with_length (info_by store.directory f) size ≡ info_by store.directory f)
        (λ f. with_durable (info_by store.directory f)) (λ f. with_none (info_by store.directory f));
    none = of_each (info_by store.directory) (length store.directory.entries.items) sizes.items parts.0 (λ f size. is_resized size ≡ false) (λ f. refl) (λ f. refl);
  }

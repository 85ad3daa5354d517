-- What is kept where frames alone change.
use Rattle.vm_types.specs.declared.mode.Levels as Levels
use Rattle.{msync.proofs.Names.{[], get_or, ap, ◌∙◌, place_of, is_touched, slots_of, Core, picture_of, attr_where, root_in, KeepsAllButFrames, SameBeside}, sized_stores.specs.Store.{files_of}}

module _ {M : Type 0} {m : Levels.Ghosts M} {D E : Type 0} where
  pub same_beside : (old new : Core D E M m) → KeepsAllButFrames old new → SameBeside (picture_of old) (picture_of new)
  same_beside old new kept = record {
    slots = ap (λ s. slots_of s) kept.swap;
    root = λ p. ap (λ v. root_in v.items p) kept.roots;
    at = λ p page. ap (λ v. attr_where (root_in v.items p) (get_or new.regions.items p []) page) kept.roots
        ∙ ap (λ v. attr_where (root_in old.roots.items p) (get_or v.items p []) page) kept.regions;
    page_of = λ m. ap (λ v. get_or v.items m 0) kept.page_of;
    place = λ p. ap (λ t. place_of t p) kept.cache;
    touched = λ p. ap (λ t. is_touched t p) kept.cache;
    files = λ f. ap (λ s. files_of s f) kept.store;
  }

-- The kind that an image says, and what is bad of it.
use Rattle.std.proofs.Common.{◌≡◌, ◌<◌, ◌≤◌, ℕ, List, sym, subst, ⊎_elim, arith}
use Rattle.std.{proofs.lemmas.Bool.{cases_eq}}
use Rattle.disk_model.specs.Stop.{Image}
use Rattle.directories.{proofs.Sectors.{first_same, second_same}, specs.Kinds.{IsDirectorySize, IsKind}}
use Rattle.pool_journal.specs.Pools.{pool_home, pool_home_count}
use Rattle.pool_store.specs.{Pools.{IsBadPool, IsBadPool.{OtherKind}}, Resume.{IsNoPool}}

-- a sector is of one kind alone
pub one_kind : (m d a b : ℕ) (sector : List ℕ) → IsKind m d sector → IsKind a b sector → (m ≡ a) × (d ≡ b)
one_kind m d a b sector first second =
    let maps = first.maps in let other_maps = second.maps in let pages = first.pages in let other_pages = second.pages in
    (first_same m d a b sector first.bytes second.bytes (omega (arith, maps)) (omega (arith, other_maps)), second_same m d a b sector first.bytes second.bytes (omega (arith, pages)) (omega (arith, other_pages)))

-- an image that is bad by its kind is so by any
pub bad_by_all : (a b sectors : ℕ) (image : Image) → IsKind a b (image 1) → IsBadPool a b (pool_home_count a sectors) sectors image → IsNoPool sectors image
bad_by_all a b sectors image kind bad m d = ⊎_elim
    (λ maps. ⊎_elim (λ pages. subst (λ x. IsBadPool x d (pool_home_count x sectors) sectors image) (sym maps) (subst (λ y. IsBadPool a y (pool_home_count a sectors) sectors image) (sym pages) bad))
    (λ other. OtherKind (λ is. other (one_kind m d a b (image 1) is kind).1)) (cases_eq d b))
    (λ other. OtherKind (λ is. other (one_kind m d a b (image 1) is kind).0)) (cases_eq m a)

-- a device without as many homes as the directory has pages is too small
pub too_small : (m d sectors : ℕ) → IsDirectorySize d → pool_home_count m sectors < d → sectors < pool_home m d
too_small m d sectors sized few = omega (arith, sized, few)

-- and otherwise it has room for the pool and its directory
pub has_room : (m d sectors : ℕ) → IsDirectorySize d → d ≤ pool_home_count m sectors → pool_home m d ≤ sectors
has_room m d sectors sized many = omega (arith, sized, many)

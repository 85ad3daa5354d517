-- What mark and kind of an image say.
use Rattle.stores.proofs.Names.{ℕ, ◌≡◌, ◌∙◌, List, true, ap, arith, Image, bytes_eq-Decides}
use Rattle.std.specs.Str.{bytes_eq}
use Rattle.directories.{proofs.Sectors.{first_number, second_number, first_reads, second_reads}, specs.Kinds.{IsKind}}
use Rattle.file_store.specs.Layout.{pool_mark}
use Rattle.stores.specs.Images.{is_pool, map_blocks, directory_pages}

pub is_marked : (image : Image) → image 0 ≡ pool_mark → is_pool image ≡ true
is_marked image mark = (bytes_eq-Decides (image 0) pool_mark).1 mark

pub mark_of : (image : Image) → is_pool image ≡ true → image 0 ≡ pool_mark
mark_of image is = (bytes_eq-Decides (image 0) pool_mark).0 is

-- the two numbers of a kind
pub blocks_are : (m d : ℕ) (image : Image) → IsKind m d (image 1) → map_blocks image ≡ m
blocks_are m d image kind = let maps = kind.maps in ap first_number kind.bytes ∙ first_reads m d (omega (arith, maps))

pub pages_are : (m d : ℕ) (image : Image) → IsKind m d (image 1) → directory_pages image ≡ d
pages_are m d image kind = let pages = kind.pages in ap second_number kind.bytes ∙ second_reads m d (omega (arith, pages))

-- mark and kind are those of another image
pub same_mark : (old image : Image) → image 0 ≡ old 0 → is_pool image ≡ is_pool old
same_mark old image same = ap (λ (sector : List ℕ). bytes_eq sector pool_mark) same

pub same_blocks : (old image : Image) → image 1 ≡ old 1 → map_blocks image ≡ map_blocks old
same_blocks old image same = ap first_number same

pub same_pages : (old image : Image) → image 1 ≡ old 1 → directory_pages image ≡ directory_pages old
same_pages old image same = ap second_number same

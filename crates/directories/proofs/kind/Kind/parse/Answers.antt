use Rattle.std.proofs.Common.{◌≡◌, ◌≢◌, ◌<◌, ◌^◌, sym, arith, rules, subst}
use Rattle.directories.specs.Kinds.{kind_sector, IsMapSize, IsDirectorySize}
use Rattle.directories.proofs.Sectors.{first_number, second_number, first_same, second_same, unstamped, older_is_none}
use Rattle.directories.proofs.kind.Kind.parse.Goals as goal

pub returns-then-ne-clause-fault : goal.returns-then-ne-clause-fault
returns-then-ne-clause-fault c =
    let m = c.read_u32-map_blocks.result in
    let d = c.read_u32-directory_pages.result in
    let other : c.args.sector.now ≢ kind_sector m d = search rules in
    let first : first_number c.args.sector.now ≡ m = search rules in
    let second : second_number c.args.sector.now ≡ d = search rules in
    λ n e small small'. unstamped m d n e c.args.sector.now other first second small small'

pub returns-then-ne-clause-none : goal.returns-then-ne-clause-none
returns-then-ne-clause-none c =
    let m = c.read_u32-map_blocks.result in
    let d = c.read_u32-directory_pages.result in
    let other : c.args.sector.now ≢ kind_sector m d = search rules in
    let first : first_number c.args.sector.now ≡ m = search rules in
    let second : second_number c.args.sector.now ≡ d = search rules in
    λ n e is. unstamped m d n e c.args.sector.now other first second
    (let small = is.maps in omega arith) (let small = is.pages in omega arith) is.bytes

pub returns-then-not-is_map_size-clause-none : goal.returns-then-not-is_map_size-clause-none
returns-then-not-is_map_size-clause-none c =
    let m = c.read_u32-map_blocks.result in
    let d = c.read_u32-directory_pages.result in
    let bytes : c.args.sector.now ≡ kind_sector m d = search rules in
    let wide : IsMapSize m → ⊥ = search rules in
    let fits : m < 2 ^ 32 = omega arith in
    λ n e is.
    let same : m ≡ n = first_same m d n e c.args.sector.now bytes is.bytes fits (let small = is.maps in omega arith) in
    wide (subst (λ k. IsMapSize k) (sym same) is.maps)

pub returns-then-not-is_map_size-clause-older : goal.returns-then-not-is_map_size-clause-older
returns-then-not-is_map_size-clause-older c =
    let m = c.read_u32-map_blocks.result in
    let d = c.read_u32-directory_pages.result in
    let bytes : c.args.sector.now ≡ kind_sector m d = search rules in
    λ old. absurd (older_is_none m d c.args.sector.now old bytes)

pub returns-then-not-is_directory_size-clause-none : goal.returns-then-not-is_directory_size-clause-none
returns-then-not-is_directory_size-clause-none c =
    let m = c.read_u32-map_blocks.result in
    let d = c.read_u32-directory_pages.result in
    let bytes : c.args.sector.now ≡ kind_sector m d = search rules in
    let wide : IsDirectorySize d → ⊥ = search rules in
    let fits : d < 2 ^ 32 = omega arith in
    λ n e is.
    let same : d ≡ e = second_same m d n e c.args.sector.now bytes is.bytes fits (let small = is.pages in omega arith) in
    wide (subst (λ k. IsDirectorySize k) (sym same) is.pages)

pub returns-then-not-is_directory_size-clause-older : goal.returns-then-not-is_directory_size-clause-older
returns-then-not-is_directory_size-clause-older c =
    let m = c.read_u32-map_blocks.result in
    let d = c.read_u32-directory_pages.result in
    let bytes : c.args.sector.now ≡ kind_sector m d = search rules in
    λ old. absurd (older_is_none m d c.args.sector.now old bytes)

pub returns-clause-older : goal.returns-clause-older
returns-clause-older c =
    let m = c.read_u32-map_blocks.result in
    let d = c.read_u32-directory_pages.result in
    let bytes : c.args.sector.now ≡ kind_sector m d = search rules in
    λ old. absurd (older_is_none m d c.args.sector.now old bytes)

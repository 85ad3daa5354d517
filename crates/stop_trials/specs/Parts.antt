-- The parts of a store's image, by sectors.
use Rattle.std.specs.Prelude.{◌≡◌, ◌+◌, ◌*◌, ℕ, true, false, ◌==◌, nat_lt, if◌then◌else◌, refl}
use Rattle.sync_journal.specs.Layout.{gate_sector, first_body_sector, first_home_sector}
use Rattle.pool_journal.specs.Pools.{pool_gate, pool_start, pool_home}
use Rattle.pool_store.specs.Format.{new_pages}
use Rattle.stores.specs.declared.new_stores.NewStore.{NewStore}
use Rattle.stores.specs.declared.new_stores.NewStore.TheVariants.{Journal, Pool}
use Rattle.stop_trials.specs.declared.parts.Part.{Part}
use Rattle.stop_trials.specs.declared.parts.Part.TheVariants.{Mark, Kind, Directory, Gate, Map, Body, Home}

abbrev pub part_at : ℕ → Part
part_at sector =
    if sector == 0 then Mark
    else (if sector == 1 then Directory
    else (if sector == gate_sector then Gate
    else (if nat_lt sector first_body_sector then Map
    else (if nat_lt sector first_home_sector then Body else Home))))

-- of a new pool with maps of m blocks, whose directory is the first homes
abbrev pub part_in_pool : ℕ → ℕ → Part
part_in_pool m sector =
    if sector == 0 then Mark
    else (if sector == 1 then Kind
    else (if sector == pool_gate then Gate
    else (if nat_lt sector (pool_start m false + 8 * m) then Map
    else (if nat_lt sector (pool_start m true) then Body
    else (if nat_lt sector (pool_start m true + 8 * m) then Map
    else (if nat_lt sector (pool_home m 0) then Body
    else (if nat_lt sector (pool_home m new_pages) then Directory else Home)))))))

abbrev pub store_part : NewStore → ℕ → Part
store_part Journal sector = part_at sector
store_part (Pool blocks) sector = part_in_pool blocks sector

pub last_of_the_map : part_at 10 ≡ Map
last_of_the_map = refl

pub last_of_the_body : part_at 8194 ≡ Body
last_of_the_body = refl

pub first_home : part_at 8195 ≡ Home
first_home = refl

pub first_slot_of_four : part_in_pool 4 48 ≡ Body
first_slot_of_four = refl

pub first_page_of_four : part_in_pool 4 32368 ≡ Home
first_page_of_four = refl

-- Stops in a row, each within an opening of what the stop before left.
use Rattle.std.proofs.Common.{ℕ, zero, suc, sym, subst}
use Rattle.disk_model.specs.{Stop.{Image}, declared.sector_disk.SectorDisk.{Ghosts}}
use Rattle.pool_journal.specs.Pools.{pool_home_count}
use Rattle.pool_store.specs.{Files.{StandsAs}, Opened.{LeftInARow}, Pools.{files_in_pool}}

pub still_stands : {D : Type 0} (g : Ghosts D) (m d sectors n : ℕ) (first last : Image) → LeftInARow g m d sectors n first last → StandsAs (files_in_pool m d (pool_home_count m sectors)) sectors first last
still_stands g m d sectors zero first last same = subst (StandsAs (files_in_pool m d (pool_home_count m sectors)) sectors first) (sym same) (λ files pages was. was)
still_stands g m d sectors (suc n) first last stops =
    let old = stops.1 in
    let opens = stops.4 in
    let here = subst (λ k. StandsAs (files_in_pool m d (pool_home_count m k)) k stops.0 last) opens.size
    (subst (λ (held : Image). StandsAs (files_in_pool m d (pool_home_count m (g.sector_count old))) (g.sector_count old) held last) opens.held (opens.stands.each last stops.5)) in
    λ files pages was. here files pages (still_stands g m d sectors n first stops.0 stops.3 files pages was)

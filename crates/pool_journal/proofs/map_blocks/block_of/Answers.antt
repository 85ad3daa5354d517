use Rattle.std.proofs.Common.{ℕ, replicate, arith}
use Rattle.std.proofs.lemmas.List.{length-replicate}
use Rattle.pool_journal.proofs.Bytes.{count_reads, first_reads, second_reads}
use Rattle.pool_journal.proofs.map_blocks.block_of.Goals as goal

pub returns-clause-count : goal.returns-clause-count
returns-clause-count c =
    count_reads c.args.counted (replicate 4096 0) c.write_u32.new.buf c.args.first.now c.args.second.now c.write_u32_into.new.dst c.write_u32_into-2.new.dst
    c.write_u32.ensures (length-replicate {A = ℕ} 4096 0) c.write_u32_into.ensures c.write_u32_into-2.ensures c.requires.0 c.requires.1 c.ranges.counted.fits

pub returns-clause-first : goal.returns-clause-first
returns-clause-first c = λ i below.
    first_reads c.args.counted (replicate 4096 0) c.write_u32.new.buf c.args.first.now c.args.second.now c.write_u32_into.new.dst c.write_u32_into-2.new.dst
    c.write_u32.ensures (length-replicate {A = ℕ} 4096 0) c.write_u32_into.ensures c.write_u32_into-2.ensures c.requires.0 c.requires.1 i below (omega (arith, c.type_inv.first i))

pub returns-clause-second : goal.returns-clause-second
returns-clause-second c = λ i below.
    second_reads c.args.counted (replicate 4096 0) c.write_u32.new.buf c.args.first.now c.args.second.now c.write_u32_into.new.dst c.write_u32_into-2.new.dst
    c.write_u32.ensures (length-replicate {A = ℕ} 4096 0) c.write_u32_into.ensures c.write_u32_into-2.ensures c.requires.0 c.requires.1 i below (omega (arith, c.type_inv.second i))

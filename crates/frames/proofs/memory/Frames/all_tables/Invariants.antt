use Rattle.{std.proofs.Common.{◌≤◌, vec_capacity}, frames.proofs.Made.{IsMade}}
use Rattle.frames.proofs.memory.Frames.all_tables.Given as goal

-- as many frames as were counted, and room for the rest
abbrev pub invariant-loop-n : goal.invariant-loop-n
invariant-loop-n l =
    IsMade (record { bytes = l.bytes.items; roles = l.roles.items; counts = l.counts.items }) l.n
    × (l.count ≤ vec_capacity l.bytes) × (l.count ≤ vec_capacity l.roles) × (l.count ≤ vec_capacity l.counts)

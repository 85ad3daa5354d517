-- Books that are kept on stay balanced.
use Rattle.std.proofs.Common.{◌≤◌, arith}
use Rattle.watching.specs.{Books.{HasCountRoom, IsBalanced, KeepsBooks}, declared.counts.FrameCounts.{FrameCounts}}

-- where no number has come to its end, none had before
room_before : (old new : FrameCounts) → old.filled.0 ≤ new.filled.0 → old.evictions.0 ≤ new.evictions.0 → old.released.0 ≤ new.released.0 → HasCountRoom new → HasCountRoom old
room_before old new filled evictions released room = record {
  fills = (let most = room.fills in omega (arith, filled, most));
  losses = (let most = room.losses in omega (arith, evictions, most));
  releases = (let most = room.releases in omega (arith, released, most));
}

-- what happened was counted
pub counted_on : (old new : FrameCounts) → old.filled.0 ≤ new.filled.0 → old.evictions.0 ≤ new.evictions.0 → old.released.0 ≤ new.released.0
    → (HasCountRoom old → IsBalanced old → IsBalanced new) → KeepsBooks old new
counted_on old new filled evictions released balance = record {
  filled = filled;
  evictions = evictions;
  released = released;
  balance = λ room balanced. balance (room_before old new filled evictions released room) balanced;
}

pub books_same : (counts : FrameCounts) → KeepsBooks counts counts
books_same counts = record { filled = omega arith; evictions = omega arith; released = omega arith; balance = λ room balanced. balanced }

pub books_on : (old mid new : FrameCounts) → KeepsBooks old mid → KeepsBooks mid new → KeepsBooks old new
books_on old mid new p q = record {
  filled = (let before = p.filled in let after = q.filled in omega (arith, before, after));
  evictions = (let before = p.evictions in let after = q.evictions in omega (arith, before, after));
  released = (let before = p.released in let after = q.released in omega (arith, before, after));
  balance = λ room balanced. q.balance room (p.balance (room_before mid new q.filled q.evictions q.released room) balanced);
}

use Rattle.frames.proofs.{ChainLemmas.{IsChained-kept}, FrameLemmas.{IsHeld-above, IsHeld-not_free, IsHeld-not_zero, IsSound-step, with_bytes-others}}
use Rattle.std.proofs.Common.{refl}
use Rattle.frames.specs.FrameTable.{with_bytes}
use Rattle.frames.proofs.laws.hardware_write.Goals as goal

pub returns-clause-sound : goal.returns-clause-sound
returns-clause-sound c t n bytes held sound =
    IsSound-step n t (with_bytes t n bytes) sound (with_bytes-others t n bytes) (IsHeld-above t n sound held) refl refl (sound.counted n held.inside) (IsHeld-not_zero t n held)

pub returns-clause-free : goal.returns-clause-free
returns-clause-free c t first n bytes held chained =
    IsChained-kept n t (with_bytes t n bytes) first (with_bytes-others t n bytes) (IsHeld-not_free t n held) (IsHeld-not_free t n held) chained

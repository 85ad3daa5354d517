-- A frame that was taken for a process, and written.
use Rattle.fault.proofs.Names.{◌≡◌, ℕ, List, refl, ap, FrameTable, IsFrame, IsHeld, IsSound, Private, is_handed_out, role_of, with_bytes, with_bytes-others}
use Rattle.frames.proofs.FrameLemmas.{IsHeld-above, IsHeld-not_zero, IsSound-step}

-- the table of frames is sound still
pub sound_taken : (t : FrameTable) (n : ℕ) (w : List ℕ) → IsFrame t n → role_of t n ≡ Private → IsSound t → IsSound (with_bytes t n w)
sound_taken t n w inside own sound =
    let held : IsHeld t n = record { inside = inside; handed_out = ap is_handed_out own } in
    IsSound-step n t (with_bytes t n w) sound (with_bytes-others t n w) (IsHeld-above t n sound held) refl refl (sound.counted n inside) (IsHeld-not_zero t n held)

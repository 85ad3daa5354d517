-- A page of a file is cut in its frame, and may be touched then.
use Rattle.std.proofs.Common.{◌≡◌, ℕ, ◌<◌, List, refl, sym, ap, ◌∙◌, arith}
use Rattle.vm_types.specs.declared.object.PageKey.{PageKey}
use Rattle.frames.proofs.FrameLemmas.{with_bytes-others, IsHeld-not_zero, IsHeld-above, IsSound-step}
use Rattle.frames.specs.{declared.role.Role.TheVariants.{Free, Cache}, FrameTable.{FrameTable, is_handed_out, IsHeld, IsSound, with_bytes}}
use Rattle.page_cache.specs.declared.place.Place.TheVariants.{Frame}
use Rattle.fault.proofs.Forms.{used_inside}
use Rattle.residency.specs.{Picture.{Picture}, Parts.{IsFit}}

-- the frame that a page of a file or an object lies in is one of memory, and was handed out
pub held_at : {mode : ℕ} (c : Picture mode) (p : PageKey) (n : ℕ) → IsSound c.frames → IsFit c → c.place p ≡ Frame (record { 0 = n }) → IsHeld c.frames n
held_at c p n sound fit at =
    let cache = fit.places.cached p n at in
    record {
      inside = used_inside c.frames n sound (λ free. (let bad : Cache ≡ Free = sym cache ∙ free in (cc)));
      handed_out = ap is_handed_out cache;
    }

-- bytes of a frame that was handed out
pub sound_written : (t : FrameTable) (n : ℕ) (w : List ℕ) → IsHeld t n → IsSound t → IsSound (with_bytes t n w)
sound_written t n w held sound =
    IsSound-step n t (with_bytes t n w) sound (with_bytes-others t n w) (IsHeld-above t n sound held) refl refl (sound.counted n held.inside) (IsHeld-not_zero t n held)

pub below_same : (k m n : ℕ) → k < m → n ≡ m → k < n
below_same k m n low same = omega (arith, low, same)

use Rattle.msync.proofs.Names.{◌≡◌, ◌<◌, ℕ, List, refl, sym, ap, ◌∙◌, arith, File, Cache, FrameTable, role_of, IsFrame, IsHeld, IsSound, with_bytes, is_handed_out, with_bytes-others, IsSound-step, IsHeld-above, IsHeld-not_zero, Picture}
use Rattle.msync.proofs.{Names.{picture_of}, Settled.{fit_cut}}
use Rattle.msync.proofs.settling.cut_tail.Goals as goal

pub returns-clause-fit : goal.returns-clause-fit
returns-clause-fit g c =
    let old : Picture g.M.Levels.mode = picture_of c.args.core.now in
    let n = c.args.frame.0 in
    fit_cut old (record old { frames = (with_bytes old.frames n c.cut_from.new.page) }) c.args.page n c.cut_from.new.page c.requires.fit c.requires.placed refl
    (record { slots = refl; root = λ p. refl; at = λ p k. refl; page_of = λ m. refl; place = λ p. refl; touched = λ p. refl; files = λ f. refl })

below_same : (k m n : ℕ) → k < m → n ≡ m → k < n
below_same k m n low same = omega (arith, low, same)

held_cached : (t : FrameTable) (n : ℕ) → IsFrame t n → role_of t n ≡ Cache → IsHeld t n
held_cached t n inside cache = record { inside = inside; handed_out = ap is_handed_out cache }

-- bytes of a frame that was handed out
sound_written : (t : FrameTable) (n : ℕ) (w : List ℕ) → IsHeld t n → IsSound t → IsSound (with_bytes t n w)
sound_written t n w held sound =
    IsSound-step n t (with_bytes t n w) sound (with_bytes-others t n w) (IsHeld-above t n sound held) refl refl (sound.counted n held.inside) (IsHeld-not_zero t n held)

pub bytes_mut-requires : goal.bytes_mut-requires
bytes_mut-requires g c = held_cached c.args.core.now.frames c.args.frame.0 c.requires.there (c.requires.fit.places.cached (File c.args.page) c.args.frame.0 c.requires.placed)

pub invariant_of-core-clause-sound : goal.invariant_of-core-clause-sound
invariant_of-core-clause-sound g c =
    sound_written c.args.core.now.frames c.args.frame.0 c.cut_from.new.page
    (held_cached c.args.core.now.frames c.args.frame.0 c.requires.there (c.requires.fit.places.cached (File c.args.page) c.args.frame.0 c.requires.placed)) c.args.core.now.sound

pub invariant_of-core-clause-page_count : goal.invariant_of-core-clause-page_count
invariant_of-core-clause-page_count g c = c.args.core.now.page_count ∙ sym (with_bytes-others c.args.core.now.frames c.args.frame.0 c.cut_from.new.page).frames

pub invariant_of-core-clause-node_count : goal.invariant_of-core-clause-node_count
invariant_of-core-clause-node_count g c = c.args.core.now.node_count ∙ sym (with_bytes-others c.args.core.now.frames c.args.frame.0 c.cut_from.new.page).frames

pub invariant_of-core-clause-hand_inside : goal.invariant_of-core-clause-hand_inside
invariant_of-core-clause-hand_inside g c = below_same _ _ _ c.args.core.now.hand_inside (with_bytes-others c.args.core.now.frames c.args.frame.0 c.cut_from.new.page).frames

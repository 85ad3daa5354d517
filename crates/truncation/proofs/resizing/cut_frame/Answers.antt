use Rattle.std.proofs.Common.{refl, sym, ◌∙◌}
use Rattle.vm_types.specs.declared.object.PageKey.TheVariants.{File}
use Rattle.frames.{proofs.FrameLemmas.{with_bytes-others}, specs.FrameTable.{with_bytes}}
use Rattle.fault.proofs.Storing.{fit_file}
use Rattle.residency.specs.Picture.{Picture, picture_of}
use Rattle.truncation.proofs.CutFrames.{below_same, held_at, sound_written}
use Rattle.truncation.proofs.resizing.cut_frame.Goals as goal

pub bytes_mut-requires : goal.bytes_mut-requires
bytes_mut-requires g c = held_at (picture_of c.args.core.now) (File c.args.page) c.args.frame.0 c.args.core.now.sound c.requires.fit c.requires.placed

pub invariant_of-core-clause-sound : goal.invariant_of-core-clause-sound
invariant_of-core-clause-sound g c =
    sound_written c.args.core.now.frames c.args.frame.0 c.cut_from.new.page
    (held_at (picture_of c.args.core.now) (File c.args.page) c.args.frame.0 c.args.core.now.sound c.requires.fit c.requires.placed) c.args.core.now.sound

pub invariant_of-core-clause-page_count : goal.invariant_of-core-clause-page_count
invariant_of-core-clause-page_count g c = c.args.core.now.page_count ∙ sym (with_bytes-others c.args.core.now.frames c.args.frame.0 c.cut_from.new.page).frames

pub invariant_of-core-clause-node_count : goal.invariant_of-core-clause-node_count
invariant_of-core-clause-node_count g c = c.args.core.now.node_count ∙ sym (with_bytes-others c.args.core.now.frames c.args.frame.0 c.cut_from.new.page).frames

pub invariant_of-core-clause-hand_inside : goal.invariant_of-core-clause-hand_inside
invariant_of-core-clause-hand_inside g c = below_same _ _ _ c.args.core.now.hand_inside (with_bytes-others c.args.core.now.frames c.args.frame.0 c.cut_from.new.page).frames

pub returns-clause-fit : goal.returns-clause-fit
returns-clause-fit g c =
    let old : Picture g.M.Levels.mode = picture_of c.args.core.now in
    let n = c.args.frame.0 in
    fit_file old (record old { frames = (with_bytes old.frames n c.cut_from.new.page) }) n c.cut_from.new.page c.requires.fit
    (held_at old (File c.args.page) n c.args.core.now.sound c.requires.fit c.requires.placed) refl
    (record { slots = refl; root = λ p. refl; at = λ p k. refl; page_of = λ m. refl; place = λ p. refl; touched = λ p. refl; files = λ f. refl })
    (File c.args.page) c.requires.placed

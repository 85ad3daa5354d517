use Rattle.memory.proofs.Names.{◌/◌, ◌%◌, ◌<◌, ℕ, Ok, Result, sym, ap, ◌∙◌, subst, IsErr, top_level, user_end, Phys, frame_count, WalkFault, answer_of, page_entry}
use Rattle.memory.{specs.{Lines.{address_in}, Kept.{IsLeafOf}}, proofs.{Looks.{walks}, Leaves.{is_line, of_entry, valid_of}, Keeping.{kept_more}, Walks.{translated-entry}, walking.keep_leaf.Given.{Over}}}
use Rattle.memory.proofs.walking.keep_leaf.Goals as goal

pub returns-then-not-is_usable-clause-walked : goal.returns-then-not-is_usable-clause-walked
returns-then-not-is_usable-clause-walked g c addr at =
    let top = top_level g.M.Levels.mode in
    let t = c.args.frames.now in
    let small : addr / 4096 < user_end g.M.Levels.mode = (let P : ℕ → Type 0 = λ p. p < user_end g.M.Levels.mode in subst P (sym at) c.requires.small) in
    let is = translated-entry g.M.Levels.mode t c.args.root.0 addr c.args.access c.requires.forest c.requires.root small
    ∙ ap (answer_of (frame_count t) addr c.args.access 0) (ap (page_entry t top c.args.root.0) at ∙ sym (c.number_in-leaf.ensures top c.args.root.0 c.args.page c.requires.table (sym (ap (λ n. n % 512) c.get.ensures.number)))) in
    subst (λ (r : Result Phys WalkFault). IsErr r) (sym is) (c.is_usable.ensures.other c.if-not-is_usable.true addr)

leaf_is : (g : Over) (c : goal.After-frame_number g) → IsLeafOf g.M.Levels.mode c.args.frames.now c.args.root.0 c.args.page c.number_in-leaf.result.0
leaf_is g c =
    let leaf = c.number_in-leaf.result.0 in
    let usable = c.is_usable.ensures.usable c.if-not-is_usable.false in
    of_entry g.M.Levels.mode c.args.frames.now c.args.root.0 c.args.page leaf c.requires.forest c.requires.root c.requires.small
    (sym (c.number_in-leaf.ensures (top_level g.M.Levels.mode) c.args.root.0 c.args.page c.requires.table (sym (ap (λ n. n % 512) c.get.ensures.number))))
    (valid_of c.args.access leaf usable.0) usable.1

pub returns-clause-walked : goal.returns-clause-walked
returns-clause-walked g c addr at =
    let leaf = c.number_in-leaf.result.0 in
    let usable = c.is_usable.ensures.usable c.if-not-is_usable.false in
    walks g.M.Levels.mode c.args.frames.now c.args.root.0 c.args.page addr leaf c.args.access (is_line g.M.Levels.mode _ _ _ leaf (leaf_is g c)) at c.requires.small usable.0
    ∙ ap (λ (n : ℕ). Ok (address_in n addr)) (sym c.frame_number.ensures)

pub returns-clause-kept : goal.returns-clause-kept
returns-clause-kept g c =
    kept_more g.M.Levels.mode c.args.frames.now c.args.buffer.now c.keep.new.self c.args.root.0 c.args.page c.number_in-leaf.result.0 (leaf_is g c) c.keep.ensures.kept c.keep.ensures.replaced c.keep.ensures.others c.requires.kept

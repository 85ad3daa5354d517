use Rattle.memory.proofs.Names.{top_level, ◌≡◌, ℕ, ◌%◌, ◌/◌, sym, subst, arith, rules, FrameTable, IsForest, IsPage, IsRoot, IsTableOf, number_of, SetsEntry}
use Rattle.memory.{specs.Notes.{NamesNoMore}, proofs.{Keeping.{fewer_place, kept_set, still_counted}, Noting.{noted_place}}}
use Rattle.memory.proofs.trees.set_in.Goals as goal

same_place : (page index : ℕ) → page % 512 ≡ index → page % 64 ≡ index % 64
same_place page index e = omega (arith, e)

pub invariant_of-memory : goal.invariant_of-memory
invariant_of-memory g c =
    let t = c.memory.inside.frames in
    let table = c.args.table.0 in
    let b = c.memory.inside.buffer in
    let b' = c.drop_place.new.self in
    let P : FrameTable → Type 0 = λ x. (root page : ℕ) × IsRoot (top_level g.M.Levels.mode) x root × IsPage (top_level g.M.Levels.mode) page × IsTableOf x (top_level g.M.Levels.mode) root (page / 512) table × (page % 512 ≡ c.args.index) in
    let placed : P t = subst P (sym c.memory.view_is) c.requires.placed in
    let root = placed.0 in
    let page = placed.1 in
    let forest = subst (λ (x : FrameTable). IsForest x) (sym c.memory.view_is) c.requires.forest in
    let sets = c.set_in.ensures.sets (top_level g.M.Levels.mode) root page placed.2 placed.3 placed.4 placed.5 in
    let gone = c.drop_place.ensures.dropped in
    let N : FrameTable → Type 0 = λ x. NamesNoMore g.M.Levels.mode x table c.args.index (number_of c.args.entry) in (
      kept_set g.M.Levels.mode t c.set_in.new.frames root page _ b b' forest placed.2 sets (gone root page (same_place page c.args.index placed.5))
          (fewer_place b b' (c.args.index % 64) gone c.drop_place.ensures.others) c.memory.invariant.0,
      noted_place g.M.Levels.mode t c.set_in.new.frames root page _ table c.args.index c.memory.inside.notes forest placed.2 sets placed.4 placed.5
          (subst N (sym c.memory.view_is) c.requires.names) c.memory.invariant.1,
      still_counted c.memory.inside.buffer b' c.memory.invariant.2 c.drop_place.ensures.unfound,
    )

pub returns : goal.returns
returns g c =
    let new = c.set_in.new.frames in
    record {
      sets = λ root page is_root is_page row at. (let R : FrameTable → Type 0 = λ x. IsRoot (top_level g.M.Levels.mode) x root in let T : FrameTable → Type 0 = λ x. IsTableOf x (top_level g.M.Levels.mode) root (page / 512) c.args.table.0 in let S : FrameTable → Type 0 = λ x. SetsEntry x new (top_level g.M.Levels.mode) root page (number_of c.args.entry) in subst S c.memory.view_is (c.set_in.ensures.sets (top_level g.M.Levels.mode) root page (subst R (sym c.memory.view_is) is_root) is_page (subst T (sym c.memory.view_is) row) at));
      kept = search rules;
      sound = search rules;
    }

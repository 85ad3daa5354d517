use Rattle.ranges.proofs.{ClearedPages.{returned_any}, Forgotten.{frames_forgot, none_left_forgot, row_forgot}, Names.{◌+◌, ap, ◌∙◌, rules, frame_count, Picture, picture_of, attr_at}, NewRegions.{row_remapped}}
use Rattle.ranges.proofs.remapping.remap.Goals as goal

pub returns : goal.returns
returns g c =
    let first = c.args.core.now in
    let new : Picture g.M.Levels.mode = picture_of c.remap.new.self in
    let forgot = row_forgot first c.clear_row.new.core c.forget_row.new.core c.args.pid c.args.first c.args.pages c.clear_row.ensures c.forget_row.ensures c.requires.row.row in
    let bare = none_left_forgot first c.clear_row.new.core c.forget_row.new.core c.args.pid c.args.first c.args.pages c.clear_row.ensures c.forget_row.ensures in
    let done = row_remapped (picture_of first) (picture_of c.forget_row.new.core) new c.args.pid c.args.first c.args.pages (attr_at c.args.regions.now) forgot c.remap.ensures.remaps c.remap.ensures.at c.requires.others
    bare c.requires.user c.requires.readable c.requires.objects in
    let tables = returned_any (picture_of first) new c.args.pid c.args.first (c.args.first + c.args.pages) done.returned in
    let frames = ap frame_count c.remap.ensures.rest.frames
    ∙ frames_forgot first c.clear_row.new.core c.forget_row.new.core c.args.pid c.args.first c.args.pages c.clear_row.ensures c.forget_row.ensures in
    search rules

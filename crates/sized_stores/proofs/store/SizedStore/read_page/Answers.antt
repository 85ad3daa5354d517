use Rattle.std.proofs.Common.{List, ap, slice_get, ◌∙◌}
use Rattle.sized_stores.specs.Reading.{bytes_left}
use Rattle.sized_stores.specs.declared.sizes.Size.{Size}
use Rattle.sized_stores.proofs.LeftPages.{durably_inside, reads_failed, reads_left, reads_zeros}
use Rattle.sized_stores.proofs.store.SizedStore.read_page.Goals as goal

pub returns-then-left-eq0 : goal.returns-then-left-eq0
returns-then-left-eq0 g c =
    let is = c.bytes_left-left.ensures.left ∙ ap (λ (l : List Size). bytes_left (slice_get l c.args.page.file) c.args.page.page) c.deref.ensures.value in
    reads_zeros g.D.SectorDisk c.args.self.now c.requires.ready c.args.page c.bytes_left-left.result tt is c.if-left-eq0.true

pub read_page-requires-clause-inside : goal.read_page-requires-clause-inside
read_page-requires-clause-inside g c =
    let is = c.bytes_left-left.ensures.left ∙ ap (λ (l : List Size). bytes_left (slice_get l c.args.page.file) c.args.page.page) c.deref.ensures.value in
    durably_inside g.D.SectorDisk c.args.self.now c.requires.ready c.args.page c.bytes_left-left.result is c.if-left-eq0.false c.requires.inside

pub returns-in_err-read_page : goal.returns-in_err-read_page
returns-in_err-read_page g c =
    reads_failed g.D.SectorDisk c.args.self.now c.requires.ready c.args.page c.read_page.new.self c.read_page.new.to c.in_err-read_page.field-0.0 c.from_residual.result c.in_err-read_page.ensures
    c.from_residual.ensures.0

pub returns : goal.returns
returns g c =
    let is = c.bytes_left-left.ensures.left ∙ ap (λ (l : List Size). bytes_left (slice_get l c.args.page.file) c.args.page.page) c.deref.ensures.value in
    reads_left g.D.SectorDisk c.args.self.now c.requires.ready c.args.page c.bytes_left-left.result c.read_page.new.self c.read_page.new.to c.trim.new.page c.in_ok-read_page.field-0 is
    c.if-left-eq0.false c.requires.inside c.in_ok-read_page.ensures c.read_page.array_long c.trim.ensures

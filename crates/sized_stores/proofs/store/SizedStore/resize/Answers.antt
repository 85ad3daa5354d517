use Rattle.std.proofs.Common.{ℕ, ◌≡◌, ◌<◌, min, true, get_or, set, length, sym, ap, subst, ◌∙◌}
use Rattle.std.specs.Vec.{with_item}
use Rattle.std.proofs.lemmas.List.{get_or_read}
use Rattle.sized_stores.specs.Listing.{no_size}
use Rattle.sized_stores.specs.declared.sizes.Size.{Size}
use Rattle.sized_stores.proofs.Resized.{has_size, resizes_file}
use Rattle.sized_stores.proofs.store.SizedStore.resize.Goals as goal

pub returns : goal.returns
returns g c =
    let s = c.args.self.now in
    let file = c.args.file in
    let long = c.args.length in
    let there : file < length s.sizes.items = has_size g.D.SectorDisk s c.requires.ready file c.requires.can c.requires.there in
    let inside : c.from.result < length s.sizes.items = subst (λ (k : ℕ). k < length s.sizes.items) (sym c.from.ensures) there in
    let was : c.index-was.result.now ≡ get_or s.sizes.items file no_size =
    get_or_read s.sizes.items c.from.result c.index-was.result.now inside c.index-was.ensures no_size ∙ ap (λ (k : ℕ). get_or s.sizes.items k no_size) c.from.ensures in
    let short : c.min.result ≡ min (get_or s.sizes.items file no_size).shortest long = c.min.ensures ∙ ap (λ (z : Size). min z.shortest long) was in
    resizes_file g.D.SectorDisk s c.requires.ready file long (with_item s.sizes c.from-2.result (record { length = long; shortest = c.min.result; resized = true })) c.requires.can c.requires.there
    c.requires.length
    (ap (λ (k : ℕ). set s.sizes.items k (record { length = long; shortest = c.min.result; resized = true })) c.from-2.ensures
    ∙ ap (λ (n : ℕ). set s.sizes.items file (record { length = long; shortest = n; resized = true })) short)

use Rattle.{std.{proofs.{Common.{◌≡◌, ◌<◌, ◌≤◌, ◌+◌, ◌-◌, ℕ, List, [], Option, None, Some, IfSome, MatchOption, length, take, sym, subst, ◌∙◌, arith, append-nil, drop, length-take, length-drop, length-take-le}, KnownBytes.{Consumes-nil, Consumes-trans}}, specs.Io.KnownBytes.{Consumes, IsAtEnd}}}
use Rattle.{serving.specs.Serving.{ReadsLess}, runner.proofs.Bytes.{in_part}, disk_model.proofs.Pages.{length_put}}
use borrow.Rule.Slice.PartMut.{put_mid}
use Rattle.serving.proofs.reading.read_request.Goals as goal

-- the first bytes of a request were read, and no others
reads_less : (a b c : Option (List ℕ)) (bytes : List ℕ) (at : ℕ) → at < 72 → length bytes ≡ 72 → Consumes a b (take at bytes) → Consumes b c [] → ReadsLess a c
reads_less a b c bytes at short size front nothing =
    let inside : at ≤ length bytes = omega (arith, short, size) in
    let few : length (take at bytes) < 72 = omega (arith, short, length-take-le at bytes inside) in
    (take at bytes, few, subst (Consumes a c) (append-nil (take at bytes)) (Consumes-trans a b c (take at bytes) [] front nothing))

-- What a call of the reader gave: how many bytes, none where it was at its end.
abbrev Gives : Option ℕ → Option (List ℕ) → Option (List ℕ) → List ℕ → Type 0
Gives read b c input = MatchOption read (Consumes b c [] × IsAtEnd c) (λ n. Consumes b c (take n input))

-- the reader was at its end
ends_short : (a b c : Option (List ℕ)) (bytes input : List ℕ) (at : ℕ) (read : Option ℕ) → read ≡ None → at < 72 → length bytes ≡ 72 → Consumes a b (take at bytes)
    → MatchOption read (Consumes b c [] × IsAtEnd c) (λ n. Consumes b c (take n input)) → ReadsLess a c × IsAtEnd c
ends_short a b c bytes input at read is short size front gave =
    let end = subst (λ o. Gives o b c input) is gave in
    (reads_less a b c bytes at short size front end.0, end.1)

-- so many more were read
goes_on : (a b c : Option (List ℕ)) (bytes input : List ℕ) (at count : ℕ) (read : Option ℕ) → read ≡ Some count → at < 72 → length bytes ≡ 72 → IfSome read (λ n. n ≤ length input)
    → Consumes a b (take at bytes) → MatchOption read (Consumes b c [] × IsAtEnd c) (λ n. Consumes b c (take n input)) → Consumes a c (take (at + count) (put_mid at (72 - at) bytes input))
goes_on a b c bytes input at count read is short size bound front gave =
    let inside : at ≤ length bytes = omega (arith, short, size) in
    let within : count ≤ length input = subst (λ o. IfSome o (λ n. n ≤ length input)) is bound in
    let more : Consumes b c (take count input) = subst (λ o. Gives o b c input) is gave in
    subst (Consumes a c) (sym (in_part bytes input at (72 - at) count inside within)) (Consumes-trans a b c (take at bytes) (take count input) front more)

pub returns-in-Ok-None : goal.returns-in-Ok-None
returns-in-Ok-None g c =
    let before = c.loop-i.invariant in
    ends_short _ _ _ c.loop-i.bytes c.read_once.new.input c.loop-i.at c.in-Ok-None.field-0 c.in-Ok-None.field-0-is before.short before.size before.taken c.in-Ok-None.ensures.bytes

pub returns-in-Err : goal.returns-in-Err
returns-in-Err g c = let before = c.loop-i.invariant in reads_less _ _ _ c.loop-i.bytes c.loop-i.at before.short before.size before.taken c.in-Err.ensures.bytes

pub returns : goal.returns
returns g c = let before = c.loop-i.invariant in reads_less _ _ _ c.loop-i.bytes c.loop-i.at before.short before.size before.taken (Consumes-nil _)

pub loop-i-preserved : goal.loop-i-preserved
loop-i-preserved g c =
    let before = c.loop-i.invariant in
    let part : length (take (72 - c.loop-i.at) (drop c.loop-i.at c.loop-i.bytes)) ≡ 72 - c.loop-i.at = simp (length-take, length-drop) (omega (arith, before.short, before.size)) in
    let room : length c.read_once.new.input ≡ 72 - c.loop-i.at = c.read_once.auto.input ∙ part in
    record {
      short = omega (arith, c.if-at-ge-REQUEST_BYTES.false);
      size = length_put c.loop-i.bytes c.read_once.new.input c.loop-i.at (72 - c.loop-i.at) (omega (arith, before.short, before.size)) room ∙ before.size;
      taken = goes_on _ _ _ c.loop-i.bytes c.read_once.new.input c.loop-i.at c.in-Ok-Some.count c.in-Ok-Some.field-0 c.in-Ok-Some.field-0-is before.short before.size c.in-Ok-Some.ensures.bound before.taken
          c.in-Ok-Some.ensures.bytes;
    }

use Rattle.file_store.proofs.{Encoded.{renewed, entry_before, entry_here, zeros_behind, zero_entry, no_file}, Entries.{entry_in-inside}, Names.{◌≡◌, ℕ, ◌+◌, ◌-◌, ◌*◌, ◌<◌, ◌≤◌, ⊎_elim, length, take, drop, refl, sym, ap, subst, ◌∙◌, arith}}
use Rattle.file_store.proofs.{Names.{cases_eq, cases_lt, take_all, get_or-drop, slice_get_read, length_put, FileInfo}, NewStores.{first_home-rest, entry_written}, Pieces.{length_mid, get_or-zeros}, Totals.{total_pages-rest}}
use Rattle.{file_store.specs.{Directory.{decoded, entry_bytes}, Format.{info_of, first_home, entry_given}}, std.proofs.lemmas.List.{length-drop}}
use Rattle.file_store.proofs.sources.directory_of.Goals as goal

pub loop-f-init : goal.loop-f-init
loop-f-init g c = record { size = refl; rest = omega arith; entries = λ n less. absurd (omega (arith, less)); zeros = λ i behind. get_or-zeros 512 i }

pub loop-f-preserved : goal.loop-f-preserved
loop-f-preserved g c =
    let inv = c.loop-f.invariant in
    let sources = c.args.sources.now in
    let f = c.loop-f.f in
    let sector = c.loop-f.directory in
    let bytes = c.encode.new.bytes in
    let few : f < 64 = omega (arith, c.loop-f-test.true, c.requires.files) in
    let e = total_pages-rest sources f c.index-sources-f.result c.loop-f-test.true c.index-sources-f.is in
    let within : length bytes ≡ 512 - 8 * f = c.encode.ensures.length ∙ length_mid (8 * f) (512 - 8 * f) sector (omega (arith, inv.size, few)) in
    let whole : take (512 - 8 * f) (drop (8 * f) sector) ≡ drop (8 * f) sector = take_all (512 - 8 * f) (drop (8 * f) sector) (omega (arith, length-drop (8 * f) sector, inv.size)) in
    let others = c.encode.ensures.others ∙ ap (drop 8) whole in
    let at = slice_get_read sources (length sources) f c.index-sources-f.result refl c.loop-f-test.true c.index-sources-f.is in
    let first : c.loop-f.first ≡ first_home sources f = let split = first_home-rest sources f in omega (arith, split, inv.rest) in
    record {
      size = length_put sector bytes (8 * f) (512 - 8 * f) (omega (arith, inv.size, few)) within ∙ inv.size;
      rest = omega (arith, e, inv.rest, c.pages-first.ensures.count);
      entries = λ n less. ⊎_elim
          (λ same.
          let locked = c.index-sources-f.result.read_only in let info : FileInfo = record { length = c.from.result; read_only = locked } in
          let info_is : info ≡ info_of c.index-sources-f.result = ap (λ n. record { length = n; read_only = locked }) c.from.ensures in
          let written = entry_written sources f c.loop-f.first info c.index-sources-f.result at first info_is in
          let read : decoded (entry_bytes (renewed f sector bytes inv.size few within others) f) ≡ entry_given sources f = entry_here f sector bytes inv.size few within others ∙ c.encode.ensures.entry ∙ written in
          subst (λ k. decoded (entry_bytes (renewed f sector bytes inv.size few within others) k) ≡ entry_given sources k) (sym same) read)
          (λ other. entry_before f sector bytes inv.size few within others n (omega (arith, less, other)) ∙ inv.entries n (omega (arith, less, other)))
          (cases_eq n f);
      zeros = zeros_behind f sector bytes inv.size few within others inv.zeros;
    }

pub returns : goal.returns
returns g c =
    let sources = c.args.sources.now in
    let sector = c.loop-f.directory in
    let inv = c.loop-f.invariant in
    let zero = λ (f : ℕ) (past : length sources ≤ f). zero_entry (entry_bytes sector f)
    (λ i below. get_or-drop (8 * f) sector i 0 ∙ inv.zeros (8 * f + i) (omega (arith, past, c.loop-f.auto.f-end))) in
    record {
      entries = λ f. ⊎_elim
          (λ inside. entry_in-inside sector f (omega (arith, inside, c.requires.files)) ∙ inv.entries f (omega (arith, inside, c.loop-f-test.false)))
          (λ past. no_file sources sector f past (zero f past))
          (cases_lt f (length sources));
      rest = λ f below past. zero f past;
    }

use Rattle.file_store.proofs.Names.{◌≡◌, ℕ, ◌++◌, List, [], length, drop, length-take, sym, ap, ◌∙◌, arith, rules, same_Some}
use Rattle.file_store.{specs.{Layout.{bytes_inside, padded_page}, Format.{told_by, reader_tells}}, proofs.Filled.{trimmed_front, trimmed_nothing, trimmed_is, is_read, left_is}}
use Rattle.file_store.proofs.sources.FileSource.read_page.Goals as goal

pub returns-in_default-clause-told : goal.returns-in_default-clause-told
returns-in_default-clause-told g c =
    let inside = bytes_inside c.args.self.now.length c.args.k in
    record {
      zeros = trimmed_is inside c.args.page.now [] (omega arith) (c.requires.zeros ∙ trimmed_nothing inside);
      page = λ told is.
          let nothing : [] ≡ told = same_Some [] told (ap (told_by g.R.Read.remaining) (sym c.in_default.is) ∙ is) in
          c.requires.zeros ∙ trimmed_nothing inside ∙ ap (padded_page inside) nothing;
      rest = search rules;
      tells = search rules;
    }

pub returns-in-Ok-clause-told : goal.returns-in-Ok-clause-told
returns-in-Ok-clause-told g c =
    let n = bytes_inside c.args.self.now.length c.args.k in
    let given = c.read_exact.new.buf in
    let inside : c.min-inside.result ≡ n = omega (arith, c.min-inside.ensures, c.saturating_sub.ensures, c.from.ensures) in
    let size : length given ≡ n = c.read_exact.auto.buf ∙ length-take c.min-inside.result c.args.page.now ∙ omega (arith, inside, c.told-page) in
    let page = ap (λ n. given ++ drop n c.args.page.now) inside ∙ ap (λ (page : List ℕ). given ++ drop n page) c.requires.zeros in
    record {
      zeros = trimmed_is n (given ++ drop c.min-inside.result c.args.page.now) (given ++ []) (omega arith) (page ∙ trimmed_front n given [] size (omega arith));
      page = λ told is.
          let read = is_read (g.R.Read.remaining c.in-Some.reader) (g.R.Read.remaining c.read_exact.new.self) told given
          (ap (told_by g.R.Read.remaining) (sym c.in-Some.is) ∙ is) c.in-Ok.ensures.bytes in
          page ∙ trimmed_front n given read.rest size (omega arith) ∙ ap (padded_page n) (sym read.whole);
      rest = λ told is. (left_is n told given (g.R.Read.remaining c.read_exact.new.self) size
          (is_read (g.R.Read.remaining c.in-Some.reader) (g.R.Read.remaining c.read_exact.new.self) told given (ap (told_by g.R.Read.remaining) (sym c.in-Some.is) ∙ is) c.in-Ok.ensures.bytes)).1;
      tells = λ told is. left_is n told given (g.R.Read.remaining c.read_exact.new.self) size
          (is_read (g.R.Read.remaining c.in-Some.reader) (g.R.Read.remaining c.read_exact.new.self) told given (ap (reader_tells g.R.Read.remaining) (sym c.in-Some.is) ∙ is) c.in-Ok.ensures.bytes);
    }

pub returns-in-Err-clause-told : goal.returns-in-Err-clause-told
returns-in-Err-clause-told g c = tt

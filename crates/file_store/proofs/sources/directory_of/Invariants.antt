use Rattle.file_store.{proofs.Names.{◌≡◌, ◌+◌, ◌*◌, ◌<◌, ◌≤◌, ℕ, drop, length, get_or}, specs.{Directory.{decoded, entry_bytes}, Format.{total_pages, entry_given}}}
use Rattle.file_store.proofs.sources.directory_of.Given as goal

abbrev pub invariant-loop-f : goal.invariant-loop-f
invariant-loop-f g l = record {
  size : length l.directory ≡ 512;
  rest : l.first + total_pages (drop l.f l.sources) ≡ total_pages l.sources;
  entries : (n : ℕ) → n < l.f → decoded (entry_bytes l.directory n) ≡ entry_given l.sources n;
  zeros : (i : ℕ) → 8 * l.f ≤ i → get_or l.directory i 0 ≡ 0;
}

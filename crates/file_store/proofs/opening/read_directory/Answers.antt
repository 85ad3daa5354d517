use Rattle.file_store.proofs.Names.{◌≡◌, ℕ, List, ap, subst, ◌∙◌, rules, once_named}
use Rattle.file_store.{specs.{Versions.{home_pages_of, directory_of}, Directory.{IsBadDirectory, IsSoundDirectory, AreGood}, Store.{entry_of}}, proofs.Entries.{good_is_sound}}
use Rattle.file_store.proofs.opening.read_directory.Goals as goal

pub returns-in_err-directory-clause-looks : goal.returns-in_err-directory-clause-looks
returns-in_err-directory-clause-looks g c =
    let homes : c.home_count.result ≡ home_pages_of c.args.version (g.D.SectorDisk.sector_count c.args.disk.now) =
    c.home_count.ensures ∙ ap (home_pages_of c.args.version) (c.sectors.ensures ∙ c.read.ensures.size) in
    record {
      looks = search rules;
      bad = λ k _.
          let sector : c.read.new.to ≡ g.D.SectorDisk.content c.args.disk.now (directory_of c.args.version) =
          c.in_ok-read.ensures.gives k ∙ ap (λ (n : ℕ). g.D.SectorDisk.content c.args.disk.now n) c.directory_sector.ensures.is in
          subst (λ (s : List ℕ). IsBadDirectory (home_pages_of c.args.version (g.D.SectorDisk.sector_count c.args.disk.now)) s) sector
          (subst (λ (n : ℕ). IsBadDirectory n c.read.new.to) homes c.in_err-directory.ensures.bad);
      no_journal = search rules;
    }

pub returns-clause-found : goal.returns-clause-found
returns-clause-found g c =
    let homes : c.home_count.result ≡ home_pages_of c.args.version (g.D.SectorDisk.sector_count c.args.disk.now) =
    c.home_count.ensures ∙ ap (home_pages_of c.args.version) (c.sectors.ensures ∙ c.read.ensures.size) in
    record {
      sound = subst (λ (n : ℕ). IsSoundDirectory n (entry_of c.in_ok-directory.directory)) homes
          (good_is_sound c.home_count.result c.read.new.to (entry_of c.in_ok-directory.directory) c.in_ok-directory.ensures.good c.in_ok-directory.ensures.entries);
      entries = search rules;
      sector = search rules;
    }

pub returns-clause-good : goal.returns-clause-good
returns-clause-good g c = λ k.
    let homes : c.home_count.result ≡ home_pages_of c.args.version (g.D.SectorDisk.sector_count c.args.disk.now) =
    c.home_count.ensures ∙ ap (home_pages_of c.args.version) (c.sectors.ensures ∙ c.read.ensures.size) in
    let sector : c.read.new.to ≡ g.D.SectorDisk.content c.args.disk.now (directory_of c.args.version) =
    c.in_ok-read.ensures.gives k ∙ ap (λ (n : ℕ). g.D.SectorDisk.content c.args.disk.now n) c.directory_sector.ensures.is in
    subst (λ (s : List ℕ). AreGood (home_pages_of c.args.version (g.D.SectorDisk.sector_count c.args.disk.now)) s 64) sector
    (subst (λ (n : ℕ). AreGood n c.read.new.to 64) homes c.in_ok-directory.ensures.good)

pub returns-in_err-read-clause-once : goal.returns-in_err-read-clause-once
returns-in_err-read-clause-once g c = once_named (λ s. s ≡ directory_of c.args.version) (λ s. s ≡ c.directory_sector.result) _ _ (λ s at. at ∙ c.directory_sector.ensures.is) c.read.ensures.asks

pub returns-in_err-directory-clause-once : goal.returns-in_err-directory-clause-once
returns-in_err-directory-clause-once g c = once_named (λ s. s ≡ directory_of c.args.version) (λ s. s ≡ c.directory_sector.result) _ _ (λ s at. at ∙ c.directory_sector.ensures.is) c.read.ensures.asks

pub returns-clause-once : goal.returns-clause-once
returns-clause-once g c = once_named (λ s. s ≡ directory_of c.args.version) (λ s. s ≡ c.directory_sector.result) _ _ (λ s at. at ∙ c.directory_sector.ensures.is) c.read.ensures.asks

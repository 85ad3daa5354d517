use Rattle.{std.proofs.{Common.{◌≡◌, ◌++◌, ℕ, List, [], Some, None, sym, ap, ◌∙◌}, lemmas.List.{append-nil, append_assoc}}, std.specs.Option.{unwrap_or}, stores.specs.{Images.{file_info, standing_file}, Store.{disk_of, files_of}}, stop_trials.{proofs.Contents.{known_file, known_length, no_file}, specs.Standing.{length_bytes}}}
use Rattle.stop_trials.proofs.recovery.add_file.Goals as goal

pub returns-in_default-clause-added : goal.returns-in_default-clause-added
returns-in_default-clause-added g c = λ keeps.
    let store = c.args.store.now in
    let items = c.args.bytes.now.items in
    let none : files_of store c.args.file ≡ None = ap (files_of store) (sym c.from.ensures) ∙ sym c.info.ensures.info ∙ c.in_default.is in
    sym (ap (λ (s : List ℕ). items ++ s) (no_file g.D.SectorDisk store c.args.file c.requires keeps none) ∙ append-nil items)

pub returns-in-Ok-clause-added : goal.returns-in-Ok-clause-added
returns-in-Ok-clause-added g c = λ keeps.
    let e = c.in-Ok.ensures in
    let store = c.args.store.now in
    let items = c.args.bytes.now.items in
    let sectors = g.D.SectorDisk.sector_count (disk_of store) in
    let image = g.D.SectorDisk.content (disk_of store) in
    let known : files_of store c.args.file ≡ Some c.in-Some.info = ap (files_of store) (sym c.from.ensures) ∙ sym c.info.ensures.info ∙ c.in-Some.is in
    let rest : List ℕ = unwrap_or (standing_file sectors image c.args.file) [] in
    let was = e.reads.kept keeps in
    let length : items ++ c.to_le_bytes.result ≡ items ++ length_bytes (file_info sectors image c.args.file) =
    ap (λ (s : List ℕ). items ++ s) (c.to_le_bytes.ensures ∙ sym (known_length g.D.SectorDisk store c.args.file c.in-Some.info c.requires was known)) in
    e.written keeps _ (known_file g.D.SectorDisk store c.args.file c.in-Some.info c.requires was known)
    ∙ ap (λ (s : List ℕ). s ++ rest) (c.in_ok-extend_from_slice.ensures.items ∙ length)
    ∙ append_assoc items (length_bytes (file_info sectors image c.args.file)) rest

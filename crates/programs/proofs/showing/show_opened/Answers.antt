use Rattle.programs.proofs.showing.show_opened.Goals as goal

pub returns-clause-reads : goal.returns-clause-reads
returns-clause-reads g c = c.copy_file.ensures.reads

pub returns-in_err-copy_file-clause-reads : goal.returns-in_err-copy_file-clause-reads
returns-in_err-copy_file-clause-reads g c = c.copy_file.ensures.reads

use Rattle.lives.proofs.Agreeing.{same_files, same_pages}
use Rattle.lives.proofs.laws.one_content.Goals as goal

pub returns-clause-files : goal.returns-clause-files
returns-clause-files g = same_files

pub returns-clause-pages : goal.returns-clause-pages
returns-clause-pages g = same_pages

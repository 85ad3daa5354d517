use Rattle.file_store.{proofs.Names.{sym, ap, Version}, specs.{Layout.{mark, mark_1, mark_3}, Versions.{mark_of}}}
use Rattle.file_store.proofs.version.mark_bytes.Goals as goal

pub returns-in-One : goal.returns-in-One
unfolding mark_1
returns-in-One c = sym (ap (λ (v : Version). mark_of v) c.in-One.is)

pub returns-in-Two : goal.returns-in-Two
unfolding mark
returns-in-Two c = sym (ap (λ (v : Version). mark_of v) c.in-Two.is)

pub returns-in-Three : goal.returns-in-Three
unfolding mark_3
returns-in-Three c = sym (ap (λ (v : Version). mark_of v) c.in-Three.is)

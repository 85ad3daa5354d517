use Rattle.memory.proofs.{Names.{refl, with_bytes, with_bytes-others}, Keeping.{data_leaf, kept_data}, Noting.{data_back, noted_data}}
use Rattle.memory.proofs.laws.hardware_write.Goals as goal

pub returns-clause-lines : goal.returns-clause-lines
returns-clause-lines c mode t n bytes buffer other kept =
    kept_data mode t (with_bytes t n bytes) n buffer buffer (λ r p e at. (at, other)) (λ same. data_leaf t (with_bytes t n bytes) n (with_bytes-others t n bytes) same same mode) kept

pub returns-clause-notes : goal.returns-clause-notes
returns-clause-notes c mode t n bytes notes other noted =
    let others = with_bytes-others t n bytes in
    noted_data mode t (with_bytes t n bytes) n notes notes others.frames refl (λ whole. (whole, other)) (λ same. data_back t (with_bytes t n bytes) n others same same mode) noted

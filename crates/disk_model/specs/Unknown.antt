-- Bytes of which nothing can be proved: the definition does not unfold outside this file.
use Rattle.std.specs.Prelude.{[]}
use Rattle.disk_model.specs.Stop.{Image}

pub unknown_bytes : Image
unknown_bytes k = []

use Rattle.page_cache.specs.CacheTable.{cache_frames}
use Rattle.residency.specs.Picture.{picture_of}
use Rattle.truncation.{proofs.Forgot.{IsGoneBelow}, specs.Steps.{ForgetsMore}}
use Rattle.truncation.proofs.forgetting.forget_past.Given as goal

abbrev pub invariant-loop-node : goal.invariant-loop-node
invariant-loop-node g l = record { more : ForgetsMore l.initial.core l.core l.file l.length; gone : IsGoneBelow l.file l.length (picture_of l.core) (cache_frames l.initial.core.cache) l.node }

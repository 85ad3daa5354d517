use Rattle.{std.{proofs.Common.{◌≡◌, ℕ, List, Option, Some, MatchOption, length, subst}, specs.Io.KnownBytes.{Consumes}}, disk_model.specs.declared.sector_disk.SectorDisk.{Ghosts}, machine.specs.declared.machine.Machine.{Machine}}
use Rattle.serving.specs.{Requests.{HoldsNumbers, request_of}, Serving.{ServesRequest, TakesRequest}, declared.{numbers.RequestNumbers.{RequestNumbers}, responses.Response.{Response}}}
use Rattle.serving.proofs.serving.serve_one.Goals as goal

-- what stands where a request was read, and else
abbrev Read : Type 0 → Option (List ℕ) → Option (List ℕ) → Option (List ℕ) → Type 0
Read P had left read = MatchOption read P (λ bytes. (length bytes ≡ 72) × Consumes had left bytes)

takes : {D E : Type 0} (P : Type 0) (g : Ghosts D) (h : Ghosts E) (old new : Machine D E) (had left : Option (List ℕ)) (response : Response) (bytes : List ℕ) (read : Option (List ℕ)) → read ≡ Some bytes
    → MatchOption read P (λ bytes. (length bytes ≡ 72) × Consumes had left bytes)
    → (numbers : RequestNumbers) × HoldsNumbers bytes numbers × ServesRequest g h old (request_of numbers) new response → TakesRequest g h old new had left response
takes P g h old new had left response bytes read is gave served =
    let whole = subst (Read P had left) is gave in
    record { bytes = bytes; size = whole.0; read = whole.1; numbers = served.0; holds = served.1; serves = served.2 }

pub returns-in-Ok-clause-serves : goal.returns-in-Ok-clause-serves
returns-in-Ok-clause-serves g c = record {
  response = c.respond.result;
  takes = takes _ _ _ _ _ _ _ _ c.in-Ok-Some.bytes c.in-Ok-Some.field-0 c.in-Ok-Some.field-0-is c.in-Ok-Some.ensures c.respond.ensures.serves;
  wrote = c.in-Ok.ensures;
}

pub returns-in-Err-write-clause-stops : goal.returns-in-Err-write-clause-stops
returns-in-Err-write-clause-stops g c = (
  c.respond.result,
  takes _ _ _ _ _ _ _ _ c.in-Ok-Some.bytes c.in-Ok-Some.field-0 c.in-Ok-Some.field-0-is c.in-Ok-Some.ensures c.respond.ensures.serves,
)

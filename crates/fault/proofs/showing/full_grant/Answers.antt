use Rattle.fault.proofs.Names.{◌≡◌, Bool, true, false, ◌&&◌, refl, sym, ◌∙◌}
use Rattle.fault.proofs.showing.full_grant.Goals as goal

and_when : (b x : Bool) → x ≡ true → b ≡ b && x
and_when true x e = sym e
and_when false x e = refl

pub returns-then-writable-clause-write : goal.returns-then-writable-clause-write
returns-then-writable-clause-write g c = rw (c.if-private.true, c.count.ensures) (and_when _ _ (sym c.is_writable-writable.ensures ∙ c.if-writable.true))

pub returns-then-writable-clause-dirty : goal.returns-then-writable-clause-dirty
returns-then-writable-clause-dirty g c = rw (c.if-private.true, c.count.ensures) (and_when _ _ (sym c.is_writable-writable.ensures ∙ c.if-writable.true))

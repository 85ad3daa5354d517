use Rattle.lifecycle.proofs.{Copies.{own_framed}, Names.{sym, ap, ◌∙◌, subst, frame_of, number_of, IsEntry, Entry, parked_frame}}
use Rattle.lifecycle.proofs.withdrawing.frame_of.Goals as goal

pub unreachable-requires : goal.unreachable-requires
unreachable-requires c = own_framed c.args.shared c.requires.form c.requires.own c.in-None.is

pub returns-in-Parked : goal.returns-in-Parked
returns-in-Parked c =
    sym (ap (λ x. frame_of (number_of x)) c.in-Parked.is ∙ parked_frame c.in-Parked.frame.0 c.in-Parked.field-1 (subst (λ (x : Entry). IsEntry x) c.in-Parked.is c.requires.form))

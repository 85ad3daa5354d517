use Rattle.{std.proofs.Common.{inl, refl}, vm_types.specs.{Replies.{reply_of}, declared.reply.Reply.TheVariants.{Past}}, machine.specs.Machine.{past_of}, trace_lang.specs.Texts.{text_of}}
use Rattle.runner.proofs.engine.answer.Goals as goal

pub returns-in-Some : goal.returns-in-Some
returns-in-Some g c =
    let e = c.in-Some.ensures in
    let reply = reply_of c.in-Some.answer in
    let is = c.in-Ok.ensures.found in record {
      sound = e.sound;
      answers = (text_of reply, inl (record { command = c.in-Ok.command; reply = reply; form = is; steps = e.meets; caused = e.does.caused; kept = e.keeps.kept; swap_kept = e.keeps.swap_kept; text_is = refl }), c.push_answer.ensures.text);
      room = c.push_answer.ensures.room;
    }

pub returns-in-None : goal.returns-in-None
returns-in-None g c =
    let e = c.in-None.ensures in
    let reply = Past (past_of c.carry_out.new.self) in
    let is = c.in-Ok.ensures.found in record {
      sound = e.sound;
      answers = (text_of reply, inl (record { command = c.in-Ok.command; reply = reply; form = is; steps = e.meets; caused = e.does.caused; kept = e.keeps.kept; swap_kept = e.keeps.swap_kept; text_is = refl }), c.answer_history.ensures.text);
      room = c.answer_history.ensures.room;
    }

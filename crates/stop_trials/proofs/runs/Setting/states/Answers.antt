use Rattle.{std.proofs.Common.{◌≤◌, ◌+◌, ◌<◌, ◌&&◌, ℕ, Bool, if◌then◌else◌, List, [], ◌∷◌, ◌++◌, length, refl, sym, ap, ◌∙◌, subst, add-zero, arith}, vm_types.specs.{Prefix.{is_msync, is_done}, declared.{command.Command.{Command}, reply.Reply.{Reply}}}}
use Rattle.stop_trials.{proofs.{Lines.{all_of_them, counted}, States.{AreFirstStates, first_state, state_more, state_same}}, specs.Runs.{acknowledged_by}}
use Rattle.disk_model.specs.contracts.sim_disk.SimDiskSectorDisk.TheImpl as Sim
use Rattle.stop_trials.proofs.runs.Setting.states.Goals as goal
use Rattle.stop_trials.proofs.runs.Setting.states.Goals.{then-acknowledges+in_ok-add_state-2, else-acknowledges}

pub loop-i-init : goal.loop-i-init
loop-i-init c =
    let first = c.in_ok-add_state.ensures in
    first_state Sim.ghosts c.args.self.now c.deref-reply-items.result.now c.add_state.new.states.items first.0 (first.1 ∙ ap (λ items. items ++ first.0 ∷ []) c.new-states.ensures.items) first.2

pub loop-i-preserved : goal.loop-i-preserved
loop-i-preserved c =
    let setting = c.args.self.now in
    let replies = c.deref-reply-items.result.now in
    let i = c.loop-i.i in
    let there = c.loop-i-test.true in
    let lengths = c.in_ok-whole.ensures.lengths in
    let long = ap (λ (rs : List Reply). length rs) c.deref-reply-items.ensures.value in
    let here : i < length setting.commands.now = omega (arith, there, long, lengths) in
    let told = c.acknowledges.ensures ∙ ap (λ (k : Command). is_msync k && is_done c.reply-item.result) (sym c.index-self-i.is) in
    let now : ℕ = acknowledged_by setting replies i in
    let next = λ (after : ℕ). counted setting.commands.now replies i c.index-self-i.result c.reply-item.result c.acknowledges.result now after here there c.index-self-i.is c.reply-item.is told refl in
    elim c.if-acknowledges.branch [
      | then-acknowledges+in_ok-add_state-2 w ↦
          let more = w.in_ok-add_state-2.ensures in
          state_more Sim.ghosts setting replies i c.loop-i.states.items c.if-acknowledges.states.items more.0 c.loop-i.invariant
          (next (now + 1) (ap (λ (b : Bool). now + (if b then 1 else 0)) (sym w.if-acknowledges.true))) (ap (λ v. v.items) w.states-is ∙ more.1) more.2
      | else-acknowledges w ↦
          state_same Sim.ghosts setting replies i c.loop-i.states.items c.if-acknowledges.states.items c.loop-i.invariant
          (next now (sym (add-zero now) ∙ ap (λ (b : Bool). now + (if b then 1 else 0)) (sym w.if-acknowledges.false))) (ap (λ v. v.items) w.states-is)
    ]

pub returns : goal.returns
returns c =
    let setting = c.args.self.now in
    let ran = c.in_ok-whole.whole in
    let replies = ran.replies.items in
    let value = c.deref-reply-items.ensures.value in
    let i = c.loop-i.i in
    let first = subst (λ (rs : List Reply). AreFirstStates Sim.ghosts setting rs i c.loop-i.states.items) value c.loop-i.invariant in
    let over = c.loop-i-test.false in
    let long = ap (λ (rs : List Reply). length rs) value in
    let all : length replies ≤ i = omega (arith, over, long) in
    record {
      replies = replies;
      device = ran.device;
      ran = c.in_ok-whole.ensures.is;
      count = first.count ∙ ap (λ (n : ℕ). n + 1) (all_of_them setting.commands.now replies i all);
      each = first.each;
    }

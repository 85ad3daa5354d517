-- The prefixes of the msyncs, command after command.
use Rattle.machine.proofs.Names.{ℕ, zero, suc, ◌+◌, ◌≡◌, ◌≤◌, ◌⊎◌, inl, inr, ⊎_elim, Option, subst, Bool, true, false, if◌then◌else◌, List, [], ◌∷◌, Some, None, refl, sym, ap, ◌∙◌, arith, add-one, add-zero, Command, Msync, EIO, Reply, Refused, Halted, Ruling}
use Rattle.machine.proofs.Names.{Takes, msync_ruling, Event, is_msync, is_done, may_have_taken, after_event, after_msyncs, this_or_further, acknowledged, IsPrefixHolding, Step, Answers, Fails, Lacks, Stalls, Stays, Causes, State, IsRunning}
use Rattle.machine.{proofs.{Names.{outcome, msync_outcome, ruling, takes, commits, Contents}, Steps.{outcome_keeps, commit_takes}}, specs.{Chain.{event}, Engine.{HoldsIn, IsOneOf, stands_in}}}

pub step_most : (causes : Causes) (s : State) (command : Command) (reply : Reply) (t : State) → Step causes s command reply t → t.most ≡ s.most
step_most causes s command reply t (Answers run r e) = ap (λ (x : State). x.most) e ∙ (outcome_keeps s command).most
step_most causes s command reply t (Fails after run c cause r e) = ap (λ (x : State). x.most) e
step_most causes s command reply t (Lacks run lengths cause r e) = ap (λ (x : State). x.most) e
step_most causes s command reply t (Stalls stall run may r e) = ap (λ (x : State). x.most) e
step_most causes s command reply t (Stays ends is r e) = ap (λ (x : State). x.most) e

either_way : (b : Bool) (d : Contents) → (if b then d else d) ≡ d
either_way true d = refl
either_way false d = refl

-- what a command that returned made durable is what its event says
msync_event : (s : State) (r : Ruling) (reply : Reply) (d : Contents) → reply ≡ (msync_outcome s r).reply → (if may_have_taken reply then takes s r d else d) ≡ takes s r d
msync_event s (Takes pid first count) reply d e = rw e refl
msync_event s r reply d e = either_way (may_have_taken reply) d

answered_event : (s : State) (command : Command) (reply : Reply) (d : Contents) → reply ≡ (outcome s command).reply → after_event (event s command reply) d ≡ takes s (ruling s command) d
answered_event s (Msync pid addr len mode) reply d e = msync_event s (msync_ruling s pid addr len mode) reply d e
answered_event s command reply d e = either_way (may_have_taken reply) d

-- The commit of the command failed: what it leaves is before it or after it.
record Failed (s : State) (command : Command) (reply : Reply) (t : State) : Type 0 where
  after : Contents
  commit : commits s command ≡ Some after
  answer : reply ≡ Refused EIO
  ends : t.ends ≡ Some (s.durable ∷ after ∷ [])

-- a step from a running state goes on running, or fails
goes_on_or_fails : (causes : Causes) (s : State) (command : Command) (reply : Reply) (t : State) → Step causes s command reply t → IsRunning s
    → (IsRunning t × (t.durable ≡ after_event (event s command reply) s.durable)) ⊎ Failed s command reply t
goes_on_or_fails causes s command reply t (Answers run r e) h =
    let kept = outcome_keeps s command in
    inl (ap (λ (x : State). x.ends) e ∙ kept.ends ∙ h, ap (λ (x : State). x.durable) e ∙ kept.durable_is ∙ sym (answered_event s command reply s.durable r))
goes_on_or_fails causes s command reply t (Fails after run c cause r e) h = inr (record { after = after; commit = c; answer = r; ends = ap (λ (x : State). x.ends) e })
goes_on_or_fails causes s command reply t (Lacks run lengths cause r e) h =
    inl (ap (λ (x : State). x.ends) e ∙ h, ap (λ (x : State). x.durable) e ∙ sym (ap (λ (p : Reply). after_event (event s command p) s.durable) r))
goes_on_or_fails causes s command reply t (Stalls stall run may r e) h =
    inl (ap (λ (x : State). x.ends) e ∙ h, ap (λ (x : State). x.durable) e ∙ sym (ap (λ (p : Reply). after_event (event s command p) s.durable) r))
goes_on_or_fails causes s command reply t (Stays ends is r e) h = absurd (let k : Some ends ≡ None = sym is ∙ h in cc)

-- a step from a halted state does nothing
pub halted_stays : (causes : Causes) (s : State) (command : Command) (reply : Reply) (t : State) (ends : List Contents) → Step causes s command reply t → s.ends ≡ Some ends
    → (reply ≡ Halted) × (t ≡ s)
halted_stays causes s command reply t ends (Answers run r e) h = absurd (let k : Some ends ≡ None = sym h ∙ run in cc)
halted_stays causes s command reply t ends (Fails after run c cause r e) h = absurd (let k : Some ends ≡ None = sym h ∙ run in cc)
halted_stays causes s command reply t ends (Lacks run lengths cause r e) h = absurd (let k : Some ends ≡ None = sym h ∙ run in cc)
halted_stays causes s command reply t ends (Stalls stall run may r e) h = absurd (let k : Some ends ≡ None = sym h ∙ run in cc)
halted_stays causes s command reply t ends (Stays others is r e) h = (r, e)

-- what a failed commit may leave is what its event says
failed_event : (s : State) (command : Command) (reply : Reply) (t : State) (f : Failed s command reply t) → f.after ≡ after_event (event s command reply) s.durable
failed_event s command reply t f = commit_takes s (ruling s command) f.after f.commit ∙ sym (ap (λ (p : Reply). after_event (event s command p) s.durable) f.answer)

-- prefixes
weight : Command → ℕ
weight command = if is_msync command then 1 else 0

pub after_zero : (d : Contents) (events : List Event) → after_msyncs d events 0 ≡ d
after_zero d [] = refl
after_zero d (e ∷ es) = refl

not_msync : (s : State) (command : Command) (reply : Reply) (d : Contents) → is_msync command ≡ false → after_event (event s command reply) d ≡ d
not_msync s (Msync pid addr len mode) reply d e = cc
not_msync s command reply d e = either_way (may_have_taken reply) d

-- one more msync in front
one_more : (s : State) (command : Command) (reply : Reply) (d : Contents) (events : List Event) (i : ℕ)
    → after_msyncs (after_event (event s command reply) d) events i ≡ after_msyncs d (event s command reply ∷ events) (i + weight command)
unfolding weight
one_more s command reply d events i =
    elim (is_msync command) as (λ (b : Bool). is_msync command ≡ b
    → after_msyncs (after_event (event s command reply) d) events i ≡ after_msyncs d (event s command reply ∷ events) (i + (if b then 1 else 0))) [
      | true ↦ λ e. rw add-one (rw e refl)
      | false ↦ λ e. rw add-zero (elim i as (λ (j : ℕ). after_msyncs (after_event (event s command reply) d) events j ≡ after_msyncs d (event s command reply ∷ events) j) [
        | zero ↦ after_zero _ events ∙ not_msync s command reply d e
        | suc j ↦ ap (λ (x : Contents). after_msyncs x events (suc j)) (not_msync s command reply d e) ∙ rw e refl
      ])
    ] refl

further : (e : Event) (a i : ℕ) → a ≤ i → this_or_further e a ≤ i + 1
further e zero i h = elim (is_done e.reply) as (λ (b : Bool). (if b then 1 else 0) ≤ i + 1) [ true ↦ omega arith | false ↦ omega arith ]
further e (suc a) i h = omega arith

more_acknowledged : (s : State) (command : Command) (reply : Reply) (events : List Event) (k i : ℕ) → acknowledged events k ≤ i
    → acknowledged (event s command reply ∷ events) (suc k) ≤ i + weight command
unfolding weight
more_acknowledged s command reply events k i h =
    elim (is_msync command) as (λ (b : Bool). (if b then this_or_further (event s command reply) (acknowledged events k) else acknowledged events k) ≤ i + (if b then 1 else 0)) [
      | true ↦ further (event s command reply) (acknowledged events k) i h
      | false ↦ omega arith
    ]

pub none_acknowledged : (events : List Event) → acknowledged events 0 ≡ 0
none_acknowledged [] = refl
none_acknowledged (e ∷ es) = refl

prefix_here : (d : Contents) (events : List Event) (contents : Contents) → contents ≡ d → IsPrefixHolding d events 0 contents
prefix_here d events contents e = record { i = 0; holds = omega (arith, none_acknowledged events); same = e ∙ sym (after_zero d events) }

prefix_more : (s : State) (command : Command) (reply : Reply) (d : Contents) (events : List Event) (k : ℕ) (contents : Contents)
    → IsPrefixHolding (after_event (event s command reply) d) events k contents → IsPrefixHolding d (event s command reply ∷ events) (suc k) contents
prefix_more s command reply d events k contents p = record {
  i = p.i + weight command;
  holds = more_acknowledged s command reply events k p.i p.holds;
  same = p.same ∙ one_more s command reply d events p.i;
}

prefix_from_start : (d : Contents) (events : List Event) (k : ℕ) (contents : Contents) → IsPrefixHolding d events k contents → IsPrefixHolding d events 0 contents
prefix_from_start d events k contents p = record { i = p.i; holds = omega (arith, none_acknowledged events); same = p.same }

-- what stands at a moment of a command
prefix_during : (s : State) (command : Command) (reply : Reply) (d : Contents) (events : List Event) (contents : Contents)
    → contents ≡ after_event (event s command reply) d → IsPrefixHolding d (event s command reply ∷ events) 0 contents
prefix_during s command reply d events contents e =
    prefix_from_start d (event s command reply ∷ events) 1 contents (prefix_more s command reply d events 0 contents (prefix_here (after_event (event s command reply) d) events contents e))

-- after a failed commit nothing is acknowledged
failed_before : (s : State) (command : Command) (reply : Reply) (events : List Event) (k : ℕ) (contents : Contents) → reply ≡ Refused EIO → acknowledged events k ≡ 0
    → contents ≡ s.durable → IsPrefixHolding s.durable (event s command reply ∷ events) (suc k) contents
failed_before s command reply events k contents r none e = record {
  i = 0;
  holds = elim (is_msync command) as (λ (b : Bool). (if b then this_or_further (event s command reply) (acknowledged events k) else acknowledged events k) ≤ 0) [
    | true ↦ rw none (rw r (omega arith))
    | false ↦ omega (arith, none)
  ];
  same = e;
}

failed_after : (s : State) (command : Command) (reply : Reply) (events : List Event) (k : ℕ) (contents : Contents) → acknowledged events k ≡ 0
    → contents ≡ after_event (event s command reply) s.durable → IsPrefixHolding s.durable (event s command reply ∷ events) (suc k) contents
failed_after s command reply events k contents none e =
    prefix_more s command reply s.durable events k contents (record { i = 0; holds = omega (arith, none); same = e ∙ sym (after_zero _ events) })

pub halted_event : (s : State) (command : Command) (reply : Reply) (events : List Event) (k : ℕ) → reply ≡ Halted → acknowledged events k ≡ 0
    → acknowledged (event s command reply ∷ events) (suc k) ≡ 0
halted_event s command reply events k r none =
    elim (is_msync command) as (λ (b : Bool). (if b then this_or_further (event s command reply) (acknowledged events k) else acknowledged events k) ≡ 0) [
      | true ↦ rw none (rw r refl)
      | false ↦ none
    ]

-- what a stop may leave from a state on: what some of the msyncs left, or once it has halted one of its ends
abbrev pub left_in : Option (List Contents) → Contents → List Event → ℕ → Contents → Type 0
left_in None durable events k contents = IsPrefixHolding durable events k contents
left_in (Some ends) durable events k contents = IsOneOf contents ends

pub left_here : (o : Option (List Contents)) (d : Contents) (events : List Event) (contents : Contents) → stands_in o d contents → left_in o d events 0 contents
left_here None d events contents e = prefix_here d events contents e
left_here (Some ends) d events contents one = one

pub left_first : (o : Option (List Contents)) (d : Contents) (events : List Event) (k : ℕ) (contents : Contents) → left_in o d events k contents → left_in o d events 0 contents
left_first None d events k contents p = prefix_from_start d events k contents p
left_first (Some ends) d events k contents one = one

pub left_none : (o : Option (List Contents)) (d : Contents) (k : ℕ) (contents : Contents) → left_in o d [] 0 contents → left_in o d [] k contents
left_none None d k contents p = record { i = p.i; holds = p.holds; same = p.same }
left_none (Some ends) d k contents one = one

-- at a moment of a command
pub left_during : (s : State) (command : Command) (reply : Reply) (events : List Event) (contents : Contents) → HoldsIn s command reply contents
    → left_in s.ends s.durable (event s command reply ∷ events) 0 contents
left_during s command reply events contents holds =
    ⊎_elim (λ stand. left_here s.ends s.durable (event s command reply ∷ events) contents stand)
    (λ t. subst (λ (o : Option (List Contents)). left_in o s.durable (event s command reply ∷ events) 0 contents) (sym t.0)
    (prefix_during s command reply s.durable events contents (t.2 ∙ sym (taken s command reply t.1)))) holds
  where
    taken : (s : State) (command : Command) (reply : Reply) → may_have_taken reply ≡ true → after_event (event s command reply) s.durable ≡ takes s (ruling s command) s.durable
    taken s command reply e = rw e refl

-- after a command
pub left_after : (causes : Causes) (s : State) (command : Command) (reply : Reply) (t : State) (events : List Event) (k : ℕ) (contents : Contents) → Step causes s command reply t
    → ((ends : List Contents) → t.ends ≡ Some ends → acknowledged events k ≡ 0) → left_in t.ends t.durable events k contents
    → left_in s.ends s.durable (event s command reply ∷ events) (suc k) contents
left_after causes s command reply t events k contents step none left =
    elim s.ends as (λ (o : Option (List Contents)). s.ends ≡ o → left_in o s.durable (event s command reply ∷ events) (suc k) contents) [
      | None ↦ λ run. ⊎_elim
          (λ ran. prefix_more s command reply s.durable events k contents (subst (λ (d : Contents). IsPrefixHolding d events k contents) ran.1 (still None ran.0)))
          (λ failed. ended failed (none _ failed.ends) (still _ failed.ends))
          (goes_on_or_fails causes s command reply t step run)
      | Some ends ↦ λ is. still (Some ends) (ap (λ (x : State). x.ends) (halted_stays causes s command reply t ends step is).1 ∙ is)
    ] refl
  where
    still : (o : Option (List Contents)) → t.ends ≡ o → left_in o t.durable events k contents
    still o is = subst (λ (x : Option (List Contents)). left_in x t.durable events k contents) is left

    ended : (failed : Failed s command reply t) → acknowledged events k ≡ 0 → IsOneOf contents (s.durable ∷ failed.after ∷ [])
        → IsPrefixHolding s.durable (event s command reply ∷ events) (suc k) contents
    ended failed nothing one =
        ⊎_elim (λ e. failed_before s command reply events k contents failed.answer nothing e)
        (λ rest. ⊎_elim (λ e. failed_after s command reply events k contents nothing (e ∙ failed_event s command reply t failed)) (λ never. absurd never) rest) one

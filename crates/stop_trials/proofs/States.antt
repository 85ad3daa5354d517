-- Runs as lives, what the files hold as one ends, and one state after another.
use Rattle.std.{proofs.{Common.{◌≡◌, ◌⊎◌, ⊎_elim, ℕ, zero, suc, ◌+◌, List, [], ◌∷◌, ◌++◌, Some, slice_get, refl, sym, ap, ◌∙◌, subst, inl, inr, length, take, ◌<◌, arith}, lemmas.{List.{length-append, take-append-le, take_all}, Option.{none-some, same_Some}}}, specs.declared.{alloc.Global.{Global}, vec.Vec.{Vec}}}
use Rattle.{disk_model.specs.{SimDisk.{sectors_in, sector_of, IsNewDevice}, declared.{sector_disk.SectorDisk.{Ghosts}, sim_disk.SimDisk.{SimDisk}}}, vm_types.specs.declared.{command.Command.{Command}, reply.Reply.{Reply}}}
use Rattle.{machine.specs.{Boot.{BootRefuses, HasRoom}, Machine.{store_of, swap_of}, declared.{boot.BootFault.{BootFault, TheVariants.{Device}}, machine.Machine.{Machine}}}, lives.specs.Lives.{RanSince}}
use Rattle.stop_trials.specs.{Runs.{EndsWith, IsSetUp, IsState, IsTrialRun, IsWholeRun, Lived, acknowledged_by}, Fillings.{left_with}, Standing.{standing_contents}, declared.{fillings.Filling.TheVariants.{Old}, runs.Setting.{Setting}, stopping.StoppingDisk.{StoppingDisk}}}

-- what is written over the front of a list as long
pub overwritten : (n : ℕ) (xs ys : List Reply) → length xs ≡ n → take n (xs ++ ys) ≡ xs
overwritten n xs ys long = take-append-le n xs ys (omega (arith, long)) ∙ take_all n xs (omega (arith, long))

module _ (g : Ghosts StoppingDisk) (h : Ghosts SimDisk) (setting : Setting) where
  -- a run of a machine, and one whose device stopped first
  pub lived_run : (stop : ℕ) (replies written : List Reply) (store left : StoppingDisk) (swap : SimDisk) (machine : Machine StoppingDisk SimDisk)
      → replies ≡ written → IsSetUp setting stop store → HasRoom machine setting.config
      → (g.keeps_model (store_of machine) → h.keeps_model (swap_of machine) → RanSince g h store machine setting.commands.now written) → left ≡ store_of machine
      → IsTrialRun g h setting stop replies left
  lived_run stop replies written store left swap machine same fresh room lived leaves = record {
    store = store;
    swap = swap;
    fresh = fresh;
    ran = inl (subst (λ (rs : List Reply). Lived g h setting store rs left) (sym same) (record { machine = machine; room = room; lived = lived; leaves = leaves }));
  }

  pub stopped_run : (stop : ℕ) (replies : List Reply) (store left : StoppingDisk) (swap : SimDisk) (fault : BootFault) → fault ≡ Device
      → IsSetUp setting stop store → BootRefuses g setting.config (h.sector_count swap) store fault left → replies ≡ [] → IsTrialRun g h setting stop replies left
  stopped_run stop replies store left swap fault is fresh refuses none = record {
    store = store;
    swap = swap;
    fresh = fresh;
    ran = inr (record { refuses = subst (λ (f : BootFault). BootRefuses g setting.config (h.sector_count swap) store f left) is refuses; none = none });
  }

-- what stands in a list with one more behind it
pushed : {X : Type 0} (xs : List X) (x y : X) (n : ℕ) → slice_get (xs ++ x ∷ []) n ≡ Some y → (slice_get xs n ≡ Some y) ⊎ ((n ≡ length xs) × (x ≡ y))
pushed [] x y zero is = inr (refl, same_Some x y is)
pushed [] x y (suc n) is = inl is
pushed (z ∷ xs) x y zero is = inl is
pushed (z ∷ xs) x y (suc n) is = ⊎_elim inl (λ last. inr (ap suc last.0, last.1)) (pushed xs x y n is)

module _ (h : Ghosts SimDisk) (setting : Setting) where
  -- a run that nothing stops
  pub whole_run : (commands : List Command) (replies written : List Reply) (store left : SimDisk) (machine : Machine SimDisk SimDisk) → replies ≡ written → IsNewDevice store
      → sectors_in store ≡ sectors_in setting.image.now → ((k : ℕ) → k < sectors_in setting.image.now → sector_of store k ≡ left_with Old setting.image.now k)
      → HasRoom machine setting.config → RanSince h h store machine commands written → left ≡ store_of machine → IsWholeRun h setting commands replies left
  whole_run commands replies written store left machine same fresh size holds room lived leaves = record {
    store = store;
    fresh = fresh;
    size = size;
    holds = holds;
    machine = machine;
    room = room;
    lived = subst (RanSince h h store machine commands) (sym same) lived;
    leaves = leaves;
  }

  -- what the files hold as it ends
  pub ends_with : (count : ℕ) (bytes : List ℕ) (replies : List Reply) (device left : SimDisk) (commands : List Command)
      → IsWholeRun h setting commands replies device → commands ≡ take count setting.commands.now
      → sectors_in left ≡ sectors_in device → ((k : ℕ) → k < sectors_in device → sector_of left k ≡ left_with Old device k) → bytes ≡ standing_contents (sectors_in left) (sector_of left)
      → EndsWith h setting count bytes
  ends_with count bytes replies device left commands ran first size each holds = record {
    replies = replies;
    device = device;
    ran = subst (λ (cs : List Command). IsWholeRun h setting cs replies device) first ran;
    image = sector_of left;
    left = each;
    holds = holds ∙ ap (λ sectors. standing_contents sectors (sector_of left)) size;
  }

module _ (h : Ghosts SimDisk) (setting : Setting) (replies : List Reply) where
  -- one state more than the first replies, so many, acknowledge msyncs
  pub record AreFirstStates (i : ℕ) (states : List (Vec ℕ Global)) : Type 0 where
    pub count : length states ≡ acknowledged_by setting replies i + 1
    pub each : (n : ℕ) (bytes : Vec ℕ Global) → slice_get states n ≡ Some bytes → IsState h setting replies n bytes.items

  -- the state before all commands
  pub first_state : (states : List (Vec ℕ Global)) (bytes : Vec ℕ Global) → states ≡ [] ++ bytes ∷ [] → EndsWith h setting 0 bytes.items → AreFirstStates 0 states
  first_state states bytes is ends = subst (AreFirstStates 0) (sym is) (record {
    count = refl;
    each = λ n other at.
        ⊎_elim (λ (none : slice_get [] n ≡ Some other). absurd (none-some other none))
        (λ last. record {
          count = 0;
          acknowledged = sym last.0;
          last = λ before next. absurd (omega (arith, next));
          ends = subst (λ (b : Vec ℕ Global). EndsWith h setting 0 b.items) last.1 ends;
        })
        (pushed [] bytes other n at);
  })

  -- one more, after an msync that is acknowledged
  pub state_more : (i : ℕ) (states after : List (Vec ℕ Global)) (bytes : Vec ℕ Global) → AreFirstStates i states
      → acknowledged_by setting replies i + 1 ≡ acknowledged_by setting replies (i + 1) → after ≡ states ++ bytes ∷ [] → EndsWith h setting (i + 1) bytes.items
      → AreFirstStates (i + 1) after
  state_more i states after bytes before one is ends =
      let count = before.count in
      let longer = length-append states (bytes ∷ []) in
      subst (AreFirstStates (i + 1)) (sym is) (record {
        count = omega (arith, count, longer, one);
        each = λ n other at.
            ⊎_elim (before.each n other)
            (λ last.
            let place = last.0 in
            record {
              count = i + 1;
              acknowledged = omega (arith, place, count, one);
              last = λ earlier next.
                  let same : acknowledged_by setting replies earlier ≡ acknowledged_by setting replies i = ap (acknowledged_by setting replies) (omega (arith, next)) in
                  omega (arith, same, place, count);
              ends = subst (λ (b : Vec ℕ Global). EndsWith h setting (i + 1) b.items) last.1 ends;
            })
            (pushed states bytes other n at);
      })

  -- and none after another reply
  pub state_same : (i : ℕ) (states after : List (Vec ℕ Global)) → AreFirstStates i states → acknowledged_by setting replies i ≡ acknowledged_by setting replies (i + 1)
      → after ≡ states → AreFirstStates (i + 1) after
  state_same i states after before same is =
      subst (AreFirstStates (i + 1)) (sym is) (record { count = before.count ∙ ap (λ (n : ℕ). n + 1) same; each = before.each })

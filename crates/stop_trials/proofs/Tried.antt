-- Trials, one after another, and what one of them finds.
use Rattle.std.{proofs.Common.{◌≡◌, ◌<◌, ◌+◌, ◌*◌, ◌-◌, ◌^◌, min, ℕ, zero, suc, List, [], ◌∷◌, length, Option, Some, None, IfSome, IfNone, refl, ap, subst, ◌∙◌, inl, inr, arith}, specs.declared.{alloc.Global.{Global}, vec.Vec.{Vec}}}
use Rattle.{disk_model.specs.{Plan.{one_more}, SimDisk.{sectors_in, sector_of}, declared.{sector_disk.SectorDisk.{Ghosts}, sim_disk.SimDisk.{SimDisk}}}, stores.specs.Images.{IsBadLayout, IsBadJournal}}
use Rattle.stop_trials.specs.{Fillings.{left_with}, Standing.{IsUnopenedFor, IsStanding, standing_contents}, Trials.{AllStand, IsJudged, StandWithEach, IsTrial, AreTried}}
use Rattle.{disk_model.specs.Stop.{Image}, stores.specs.declared.faults.OpenFault.{OpenFault, TheVariants.{Device, BadLayout, BadJournal, Memory}}}
use Rattle.stop_trials.specs.declared.faults.TrialFault.{TrialFault, TheVariants.{Open as Refused}}
use Rattle.stop_trials.specs.declared.{fillings.Filling.{Filling, TheVariants.{Old, Zeros, Ones, HalfOpen, Open}}, runs.Setting.{Setting}, stopping.StoppingDisk.{StoppingDisk}, trials.{Summary.{Summary}, Trial.{Trial}}}

-- what is left of a device is a store, and how its files stand
pub judged_store : (states : List (Vec ℕ Global)) (acknowledged : ℕ) (device left : SimDisk) (filling : Filling) (slice bytes : List ℕ) (standing : Option ℕ)
    → slice ≡ bytes → sectors_in left ≡ sectors_in device → ((k : ℕ) → k < sectors_in device → sector_of left k ≡ left_with filling device k)
    → bytes ≡ standing_contents (sectors_in left) (sector_of left)
    → IfSome standing (IsStanding states acknowledged slice) → IfNone standing ((n : ℕ) → IsStanding states acknowledged slice n → ⊥)
    → IsJudged states acknowledged device filling standing
judged_store states acknowledged device left filling slice bytes None read size each holds found none = record {
  image = sector_of left;
  left = each;
  bad = inr (subst (λ (b : List ℕ). (n : ℕ) → IsStanding states acknowledged b n → ⊥) (read ∙ holds ∙ ap (λ sectors. standing_contents sectors (sector_of left)) size) none);
}
judged_store states acknowledged device left filling slice bytes (Some n) read size each holds found none = record {
  image = sector_of left;
  left = each;
  stands = subst (λ (b : List ℕ). IsStanding states acknowledged b n) (read ∙ holds ∙ ap (λ sectors. standing_contents sectors (sector_of left)) size) found;
}

-- it is no store
pub judged_layout : (states : List (Vec ℕ Global)) (acknowledged : ℕ) (device left : SimDisk) (filling : Filling) → sectors_in left ≡ sectors_in device
    → ((k : ℕ) → k < sectors_in device → sector_of left k ≡ left_with filling device k) → IsBadLayout (sectors_in left) (sector_of left) → IsJudged states acknowledged device filling None
judged_layout states acknowledged device left filling size each bad =
    record { image = sector_of left; left = each; bad = inl (inl (subst (λ (n : ℕ). IsBadLayout n (sector_of left)) size bad)) }

-- each filling of five
pub five_stand : (states : List (Vec ℕ Global)) (acknowledged : ℕ) (device : SimDisk) (old zeros ones half whole : Option ℕ)
    → IsJudged states acknowledged device Old old → IsJudged states acknowledged device Zeros zeros → IsJudged states acknowledged device Ones ones
    → IsJudged states acknowledged device HalfOpen half → IsJudged states acknowledged device Open whole
    → StandWithEach states acknowledged device (old ∷ zeros ∷ ones ∷ half ∷ whole ∷ [])
five_stand states acknowledged device old zeros ones half whole a b c d e zero lt = a
five_stand states acknowledged device old zeros ones half whole a b c d e (suc zero) lt = b
five_stand states acknowledged device old zeros ones half whole a b c d e (suc (suc zero)) lt = c
five_stand states acknowledged device old zeros ones half whole a b c d e (suc (suc (suc zero))) lt = d
five_stand states acknowledged device old zeros ones half whole a b c d e (suc (suc (suc (suc zero)))) lt = e
five_stand states acknowledged device old zeros ones half whole a b c d e (suc (suc (suc (suc (suc i))))) lt = absurd (omega (arith, lt))

-- of a device that is equal
pub each_at : (states : List (Vec ℕ Global)) (acknowledged : ℕ) (given device : SimDisk) (standing : List (Option ℕ)) → given ≡ device
    → StandWithEach states acknowledged given standing → StandWithEach states acknowledged device standing
each_at states acknowledged given device standing same each = subst (λ (d : SimDisk). StandWithEach states acknowledged d standing) same each

-- what is refused as no store
pub refused_open : (sectors : ℕ) (image : Image) (fault : OpenFault) → (fault ≡ BadLayout → IsBadLayout sectors image) → (fault ≡ BadJournal → IsBadJournal sectors image)
    → IsUnopenedFor sectors image (Refused fault)
refused_open sectors image Device layout journal = tt
refused_open sectors image BadLayout layout journal = layout refl
refused_open sectors image BadJournal layout journal = journal refl
refused_open sectors image Memory layout journal = tt

pub is_refused : (sectors : ℕ) (image : Image) (told : TrialFault) (fault inner : OpenFault) → told ≡ Refused fault → fault ≡ inner → IsUnopenedFor sectors image told
    → IsUnopenedFor sectors image (Refused inner)
is_refused sectors image told fault inner is same refused = subst (IsUnopenedFor sectors image) (is ∙ ap Refused same) refused

module _ (g : Ghosts StoppingDisk) (h : Ghosts SimDisk) (setting : Setting) (states : List (Vec ℕ Global)) where
  pub none_tried : (every : ℕ) (summary : Summary) → summary.stops ≡ 0 → summary.bad ≡ 0 → AreTried g h setting states every summary
  none_tried every summary none unbad = record { trials = []; each = tt; count = none; good = λ zero. tt; bad = λ good. unbad }

  -- one trial more, in the i-th multiple
  pub one_tried : (every i number : ℕ) (old new : Summary) (found : Option Trial) (trial : Trial) → AreTried g h setting states every old → old.stops + 1 ≡ i → i < 2 ^ 64 - 1
      → number ≡ min (every * i) (2 ^ 64 - 1) → found ≡ Some trial → IfSome found (IsTrial g h setting states number) → new.stops ≡ one_more old.stops
      → (new.bad ≡ 0 → AllStand trial × (old.bad ≡ 0)) → (AllStand trial → new.bad ≡ old.bad) → AreTried g h setting states every new
  one_tried every i number old new found trial before next few is some tried stops bad good =
      let count = before.count in
      let place : i ≡ length before.trials + 1 = omega (arith, count, next) in
      let here : IsTrial g h setting states number trial = subst (λ (t : Option Trial). IfSome t (IsTrial g h setting states number)) some tried in
      record {
        trials = trial ∷ before.trials;
        each = (subst (λ (n : ℕ). IsTrial g h setting states n trial) (is ∙ ap (λ (m : ℕ). min (every * m) (2 ^ 64 - 1)) place) here, before.each);
        count = omega (arith, stops, count, next, few);
        good = λ zero. let b = bad zero in (b.0, before.good b.1);
        bad = λ all. good all.0 ∙ before.bad all.1;
      }

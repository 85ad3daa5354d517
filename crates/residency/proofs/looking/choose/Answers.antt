use Rattle.residency.proofs.Names.{◌≡◌, IsFull, Option, refl, sym, subst, arith, IfOk-weaker, Result, Ok, Err, IfOk, OnErr, FrameNo}
use Rattle.vm_types.specs.declared.mode.Levels as Levels
use Rattle.residency.specs.declared.kernel.Core.{Core}
use Rattle.residency.{specs.{Picture.{Picture, picture_of}, Calls.{Frees}, Evictions.{ClearsMarks, IsEvictable, Looked}, Views.{Follows}}, proofs.{Giving.{marks_none}, Sparing.{frees_none}}}
use Rattle.residency.proofs.looking.choose.Goals as goal

both : {T E : Type 0} (r : Result T E) (P : T → Type 0) (Q R : Type 0) → IfOk r P → OnErr r Q → ((n : T) → P n → R) → (Q → R) → R
both (Ok n) P Q R ok err f h = f n ok
both (Err e) P Q R ok err f h = h err

err_then : {T E : Type 0} (r : Result T E) (P Q R : Type 0) → OnErr r P → OnErr r Q → (P → Q → R) → OnErr r R
err_then (Ok n) P Q R p q f = p
err_then (Err e) P Q R p q f = f p q

module _ {M : Type 0} {m : Levels.Ghosts M} {D E : Type 0} {a b c : Core D E M m} where
  follows_set : (k k' : Option FrameNo) → picture_of c ≡ picture_of b → (IsFull b.frames → IsFull c.frames) → Looked a c → Follows a b k k' → Follows a c k k'
  follows_set k k' same full looked f = record {
    kept = f.kept;
    frees = λ s g. subst (λ (p : Picture m.mode). Frees s p k') (sym same) (f.frees s g);
    marks = λ s g. subst (λ (p : Picture m.mode). ClearsMarks s p) (sym same) (f.marks s g);
    full = λ g. full (f.full g);
    looked = looked;
  }

pub returns : goal.returns
returns g c =
    let v = c.victim-choice.ensures in
    let follows = both c.victim-choice.result _ _ _ v.chooses v.kept (λ n ch. ch.passes.follows) (λ p. p.follows) in
    let old = picture_of c.args.core.now in
    let now = picture_of c.victim-choice.new.view in
    record {
      found = IfOk-weaker c.victim-choice.result _ _ (λ n ch. (
          let P : Option FrameNo → Type 0 = λ k. IsEvictable now k n.0 in
          subst P follows.kept ((ch.passes.evictable n.0).1 ch.evictable))) v.chooses;
      none = err_then c.victim-choice.result _ _ _ v.none v.kept (λ none passes n inside ev. (
          let P : Option FrameNo → Type 0 = λ k. IsEvictable now k n in
          none n (let t = passes.total in omega (arith, t, inside)) ((passes.evictable n).0 (subst P (sym follows.kept) ev))));
      fit = v.«open»;
      frees = (let P : Option FrameNo → Type 0 = λ k. Frees old now k in subst P follows.kept (follows.frees old (frees_none old c.args.keep)));
      marks = follows.marks old (marks_none old);
      looked = record { store = follows.looked.store; swap = follows.looked.swap; cache = follows.looked.cache; roots = follows.looked.roots; regions = follows.looked.regions; refused = follows.looked.refused };
      full = follows.full;
      clock = record { asked = _; left = c.victim-choice.new.view; same = refl; keeps = refl; round = v };
      left = record {
        asked = _;
        same = refl;
        keeps = refl;
        round = record {
          «open» = v.«open»;
          hand = v.hand;
          looks = v.looks;
          chooses = IfOk-weaker c.victim-choice.result _ _ (λ n ch. record {
            before = ch.before;
            few = ch.few;
            passes = record { total = ch.passes.total; evictable = ch.passes.evictable; marked = ch.passes.marked; unmarked = ch.passes.unmarked; first_round = ch.passes.first_round; follows = follows_set _ _ refl (λ f. f) (record { store = ch.passes.follows.looked.store; swap = ch.passes.follows.looked.swap; cache = ch.passes.follows.looked.cache; roots = ch.passes.follows.looked.roots; regions = ch.passes.follows.looked.regions; refused = ch.passes.follows.looked.refused }) ch.passes.follows };
            is = ch.is;
            inside = ch.inside;
            evictable = ch.evictable;
            clear = ch.clear;
            looks = ch.looks;
            past = ch.past;
          }) v.chooses;
          none = v.none;
          kept = err_then c.victim-choice.result _ _ _ v.kept v.kept (λ p q. record { total = p.total; evictable = p.evictable; marked = p.marked; follows = follows_set _ _ refl (λ f. f) (record { store = p.follows.looked.store; swap = p.follows.looked.swap; cache = p.follows.looked.cache; roots = p.follows.looked.roots; regions = p.follows.looked.regions; refused = p.follows.looked.refused }) p.follows });
          still = v.still;
        };
      };
      looks = v.looks;
    }

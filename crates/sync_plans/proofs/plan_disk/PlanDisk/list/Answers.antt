use Rattle.sync_plans.proofs.Names.{◌≡◌, ◌<◌, ◌∙◌, true, false, length, sym, arith, rules, length-set}
use Rattle.sync_plans.{specs.PlanDisk.{pages_of}, proofs.Untouched.{behind_written, all_behind, sources_behind, all_listed, sources_listed, listed, still_untouched}}
use Rattle.sync_plans.proofs.plan_disk.PlanDisk.list.Goals as goal

pub invariant_of-self-3 : goal.invariant_of-self-3
invariant_of-self-3 c =
    let s = c.args.self.now in
    let room : s.used < length s.calls.now = omega (arith, c.if-self-2.false, s.long) in
    record {
      long = let same = length-set s.calls.now s.used c.args.call in omega (arith, same, s.long);
      rows_long = s.rows_long;
      within = s.within;
      all = all_behind s.calls.now s.used c.args.call room (length s.image.now) s.all;
      sources = sources_behind s.calls.now s.used c.args.call room (pages_of s) s.sources;
      filled = s.filled;
      calm = s.calm;
      kept = s.kept;
      bounded = omega (arith, s.bounded, c.untouched_with-self.ensures.high);
      between = λ n low high. behind_written s.calls.now s.used c.args.call room n
          ∙ s.between n (omega (arith, low, c.untouched_with-self.ensures.low)) (omega (arith, high, c.untouched_with-self.ensures.high));
    }

pub invariant_of-self-4 : goal.invariant_of-self-4
invariant_of-self-4 c =
    let s = c.args.self.now in
    let room : s.used < length s.calls.now = omega (arith, c.if-self-2.false, s.long) in
    record {
      long = let same = length-set s.calls.now s.used c.args.call in omega (arith, same, s.long);
      rows_long = let same = length-set s.rows.now s.used c.keep_row.new.to in omega (arith, same, s.rows_long);
      within = omega (arith, c.if-self-2.false);
      all = all_listed s.calls.now s.used c.args.call room (length s.image.now) s.all c.requires.is;
      sources = sources_listed s.calls.now s.used c.args.call room (pages_of s) s.untouched.low s.untouched.high s.sources s.between c.requires.lent c.requires.unwritten;
      filled = λ full. let e : true ≡ false = sym full ∙ c.if-self.false in cc;
      calm = s.calm;
      kept = s.kept;
      bounded = omega (arith, s.bounded, c.untouched_with-self.ensures.high);
      between = λ n low high. still_untouched s.calls.now s.used c.args.call room n
          (s.between n (omega (arith, low, c.untouched_with-self.ensures.low)) (omega (arith, high, c.untouched_with-self.ensures.high)))
          (c.untouched_with-self.ensures.written n low high);
    }

pub returns : goal.returns
returns c =
    let s = c.args.self.now in
    record {
      lists = listed s.calls.now s.used c.args.call (omega (arith, c.if-self-2.false, s.long)) s.rows.now c.args.bytes.now c.keep_row.new.to
          (omega (arith, c.if-self-2.false, s.rows_long)) c.keep_row.ensures;
      open_still = (c.if-self.false, c.if-self.false);
      unlisted = search rules;
      full = search rules;
      keeps = search rules;
      cause = search rules;
    }

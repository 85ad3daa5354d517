use Rattle.sync_plans.proofs.{Names.{Ok, false≢true, sym, refl, inl, inr, Pool, none_freed, pool_tidied}, Taken.{refused_pages, refused_tidied}}
use Rattle.sync_plans.proofs.resizing.make_slots_free.Goals as goal

-- no page goes home,
pub returns-in-Ok : goal.returns-in-Ok
returns-in-Ok g c = record {
  outcome = Ok (tt {0});
  frees = none_freed g.D.SectorDisk g.met.D.SectorDisk.counts_now g.met.D.SectorDisk.only_now (Pool c.args.store.now) c.requires.ready;
  directory = refl;
  sizes = refl;
  ready = c.requires.ready;
  are_new = c.in-Ok.ensures.new;
  good = c.in-Ok.ensures.good;
  rising = c.in-Ok.ensures.rising;
  refused = λ count. tt;
}

pub returns-in-Err : goal.returns-in-Err
returns-in-Err g c = record {
  outcome = Ok (tt {0});
  frees = none_freed g.D.SectorDisk g.met.D.SectorDisk.counts_now g.met.D.SectorDisk.only_now (Pool c.args.store.now) c.requires.ready;
  directory = refl;
  sizes = refl;
  ready = tt;
  are_new = tt;
  good = tt;
  rising = tt;
  refused = λ count. record {
    cause = λ is. cc;
    pages = λ is brought. absurd
        (let short = (refused_pages c.args.store.now c.args.asked.changes.now c.args.asked.fresh.now c.args.asked.pages.now count c.in-Err.fault brought c.in-Err.ensures.refused).0 in
        false≢true (sym (rw short at c.if-ne.ensures)));
    else = inr (inl refl);
  };
}

-- or all do
pub returns-in-Err-tidy : goal.returns-in-Err-tidy
returns-in-Err-tidy g c = record {
  outcome = c.tidy.result;
  frees = (pool_tidied g.D.SectorDisk g.met.D.SectorDisk.counts_now g.met.D.SectorDisk.only_now c.args.store.now c.tidy.new.self c.tidy.result c.requires.ready c.tidy.ensures).frees;
  directory = c.tidy.ensures.files;
  sizes = c.tidy.ensures.sizes;
  ready = tt;
  are_new = tt;
  good = tt;
  rising = tt;
  refused = λ count. record { cause = λ is. c.in-Err-tidy.ensures.cause.failed refl; pages = λ is. cc; else = inl refl };
}

pub returns-in-Ok-check_pages : goal.returns-in-Ok-check_pages
returns-in-Ok-check_pages g c = record {
  outcome = c.tidy.result;
  frees = (pool_tidied g.D.SectorDisk g.met.D.SectorDisk.counts_now g.met.D.SectorDisk.only_now c.args.store.now c.tidy.new.self c.tidy.result c.requires.ready c.tidy.ensures).frees;
  directory = c.tidy.ensures.files;
  sizes = c.tidy.ensures.sizes;
  ready = c.in-Ok-tidy.ensures.ready;
  are_new = c.in-Ok-check_pages.ensures.new;
  good = c.in-Ok-check_pages.ensures.good;
  rising = c.in-Ok-check_pages.ensures.rising;
  refused = λ count. tt;
}

pub returns-in-Err-check_pages : goal.returns-in-Err-check_pages
returns-in-Err-check_pages g c = record {
  outcome = c.tidy.result;
  frees = (pool_tidied g.D.SectorDisk g.met.D.SectorDisk.counts_now g.met.D.SectorDisk.only_now c.args.store.now c.tidy.new.self c.tidy.result c.requires.ready c.tidy.ensures).frees;
  directory = c.tidy.ensures.files;
  sizes = c.tidy.ensures.sizes;
  ready = tt;
  are_new = tt;
  good = tt;
  rising = tt;
  refused = λ count. record {
    cause = λ is. cc;
    pages = λ is brought. refused_tidied c.args.store.now c.tidy.new.self c.args.asked.changes.now c.args.asked.fresh.now c.args.asked.pages.now count c.in-Err-check_pages.field-0 c.tidy.ensures.files c.tidy.ensures.sizes
        c.in-Ok-tidy.ensures.room brought c.in-Err-check_pages.ensures.refused;
    else = inr (inl refl);
  };
}

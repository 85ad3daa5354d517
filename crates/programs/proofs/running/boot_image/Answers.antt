use Rattle.{std.proofs.Common.{ap, ◌∙◌}, programs.{proofs.Outcomes.{refuses_at}, specs.Running.{boot_told, config_of}}}
use Rattle.disk_model.specs.contracts.file_disk.FileDiskSectorDisk.TheImpl.{ghosts}
use Rattle.programs.proofs.running.boot_image.Goals as goal

pub returns-in-Ok-clause-boots : goal.returns-in-Ok-clause-boots
returns-in-Ok-clause-boots g c = record {
  store = c.in_ok-devices.devices.store;
  swap = c.in_ok-devices.devices.swap;
  fresh = c.in_ok-devices.ensures.store;
  swap_fresh = c.in_ok-devices.ensures.swap;
  boots = c.in-Ok.ensures.boots;
}

pub returns-in-Err-clause-told : goal.returns-in-Err-clause-told
returns-in-Err-clause-told g c =
    let devices = c.in_ok-devices.devices in
    let store = ghosts g.row.C g.C.FileContents g.C.FileContents-dict g.C.Destruct-dict in
    let swap = ghosts g.row.K g.K.FileContents g.K.FileContents-dict g.K.Destruct-dict in (
      devices.store,
      devices.swap,
      c.in_ok-devices.ensures.store,
      c.in_ok-devices.ensures.swap,
      record {
        why = c.in-Err.fault;
        left = c.in-Err.store;
        refuses = refuses_at store swap (λ d. d.settled) c.config_of.result (config_of c.args.words.now) (swap.sector_count devices.swap) devices.store c.in-Err.store c.in-Err.fault c.config_of.ensures
            c.in-Err.ensures.refuses;
        leaves = c.in-Err.ensures.err_moments;
        told = c.told.ensures ∙ ap (λ settled. boot_told settled c.in-Err.fault) c.is_settled.ensures.is;
      },
    )

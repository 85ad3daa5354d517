-- What the proofs of this crate cite of the crates below it and of the standard library: `use Rattle.sync_plans.proofs.Names.{..}`.
pub use Rattle.disk_model.proofs.{Moments.{joined, weaker}, Pages.{carried, more_time, no_time, put_here, length_put, put_there}}
pub use Rattle.disk_model.specs.{Moments.{LeavesNow, LeavesOnly, Nothing, Touches}, Sectors.{part_of}, declared.sector_disk.{DiskFault.{DiskFault}, SectorDisk.{Ghosts}}}
pub use Rattle.disk_model.specs.Stop.{ChangesPage, ChangesPages, Elapses, ChangesOnly, HasCause, Image, MayLeave, IsOfPage, IsOfPages, Names}
pub use Rattle.std.proofs.Common.{Bool, ◌≤◌, suc, ◌∙◌, inr, slice_get, arith, false, zero, ◌≡◌, inl, ◌+◌, Some, true, refl, eq-eqb, IsTrue, ◌<◌, if◌then◌else◌, List, Option, ⊎_elim, ne_eqb, subst, ◌==◌, length, ◌&&◌, ◌≢◌, ◌||◌, Result, []}
pub use Rattle.std.proofs.Common.{sym, ap, ◌⊎◌, None, ℕ, IfErr, Ok, Err, ◌∷◌, ◌-◌, rules, ◌*◌, OnOk, IfOk}
pub use Rattle.std.proofs.{Math.{ListN.{get_or, set}, Path.{fun_ext}}, lemmas.{Bool.{false≢true, cases_Bool, lt-ltb, le-leb, cases_eq, cases_lt, lt-leb}, List.{length-set, get_or-set_same}}}
pub use Rattle.std.{proofs.lemmas.{List.{get_or-set_other}, Option.{slice_get-get_or, slice_get_past, same_Some}, Result.{IfErr-at_err, IfErr-weaker, IfOk-at_ok, IfOk-weaker}}, specs.{Cmp.Lexicographic.{same_text}, Prelude.{ltb, not}}}
pub use borrow.Rule.Slice.PartMut.{put_mid}
pub use Rattle.std.proofs.{Common.{drop, min, is_some}, lemmas.List.{get_or_past}}
pub use Rattle.vm_types.specs.{View.{zero_page}, declared.file.{FileInfo.{FileInfo}, FilePage.{FilePage}}}
pub use Rattle.file_store.specs.{Commit.{Changes, cut_page}, Standing.{IsPageOf, IsBadLayoutIn.{Unmarked}}}
pub use Rattle.{sync_journal.specs.Commit.{IsAtRest}, pool_journal.specs.Pools.{pool_home_count, pool_named}}
pub use Rattle.{batches.specs.Pages.{HasReadOnly}, stores.proofs.{Heads.{mark_of as pool_marked, same_blocks, same_mark, same_pages}, KindOpens.{in_kind}, PoolOpens.{by_head, of_head}, Said.{files_said, kind_outside, mark_outside, outside_alike, stands_for_own}, Says.{head_of}}}
pub use Rattle.stores.specs.Images.{ImageSays, is_pool, capacity_by, capacity_pages, file_info, most_pages, says, says_by, standing_page, IsBadJournal, IsBadLayout, IsClosed, IsOutside, StandsAs, StandsFor, StandsForEither}
pub use Rattle.stores.specs.{Commit.{ArePages, KeepsHomesIn, PutsHomesIn}, Opened.{OpensFrom, RefusesToOpen, RunsOpening}, Resumed.{IsAsNamed, ResumesFrom}, Rooms.{FreesSlots, IsTidyIn}}
pub use Rattle.stores.specs.Store.{capacity_in, directory_of, disk_of, files_in, files_of, free_of, kept_of, AnyDirectory, IsReadyStore}
pub use Rattle.stores.specs.declared.{faults.OpenFault.{OpenFault}, store.{Store.{Store}, Store.TheVariants.{Journal, Pool}}}
pub use Rattle.disk_model.proofs.Moments.{still_leaves}
pub use Rattle.growth.specs.declared.changes.Change.{Change}
pub use Rattle.pool_growth.{proofs.New.{new_inside}, specs.{Asked.{AreFileChanges, AreKeptPages, AreNewPages}, Commit.{CommitsChanges}, Files.{file_page_count, files_after, ChangesFiles, IsNewPage, StandsInList}, Putting.{IsNewSector}}}
pub use Rattle.pool_journal.specs.{Maps.{entries_of}, Pools.{pool_gate, pool_home}, declared.{map.SlotMap.{SlotMap}, sizes.PoolSizes.{PoolSizes}}}
pub use Rattle.pool_store.proofs.OneKind.{has_room}
pub use Rattle.pool_store.specs.{Files.{StandsFor as StandsInPool}, Pools.{files_in_pool}, Resume.{HasPoolHead, RefusesToResume as RefusesPool, ResumesStore}, Store.{info_by, IsDirectoryOn, IsReadyPool}, Tidying.{TidiesStore as TidiesPool}}
pub use Rattle.pool_store.specs.declared.{directory.Directory.{Directory}, faults.OpenFault.{OpenFault as PoolFault, TheVariants.{Device as PoolDevice, BadLayout as PoolLayout, Memory as PoolMemory}}, store.PoolStore.{PoolStore}}
pub use Rattle.stores.proofs.{PoolOpens.{pool_resumes}, RoomMade.{none_freed}, Said.{committed_inside}, Says.{from_pool, left_of_pool, to_pool}, Tidied.{pool_tidied}}
pub use Rattle.sync_journal.{proofs.Sectors.{reads_unsynced, same_image, so_before, so_since, while_read}, specs.{Runs.{RunsOnDevice}, declared.{faults.CommitFault.{CommitFault}, source.PageSource.{Ghosts as SourceGhosts}}}}
pub use Rattle.std.proofs.lemmas.Result.{on_ok_weaker}
unfoldable pub use Rattle.file_store.specs.Layout.{mark, pool_mark}

-- What a simulated device holds, what a stop may leave of it, and which of its calls fail.
use Rattle.std.specs.Prelude.{◌≡◌, ◌⊎◌, ◌≤◌, ◌<◌, ◌+◌, ℕ, zero, suc, Bool, false, ◌||◌, if◌then◌else◌, IsTrue, List, [], ◌∷◌, length, replicate, slice_index_or, Option, None, Result, OnOk, OnErr, is_err}
use Rattle.std.proofs.Common.{⊎_elim, arith}
use Rattle.disk_model.specs.Note.{Note}
use Rattle.disk_model.specs.Asked.{times_named}
use Rattle.disk_model.specs.Plan.{is_at, one_more, failures_after, first_listed}
use Rattle.disk_model.specs.Sectors.{sector_bytes, part_of}
use Rattle.disk_model.specs.Stop.{Image, MayLeave, ChangesOnly, ChangesPage, IsOfPage, Elapses, HasCause}
use Rattle.disk_model.specs.declared.sim_disk.SimDisk.{SimDisk}

-- what these sectors hold
abbrev pub image_of_sectors : List (List ℕ) → Image
image_of_sectors sectors k = slice_index_or sectors k []

abbrev pub IsMarked : List Bool → ℕ → Type 0
IsMarked marks k = IsTrue (slice_index_or marks k false)

abbrev pub sector_of : SimDisk → Image
sector_of d = image_of_sectors d.sectors.items

abbrev pub sectors_in : SimDisk → ℕ
sectors_in d = length d.sectors.items

abbrev pub calls_made : SimDisk → ℕ
calls_made d = d.calls

abbrev pub writes_made : SimDisk → ℕ
writes_made d = d.writes

abbrev pub syncs_made : SimDisk → ℕ
syncs_made d = d.syncs

abbrev pub failures_of : SimDisk → ℕ
failures_of d = d.failures.number

abbrev pub asked_of : SimDisk → ℕ → ℕ
asked_of d = times_named d.asked

abbrev pub last_synced : SimDisk → Image
last_synced d = image_of_sectors d.synced.items

-- its clock
abbrev pub moment_of : SimDisk → ℕ
moment_of d = length d.past.notes

abbrev pub IsUnsynced : SimDisk → ℕ → Type 0
IsUnsynced d = IsMarked d.unsynced.items

-- what a stop might have left in one of the states noted, the newest first, from the t-th on
abbrev pub HadLeft : List Note → ℕ → Image → Type 0
HadLeft [] t c = ⊥
HadLeft (note ∷ older) t c = ((t ≤ length older) × MayLeave (image_of_sectors note.1) (IsMarked note.2) c) ⊎ HadLeft older t c

abbrev pub LeftSince : SimDisk → ℕ → Image → Type 0
LeftSince d t c = MayLeave (sector_of d) (IsUnsynced d) c ⊎ HadLeft d.past.notes t c

none_left : (past : List Note) (t : ℕ) (c : Image) → length past ≤ t → HadLeft past t c → ⊥
none_left [] t c le had = had
none_left (note ∷ older) t c le had = ⊎_elim (λ now. absurd (omega (arith, now.0, le))) (none_left older t c (omega (arith, le))) had

pub only_present : (d : SimDisk) (c : Image) → LeftSince d (length d.past.notes) c → MayLeave (sector_of d) (IsUnsynced d) c
only_present d c left = ⊎_elim (λ now. now) (λ had. absurd (none_left d.past.notes (length d.past.notes) c (omega arith) had)) left

-- What a simulated device counts, and when it is told to stop and to fail.
pub record DiskCounts : Type 0 where
  pub calls : ℕ
  pub writes : ℕ
  pub syncs : ℕ
  pub failures : ℕ
  pub stopped : Bool
  pub stop : Option ℕ
  pub fail : Option ℕ

abbrev pub disk_counts : SimDisk → DiskCounts
disk_counts d = record { calls = d.calls; writes = d.writes; syncs = d.syncs; failures = d.failures.number; stopped = d.stopped; stop = d.stop; fail = d.fail }

-- the next call that is no write fails
abbrev pub fails_next : DiskCounts → Bool
fails_next c = c.stopped || is_at c.fail (one_more c.calls)

-- the next write finds the device stopped, or stops it
abbrev pub stops_next : DiskCounts → Bool
stops_next c = c.stopped || is_at c.stop (one_more c.writes)

abbrev pub write_fails_next : DiskCounts → Bool
write_fails_next c = stops_next c || is_at c.fail (one_more c.calls)

abbrev pub after_read : DiskCounts → DiskCounts
after_read c = record c { calls = one_more c.calls; failures = failures_after (fails_next c) c.failures }

abbrev pub after_sync : DiskCounts → DiskCounts
after_sync c = record c { calls = one_more c.calls; syncs = one_more c.syncs; failures = failures_after (fails_next c) c.failures }

abbrev pub after_write : DiskCounts → DiskCounts
after_write c =
    record c { calls = one_more c.calls; writes = one_more c.writes; stopped = stops_next c; failures = failures_after (write_fails_next c) c.failures }

-- after so many reads in a row, of which the first that fails is the last
abbrev pub after_reads : ℕ → DiskCounts → DiskCounts
after_reads zero c = c
after_reads (suc n) c = if fails_next c then after_read c else after_reads n (after_read c)

-- after so many writes in a row, whether they fail or not
abbrev pub after_writes : ℕ → DiskCounts → DiskCounts
after_writes zero c = c
after_writes (suc n) c = after_write (after_writes n c)

-- what a write of these bytes leaves in its sector
abbrev pub left_by_write : DiskCounts → List ℕ → List ℕ
left_by_write c bytes = if write_fails_next c then replicate sector_bytes 238 else bytes

-- no call was made yet and no sector named, no fault is armed, and nothing is unsynced
pub record IsNewDevice (d : SimDisk) : Type 0 where
  pub no_calls : d.calls ≡ 0
  pub no_writes : d.writes ≡ 0
  pub no_syncs : d.syncs ≡ 0
  pub runs : d.stopped ≡ false
  pub no_stop : d.stop ≡ None
  pub no_fail : d.fail ≡ None
  pub no_failures : d.failures.number ≡ 0
  pub none_asked : (k : ℕ) → asked_of d k ≡ 0
  pub no_past : d.past.notes ≡ []
  pub all_synced : (k : ℕ) → IsUnsynced d k → ⊥
  pub as_synced : (k : ℕ) → last_synced d k ≡ sector_of d k

-- what a sector holds after a stop where these bytes were chosen
abbrev pub left_at : SimDisk → List (ℕ × List ℕ) → Image
left_at d chosen k = if slice_index_or d.unsynced.items k false then first_listed chosen k (last_synced d k) else sector_of d k

-- Whatever it is asked for, a simulated device answers as a disk:
pub record AnswersAsSimulated {T F : Type 0} (old new : SimDisk) (result : Result T F) : Type 0 where
  -- it has as many sectors as it had,
  pub size : sectors_in new ≡ sectors_in old
  -- tells a fault exactly where it failed,
  pub cause : HasCause (failures_of old) (failures_of new) result
  -- and a stop might have left what it might have left before, or what it may leave now.
  pub time : Elapses (moment_of old) (moment_of new) (LeftSince old) (LeftSince new) (sector_of new) (IsUnsynced new)

-- The call is counted
pub record FailsAsArmed {T F : Type 0} (fails : Bool) (counts : DiskCounts) (new : SimDisk) (result : Result T F) : Type 0 where
  -- like this,
  pub counted : disk_counts new ≡ counts
  -- and fails exactly where the device has stopped, or a failure is armed.
  pub failing : is_err result ≡ fails

-- Its sectors are as they were:
pub record KeepsSectors (old new : SimDisk) : Type 0 where
  -- each holds the same bytes,
  pub same : sector_of new ≡ sector_of old
  -- the same ones are unsynced,
  pub unsynced : (k : ℕ) → IsUnsynced new k → IsUnsynced old k
  pub still : (k : ℕ) → IsUnsynced old k → IsUnsynced new k
  -- and each was last synced with the same bytes.
  pub last : last_synced new ≡ last_synced old

-- Sector n is written:
pub record RewritesSector (n : ℕ) (old new : SimDisk) : Type 0 where
  -- no other holds other bytes,
  pub others : ChangesOnly n (sector_of old) (sector_of new)
  -- it is unsynced, with those that were,
  pub unsynced : (k : ℕ) → IsUnsynced new k → IsUnsynced old k ⊎ (k ≡ n)
  pub marked : IsUnsynced new n
  pub still : (k : ℕ) → IsUnsynced old k → IsUnsynced new k
  -- and none was synced.
  pub last : last_synced new ≡ last_synced old

-- The eight sectors from n on are written:
pub record RewritesPage (n : ℕ) (old new : SimDisk) : Type 0 where
  -- no other holds other bytes,
  pub others : ChangesPage n (sector_of old) (sector_of new)
  -- they are unsynced, with those that were,
  pub unsynced : (k : ℕ) → IsUnsynced new k → IsUnsynced old k ⊎ IsOfPage n k
  pub marked : (k : ℕ) → IsOfPage n k → IsUnsynced new k
  pub still : (k : ℕ) → IsUnsynced old k → IsUnsynced new k
  -- and none was synced.
  pub last : last_synced new ≡ last_synced old

-- A page is written from sector n on by eight writes, of which
pub record WritesEach (n : ℕ) (page : List ℕ) (old new : SimDisk) : Type 0 where
  -- each leaves what a write leaves after those before it,
  pub each : (i : ℕ) → i < 8 → sector_of new (n + i) ≡ left_by_write (after_writes i (disk_counts old)) (part_of page i)
  -- and is counted.
  pub counted : disk_counts new ≡ after_writes 8 (disk_counts old)

-- All sectors are synced as they are:
pub record SyncsSectors {T F : Type 0} (old new : SimDisk) (result : Result T F) : Type 0 where
  -- each holds the same bytes,
  pub same : sector_of new ≡ sector_of old
  -- and where the call succeeds none is unsynced, and these bytes are the ones that were last synced;
  pub synced : OnOk result ((k : ℕ) → IsUnsynced new k → ⊥)
  pub last : OnOk result (last_synced new ≡ sector_of old)
  -- where it fails none becomes synced, and whatever comes none becomes unsynced.
  pub still : OnErr result ((k : ℕ) → IsUnsynced old k → IsUnsynced new k)
  pub last_stays : OnErr result (last_synced new ≡ last_synced old)
  pub unsynced : (k : ℕ) → IsUnsynced new k → IsUnsynced old k

-- What each command returns and what it leaves.
-- mmap(2), munmap(2), mprotect(2), fork(2), _exit(2), msync(2), truncate(2), sigaction(2); the order of the checks is our choice.
use Rattle.std.specs.Prelude.{ℕ, zero, suc, length, slice_get, ◌≡◌, refl, ◌+◌, ◌%◌, ◌*◌, ◌/◌, ◌==◌, ◌&&◌, not, Bool, false, nat_lt, if◌then◌else◌, [], ◌∷◌, Option, Some, None}
use Rattle.vm_types.specs.declared.access.Access.{Access}
use Rattle.vm_types.specs.declared.access.Access.TheVariants as Accesses
use Rattle.vm_types.specs.declared.access.StoredValue.{StoredValue}
use Rattle.vm_types.specs.declared.command.Command.{Command}
use Rattle.vm_types.specs.declared.command.Command.TheVariants.{Spawn, Fork, Exit, Mmap, Munmap, Mprotect, Dontneed, Msync, Truncate, Load, Store, Fetch, PastFaults}
use Rattle.vm_types.specs.declared.command.MapSource.{MapSource}
use Rattle.vm_types.specs.declared.permission.Prot.{Prot}
use Rattle.vm_types.specs.declared.refusal.Code.TheVariants.{BusAdraln, SegvAccerr, SegvMaperr}
use Rattle.vm_types.specs.declared.refusal.Errno.{Errno}
use Rattle.vm_types.specs.declared.refusal.Errno.TheVariants.{ESRCH, EAGAIN, ENOMEM}
use Rattle.vm_types.specs.declared.region.Backing.TheVariants.{Anon}
use Rattle.vm_types.specs.declared.reply.Reply.{Reply}
use Rattle.vm_types.specs.declared.reply.Reply.TheVariants.{Process, Address, Done, Value, Faulted, Refused, Stalled, Halted, Past}
use Rattle.vm_types.specs.declared.width.Width.{Width}
use Rattle.vm_types.specs.declared.width.Width.TheVariants.{One, Four}
use Rattle.vm_types.specs.Access.{loaded, stored}
use Rattle.vm_types.specs.Checks.{first_of, page_count, pages_from}
use Rattle.vm_types.specs.Mapping.{mmap_errno, mmap_place, attr_for, with_mapping}
use Rattle.vm_types.specs.Msync.{Ruling, Refuses, Passes, Takes, msync_ruling, shows_resized, committed, synced}
use Rattle.vm_types.specs.Permission.{kept, with_bits}
use Rattle.vm_types.specs.Processes.{least_free_from, least_free_pid, with_process, forked, without_process}
use Rattle.vm_types.specs.History as History
use Rattle.vm_types.specs.Ranges.{munmap_checks, without_row, asked_checks, row_checks, with_protection, covered_checks, without_copies}
use Rattle.vm_types.specs.Rows.{is_covered}
use Rattle.vm_types.specs.State.{State, shown}
use Rattle.vm_types.specs.Truncation.{length_in, truncate_checks, truncated}
use Rattle.vm_types.specs.Verdict.{Verdict, Fine, Faults, verdict, fault_of}
use Rattle.vm_types.specs.Files.{Contents}
use Rattle.vm_types.specs.View.{View, zero_page}
use Rattle.vm_types.specs.Width.{byte_count}

-- a reply, and the state after it
pub record Outcome : Type 0 where
  pub reply : Reply
  pub state : State

-- a reply that changes nothing
abbrev pub answers : State → Reply → Outcome
answers s reply = record { reply = reply; state = s }

-- spawn: the least free number gets an empty space
abbrev pub spawn_outcome : State → Option ℕ → Outcome
spawn_outcome s None = answers s (Refused EAGAIN)
spawn_outcome s (Some pid) = record { reply = Process pid; state = with_process s pid (λ page. None) }

-- fork of a live process: the least free number gets the pages of the parent, own copies included
abbrev pub fork_outcome : State → ℕ → Option ℕ → Outcome
fork_outcome s parent None = answers s (Refused EAGAIN)
fork_outcome s parent (Some child) = record { reply = Process child; state = forked s parent child }

-- exit of a live process: its number is free, and its pages are gone
abbrev pub exit_outcome : State → ℕ → Outcome
exit_outcome s pid = record { reply = Done; state = without_process s pid }

-- mmap: refused, or placed
abbrev pub mmap_outcome : State → ℕ → ℕ → Prot → MapSource → Option Errno → Option ℕ → Outcome
mmap_outcome s pid len prot source (Some errno) place = answers s (Refused errno)
mmap_outcome s pid len prot source None None = answers s (Refused ENOMEM)
mmap_outcome s pid len prot source None (Some first) =
    record { reply = Address (4096 * first); state = with_mapping s pid first (page_count len) (attr_for s pid first (page_count len) source prot) }

-- refused by this check, or else this
abbrev pub refused_or : State → Option Errno → Outcome → Outcome
refused_or s (Some errno) outcome = answers s (Refused errno)
refused_or s None outcome = outcome

-- munmap: refused, or the pages of the range removed
abbrev pub munmap_outcome : State → ℕ → ℕ → ℕ → Outcome
munmap_outcome s pid addr len =
    refused_or s (first_of (munmap_checks s pid addr len))
    (record { reply = Done; state = without_row s pid (addr / 4096) (pages_from addr len) })

-- mprotect of a row of pages: refused, or the permission given
abbrev pub protect_outcome : State → ℕ → ℕ → ℕ → Prot → Outcome
protect_outcome s pid first pages prot =
    refused_or s (first_of (row_checks s pid first pages prot))
    (record { reply = Done; state = with_protection s pid first pages (kept prot) })

-- mprotect: a length of 0 is done with before any page is looked at
abbrev pub mprotect_outcome : State → ℕ → ℕ → ℕ → Prot → Outcome
mprotect_outcome s pid addr len prot =
    refused_or s (first_of (asked_checks s pid addr))
    (if len == 0 then answers s Done else protect_outcome s pid (addr / 4096) (pages_from addr len) prot)

-- madvise of a row of pages: refused, or their own copies gone
abbrev pub uncopy_outcome : State → ℕ → ℕ → ℕ → Outcome
uncopy_outcome s pid first pages =
    refused_or s (first_of (covered_checks s pid first pages))
    (record { reply = Done; state = without_copies s pid first pages })

-- madvise with MADV_DONTNEED: a length of 0 is done with before any page is looked at
abbrev pub dontneed_outcome : State → ℕ → ℕ → ℕ → Outcome
dontneed_outcome s pid addr len =
    refused_or s (first_of (asked_checks s pid addr))
    (if len == 0 then answers s Done else uncopy_outcome s pid (addr / 4096) (pages_from addr len))

-- msync: refused, done with nothing to make durable, or done
abbrev pub msync_outcome : State → Ruling → Outcome
msync_outcome s (Refuses errno) = answers s (Refused errno)
msync_outcome s Passes = answers s Done
msync_outcome s (Takes pid first count) = record { reply = Done; state = synced s pid first count }

-- truncate: refused; done, with nothing changed, where the file is so long already; or done, and the file is so long
abbrev pub truncate_outcome : State → ℕ → ℕ → Outcome
truncate_outcome s file length =
    refused_or s (first_of (truncate_checks s file length))
    (if length_in (s.files file) == length then answers s Done else record { reply = Done; state = truncated s file length })

-- load: the number that the page shows
abbrev pub load_outcome : State → ℕ → Width → Verdict → Outcome
load_outcome s addr width (Faults code) = answers s (Faulted (fault_of Accesses.Load code addr))
load_outcome s addr width (Fine view) = answers s (Value width (loaded (shown s view) (addr % 4096) (byte_count width)))

-- store: the page with the number written
abbrev pub store_outcome : State → ℕ → ℕ → StoredValue → Verdict → Outcome
store_outcome s pid addr value (Faults code) = answers s (Faulted (fault_of Accesses.Store code addr))
store_outcome s pid addr value (Fine view) =
    record { reply = Done; state = stored s pid addr view (byte_count value.width) value.value }

-- fetch: the number of four bytes that the page shows
abbrev pub fetch_outcome : State → ℕ → Verdict → Outcome
fetch_outcome s addr (Faults code) = answers s (Faulted (fault_of Accesses.Fetch code addr))
fetch_outcome s addr (Fine view) = answers s (Value Four (loaded (shown s view) (addr % 4096) (byte_count Four)))

-- what a process's access comes to
abbrev pub judged : State → ℕ → ℕ → Width → Access → Verdict
judged s pid addr width access = verdict s.files (s.views pid) addr (byte_count width) access

-- what a machine that runs and lacks nothing returns and leaves
abbrev pub outcome : State → Command → Outcome
outcome s Spawn = spawn_outcome s (least_free_pid s.live)
outcome s (Fork pid) = if s.live pid then fork_outcome s pid (least_free_pid s.live) else answers s (Refused ESRCH)
outcome s (Exit pid) = if s.live pid then exit_outcome s pid else answers s (Refused ESRCH)
outcome s (Mmap pid addr len prot source placing) =
    mmap_outcome s pid len prot source (mmap_errno s pid addr len prot source placing) (mmap_place s pid addr len placing)
outcome s (Munmap pid addr len) = munmap_outcome s pid addr len
outcome s (Mprotect pid addr len prot) = mprotect_outcome s pid addr len prot
outcome s (Dontneed pid addr len) = dontneed_outcome s pid addr len
outcome s (Msync pid addr len mode) = msync_outcome s (msync_ruling s pid addr len mode)
outcome s (Truncate file length) = truncate_outcome s file length
outcome s (Load pid addr width) =
    if s.live pid then load_outcome s addr width (judged s pid addr width Accesses.Load) else answers s (Refused ESRCH)
outcome s (Store pid addr value) =
    if s.live pid then store_outcome s pid addr value (judged s pid addr value.width Accesses.Store) else answers s (Refused ESRCH)
outcome s (Fetch pid addr) =
    if s.live pid then fetch_outcome s addr (judged s pid addr Four Accesses.Fetch) else answers s (Refused ESRCH)
outcome s PastFaults = answers s (Past s.past)

-- the history with the fault that an access of the process was answered by, if any
abbrev pub noted_fault : ℕ → Reply → History.Past → History.Past
noted_fault pid (Faulted fault) past = History.with_fault past pid fault
noted_fault pid (Process child) past = past
noted_fault pid (Address addr) past = past
noted_fault pid Done past = past
noted_fault pid (Value width value) past = past
noted_fault pid (Refused errno) past = past
noted_fault pid (Stalled stall) past = past
noted_fault pid Halted past = past
noted_fault pid (Past faults) past = past

-- the history after a command that was so answered
abbrev pub past_after : Command → Reply → History.Past → History.Past
past_after (Load pid addr width) reply past = noted_fault pid reply past
past_after (Store pid addr value) reply past = noted_fault pid reply past
past_after (Fetch pid addr) reply past = noted_fault pid reply past
past_after Spawn reply past = past
past_after (Fork pid) reply past = past
past_after (Exit pid) reply past = past
past_after (Mmap pid addr len prot source placing) reply past = past
past_after (Munmap pid addr len) reply past = past
past_after (Mprotect pid addr len prot) reply past = past
past_after (Dontneed pid addr len) reply past = past
past_after (Msync pid addr len mode) reply past = past
past_after (Truncate file length) reply past = past
past_after PastFaults reply past = past

-- the state with the fault of an access in its history
abbrev pub noted : Command → Reply → State → State
noted command reply s = record s { past = past_after command reply s.past }

-- how an msync is judged; any other command makes nothing durable
abbrev pub ruling : State → Command → Ruling
ruling s Spawn = Passes
ruling s (Fork pid) = Passes
ruling s (Exit pid) = Passes
ruling s (Mmap pid addr len prot source placing) = Passes
ruling s (Munmap pid addr len) = Passes
ruling s (Mprotect pid addr len prot) = Passes
ruling s (Dontneed pid addr len) = Passes
ruling s (Truncate file length) = Passes
ruling s PastFaults = Passes
ruling s (Msync pid addr len mode) = msync_ruling s pid addr len mode
ruling s (Load pid addr width) = Passes
ruling s (Store pid addr value) = Passes
ruling s (Fetch pid addr) = Passes

-- what files hold with what is taken made durable, all of it at once
abbrev pub takes : State → Ruling → Contents → Contents
takes s (Refuses errno) before = before
takes s Passes before = before
takes s (Takes pid first count) before = committed s pid first count before

-- what a commit would leave durable, where there is one
abbrev pub commit_of : State → Ruling → Option Contents
commit_of s (Refuses errno) = None
commit_of s Passes = None
commit_of s (Takes pid first count) = Some (committed s pid first count s.durable)

-- the same of a command
abbrev pub commits : State → Command → Option Contents
commits s command = commit_of s (ruling s command)

-- whether a file that has got another length is among what is taken
abbrev pub takes_lengths : State → Ruling → Bool
takes_lengths s (Refuses errno) = false
takes_lengths s Passes = false
takes_lengths s (Takes pid first count) = shows_resized s pid first count

-- the same of a command
abbrev pub commits_lengths : State → Command → Bool
commits_lengths s command = takes_lengths s (ruling s command)

-- a process with two pages of anonymous memory: page 16 to be read and written, with its first byte stored, and page 17
-- to be run alone
abbrev pub sample_space : ℕ → Option View
sample_space page =
    if page == 16 then Some (record { attr = record { prot = with_bits 3; backing = Anon }; own = Some (0x11 ∷ []) })
    else (if page == 17 then Some (record { attr = record { prot = with_bits 4; backing = Anon }; own = None }) else None)

-- so many processes of such pages, and no file
abbrev pub sample_state : ℕ → State
sample_state count = record {
  mode = 39;
  live = λ pid. not (pid == 0) && nat_lt pid (count + 1);
  views = λ pid. sample_space;
  files = λ file. None;
  resizes = false;
  resized = λ file. false;
  shortest = λ file. 0;
  most = 0;
  volatile = λ file page. zero_page;
  durable = record { files = λ file. None; pages = λ file page. zero_page };
  touched = λ file page. false;
  objects = λ object page. None;
  past = [];
  ends = None;
}

-- the child of the only process is number 2, and sees what its parent stored
pub child : (outcome (sample_state 1) (Fork 1)).reply ≡ Process 2
unfolding least_free_from
child = refl

pub child_page : (outcome (sample_state 1) (Fork 1)).state.views 2 16 ≡ sample_space 16
unfolding least_free_from
child_page = refl

-- with 64 processes there is no number, which is looked at after the parent
pub no_child : (outcome (sample_state 64) (Fork 64)).reply ≡ Refused EAGAIN
unfolding least_free_from
no_child = refl

pub no_parent : (outcome (sample_state 64) (Fork 65)).reply ≡ Refused ESRCH
no_parent = refl

-- the number of the process that ends is the next one's, and a second end finds none
pub next_number : (outcome (outcome (sample_state 7) (Exit 3)).state Spawn).reply ≡ Process 3
unfolding least_free_from
next_number = refl

pub ended_twice : (outcome (outcome (sample_state 7) (Exit 3)).state (Exit 3)).reply ≡ Refused ESRCH
ended_twice = refl

-- the page that may be run alone is zeros to a fetch and faults at a load; the other one faults at a fetch
pub fetched : (outcome (sample_state 1) (Fetch 1 0x11000)).reply ≡ Value Four 0
unfolding zero_page
fetched = refl

pub not_read : (outcome (sample_state 1) (Load 1 0x11000 Four)).reply ≡ Faulted record { cause = 13; code = SegvAccerr; addr = 0x11000 }
not_read = refl

pub not_run : (outcome (sample_state 1) (Fetch 1 0x10000)).reply ≡ Faulted record { cause = 12; code = SegvAccerr; addr = 0x10000 }
not_run = refl

pub odd_fetch : (outcome (sample_state 1) (Fetch 1 0x20002)).reply ≡ Faulted record { cause = 0; code = BusAdraln; addr = 0x20002 }
odd_fetch = refl

-- seventeen faulting loads, of which the last sixteen are kept
abbrev pub loads_from : State → ℕ → ℕ → State
loads_from s addr zero = s
loads_from s addr (suc count) =
    let command = Load 1 addr One in
    let o = outcome s command in
    loads_from (noted command o.reply o.state) (addr + 1) count

pub sixteen_kept : length (loads_from (sample_state 1) 0 17).past ≡ 16
sixteen_kept = refl

pub oldest_kept : slice_get (loads_from (sample_state 1) 0 17).past 0 ≡ Some (1, record { cause = 13; code = SegvMaperr; addr = 1 })
oldest_kept = refl

pub last_kept : slice_get (loads_from (sample_state 1) 0 17).past 15 ≡ Some (1, record { cause = 13; code = SegvMaperr; addr = 16 })
last_kept = refl

-- the page with a copy of its own is zeros again, and stays mapped
pub copy_gone : (outcome (sample_state 1) (Dontneed 1 0x10000 1)).state.views 1 16
    ≡ Some (record { attr = record { prot = with_bits 3; backing = Anon }; own = None })
unfolding is_covered
copy_gone = refl

pub hole : (outcome (sample_state 1) (Dontneed 1 0x11000 0x1001)).reply ≡ Refused ENOMEM
unfolding is_covered
hole = refl

pub nothing_asked : (outcome (sample_state 1) (Dontneed 1 0x50000 0)).reply ≡ Done
nothing_asked = refl

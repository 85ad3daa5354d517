-- Files of other lengths, as processes see them: the errors of truncate in their order, what is seen of a file that was cut and of one that grew, and what an msync
-- takes of it. Worked rows first, and then what is true of every state.
use Rattle.std.proofs.{Common.{◌≡◌, ◌≢◌, ℕ, zero, suc, inl, inr, ◌+◌, ◌*◌, ◌<◌, ◌≤◌, ◌^◌, ◌⊎◌, ◌==◌, ◌&&◌, ◌||◌, not, Bool, true, false, if◌then◌else◌, List, [], ◌∷◌, get_or, Option, Some, None}}
use Rattle.std.proofs.{Common.{refl, sym, ap, ◌∙◌, arith, eq-eqb, ne_eqb}, lemmas.{Bool.{cases_lt, and_parts, false≢true, true≢false}, Bool.Decides.{nat_tests}}}
use Rattle.std.specs.Prelude.{is_none, nat_lt, min}
use Rattle.vm_types.proofs.{Cutting.{cut-before, cut-past}, Naming.{any-at, any-where}}
use Rattle.vm_types.specs.{Access.{loaded}, Counting.{any_below, count_below, sum_below}, Files.{Files, Contents, bytes_inside, is_unwritable, trimmed}, Limits.{file_limit, file_page_limit, longest_file}}
use Rattle.vm_types.specs.Msync.{Refuses, Passes, Takes, resized_in, shows_resized, is_shared_page, is_shared_of, shares, shows_file, touched_in, touched_count, row_ruling, committed, synced}
use Rattle.vm_types.specs.{Rows.{is_covered}, State.{State}, Step.{Outcome, answers, refused_or, outcome, commits_lengths}}
use Rattle.vm_types.specs.{Truncation.{length_in, truncated}, View.{View}, declared.{access.StoredValue.{StoredValue}, command.Command.TheVariants.{Truncate, Msync, Load, Store}, command.MsyncMode.TheVariants.{Sync}}}
use Rattle.vm_types.specs.declared.{refusal.{Code.TheVariants.{BusAdrerr}, Errno.{Errno, TheVariants.{EBADF, EACCES, EINVAL, EFBIG, ENOSPC}}}, region.{Backing.{Backing}}}
use Rattle.vm_types.specs.declared.{region.Backing.TheVariants.{Private, Shared}, reply.Reply.TheVariants.{Done, Value, Faulted, Refused}, width.Width.TheVariants.{One, Four}}

-- a page to be read and written, of file 0
abbrev page_of : Backing → Option (List ℕ) → Option View
page_of backing own = Some (record { attr = record { prot = record { 0 = 3 }; backing = backing }; own = own })

-- pages 16 and 17 share the two pages of file 0, and page 18 has the second one for itself, with a byte stored
abbrev space : ℕ → Option View
space page =
    if page == 16 then page_of (Shared (record { file = 0; page = 0 })) None
    else (if page == 17 then page_of (Shared (record { file = 0; page = 1 })) None
    else (if page == 18 then page_of (Private (record { file = 0; page = 1 })) (Some (0x77 ∷ [])) else None))

-- 5,000 bytes to be read and written, and 10 that may only be read
abbrev two_files : Files
two_files file =
    if file == 0 then Some (record { length = 5000; read_only = false })
    else (if file == 1 then Some (record { length = 10; read_only = true }) else None)

-- a process with those pages, over a store that gives files other lengths, or doesn't, and makes so many pages durable at once
abbrev sample : Bool → ℕ → State
sample resizes most = record {
  mode = 39;
  live = λ pid. pid == 1;
  views = λ pid. space;
  files = two_files;
  resizes = resizes;
  resized = λ file. false;
  shortest = λ file. length_in (two_files file);
  most = most;
  volatile = λ file page. 0x11 ∷ 0x22 ∷ 0x33 ∷ 0x44 ∷ [];
  durable = record { files = two_files; pages = λ file page. 0x11 ∷ 0x22 ∷ 0x33 ∷ 0x44 ∷ [] };
  touched = λ file page. false;
  objects = λ object page. None;
  past = [];
  ends = None;
}

-- the state after a file got another length
abbrev so_long : State → ℕ → State
so_long s length = (outcome s (Truncate 0 length)).state

-- a file that isn't there is refused before one that may only be read, that before a store whose files have their lengths for good, as of layout 2, and that before
-- a length past the longest
no_file : (outcome (sample false 8) (Truncate 2 (longest_file + 1))).reply ≡ Refused EBADF
no_file = refl

read_only : (outcome (sample false 8) (Truncate 1 (longest_file + 1))).reply ≡ Refused EACCES
read_only = refl

fixed_lengths : (outcome (sample false 8) (Truncate 0 (longest_file + 1))).reply ≡ Refused EINVAL
fixed_lengths = refl

too_long : (outcome (sample true 8) (Truncate 0 (longest_file + 1))).reply ≡ Refused EFBIG
too_long = refl

longest : (outcome (sample true 8) (Truncate 0 longest_file)).reply ≡ Done
longest = refl

-- a file that is so long already is as it was
so_long_already : outcome (sample true 8) (Truncate 0 5000) ≡ answers (sample true 8) Done
so_long_already = refl

-- of a file that was cut to two bytes, and grew again, the others are zeros
cut_and_grown : (outcome (so_long (so_long (sample true 8) 2) 5000) (Load 1 0x10000 Four)).reply ≡ Value Four 0x2211
cut_and_grown = refl

-- a page past the end is a SIGBUS, one of its own too
past_the_end : (outcome (so_long (sample true 8) 4096) (Load 1 0x11000 One)).reply ≡ Faulted record { cause = 13; code = BusAdrerr; addr = 0x11000 }
past_the_end = refl

private_past_the_end : (outcome (so_long (sample true 8) 4096) (Load 1 0x12000 One)).reply ≡ Faulted record { cause = 13; code = BusAdrerr; addr = 0x12000 }
private_past_the_end = refl

-- whose own copy is gone, so that it shows zeros once the file is longer again; a byte more, and it is kept
copy_gone : (so_long (sample true 8) 4096).views 1 18 ≡ page_of (Private (record { file = 0; page = 1 })) None
copy_gone = refl

zeros_after_the_copy : (outcome (so_long (so_long (sample true 8) 4096) 8192) (Load 1 0x12000 One)).reply ≡ Value One 0
zeros_after_the_copy = refl

copy_kept : (so_long (sample true 8) 4097).views 1 18 ≡ space 18
copy_kept = refl

-- the page in which a file ended is touched when it grows, and not when it is cut
end_touched : (so_long (sample true 8) 8192).touched 0 1 ≡ true
end_touched = refl

end_not_touched : (so_long (sample true 8) 4500).touched 0 1 ≡ false
end_not_touched = refl

abbrev five : StoredValue
five = record { width = One; value = 5; fits = omega arith }

-- a byte is stored to page 1 of the file, which then grows to 8,192 bytes
abbrev grown : ℕ → State
grown most = so_long (outcome (sample true most) (Store 1 0x11000 five)).state 8192

-- an msync of the mapping of page 0 takes page 1 too, and with it the length
takes_the_file : touched_in (grown 8) 1 16 1 0 1 ≡ true
unfolding any_below
takes_the_file = refl

not_before : touched_in (outcome (sample true 8) (Store 1 0x11000 five)).state 1 16 1 0 1 ≡ false
unfolding any_below
not_before = refl

new_length : (committed (grown 8) 1 16 1 (grown 8).durable).files 0 ≡ Some (record { length = 8192; read_only = false })
unfolding any_below
new_length = refl

new_byte : loaded ((committed (grown 8) 1 16 1 (grown 8).durable).pages 0 1) 0 1 ≡ 5
unfolding any_below
new_byte = refl

-- and nothing of the file is left to be taken
no_page_left : (synced (grown 8) 1 16 1).touched 0 1 ≡ false
unfolding any_below
no_page_left = refl

no_length_left : (synced (grown 8) 1 16 1).resized 0 ≡ false
unfolding any_below
no_length_left = refl

-- counts: what passes is counted, and there are no more than numbers to try
count-some : (f : ℕ → Bool) (n k : ℕ) → k < n → f k ≡ true → 1 ≤ count_below f n
unfolding count_below
count-some f zero k below is = absurd (omega (arith, below))
count-some f (suc n) k below is = elim (cases_lt k n) [
  | inl less ↦ (let rest = count-some f n k less is in omega (arith, rest))
  | inr last ↦ (let same : k ≡ n = omega (arith, below, last) in rw (ap f (sym same) ∙ is) (omega arith))
]

count-most : (f : ℕ → Bool) (n : ℕ) → count_below f n ≤ n
unfolding count_below
count-most f zero = omega arith
count-most f (suc n) = let rest = count-most f n in either (f n) (count_below f n) rest
  where
    either : (b : Bool) (c : ℕ) → c ≤ n → (if b then 1 else 0) + c ≤ suc n
    either true c few = omega (arith, few)
    either false c few = omega (arith, few)

sum-some : (f : ℕ → ℕ) (n k : ℕ) → k < n → f k ≤ sum_below f n
unfolding sum_below
sum-some f zero k below = absurd (omega (arith, below))
sum-some f (suc n) k below = elim (cases_lt k n) [
  | inl less ↦ (let rest = sum-some f n k less in omega (arith, rest))
  | inr last ↦ (let same : k ≡ n = omega (arith, below, last) in rw same (omega arith))
]

sum-most : (f : ℕ → ℕ) (n most : ℕ) → ((k : ℕ) → f k ≤ most) → sum_below f n ≤ n * most
unfolding sum_below
sum-most f zero most each = omega arith
sum-most f (suc n) most each = let rest = sum-most f n most each in let here = each n in omega (arith, rest, here)

-- a touched page of a row is counted
pub counted : (s : State) (pid first count file page : ℕ) → file < file_limit → page < file_page_limit → touched_in s pid first count file page ≡ true
    → 1 ≤ touched_count s pid first count
unfolding touched_count
counted s pid first count file page few inside is =
    let here = count-some (touched_in s pid first count file) file_page_limit page inside is in
    let all = sum-some (λ f. count_below (touched_in s pid first count f) file_page_limit) file_limit file few in
    omega (arith, here, all)

counted_most : (s : State) (pid first count : ℕ) → touched_count s pid first count ≤ file_limit * file_page_limit
unfolding touched_count
counted_most s pid first count =
    sum-most (λ f. count_below (touched_in s pid first count f) file_page_limit) file_limit file_page_limit (λ f. count-most (touched_in s pid first count f) file_page_limit)

-- an msync that shows more touched pages than are made durable at once is refused, of a file of another length too
pub refused_by_most : (s : State) (pid first count : ℕ) → s.most < touched_count s pid first count → row_ruling s pid first count Sync ≡ Refuses ENOSPC
refused_by_most s pid first count more = let over : nat_lt s.most (touched_count s pid first count) ≡ true = grind (arith, nat_tests, more) in rw over refl

-- and one that shows a file of another length takes it, also where no page is touched
pub taken_with_length : (s : State) (pid first count : ℕ) → touched_count s pid first count ≤ s.most → shows_resized s pid first count ≡ true
    → row_ruling s pid first count Sync ≡ Takes pid first count
taken_with_length s pid first count few shown =
    let n = touched_count s pid first count in
    let under : nat_lt s.most n ≡ false = grind (arith, nat_tests, few) in
    rw under (rw shown (either (n == 0)))
  where
    either : (b : Bool) → (if b && not true then Passes else Takes pid first count) ≡ Takes pid first count
    either true = refl
    either false = refl

-- so the msync above is refused where no page is made durable at once
refused_msync : (outcome (grown 0) (Msync 1 0x10000 4096 Sync)).reply ≡ Refused ENOSPC
unfolding is_covered
refused_msync = let one = counted (grown 0) 1 16 1 0 1 (omega arith) (omega arith) takes_the_file in rw (refused_by_most (grown 0) 1 16 1 (omega (arith, one))) refl

-- and is done where enough are, with the file as it is now
resized_row : resized_in (grown (2 ^ 42)) 1 16 1 0 ≡ true
unfolding any_below
resized_row = refl

shown_resized : shows_resized (grown (2 ^ 42)) 1 16 1 ≡ true
unfolding shows_resized
shown_resized = any-at (resized_in (grown (2 ^ 42)) 1 16 1) file_limit 0 (omega arith) resized_row

done_msync : outcome (grown (2 ^ 42)) (Msync 1 0x10000 4096 Sync) ≡ record { reply = Done; state = synced (grown (2 ^ 42)) 1 16 1 }
unfolding is_covered
done_msync =
    let few = counted_most (grown (2 ^ 42)) 1 16 1 in
    rw (taken_with_length (grown (2 ^ 42)) 1 16 1 (omega (arith, few)) shown_resized) refl

-- or it is refused with nothing done, for want of room for that length
may_lack : commits_lengths (grown (2 ^ 42)) (Msync 1 0x10000 4096 Sync) ≡ true
unfolding is_covered
may_lack =
    let few = counted_most (grown (2 ^ 42)) 1 16 1 in
    rw (taken_with_length (grown (2 ^ 42)) 1 16 1 (omega (arith, few)) shown_resized) shown_resized

-- a file that gets another length keeps its bytes up to the shorter of both, and is zeros from there on; other files are as they were
pub bytes_kept : (s : State) (file length k i : ℕ) → i < bytes_inside (min (length_in (s.files file)) length) k
    → get_or ((truncated s file length).volatile file k) i 0 ≡ get_or (s.volatile file k) i 0
bytes_kept s file length k i below =
    let n = bytes_inside (min (length_in (s.files file)) length) k in
    rw (eq-eqb file file refl) (cut-before n i (s.volatile file k) below)

pub zeros_past : (s : State) (file length k i : ℕ) → bytes_inside (min (length_in (s.files file)) length) k ≤ i
    → get_or ((truncated s file length).volatile file k) i 0 ≡ 0
zeros_past s file length k i past =
    let n = bytes_inside (min (length_in (s.files file)) length) k in
    rw (eq-eqb file file refl) (cut-past n i (s.volatile file k) past)

pub others_kept : (s : State) (file length f k : ℕ) → f ≢ file → (truncated s file length).volatile f k ≡ s.volatile f k
others_kept s file length f k other = rw (ne_eqb f file other) refl

-- an msync that shows a file of another length makes all of it durable as it is now, and leaves nothing of it to be taken
pub whole_file : (s : State) (pid first count file page : ℕ) (before : Contents) → resized_in s pid first count file ≡ true
    → ((committed s pid first count before).files file ≡ s.files file)
    × ((committed s pid first count before).pages file page ≡ trimmed s.files file page (s.volatile file page))
whole_file s pid first count file page before shown = (rw shown refl, rw shown (either _))
  where
    here : List ℕ
    here = trimmed s.files file page (s.volatile file page)

    either : (b : Bool) → (if b || true then here else before.pages file page) ≡ here
    either true = refl
    either false = refl

pub nothing_left : (s : State) (pid first count file page : ℕ) → resized_in s pid first count file ≡ true
    → ((synced s pid first count).resized file ≡ false) × ((synced s pid first count).touched file page ≡ false)
nothing_left s pid first count file page shown = (
  rw shown (never (s.resized file)),
  rw shown (none (s.touched file page) (any_below (λ i. shares (s.views pid (first + i)) file page) count)),
)
  where
    never : (b : Bool) → (b && not true) ≡ false
    never true = refl
    never false = refl

    none : (b c : Bool) → (b && not (b && (c || true))) ≡ false
    none false c = refl
    none true true = refl
    none true false = refl

-- a file that has its durable length is taken by its touched pages behind the row alone, and keeps that length
pub row_alone : (s : State) (pid first count file page : ℕ) → s.resized file ≡ false
    → touched_in s pid first count file page ≡ (s.touched file page && any_below (λ i. shares (s.views pid (first + i)) file page) count)
row_alone s pid first count file page same = rw same (alone (s.touched file page) (any_below (λ i. shares (s.views pid (first + i)) file page) count))
  where
    alone : (b c : Bool) → (b && (c || false)) ≡ (b && c)
    alone false c = refl
    alone true true = refl
    alone true false = refl

pub length_kept : (s : State) (pid first count file : ℕ) (before : Contents) → s.resized file ≡ false
    → (committed s pid first count before).files file ≡ before.files file
length_kept s pid first count file before same = rw same refl

-- a page that a row shows is of a file that it shows: so of a file of another length no page is taken without the others
shares-file : (o : Option View) (file page : ℕ) → shares o file page ≡ true → shows_file o file ≡ true
shares-file None file page is = absurd (false≢true is)
shares-file (Some view) file page is = of_backing view.attr.backing is
  where
    of_backing : (b : Backing) → is_shared_page b file page ≡ true → is_shared_of b file ≡ true
    of_backing (Shared p) is = (and_parts (p.file == file) (p.page == page) is).0
    of_backing b is = absurd (false≢true is)

any-also : (f g : ℕ → Bool) (n : ℕ) → ((k : ℕ) → f k ≡ true → g k ≡ true) → any_below f n ≡ true → any_below g n ≡ true
any-also f g n also is = let at = any-where f n is in any-at g n at.0 at.1 (also at.0 at.2)

pub taken_whole : (s : State) (pid first count file page : ℕ) → s.resized file ≡ true → touched_in s pid first count file page ≡ true → resized_in s pid first count file ≡ true
taken_whole s pid first count file page new is =
    let behind = any_below (λ i. shares (s.views pid (first + i)) file page) count in
    elim (or_cases behind (resized_in s pid first count file) (and_parts (s.touched file page) (behind || resized_in s pid first count file) is).1) [
      | inl shown ↦ rw new (any-also (λ i. shares (s.views pid (first + i)) file page) (λ i. shows_file (s.views pid (first + i)) file) count
          (λ i. shares-file (s.views pid (first + i)) file page) shown)
      | inr whole ↦ whole
    ]
  where
    or_cases : (a b : Bool) → (a || b) ≡ true → (a ≡ true) ⊎ (b ≡ true)
    or_cases true b is = inl refl
    or_cases false b is = inr is

-- over a store whose files have their lengths for good a truncate changes nothing
pub fixed_stays : (s : State) (file length : ℕ) → s.resizes ≡ false → (outcome s (Truncate file length)).state ≡ s
fixed_stays s file length fixed =
    refused (is_none (s.files file)) (is_unwritable (s.files file)) s.resizes (if nat_lt longest_file length then Some EFBIG else None) fixed
  where
    done : Outcome
    done = if length_in (s.files file) == length then answers s Done else record { reply = Done; state = truncated s file length }

    refused : (a b c : Bool) (rest : Option Errno) → c ≡ false
        → (refused_or s (if a then Some EBADF else (if b then Some EACCES else (if not c then Some EINVAL else rest))) done).state ≡ s
    refused true b c rest e = refl
    refused false true c rest e = refl
    refused false false false rest e = refl
    refused false false true rest e = absurd (true≢false e)

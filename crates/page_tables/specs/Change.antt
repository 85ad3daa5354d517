-- What the calls change.
use Rattle.std.specs.Prelude.{◌≡◌, ◌≢◌, ℕ, ◌+◌, ◌*◌, ◌<◌, ◌≤◌, ◌⊎◌, ◌↔◌, List, drop}
use Rattle.vm_types.specs.Limits.{table_entries}
use Rattle.byteorder.specs.Endian.{little_number}
use Rattle.frames.specs.declared.role.Role.TheVariants.{Free, Table}
use Rattle.frames.specs.FrameTable.{FrameTable, frame_count, bytes_of, role_of, count_of, SameButFor, Takes}
use Rattle.sv39_walk.specs.Entry.{entry_at}
use Rattle.sv39_walk.specs.Walk.{index_of}
use Rattle.page_tables.specs.Tree.{IsPage, IsTable, Points, IsUnlinked, IsForest, IsOnWay, IsBelowRoot, IsRoot, IsSpare, IsEmptyTable, last_table, missing_of, page_entry}

-- number i of a frame's 512, each of eight bytes, the lowest first
abbrev pub number_at : List ℕ → ℕ → ℕ
number_at bytes i = little_number 8 (drop (8 * i) bytes)

-- number i of a frame's 512 is e now, and all others are as they were
pub record PutsNumber (old new : List ℕ) (i e : ℕ) : Type 0 where
  pub changed : number_at new i ≡ e
  pub others : (j : ℕ) → j < table_entries → j ≢ i → number_at new j ≡ number_at old j

-- entry i of table n is e now, and all else is as it was
pub record ChangesEntry (old new : FrameTable) (n i e : ℕ) : Type 0 where
  pub others : SameButFor n old new
  pub roles : new.roles ≡ old.roles
  pub counts : new.counts ≡ old.counts
  pub changed : entry_at new n i ≡ e
  pub entries : (j : ℕ) → j < table_entries → j ≢ i → entry_at new n j ≡ entry_at old n j

-- the pointer to table m at entry i of table n is cleared, and table m is free
pub record Unlinks (old new : FrameTable) (n i m : ℕ) : Type 0 where
  pub between : FrameTable
  pub cleared : ChangesEntry old between n i 0
  pub released : SameButFor m between new
  pub free : role_of new m ≡ Free

-- Nothing but bytes of tables changed: roles and share counts are the same, and so are the bytes of every other frame.
pub record KeepsFrames (old new : FrameTable) : Type 0 where
  pub frames : frame_count new ≡ frame_count old
  pub roles : new.roles ≡ old.roles
  pub counts : new.counts ≡ old.counts
  pub bytes : (n : ℕ) → role_of old n ≢ Table → bytes_of new n ≡ bytes_of old n

-- No frame but tables changed, and no frame became one.
pub record KeepsData (old new : FrameTable) : Type 0 where
  pub frames : frame_count new ≡ frame_count old
  pub bytes : (n : ℕ) → role_of old n ≢ Table → bytes_of new n ≡ bytes_of old n
  pub roles : (n : ℕ) → role_of old n ≢ Table → role_of new n ≡ role_of old n
  pub counts : (n : ℕ) → role_of old n ≢ Table → count_of new n ≡ count_of old n
  pub tables : (n : ℕ) → IsTable new n → IsTable old n

-- the page's entry is that one now, and no other entry of any tree changed
pub record SetsEntry (old new : FrameTable) (top root page number : ℕ) : Type 0 where
  pub kept : KeepsFrames old new
  pub forest : IsForest new
  pub stays : IsRoot top new root
  pub roots : (r : ℕ) → IsRoot top old r → IsRoot top new r
  pub were_roots : (r : ℕ) → IsRoot top new r → IsRoot top old r
  pub unlinked : (n : ℕ) → IsUnlinked old n ↔ IsUnlinked new n
  pub pointers : (n i m : ℕ) → Points old n i m ↔ Points new n i m
  pub others : (n i : ℕ) → i < table_entries → (n ≢ (last_table old page top root).1) ⊎ (i ≢ index_of page 0) → entry_at new n i ≡ entry_at old n i
  pub changed : page_entry new top root page ≡ number
  pub entries : (r p : ℕ) → IsRoot top old r → IsPage top p → (r ≢ root) ⊎ (p ≢ page) → page_entry new top r p ≡ page_entry old top r p
  pub missing : (r p : ℕ) → IsRoot top old r → missing_of new top r p ≡ missing_of old top r p
  pub ends : (r p : ℕ) → IsTable old r → last_table new p top r ≡ last_table old p top r

-- one table less is missing on the way to the page, nowhere one more, and no entry of any tree changed
pub record LinksTable (old new : FrameTable) (top root page table : ℕ) : Type 0 where
  pub kept : KeepsFrames old new
  pub forest : IsForest new
  pub stays : IsRoot top new root
  pub roots : (r : ℕ) → r ≢ table → IsRoot top old r → IsRoot top new r
  pub were_roots : (r : ℕ) → r ≢ table → IsRoot top new r → IsRoot top old r
  pub linked : IsUnlinked new table → ⊥
  pub unlinked : (n : ℕ) → n ≢ table → IsUnlinked old n ↔ IsUnlinked new n
  pub pointers : (n i m : ℕ) → m ≢ table → Points old n i m ↔ Points new n i m
  pub others : (n i : ℕ) → i < table_entries → n ≢ (last_table old page top root).1 → entry_at new n i ≡ entry_at old n i
  pub lowered : missing_of new top root page + 1 ≡ missing_of old top root page
  pub ends : (last_table new page top root).1 ≡ table
  pub no_more : (p : ℕ) → missing_of new top root p ≤ missing_of old top root p
  pub entries : (r p : ℕ) → r ≢ table → IsRoot top old r → page_entry new top r p ≡ page_entry old top r p
  pub missing : (r p : ℕ) → r ≢ root → r ≢ table → IsRoot top old r → missing_of new top r p ≡ missing_of old top r p

-- Some tables below the root on the way to the page are free, and no entry of any tree changed. Of the tables that
-- stay those on that way alone have another entry, and no pointer is new.
pub record Prunes (old new : FrameTable) (top root page : ℕ) : Type 0 where
  pub kept : KeepsData old new
  pub forest : IsForest new
  pub gone : (n : ℕ) → IsTable old n → IsTable new n ⊎ ((role_of new n ≡ Free) × IsBelowRoot old top root page n)
  pub others : (n : ℕ) → IsTable new n → IsOnWay old top root page n ⊎ ((i : ℕ) → i < table_entries → entry_at new n i ≡ entry_at old n i)
  pub pointers : (n i m : ℕ) → Points new n i m → Points old n i m
  pub roots : (r : ℕ) → IsRoot top old r → IsRoot top new r
  pub were_roots : (r : ℕ) → IsRoot top new r → IsRoot top old r
  pub unlinked : (n : ℕ) → IsTable new n → IsUnlinked old n ↔ IsUnlinked new n
  pub entries : (r p : ℕ) → IsRoot top old r → page_entry new top r p ≡ page_entry old top r p

-- no table below the root on the way to the page is without entries
pub record IsPruned (t : FrameTable) (top root page : ℕ) : Type 0 where
  pub last : ((last_table t page top root).1 ≡ root) ⊎ (IsEmptyTable t (last_table t page top root).1 → ⊥)

-- the free frame n is a table of zeros in no tree now, and all trees are as they were
pub record AddsTable (old new : FrameTable) (top n : ℕ) : Type 0 where
  pub takes : Takes old new Table n
  pub forest : IsForest new
  pub spare : IsSpare new n
  pub root : IsRoot top new n
  pub apart : (m : ℕ) → IsTable old m → m ≢ n
  pub roots : (r : ℕ) → IsRoot top old r → IsRoot top new r
  pub were_roots : (r : ℕ) → r ≢ n → IsRoot top new r → IsRoot top old r
  pub unlinked : (m : ℕ) → IsUnlinked old m ↔ IsUnlinked new m
  pub entries : (r p : ℕ) → IsRoot top old r → page_entry new top r p ≡ page_entry old top r p
  pub missing : (r p : ℕ) → IsRoot top old r → missing_of new top r p ≡ missing_of old top r p

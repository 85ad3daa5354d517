-- What memory holds: the bytes, the role and the share count of each frame, and what a call changes of them.
use Rattle.std.specs.Prelude.{◌≡◌, ◌≢◌, ℕ, ◌+◌, ◌<◌, ◌≤◌, Bool, true, false, IsTrue, List, [], length, replicate, slice_index_or, slice_set}
use Rattle.frames.specs.declared.role.Role.{Role}
use Rattle.frames.specs.declared.role.Role.TheVariants.{Free, Zero, Table, Private, Cache}

-- the frames by their numbers, from 0
pub record FrameTable : Type 0 where
  pub bytes : List (List ℕ)
  pub roles : List Role
  pub counts : List ℕ

-- how many frames there are
abbrev pub frame_count : FrameTable → ℕ
frame_count t = length t.bytes

abbrev pub bytes_of : FrameTable → ℕ → List ℕ
bytes_of t n = slice_index_or t.bytes n []

-- Free past the end
abbrev pub role_of : FrameTable → ℕ → Role
role_of t n = slice_index_or t.roles n Free

-- the share count, 0 past the end
abbrev pub count_of : FrameTable → ℕ → ℕ
count_of t n = slice_index_or t.counts n 0

abbrev pub IsFrame : FrameTable → ℕ → Type 0
IsFrame t n = n < frame_count t

-- each frame has 4,096 bytes
abbrev pub AreWhole : FrameTable → Type 0
AreWhole t = (n : ℕ) → IsFrame t n → length (bytes_of t n) ≡ 4096

-- the bytes of the zero page, and of each frame as it is handed out
unfoldable pub zero_bytes : List ℕ
zero_bytes = replicate 4096 0

-- the roles of frames that were handed out
abbrev pub is_handed_out : Role → Bool
is_handed_out Free = false
is_handed_out Zero = false
is_handed_out Table = true
is_handed_out Private = true
is_handed_out Cache = true

-- a frame that was handed out and not yet given back
pub record IsHeld (t : FrameTable) (n : ℕ) : Type 0 where
  pub inside : IsFrame t n
  pub handed_out : IsTrue (is_handed_out (role_of t n))

-- no frame is free
abbrev pub IsFull : FrameTable → Type 0
IsFull t = (n : ℕ) → IsFrame t n → role_of t n ≢ Free

-- How many share a frame: nobody a free frame or the zero page, one a table and a page of a file, and 1 to 64
-- processes a private page.
abbrev pub IsCountFor : Role → ℕ → Type 0
IsCountFor Free count = count ≡ 0
IsCountFor Zero count = count ≡ 0
IsCountFor Table count = count ≡ 1
IsCountFor Private count = (1 ≤ count) × (count ≤ 64)
IsCountFor Cache count = count ≡ 1

-- what is true of all memory at all times
pub record IsSound (t : FrameTable) : Type 0 where
  pub least : 8 ≤ frame_count t
  pub most : frame_count t ≤ 65536
  pub all_roles : length t.roles ≡ frame_count t
  pub all_counts : length t.counts ≡ frame_count t
  pub counted : (n : ℕ) → IsFrame t n → IsCountFor (role_of t n) (count_of t n)
  pub zero_role : role_of t 0 ≡ Zero
  pub zero_alone : (n : ℕ) → role_of t n ≡ Zero → n ≡ 0
  pub zero_page : bytes_of t 0 ≡ zero_bytes

-- memory as it is made: that many frames, and all but the zero page free
pub record IsFresh (t : FrameTable) (count : ℕ) : Type 0 where
  pub frames : frame_count t ≡ count
  pub free : (n : ℕ) → 0 < n → IsFrame t n → role_of t n ≡ Free

-- every frame but n keeps its bytes, role and count
pub record SameButFor (n : ℕ) (old new : FrameTable) : Type 0 where
  pub frames : frame_count new ≡ frame_count old
  pub bytes : (m : ℕ) → m ≢ n → bytes_of new m ≡ bytes_of old m
  pub roles : (m : ℕ) → m ≢ n → role_of new m ≡ role_of old m
  pub counts : (m : ℕ) → m ≢ n → count_of new m ≡ count_of old m

-- the free frame n was handed out for that role
pub record Takes (old new : FrameTable) (kind : Role) (n : ℕ) : Type 0 where
  pub others : SameButFor n old new
  pub above : 0 < n
  pub inside : IsFrame old n
  pub was_free : role_of old n ≡ Free
  pub zeros : bytes_of new n ≡ zero_bytes
  pub kind_set : role_of new n ≡ kind
  pub counted : count_of new n ≡ 1

-- one more shares the frame n
pub record Shares (old new : FrameTable) (n : ℕ) : Type 0 where
  pub others : SameButFor n old new
  pub bytes_kept : new.bytes ≡ old.bytes
  pub roles_kept : new.roles ≡ old.roles
  pub raised : count_of new n ≡ count_of old n + 1

-- one less shares the frame n, which is free where nobody is left
pub record Releases (old new : FrameTable) (n : ℕ) : Type 0 where
  pub others : SameButFor n old new
  pub lowered : count_of new n + 1 ≡ count_of old n
  pub freed : count_of old n ≡ 1 → role_of new n ≡ Free
  pub role_kept : 1 < count_of old n → new.roles ≡ old.roles
  pub bytes_kept : 1 < count_of old n → new.bytes ≡ old.bytes

-- the frame n set to these bytes
abbrev pub with_bytes : FrameTable → ℕ → List ℕ → FrameTable
with_bytes t n bytes = record t { bytes = slice_set t.bytes n bytes }

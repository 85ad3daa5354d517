-- What one step of a call changes.
use Rattle.std.specs.Prelude.{◌≡◌, ◌≢◌, ℕ, ◌<◌, ◌≤◌, ◌⊎◌, ◌↔◌, false, Some, None}
use Rattle.vm_types.specs.Processes.{process_limit}
use Rattle.vm_types.specs.Limits.{top_level}
use Rattle.vm_types.specs.declared.object.PageKey.{PageKey}
use Rattle.frames.specs.declared.role.Role.TheVariants.{Free, Table, Private, Cache}
use Rattle.frames.specs.FrameTable.{FrameTable, frame_count, bytes_of, role_of, count_of, SameButFor, Takes}
use Rattle.page_cache.specs.declared.place.Place.TheVariants.{Home, Frame, Slot}
use Rattle.swap.specs.Slots.{IsInUse}
use Rattle.page_tables.specs.Tree.{IsPage, IsSpare, Points}
use Rattle.regions.specs.Search.{StandsOn}
use Rattle.residency.specs.Picture.{Picture, entry, view, held}
use Rattle.residency.specs.Parts.{IsPageFor}

-- nothing but the frames changed
module _ {mode : ℕ} where
  pub record SameBeside (old new : Picture mode) : Type 0 where
    pub slots : new.slots ≡ old.slots
    pub root : (pid : ℕ) → new.root pid ≡ old.root pid
    pub at : (pid page : ℕ) → new.at pid page ≡ old.at pid page
    pub page_of : (n : ℕ) → new.page_of n ≡ old.page_of n
    pub place : (p : PageKey) → new.place p ≡ old.place p
    pub touched : (p : PageKey) → new.touched p ≡ old.touched p
    pub files : (f : ℕ) → new.files f ≡ old.files f

-- no private frame and no cache frame came or went, and none has another share count
pub record KeepsShares (old new : FrameTable) : Type 0 where
  pub private : (n : ℕ) → role_of old n ≡ Private → role_of new n ≡ Private
  pub was_private : (n : ℕ) → role_of new n ≡ Private → role_of old n ≡ Private
  pub cache : (n : ℕ) → role_of old n ≡ Cache → role_of new n ≡ Cache
  pub was_cache : (n : ℕ) → role_of new n ≡ Cache → role_of old n ≡ Cache
  pub counts : (n : ℕ) → role_of old n ≡ Private → count_of new n ≡ count_of old n

-- a process's page has that number for its entry now, and all else is as it was
module _ {mode : ℕ} where
  pub record SetsPage (old new : Picture mode) (pid page number : ℕ) : Type 0 where
    pub changed : entry new pid page ≡ number
    pub others : (q p : ℕ) → IsPage (top_level mode) p → (q ≢ pid) ⊎ (p ≢ page) → entry new q p ≡ entry old q p
    pub beside : SameBeside old new
    pub shares : KeepsShares old.frames new.frames
    pub bytes : (n : ℕ) → role_of old.frames n ≢ Table → bytes_of new.frames n ≡ bytes_of old.frames n

-- the free frame n was taken for one page, at which its process will have it
module _ {mode : ℕ} where
  pub record TakesOwn (old new : Picture mode) (n page : ℕ) : Type 0 where
    pub slots : new.slots ≡ old.slots
    pub takes : Takes old.frames new.frames Private n
    pub noted : new.page_of n ≡ page
    pub others : (m : ℕ) → m ≢ n → new.page_of m ≡ old.page_of m
    pub root : (pid : ℕ) → new.root pid ≡ old.root pid
    pub at : (pid k : ℕ) → new.at pid k ≡ old.at pid k
    pub place : (p : PageKey) → new.place p ≡ old.place p
    pub touched : (p : PageKey) → new.touched p ≡ old.touched p
    pub files : (f : ℕ) → new.files f ≡ old.files f

-- one frame changed that was free, and nothing else but the page that is noted for it
module _ {mode : ℕ} where
  pub record ChangesFrame (old new : Picture mode) (n : ℕ) : Type 0 where
    pub slots : new.slots ≡ old.slots
    pub frames : SameButFor n old.frames new.frames
    pub was_free : role_of old.frames n ≡ Free
    pub others : (m : ℕ) → m ≢ n → new.page_of m ≡ old.page_of m
    pub root : (pid : ℕ) → new.root pid ≡ old.root pid
    pub at : (pid k : ℕ) → new.at pid k ≡ old.at pid k
    pub place : (p : PageKey) → new.place p ≡ old.place p
    pub touched : (p : PageKey) → new.touched p ≡ old.touched p
    pub files : (f : ℕ) → new.files f ≡ old.files f

-- all slots are as they were, but for that of the page, where it lies in one: that one is free
module _ {mode : ℕ} where
  pub record LeavesSlot (old new : Picture mode) (page : PageKey) : Type 0 where
    pub total : new.slots.total ≡ old.slots.total
    pub left : (k : ℕ) → old.place page ≡ Slot (record { 0 = k }) → new.slots.count k ≡ 0
    pub counts : (k : ℕ) → old.place page ≢ Slot (record { 0 = k }) → new.slots.count k ≡ old.slots.count k
    pub bytes : (k : ℕ) → old.place page ≢ Slot (record { 0 = k }) → IsInUse old.slots k → new.slots.bytes k ≡ old.slots.bytes k

-- a page of a file or an object that lay in no frame was brought into the frame n, which was free
module _ {mode : ℕ} where
  pub record BringsIn (old new : Picture mode) (page : PageKey) (n : ℕ) : Type 0 where
    pub slots : LeavesSlot old new page
    pub frames : SameButFor n old.frames new.frames
    pub above : 0 < n
    pub was_free : role_of old.frames n ≡ Free
    pub kind : role_of new.frames n ≡ Cache
    pub was_away : (m : ℕ) → old.place page ≢ Frame (record { 0 = m })
    pub inside : IsPageFor old page
    pub placed : new.place page ≡ Frame (record { 0 = n })
    pub others : (p : PageKey) → p ≢ page → new.place p ≡ old.place p
    pub root : (pid : ℕ) → new.root pid ≡ old.root pid
    pub at : (pid k : ℕ) → new.at pid k ≡ old.at pid k
    pub page_of : (m : ℕ) → new.page_of m ≡ old.page_of m
    pub touched : (p : PageKey) → new.touched p ≡ old.touched p
    pub files : (f : ℕ) → new.files f ≡ old.files f

-- a process was made, of that number and that root table, without a page
module _ {mode : ℕ} where
  pub record Spawns (old new : Picture mode) (pid root : ℕ) : Type 0 where
    pub slots : new.slots ≡ old.slots
    pub frames : new.frames ≡ old.frames
    pub was_free : old.root pid ≡ None
    pub number : (1 ≤ pid) × (pid ≤ process_limit)
    pub lives : new.root pid ≡ Some root
    pub others : (q : ℕ) → q ≢ pid → new.root q ≡ old.root q
    pub was_unmapped : (page : ℕ) → old.at pid page ≡ None
    pub unmapped : (page : ℕ) → new.at pid page ≡ None
    pub at : (q page : ℕ) → q ≢ pid → new.at q page ≡ old.at q page
    pub page_of : (m : ℕ) → new.page_of m ≡ old.page_of m
    pub place : (p : PageKey) → new.place p ≡ old.place p
    pub touched : (p : PageKey) → new.touched p ≡ old.touched p
    pub files : (f : ℕ) → new.files f ≡ old.files f

-- the regions of one process changed
module _ {mode : ℕ} where
  pub record Remaps (old new : Picture mode) (pid : ℕ) : Type 0 where
    pub slots : new.slots ≡ old.slots
    pub frames : new.frames ≡ old.frames
    pub root : (q : ℕ) → new.root q ≡ old.root q
    pub others : (q page : ℕ) → q ≢ pid → new.at q page ≡ old.at q page
    pub page_of : (m : ℕ) → new.page_of m ≡ old.page_of m
    pub place : (p : PageKey) → new.place p ≡ old.place p
    pub touched : (p : PageKey) → new.touched p ≡ old.touched p
    pub files : (f : ℕ) → new.files f ≡ old.files f

-- a process went, and its root table, which had no entry, is free
module _ {mode : ℕ} where
  pub record Exits (old new : Picture mode) (pid root : ℕ) : Type 0 where
    pub slots : new.slots ≡ old.slots
    pub lived : old.root pid ≡ Some root
    pub gone : new.root pid ≡ None
    pub others : (q : ℕ) → q ≢ pid → new.root q ≡ old.root q
    pub spare : IsSpare old.frames root
    pub frames : SameButFor root old.frames new.frames
    pub free : role_of new.frames root ≡ Free
    pub unmapped : (page : ℕ) → new.at pid page ≡ None
    pub at : (q page : ℕ) → q ≢ pid → new.at q page ≡ old.at q page
    pub page_of : (m : ℕ) → new.page_of m ≡ old.page_of m
    pub place : (p : PageKey) → new.place p ≡ old.place p
    pub touched : (p : PageKey) → new.touched p ≡ old.touched p
    pub files : (f : ℕ) → new.files f ≡ old.files f

-- no page that stands on that page of a file or an object has an entry
module _ {mode : ℕ} where
  abbrev pub HasNoEntry : Picture mode → PageKey → Type 0
  HasNoEntry c p = (pid k : ℕ) → IsPage (top_level mode) k → StandsOn (c.at pid) p k → entry c pid k ≡ 0

-- A page of a file or an object is at home and untouched, and nothing else is seen otherwise. The frame or the slot that it had is free.
module _ {mode : ℕ} where
  pub record Forgets (old new : Picture mode) (p : PageKey) : Type 0 where
    pub root : (pid : ℕ) → new.root pid ≡ old.root pid
    pub at : (pid k : ℕ) → new.at pid k ≡ old.at pid k
    pub page_of : (n : ℕ) → new.page_of n ≡ old.page_of n
    pub files : (f : ℕ) → new.files f ≡ old.files f
    pub placed : new.place p ≡ Home
    pub others : (q : PageKey) → q ≢ p → new.place q ≡ old.place q
    pub now : new.touched p ≡ false
    pub rest : (q : PageKey) → q ≢ p → new.touched q ≡ old.touched q
    pub entries : (pid k : ℕ) → IsPage (top_level mode) k → entry new pid k ≡ entry old pid k
    pub views : (pid k : ℕ) → view new pid k ≡ view old pid k
    pub held : (q : PageKey) → q ≢ p → held new q ≡ held old q
    pub frames : frame_count new.frames ≡ frame_count old.frames
    pub roles : (n : ℕ) → (role_of new.frames n ≡ role_of old.frames n) ⊎ ((role_of new.frames n ≡ Free) × (old.place p ≡ Frame (record { 0 = n })))
    pub pointers : (n i m : ℕ) → Points old.frames n i m ↔ Points new.frames n i m
    pub total : new.slots.total ≡ old.slots.total
    pub counts : (k : ℕ) → old.place p ≢ Slot (record { 0 = k }) → new.slots.count k ≡ old.slots.count k
    pub left : (k : ℕ) → old.place p ≡ Slot (record { 0 = k }) → new.slots.count k ≡ 0
    pub bytes : (k : ℕ) → IsInUse new.slots k → new.slots.bytes k ≡ old.slots.bytes k

-- Grants: what each step does to what entries let be done.
use Rattle.residency.proofs.Names.{top_level, PageKey, File, Object, Attr, Backing, Anon, Shared, Common, is_past_end_of, IsUserMap, is_past_end, ◌≡◌, ◌≢◌, ◌<◌, ℕ, true, false, arith, stands_on, Option, Some, refl, ap, ◌∙◌, subst, IsSome, count_of, can_write, frame_of}
use Rattle.residency.{proofs.{Names.{IsPage, Frame, IsReadableMap}, Places.{objects-same}, Ways.{each_page}}, specs.{Parts.{IsGranting, IsEntryFor, Nothing, Resident, Away, IsResident, IsBehind}, Picture.{Picture, entry, is_private}}}
use Rattle.{std.specs.Prelude.{◌⊎◌}, vm_types.specs.declared.region.Backing.TheVariants.{Private}}

-- no page leaves the frame that it lies in, and the files are the same
pub record KeepsBehind {mode : ℕ} (old new : Picture mode) : Type 0 where
  pub place : (p : PageKey) (n : ℕ) → old.place p ≡ Frame (record { 0 = n }) → new.place p ≡ Frame (record { 0 = n })
  pub files : (f : ℕ) → new.files f ≡ old.files f

pub past_end-same : {mode : ℕ} (old new : Picture mode) (b : Backing) → ((f : ℕ) → new.files f ≡ old.files f) → is_past_end new.files b ≡ is_past_end old.files b
past_end-same old new (Private p) same = ap (λ i. is_past_end_of i p.page) (same p.file)
past_end-same old new (Shared p) same = ap (λ i. is_past_end_of i p.page) (same p.file)
past_end-same old new b same = refl

pub behind-same : {mode : ℕ} (old new : Picture mode) (b : Backing) (n : ℕ) → ((p : PageKey) → old.place p ≡ Frame (record { 0 = n }) → new.place p ≡ Frame (record { 0 = n })) → IsBehind old b n → IsBehind new b n
behind-same old new Anon n kept behind = behind
behind-same old new (Private p) n kept behind = kept (File p) behind
behind-same old new (Shared p) n kept behind = kept (File p) behind
behind-same old new (Common p) n kept behind = kept (Object p) behind

-- the page that lies in the frame behind a page
pub behind_page : {mode : ℕ} (c : Picture mode) (b : Backing) (n : ℕ) → 0 < n → IsBehind c b n → (p : PageKey) × (stands_on b ≡ Some p) × (c.place p ≡ Frame (record { 0 = n }))
behind_page c Anon n above zero = absurd (omega (arith, above, zero))
behind_page c (Private p) n above is = (File p, refl, is)
behind_page c (Shared p) n above is = (File p, refl, is)
behind_page c (Common p) n above is = (Object p, refl, is)

-- an entry fits its page as it did, by what lies behind it and how many share it
pub entry_for-by : {mode : ℕ} (old new : Picture mode) (attr : Option Attr) (e : ℕ) → ((f : ℕ) → new.files f ≡ old.files f) → ((a : Attr) → IsResident old a e → is_private e ≡ false → IsBehind new a.backing (frame_of e))
    → (is_private e ≡ true → can_write e ≡ true → count_of old.frames (frame_of e) ≡ 1 → count_of new.frames (frame_of e) ≡ 1) → IsEntryFor old attr e → IsEntryFor new attr e
entry_for-by old new attr e files behind count (Nothing none) = Nothing none
entry_for-by old new attr e files behind count (Resident a is resident) = Resident a is (record {
  framed = resident.framed;
  inside = past_end-same old new a.backing files ∙ resident.inside;
  private = resident.private;
  behind = behind a resident;
  leaf = λ valid. (let leaf = resident.leaf valid in record { within = leaf.within; sole = λ private write. count private write (leaf.sole private write); common = leaf.common });
})
entry_for-by old new attr e files behind count (Away a is away) = Away a is (record {
  swapped = away.swapped;
  common = away.common;
  inside = past_end-same old new a.backing files ∙ away.inside;
  not_shared = away.not_shared;
})

pub entry_for-same : {mode : ℕ} (old new : Picture mode) (attr : Option Attr) (e : ℕ) → KeepsBehind old new
    → (is_private e ≡ true → can_write e ≡ true → count_of old.frames (frame_of e) ≡ 1 → count_of new.frames (frame_of e) ≡ 1) → IsEntryFor old attr e → IsEntryFor new attr e
entry_for-same old new attr e kept count = entry_for-by old new attr e kept.files (λ a resident common. behind-same old new a.backing (frame_of e) (λ p. kept.place p (frame_of e)) (resident.behind common)) count

pub user_map-same : (mode : ℕ) (f g : ℕ → Option Attr) → ((page : ℕ) → g page ≡ f page) → IsUserMap mode f → IsUserMap mode g
user_map-same mode f g same user = record {
  user_pages = λ page some. user.user_pages page (let P : Option Attr → Type 0 = λ x. IsSome x in subst P (same page) some);
  file_pages = λ page. rw (same page) (user.file_pages page);
}

pub readable-same : (f g : ℕ → Option Attr) → ((page : ℕ) → g page ≡ f page) → IsReadableMap f → IsReadableMap g
readable-same f g same readable page = rw (same page) (readable page)

-- the regions are as they were
pub granting_by : {mode : ℕ} (old new : Picture mode) → IsGranting old → ((pid page : ℕ) → new.at pid page ≡ old.at pid page)
    → ((pid page : ℕ) → IsPage (top_level mode) page → IsEntryFor new (old.at pid page) (entry new pid page)) → IsGranting new
granting_by {mode} old new granting at entries = record {
  entries = λ pid page h. rw (at pid page) (entries pid page h);
  user = λ pid. user_map-same mode (old.at pid) (new.at pid) (at pid) (granting.user pid);
  readable = λ pid. readable-same (old.at pid) (new.at pid) (at pid) (granting.readable pid);
  objects = objects-same old.at new.at at granting.objects;
}

-- all entries and regions are as they were, and a writable frame of one process is still that
pub granting_kept : {mode : ℕ} (old new : Picture mode) → IsGranting old → KeepsBehind old new
    → ((pid page : ℕ) → IsPage (top_level mode) page → is_private (entry old pid page) ≡ true → can_write (entry old pid page) ≡ true
    → count_of old.frames (frame_of (entry old pid page)) ≡ 1 → count_of new.frames (frame_of (entry old pid page)) ≡ 1)
    → ((pid page : ℕ) → new.at pid page ≡ old.at pid page) → ((pid page : ℕ) → IsPage (top_level mode) page → entry new pid page ≡ entry old pid page) → IsGranting new
granting_kept old new granting kept count at same = granting_by old new granting at (λ pid page h.
    let here = entry_for-same old new (old.at pid page) (entry old pid page) kept (λ private write one. count pid page h private write one) (granting.entries pid page h) in
    rw (same pid page h) here)

-- all entries and regions are as they were
pub granting_same : {mode : ℕ} (old new : Picture mode) → IsGranting old → KeepsBehind old new
    → ((pid page : ℕ) → IsPage (top_level mode) page → is_private (entry old pid page) ≡ true
    → count_of old.frames (frame_of (entry old pid page)) ≡ 1 → count_of new.frames (frame_of (entry old pid page)) ≡ 1)
    → ((pid page : ℕ) → new.at pid page ≡ old.at pid page) → ((pid page : ℕ) → IsPage (top_level mode) page → entry new pid page ≡ entry old pid page) → IsGranting new
granting_same old new granting kept count at same = granting_kept old new granting kept (λ pid page h private write. count pid page h private) at same

-- the entry of one page changed
pub granting_changed : {mode : ℕ} (old new : Picture mode) (pid page : ℕ) → IsGranting old → KeepsBehind old new
    → ((q p : ℕ) → IsPage (top_level mode) p → is_private (entry old q p) ≡ true
    → count_of old.frames (frame_of (entry old q p)) ≡ 1 → count_of new.frames (frame_of (entry old q p)) ≡ 1)
    → ((q p : ℕ) → new.at q p ≡ old.at q p) → ((q p : ℕ) → IsPage (top_level mode) p → (q ≢ pid) ⊎ (p ≢ page) → entry new q p ≡ entry old q p)
    → IsEntryFor new (old.at pid page) (entry new pid page) → IsGranting new
granting_changed old new pid page granting kept count at same here = granting_by old new granting at (λ q p h. each_page (λ x y. IsEntryFor new (old.at x y) (entry new x y)) q p pid page here (λ other. (
    let there = entry_for-same old new (old.at q p) (entry old q p) kept (λ private write one. count q p h private one) (granting.entries q p h) in
    rw (same q p h other) there)))

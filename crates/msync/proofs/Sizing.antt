-- Pages and lengths that a row makes durable, and what is at home of each page then.
use Rattle.msync.proofs.Names.{ℕ, ◌+◌, ◌*◌, ◌≡◌, ◌<◌, ◌≤◌, ◌&&◌, not, min, Bool, true, false, List, length, Option, Some, None, inl, inr, refl, sym, ap, ◌∙◌, arith, cases_Bool, cases_lt, and_parts, and-true, false≢true, FileInfo, FilePage}
use Rattle.{msync.proofs.Names.{Pages, State, Picture, ShowsPages, IsPageOf, any_below, shares, trimmed, inside_of, cut, touched_in, committed_pages, synced}, std.specs.Prelude.{◌||◌}, vm_types.proofs.Cutting.{cut-twice, length-cut}}
use Rattle.vm_types.{proofs.Truncating.{taken_whole, whole_file}, specs.{Files.{bytes_inside}, Msync.{resized_in, shows_file, trimmed_pages}, State.{home_page}, Truncation.{length_in}}}

-- What is known of the lengths of files:
pub record KnowsLengths (s : State) : Type 0 where
  -- durable pages have 4,096 bytes each,
  pub whole : (f k : ℕ) → length (s.durable.pages f k) ≡ 4096
  -- a file that has got another length is there,
  pub there : (f : ℕ) → s.resized f ≡ true → (info : FileInfo) × (s.files f ≡ Some info)
  -- none is shorter than it has been, and one that hasn't got another length is as long.
  pub most : (f : ℕ) (info : FileInfo) → s.files f ≡ Some info → s.shortest f ≤ info.length
  pub kept : (f : ℕ) (info : FileInfo) → s.files f ≡ Some info → s.resized f ≡ false → s.shortest f ≡ info.length

clear_of : (t a r : Bool) → r ≡ true → (t && (a || r)) ≡ false → t ≡ false
clear_of false a r whole none = refl
clear_of true true r whole none = none
clear_of true false r whole none = sym whole ∙ none

inside_few : (o : Option FileInfo) (k : ℕ) → inside_of o k ≤ 4096
inside_few None k = omega arith
inside_few (Some info) k = omega arith

-- what a row makes durable of a page, and what it leaves in memory
module _ (s : State) (pid first count f k : ℕ) where
  pub resized_of : resized_in s pid first count f ≡ true → s.resized f ≡ true
  resized_of is = (and_parts (s.resized f) (any_below (λ i. shows_file (s.views pid (first + i)) f) count) is).0

  -- a touched page that is taken alone is of a file that has got no other length
  pub kept_alone : touched_in s pid first count f k ≡ true → resized_in s pid first count f ≡ false → s.resized f ≡ false
  kept_alone taken none = elim (cases_Bool (s.resized f)) [
    | inr same ↦ same
    | inl other ↦ absurd (false≢true (sym none ∙ taken_whole s pid first count f k other taken))
  ]

  pub taken_page : (before : Pages) → touched_in s pid first count f k ≡ true → committed_pages s pid first count before f k ≡ trimmed s.files f k (s.volatile f k)
  taken_page before taken = rw taken refl

  pub whole_page : (before : Pages) → resized_in s pid first count f ≡ true → committed_pages s pid first count before f k ≡ trimmed s.files f k (s.volatile f k)
  whole_page before whole = (whole_file s pid first count f k (record { files = s.files; pages = before }) whole).1

  pub left_page : (before : Pages) → touched_in s pid first count f k ≡ false → resized_in s pid first count f ≡ false → committed_pages s pid first count before f k ≡ before f k
  left_page before left none = rw left (rw none refl)

  pub trimmed_page : touched_in s pid first count f k ≡ true → trimmed_pages s pid first count f k ≡ trimmed s.files f k (s.volatile f k)
  trimmed_page taken = rw taken refl

  pub same_page : touched_in s pid first count f k ≡ false → trimmed_pages s pid first count f k ≡ s.volatile f k
  same_page left = rw left refl

  -- how short its file has been then
  pub short_whole : (info : FileInfo) → s.files f ≡ Some info → resized_in s pid first count f ≡ true → (synced s pid first count).shortest f ≡ info.length
  short_whole info is whole = rw whole (ap length_in is)

  pub short_kept : resized_in s pid first count f ≡ false → (synced s pid first count).shortest f ≡ s.shortest f
  short_kept none = rw none refl

  -- what is at home of it then
  home_is : (short : ℕ) (page : List ℕ) → (synced s pid first count).shortest f ≡ short → committed_pages s pid first count s.durable.pages f k ≡ page
      → home_page (synced s pid first count) f k ≡ cut (bytes_inside short k) page
  home_is short page e same = ap (λ (n : ℕ). cut (bytes_inside n k) (committed_pages s pid first count s.durable.pages f k)) e ∙ ap (cut (bytes_inside short k)) same

module _ {mode : ℕ} (c : Picture mode) (s : State) (pid first count : ℕ) (shows : ShowsPages c s) (knows : KnowsLengths s) where
  -- a page of a file that is taken whole, and isn't touched, is as it is at home
  clear_page : (f k : ℕ) → resized_in s pid first count f ≡ true → touched_in s pid first count f k ≡ false → s.touched f k ≡ false
  clear_page f k whole left = clear_of (s.touched f k) (any_below (λ i. shares (s.views pid (first + i)) f k) count) (resized_in s pid first count f) whole left

  home_clear : (f k : ℕ) → s.touched f k ≡ false → IsPageOf c.files f k → s.volatile f k ≡ home_page s f k
  home_clear f k clear inside = let p : FilePage = record { file = f; page = k } in shows.clean p (sym (shows.touched p) ∙ clear) inside

  -- and has no bytes but zeros past the end of the file
  home_cut : (f k : ℕ) (info : FileInfo) → s.files f ≡ Some info → cut (bytes_inside info.length k) (home_page s f k) ≡ home_page s f k
  home_cut f k info is =
      let d = s.durable.pages f k in
      let most = knows.most f info is in
      let small : min (bytes_inside info.length k) (bytes_inside (s.shortest f) k) ≡ bytes_inside (s.shortest f) k = omega (arith, most) in
      cut-twice (bytes_inside info.length k) (bytes_inside (s.shortest f) k) d (omega arith) (omega arith) (knows.whole f k) ∙ ap (λ (n : ℕ). cut n d) small

  trim_of : (f k : ℕ) (info : FileInfo) (page : List ℕ) → s.files f ≡ Some info → trimmed s.files f k page ≡ cut (bytes_inside info.length k) page
  trim_of f k info page is = ap (λ (o : Option FileInfo). cut (inside_of o k) page) is

  pub cut_home : (f k : ℕ) → resized_in s pid first count f ≡ true → touched_in s pid first count f k ≡ false → trimmed s.files f k (s.volatile f k) ≡ home_page s f k
  cut_home f k whole left =
      let there = knows.there f (resized_of s pid first count f k whole) in
      let info = there.0 in
      trim_of f k info (s.volatile f k) there.1 ∙ elim (cases_lt (4096 * k) info.length) [
        | inl inside ↦ ap (cut (bytes_inside info.length k)) (home_clear f k (clear_page f k whole left) (info, sym (shows.files f) ∙ there.1, inside)) ∙ home_cut f k info there.1
        | inr past ↦ (
            let most = knows.most f info there.1 in
            let none : bytes_inside info.length k ≡ 0 = omega (arith, past) in
            let gone : bytes_inside (s.shortest f) k ≡ 0 = omega (arith, past, most) in
            ap (λ (n : ℕ). cut n (s.volatile f k)) none ∙ sym (ap (λ (n : ℕ). cut n (s.durable.pages f k)) gone))
      ]

  module _ (long : (f k : ℕ) → touched_in s pid first count f k ≡ true → length (s.volatile f k) ≡ 4096) where
    -- pages that become durable have 4,096 bytes each
    pub still_whole : (f k : ℕ) → length (committed_pages s pid first count s.durable.pages f k) ≡ 4096
    still_whole f k = elim (cases_Bool (touched_in s pid first count f k)) [
      | inl taken ↦ ap length (taken_page s pid first count f k s.durable.pages taken) ∙ length-cut (inside_of (s.files f) k) (s.volatile f k) (inside_few (s.files f) k) (long f k taken)
      | inr left ↦ elim (cases_Bool (resized_in s pid first count f)) [
        | inl whole ↦ ap length (whole_page s pid first count f k s.durable.pages whole ∙ cut_home f k whole left)
            ∙ length-cut (bytes_inside (s.shortest f) k) (s.durable.pages f k) (omega arith) (knows.whole f k)
        | inr none ↦ ap length (left_page s pid first count f k s.durable.pages left none) ∙ knows.whole f k
      ]
    ]

    -- how short a file has been of which a touched page is made durable
    short_now : (f k : ℕ) (info : FileInfo) → s.files f ≡ Some info → touched_in s pid first count f k ≡ true → (synced s pid first count).shortest f ≡ info.length
    short_now f k info is taken = elim (cases_Bool (resized_in s pid first count f)) [
      | inl whole ↦ short_whole s pid first count f k info is whole
      | inr none ↦ short_kept s pid first count f k none ∙ knows.kept f info is (kept_alone s pid first count f k taken none)
    ]

    home_taken : (f k : ℕ) (info : FileInfo) → s.files f ≡ Some info → touched_in s pid first count f k ≡ true → trimmed_pages s pid first count f k ≡ home_page (synced s pid first count) f k
    home_taken f k info is taken =
        let n = bytes_inside info.length k in
        let v = s.volatile f k in
        let least : min n n ≡ n = omega arith in
        let twice : cut n (cut n v) ≡ cut n v = cut-twice n n v (omega arith) (omega arith) (long f k taken) ∙ ap (λ (x : ℕ). cut x v) least in
        trimmed_page s pid first count f k taken ∙ trim_of f k info v is
        ∙ sym (home_is s pid first count f k info.length (cut n v) (short_now f k info is taken) (taken_page s pid first count f k s.durable.pages taken ∙ trim_of f k info v is) ∙ twice)

    home_left : (f k : ℕ) (info : FileInfo) → s.files f ≡ Some info → 4096 * k < info.length → s.touched f k ≡ false → touched_in s pid first count f k ≡ false
        → trimmed_pages s pid first count f k ≡ home_page (synced s pid first count) f k
    home_left f k info is inside clear left =
        let home = home_page s f k in
        same_page s pid first count f k left ∙ home_clear f k clear (info, sym (shows.files f) ∙ is, inside)
        ∙ elim (cases_Bool (resized_in s pid first count f)) [
          | inl whole ↦ sym (home_is s pid first count f k info.length home (short_whole s pid first count f k info is whole)
              (whole_page s pid first count f k s.durable.pages whole ∙ cut_home f k whole left) ∙ home_cut f k info is)
          | inr none ↦ sym (home_is s pid first count f k (s.shortest f) (s.durable.pages f k) (short_kept s pid first count f k none) (left_page s pid first count f k s.durable.pages left none))
        ]

    -- a page that isn't touched then is as it is at home then
    pub home_synced : (f k : ℕ) (info : FileInfo) → s.files f ≡ Some info → 4096 * k < info.length → (s.touched f k && not (touched_in s pid first count f k)) ≡ false
        → trimmed_pages s pid first count f k ≡ home_page (synced s pid first count) f k
    home_synced f k info is inside clear = elim (cases_Bool (touched_in s pid first count f k)) [
      | inl taken ↦ home_taken f k info is taken
      | inr left ↦ home_left f k info is inside (sym (and-true (s.touched f k)) ∙ sym (ap (λ b. s.touched f k && not b) left) ∙ clear) left
    ]

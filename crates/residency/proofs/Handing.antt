-- An own copy handed over to a slot.
use Rattle.residency.proofs.{Bits.{bit_clear, not_swapped}, Entries.{entry-of}, Evicted.{fit_released, seat_number}, Granting.{past_end-same}, Handed.{release_spares, same}, LeafSteps.{last_set}, Moves.{fit_moved, views_moved}}
use Rattle.residency.proofs.Names.{top_level, Attr, ◌≡◌, ◌≢◌, ℕ, inl, inr, ◌⊎◌, ◌+◌, ◌*◌, ◌/◌, ◌%◌, ◌^◌, ◌<◌, true, false, [], Option, Some, None, get_or, refl, sym, ap, ◌∙◌, arith, ne_eqb, cases_eq, cases_Bool, false≢true, Free, Table}
use Rattle.residency.proofs.{Names.{Private, bytes_of, role_of, count_of, Releases, is_valid, frame_of, has_bit, SetsEntry, IsPage, missing_of, page_entry-missing}, Setting.{each_view, set_held}, Sparing.{spares_then}, Start.{seat-none}}
use Rattle.residency.{proofs.{Start.{no_bit}, TableSteps.{sets_page, rooted_set}, Ways.{each_page}}, specs.{Ages.{Ages, Same, Left}, Evictions.{HasShare, Spares}, Leaves.{concerns}, Parts.{IsEntryFor, Nothing, Resident, Away, IsFitBut}}}
use Rattle.residency.specs.{Parts.{IsFit}, Picture.{Picture, entry, view, bytes_in}, Seats.{Seat, InFrame, InSlot, seat, is_private, is_swapped}, Steps.{SameBeside, SetsPage}, declared.leaves.Change.TheVariants.{Forget}}

-- the number of a page in slot k
pub record IsAway (e k : ℕ) : Type 0 where
  pub invalid : is_valid e ≡ false
  pub common : is_private e ≡ false
  pub swapped : is_swapped e ≡ true
  pub slot : frame_of e ≡ k

bit_on : (e k : ℕ) → e / 2 ^ k % 2 ≡ 1 → has_bit e k ≡ true
unfolding has_bit
bit_on e k one = rw one refl

pub away_number : (k : ℕ) → k < 2 ^ 32 → IsAway (k * 1024 + 2) k
unfolding frame_of
away_number k low =
    let invalid = bit_clear (k * 1024 + 2) 0 (omega arith) in
    record { invalid = invalid; common = bit_clear (k * 1024 + 2) 8 (omega arith); swapped = rw (invalid, bit_on (k * 1024 + 2) 1 (omega arith)) refl; slot = omega (arith, low) }

away_seat : (e k : ℕ) → IsAway e k → seat e ≡ Some (InSlot k)
away_seat e k away = rw (away.common, away.swapped) (ap (λ j. Some (InSlot j)) away.slot)

-- a page with an own copy has its table
pub seat_whole : {mode : ℕ} (c : Picture mode) (pid r page : ℕ) (z : Seat) → c.root pid ≡ Some r → seat (entry c pid page) ≡ Some z → missing_of c.frames (top_level mode) r page ≡ 0
seat_whole {mode} c pid r page z root is = elim (cases_eq (missing_of c.frames (top_level mode) r page) 0) [
  | inl e ↦ e
  | inr some ↦ (
      let none : seat (entry c pid page) ≡ None = ap seat (entry-of c pid r page root ∙ page_entry-missing c.frames (top_level mode) r page some) ∙ seat-none in
      let bad : None ≡ Some z = sym none ∙ is in (cc))
]

-- a page with an own copy may lie in a slot
own_region : {mode : ℕ} (c new : Picture mode) (a : Option Attr) (e e' k : ℕ) → IsEntryFor c a e → is_private e ≡ true → IsAway e' k → ((f : ℕ) → new.files f ≡ c.files f) → IsEntryFor new a e'
own_region c new a e e' k (Nothing none) own away files = absurd (false≢true (sym (ap is_private none ∙ no_bit) ∙ own))
own_region c new a e e' k (Away b at is) own away files = absurd (false≢true (sym is.common ∙ own))
own_region c new a e e' k (Resident b at res) own away files = Away b at (record {
  swapped = away.swapped;
  common = away.common;
  inside = past_end-same c new b.backing files ∙ res.inside;
  not_shared = res.private own;
})

frame_seat : (e n : ℕ) → seat e ≡ Some (InFrame n) → is_private e ≡ true
frame_seat e n is = elim (cases_Bool (is_private e)) [
  | inl t ↦ t
  | inr f ↦ (let rest = rw f at is in elim (cases_Bool (is_swapped e)) [
    | inl t ↦ (let bad : Some (InSlot (frame_of e)) ≡ Some (InFrame n) = rw t at rest in (cc))
    | inr g ↦ (let bad : None ≡ Some (InFrame n) = rw g at rest in (cc))
  ])
]

seat_frame : (e n : ℕ) → seat e ≡ Some (InFrame n) → frame_of e ≡ n
seat_frame e n is = let own = frame_seat e n is in let there : Some (InFrame (frame_of e)) ≡ Some (InFrame n) = rw own at is in cc

own_not_swapped : {mode : ℕ} (c : Picture mode) (a : Option Attr) (e : ℕ) → IsEntryFor c a e → is_private e ≡ true → is_swapped e ≡ false
own_not_swapped c a e (Nothing none) own = absurd (false≢true (sym (ap is_private none ∙ no_bit) ∙ own))
own_not_swapped c a e (Away b at is) own = absurd (false≢true (sym is.common ∙ own))
own_not_swapped c a e (Resident b at res) own = not_swapped e res.framed

-- The entry that named a private frame names slot k, and the frame lost a share.
module _ {mode : ℕ} (old mid new : Picture mode) (k pid r page n number : ℕ) (share : HasShare old k page) (root : old.root pid ≡ Some r) (h : IsPage (top_level mode) page)
    (from : seat (entry old pid page) ≡ Some (InFrame n)) (away : IsAway number k) (sets : SetsEntry old.frames mid.frames (top_level mode) r page number) (beside : SameBeside old mid)
    (releases : Releases mid.frames new.frames n) (beside' : SameBeside mid new) where
  set_page : SetsPage old mid pid page number
  set_page = sets_page old mid 0 pid r page number share.fit.rooted root h sets beside

  was : role_of old.frames n ≡ Private
  was = share.fit.counted.1.named pid page (InFrame n) h from

  moved : IsFitBut mid (InFrame n) 1 0
  moved = fit_moved old mid (InFrame n) (InSlot k) 0 pid page number share.fit set_page h (seat_number old 0 pid page (InFrame n) share.fit.rooted from) from (away_seat number k away)
      (λ e. (cc)) share.owned share.noted
      (own_region old mid (old.at pid page) (entry old pid page) number k (share.fit.granting.entries pid page h) (frame_seat (entry old pid page) n from) away beside.files)
      (λ valid. absurd (false≢true (sym away.invalid ∙ valid))) (rooted_set old mid 0 r page number share.fit.rooted sets beside)

  views_mid : bytes_in old.frames old.slots (InSlot k) ≡ bytes_in old.frames old.slots (InFrame n) → (q p : ℕ) → IsPage (top_level mode) p → view mid q p ≡ view old q p
  views_mid alike = views_moved old mid (InFrame n) (InSlot k) 0 pid page number share.fit set_page h (seat_number old 0 pid page (InFrame n) share.fit.rooted from) from (away_seat number k away)
      (λ e. (cc)) share.owned share.noted
      (own_region old mid (old.at pid page) (entry old pid page) number k (share.fit.granting.entries pid page h) (frame_seat (entry old pid page) n from) away beside.files)
      (λ valid. absurd (false≢true (sym away.invalid ∙ valid))) (rooted_set old mid 0 r page number share.fit.rooted sets beside) alike

  not_here : (entry old pid page ≡ 0) ⊎ ((is_swapped (entry old pid page) ≡ true) ⊎ (frame_of (entry old pid page) ≢ n)) → frame_of (entry old pid page) ≡ n → is_swapped (entry old pid page) ≡ false → ⊥
  not_here (inl none) frame resident = (let bad : None ≡ Some (InFrame n) = sym (ap seat none ∙ seat-none) ∙ from in (cc))
  not_here (inr (inl swapped)) frame resident = false≢true (sym resident ∙ swapped)
  not_here (inr (inr other)) frame resident = other frame

  here_frame : frame_of (entry old pid page) ≡ n
  here_frame = seat_frame (entry old pid page) n from

  here_resident : is_swapped (entry old pid page) ≡ false
  here_resident = own_not_swapped old (old.at pid page) (entry old pid page) (share.fit.granting.entries pid page h) (frame_seat (entry old pid page) n from)

  here_concerned : concerns Forget (entry old pid page) ≡ true
  here_concerned =
      let some : entry old pid page ≢ 0 = λ none. (let bad : None ≡ Some (InFrame n) = sym (ap seat none ∙ seat-none) ∙ from in (cc)) in
      rw (ne_eqb (entry old pid page) 0 some, here_resident) refl

  -- the entry lost its frame to the slot
  here_ages : Ages (λ m. m ≡ n) (entry old pid page) (entry mid pid page)
  here_ages = Left here_concerned here_frame (inl (frame_seat (entry old pid page) n from, ap is_swapped set_page.changed ∙ away.swapped))

  hand_spares : bytes_in old.frames old.slots (InSlot k) ≡ bytes_in old.frames old.slots (InFrame n) → Spares n k old mid
  hand_spares alike = record {
    pages = record {
      root = beside.root;
      at = beside.at;
      views = λ q p. each_view old mid share.fit.granting beside.at q p (views_mid alike q p);
      files = record { held = λ p. inl (set_held old mid pid page number 0 (InSlot k) 1 share.fit set_page p); touched = beside.touched; files = beside.files };
    };
    count = sets.kept.frames;
    roles = λ m ne. ap (λ rs. get_or rs m Free) sets.kept.roles;
    role = inl (ap (λ rs. get_or rs n Free) sets.kept.roles);
    counts = λ m ne. ap (λ cs. get_or cs m 0) sets.kept.counts;
    bytes = λ m ne used. sets.kept.bytes m used;
    ends = λ q x p e. last_set mode old.frames mid.frames r page number share.fit.rooted.forest sets x p (share.fit.rooted.roots q x e).table;
    entries = λ q p h' stays. each_page (λ x y. (entry old x y ≡ 0) ⊎ ((is_swapped (entry old x y) ≡ true) ⊎ (frame_of (entry old x y) ≢ n)) → entry mid x y ≡ entry old x y) q p pid page
        (λ here. absurd (not_here here here_frame here_resident)) (λ other here. set_page.others q p h' other) stays;
    ages = λ q p h'. each_page (λ x y. Ages (λ m. m ≡ n) (entry old x y) (entry mid x y)) q p pid page here_ages (λ other. Same (set_page.others q p h' other));
    pointers = λ a i m. (sets.pointers a i m).0;
    slots = λ j ne used. (ap (λ t. t.bytes j) beside.slots, ap (λ t. t.count j) beside.slots);
    total = ap (λ t. t.total) beside.slots;
    place = λ p ne. beside.place p;
  }

  given_kept : 1 < count_of old.frames n → (role_of new.frames n ≡ role_of old.frames n) × (bytes_of new.frames n ≡ bytes_of old.frames n)
  given_kept more =
      let two : 1 < count_of mid.frames n = (let same_count = ap (λ cs. get_or cs n 0) sets.kept.counts in omega (arith, more, same_count)) in (
        ap (λ rs. get_or rs n Free) (releases.role_kept two) ∙ ap (λ rs. get_or rs n Free) sets.kept.roles,
        ap (λ bs. get_or bs n []) (releases.bytes_kept two) ∙ sets.kept.bytes n (λ t. (let bad : Private ≡ Table = sym was ∙ t in (cc))),
      )

  pub all_given : bytes_in old.frames old.slots (InSlot k) ≡ bytes_in old.frames old.slots (InFrame n)
      → IsFit new × Spares n k old new × (seat (entry new pid page) ≡ Some (InSlot k)) × ((q : ℕ) → q ≢ pid → entry new q page ≡ entry old q page)
      × (1 < count_of old.frames n → (role_of new.frames n ≡ role_of old.frames n) × (bytes_of new.frames n ≡ bytes_of old.frames n))
  all_given alike =
      let own = ap (λ rs. get_or rs n Free) sets.kept.roles ∙ was in
      let still = same mid new n k moved own releases beside' in (
        fit_released mid new n 0 moved own releases beside',
        spares_then n k old mid new (hand_spares alike) (release_spares mid new n k moved own releases beside'),
        ap seat (still pid page) ∙ ap seat set_page.changed ∙ away_seat number k away,
        λ q ne. still q page ∙ set_page.others q page h (inl ne),
        given_kept,
      )

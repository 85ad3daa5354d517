-- What each call leaves of memory, and that it leaves it sound.
use Rattle.{std.proofs.{Common.{◌≡◌, ◌≢◌, ℕ, ◌^◌, ◌<◌, true, List, [], ◌++◌, length, refl, sym, ap, ◌∙◌, arith, length-set, get_or-set_same}, lemmas.Bool.{false≢true}}, byteorder.specs.Endian.{little_bytes}}
use Rattle.{byteorder.specs.Numbers.{little_number-reads_back}, frames.proofs.{ChainLemmas.{IsChained-kept, IsChained-first, IsChained-taken, IsChained-freed}, FrameLemmas.{with_bytes-others, with_frame, with_frame-others, IsSound-step}}}
use Rattle.frames.{proofs.FrameLemmas.{IsHeld-above, IsHeld-not_free, IsHeld-not_zero}, specs.{Chain.{IsChained, next_of}, FrameTable.{FrameTable, bytes_of, role_of, count_of, IsHeld, IsSound, IsCountFor, Takes, is_handed_out, zero_bytes}}}
use Rattle.frames.specs.{FrameTable.{with_bytes}, declared.role.Role.{Role, TheVariants.{Free, Zero, Table, Private, Cache}}}

-- bytes of a frame that was handed out
pub written : (t : FrameTable) (n first : ℕ) (w : List ℕ) → IsHeld t n → IsSound t × IsChained t first
    → IsSound (with_bytes t n w) × IsChained (with_bytes t n w) first
written t n first w held whole =
    let same = with_bytes-others t n w in (
      IsSound-step n t (with_bytes t n w) whole.0 same (IsHeld-above t n whole.0 held) refl refl (whole.0.counted n held.inside) (IsHeld-not_zero t n held),
      IsChained-kept n t (with_bytes t n w) first same (IsHeld-not_free t n held) (IsHeld-not_free t n held) whole.1,
    )

not_free : (r : Role) → is_handed_out r ≡ true → r ≢ Free
not_free r h e = false≢true (sym (ap is_handed_out e) ∙ h)

not_zero : (r : Role) → is_handed_out r ≡ true → r ≢ Zero
not_zero r h e = false≢true (sym (ap is_handed_out e) ∙ h)

pub count_one : (r : Role) → is_handed_out r ≡ true → IsCountFor r 1
count_one Free h = absurd (false≢true h)
count_one Zero h = absurd (false≢true h)
count_one Table h = refl
count_one Private h = (omega arith, omega arith)
count_one Cache h = refl

-- the first free frame as it is handed out
pub taken : (t : FrameTable) (first : ℕ) (kind : Role) (w : List ℕ) (next : ℕ) → first ≢ 0 → is_handed_out kind ≡ true
    → next ≡ next_of (bytes_of t first) → IsSound t × IsChained t first
    → IsSound (with_frame t first w kind 1) × IsChained (with_frame t first w kind 1) next
taken t first kind w next some handed link whole =
    let same = with_frame-others t first w kind 1 in
    let there = IsChained-first t first some whole.1 in
    let in_roles : first < length t.roles = rw whole.0.all_roles there.1 in
    let in_counts : first < length t.counts = rw whole.0.all_counts there.1 in
    let kind_now : role_of (with_frame t first w kind 1) first ≡ kind = get_or-set_same t.roles first kind Free in_roles in
    let count_now : count_of (with_frame t first w kind 1) first ≡ 1 = get_or-set_same t.counts first 1 0 in_counts in (
      IsSound-step first t (with_frame t first w kind 1) whole.0 same there.0 (length-set t.roles first kind) (length-set t.counts first 1)
          (rw (kind_now, count_now) (count_one kind handed)) (λ e. not_zero kind handed (sym kind_now ∙ e)),
      rw link (IsChained-taken t (with_frame t first w kind 1) first same some (λ e. not_free kind handed (sym kind_now ∙ e)) whole.1),
    )

pub Takes-taken : (t : FrameTable) (first : ℕ) (kind : Role) (w : List ℕ) → first ≢ 0 → w ≡ zero_bytes
    → IsSound t × IsChained t first → Takes t (with_frame t first w kind 1) kind first
Takes-taken t first kind w some zeros whole =
    let there = IsChained-first t first some whole.1 in
    record {
      others = with_frame-others t first w kind 1;
      above = there.0;
      inside = there.1;
      was_free = there.2;
      zeros = get_or-set_same t.bytes first w [] there.1 ∙ zeros;
      kind_set = get_or-set_same t.roles first kind Free (rw whole.0.all_roles there.1);
      counted = get_or-set_same t.counts first 1 0 (rw whole.0.all_counts there.1);
    }

-- a frame that nobody shares any more
pub freed : (t : FrameTable) (n first : ℕ) (rest w : List ℕ) (count : ℕ) → IsHeld t n → count ≡ 0 → first < 256 ^ 4
    → w ≡ little_bytes 4 first ++ rest → IsSound t × IsChained t first
    → IsSound (with_frame t n w Free count) × IsChained (with_frame t n w Free count) n
freed t n first rest w count held none fits link whole =
    let same = with_frame-others t n w Free count in
    let in_roles : n < length t.roles = rw whole.0.all_roles held.inside in
    let in_counts : n < length t.counts = rw whole.0.all_counts held.inside in
    let above = IsHeld-above t n whole.0 held in
    let kind_now : role_of (with_frame t n w Free count) n ≡ Free = get_or-set_same t.roles n Free Free in_roles in
    let count_now : count_of (with_frame t n w Free count) n ≡ count = get_or-set_same t.counts n count 0 in_counts in
    let bytes_now : bytes_of (with_frame t n w Free count) n ≡ w = get_or-set_same t.bytes n w [] held.inside in
    let free≢zero : Free ≢ Zero = λ e. (cc) in (
      IsSound-step n t (with_frame t n w Free count) whole.0 same above (length-set t.roles n Free) (length-set t.counts n count)
          (rw (kind_now) (count_now ∙ none)) (λ e. free≢zero (sym kind_now ∙ e)),
      IsChained-freed n t (with_frame t n w Free count) first same above held.inside (IsHeld-not_free t n held) kind_now
          (ap next_of (bytes_now ∙ link) ∙ little_number-reads_back 4 first rest fits) whole.1,
    )

-- a frame that isn't private is nobody else's
pub alone_count : (r : Role) (c : ℕ) → is_handed_out r ≡ true → r ≢ Private → IsCountFor r c → c ≡ 1
alone_count Free c h ne one = absurd (false≢true h)
alone_count Zero c h ne one = absurd (false≢true h)
alone_count Table c h ne one = one
alone_count Private c h ne one = absurd (ne refl)
alone_count Cache c h ne one = one

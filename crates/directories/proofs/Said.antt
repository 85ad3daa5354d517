-- What bytes say of entries.
use Rattle.std.proofs.Common.{ℕ, ◌≡◌, ◌≢◌, ◌<◌, ◌≤◌, ◌⊎◌, inl, inr, ⊎_elim, ◌+◌, ◌-◌, ◌*◌, List, length, take, drop, get_or, set, replicate, refl, sym, ap, subst, ◌∙◌, arith, lit≤, eqb, Bool, Option, Some, None, Result, Ok, Err, OnErr}
use Rattle.std.specs.Prelude.{IfErr, IfOk}
use Rattle.std.proofs.lemmas.Bool.{cases_Bool, cases_eq, cases_lt, cond-true, cond-false, eq-eqb, ne_eqb}
use Rattle.std.proofs.lemmas.List.FromFn.{fill_by_all}
use Rattle.std.proofs.lemmas.List.{get_or-set_same, get_or-set_other, drop-take, ext_get_or}
use Rattle.std.proofs.lemmas.Slice.{take-put_mid_below, drop-put_mid, between-put_mid}
use Rattle.byteorder.specs.Endian.{little_number}
use Rattle.directories.specs.Entries.{number_at, entry_bytes, extent_at, flags_of, HoldsExtents, SaysFile, SaysEntry, extents_in, file_said, entry_said, IsNoEntry, SameBelow, SameBeside}
use Rattle.directories.specs.declared.entry.Extent.{Extent}
use Rattle.directories.specs.declared.entry.Entry.{Entry}
use Rattle.directories.specs.declared.entry.EntryFault.{EntryFault}
use Rattle.directories.specs.declared.entry.EntryFault.TheVariants.{Flags, NotZero, Extents}
use Rattle.directories.proofs.Bytes.{same_number}
use borrow.Rule.Slice.PartMut.{put_mid}

abbrev pub no_extent : Extent
no_extent = record { first = 0; count = 0 }

-- numbers beside what is written stay
pub number_stays : (wide p at width : ℕ) (old new : List ℕ) → SameBeside at width old new → (p + wide ≤ at) ⊎ (at + width ≤ p) → little_number wide (drop p new) ≡ little_number wide (drop p old)
number_stays wide p at width old new same apart = same_number wide p new old (λ j low high. same j (⊎_elim (λ before. inl (omega arith)) (λ behind. inr (omega arith)) apart))

pub number_stays_below : (wide p n : ℕ) (old new : List ℕ) → SameBelow n old new → p + wide ≤ n → little_number wide (drop p new) ≡ little_number wide (drop p old)
number_stays_below wide p n old new same inside = same_number wide p new old (λ j low high. same j (omega arith))

pub extent_same : (a b c d : ℕ) → a ≡ c → b ≡ d → ◌≡◌ {A = Extent} (record { first = a; count = b }) (record { first = c; count = d })
extent_same a b c d e f =
    let one : ℕ → Extent = λ n. record { first = n; count = b } in
    let two : ℕ → Extent = λ n. record { first = c; count = n } in
    ap one e ∙ ap two f

-- an extent beside the one that is written stays
pub extent_stays : (k i : ℕ) (old new : List ℕ) → k < i → SameBeside (16 + 8 * i) 8 old new → extent_at k new ≡ extent_at k old
extent_stays k i old new less same = extent_same _ _ _ _
    (number_stays 4 (16 + 8 * k) (16 + 8 * i) 8 old new same (inl (omega (arith, less))))
    (number_stays 4 (16 + 8 * k + 4) (16 + 8 * i) 8 old new same (inl (omega (arith, less))))

pub extents_more : (bytes : List ℕ) (extents : List Extent) (i : ℕ) → HoldsExtents bytes extents i → extent_at i bytes ≡ get_or extents i no_extent → HoldsExtents bytes extents (i + 1)
extents_more bytes extents i held here k less = ⊎_elim
    (λ same. subst (λ n. extent_at n bytes ≡ get_or extents n no_extent) (sym same) here)
    (λ other. held k (omega (arith, less, other))) (cases_eq k i)

pub extents_set : (bytes : List ℕ) (extents : List Extent) (i : ℕ) (x : Extent) → i < length extents → HoldsExtents bytes extents i → extent_at i bytes ≡ x → HoldsExtents bytes (set extents i x) (i + 1)
extents_set bytes extents i x inside held is = extents_more bytes (set extents i x) i
    (λ k less. held k less ∙ sym (get_or-set_other extents i k x no_extent (λ same. omega (arith, less, same))))
    (is ∙ sym (get_or-set_same extents i x no_extent inside))

-- what is written to one place of a page: it, and the other places
pub written_here : (place : ℕ) (page bytes : List ℕ) → 256 * place ≤ length page → length bytes ≡ 256
    → entry_bytes (put_mid (256 * place) (256 * place + 256 - 256 * place) page bytes) place ≡ bytes
written_here place page bytes inside size =
    let wide : 256 * place + 256 - 256 * place ≡ 256 = omega arith in
    ap (λ n. take n (drop (256 * place) (put_mid (256 * place) (256 * place + 256 - 256 * place) page bytes))) (sym wide)
    ∙ between-put_mid (256 * place) (256 * place + 256 - 256 * place) page bytes (256 * place + 256) inside (omega (arith, size))

pub written_elsewhere : (place i : ℕ) (page bytes : List ℕ) → 256 * place ≤ length page → length bytes ≡ 256 → i ≢ place
    → entry_bytes (put_mid (256 * place) (256 * place + 256 - 256 * place) page bytes) i ≡ entry_bytes page i
written_elsewhere place i page bytes inside size other =
    let k : ℕ = 256 * place + 256 - 256 * place in
    let new : List ℕ = put_mid (256 * place) k page bytes in
    ⊎_elim
    (λ (before : i < place).
    sym (drop-take (256 * i) 256 new)
    ∙ ap (drop (256 * i)) (take-put_mid_below (256 * place) k page bytes (256 * i + 256) (omega (arith, before)) inside)
    ∙ drop-take (256 * i) 256 page)
    (λ (behind : place < i). ap (take 256) (drop-put_mid (256 * place) k page bytes (256 * i) (omega (arith, behind)) inside (omega (arith, size))))
    (⊎_elim (λ less. inl less) (λ le. inr (omega (arith, le, other))) (cases_lt i place))

-- flags of a file are no others
flags_set : (e : Entry) → flags_of e ≡ 0 → ⊥
flags_set e zero = ⊎_elim
    (λ yes'. let is = cond-true {A = ℕ} e.read_only 3 1 yes' in omega (arith, is, zero))
    (λ no'. let is = cond-false {A = ℕ} e.read_only 3 1 no' in omega (arith, is, zero))
    (cases_Bool e.read_only)

flags_known : (e : Entry) → (flags_of e ≡ 1) ⊎ (flags_of e ≡ 3)
flags_known e = ⊎_elim (λ yes'. inr (cond-true {A = ℕ} e.read_only 3 1 yes')) (λ no'. inl (cond-false {A = ℕ} e.read_only 3 1 no')) (cases_Bool e.read_only)

zeros_flag : (bytes : List ℕ) → bytes ≡ replicate 256 0 → number_at 0 bytes ≡ 0
zeros_flag bytes zeros = ap (number_at 0) zeros

-- bytes that are no entry say nothing
pub says_nothing : (bytes : List ℕ) (fault : EntryFault) (e : Option Entry) → IsNoEntry bytes fault → SaysEntry bytes e → ⊥
says_nothing bytes Flags None why says = why.0 (zeros_flag bytes says)
says_nothing bytes Flags (Some e) why says = ⊎_elim (λ one. why.1 (says.flags ∙ one)) (λ three. why.2 (says.flags ∙ three)) (flags_known e)
says_nothing bytes NotZero None why says = why.1 says
says_nothing bytes NotZero (Some e) why says = flags_set e (sym says.flags ∙ why.0)
says_nothing bytes Extents None why says = let none = zeros_flag bytes says in ⊎_elim (λ one. omega (arith, none, one)) (λ three. omega (arith, none, three)) why.0
says_nothing bytes Extents (Some e) why says = let count = says.count in let few = says.few in let many = why.1 in omega arith

pub refused : {T : Type 0} → (bytes : List ℕ) (r : Result T EntryFault) → IfErr r (IsNoEntry bytes) → OnErr r ((e : Option Entry) → SaysEntry bytes e → ⊥)
refused bytes (Ok _) why = tt
refused bytes (Err fault) why = λ e. says_nothing bytes fault e why

-- a file whose parts are written one after the other
pub file_written : (e : Entry) (flags : ℕ) (first second third last : List ℕ) → flags ≡ flags_of e → number_at 0 first ≡ flags
    → number_at 4 second ≡ e.extent_count → SameBeside 4 4 first second → little_number 8 (drop 8 third) ≡ e.length → SameBeside 8 8 second third
    → HoldsExtents last e.extents 30 → SameBelow 16 third last → e.extent_count ≤ 30 → length e.extents ≡ 30 → SaysFile last e
file_written e flags first second third last flags_are one two after_one three after_two extents front few room = record {
  flags = number_stays_below 4 0 16 third last front (lit≤ tt) ∙ number_stays 4 0 8 8 second third after_two (inl (lit≤ tt))
      ∙ number_stays 4 0 4 4 first second after_one (inl (lit≤ tt)) ∙ one ∙ flags_are;
  count = number_stays_below 4 4 16 third last front (lit≤ tt) ∙ number_stays 4 4 8 8 second third after_two (inl (lit≤ tt)) ∙ two;
  few = few;
  length = number_stays_below 8 8 16 third last front (lit≤ tt) ∙ three;
  extents = extents;
  room = room;
}

-- what bytes say is one thing
one_flag : (e d : Entry) → flags_of e ≡ flags_of d → e.read_only ≡ d.read_only
one_flag e d same = ⊎_elim
    (λ e_yes. let three = cond-true {A = ℕ} e.read_only 3 1 e_yes in ⊎_elim
    (λ d_yes. e_yes ∙ sym d_yes)
    (λ d_no. let one = cond-false {A = ℕ} d.read_only 3 1 d_no in absurd (omega (arith, same, three, one)))
    (cases_Bool d.read_only))
    (λ e_no. let one = cond-false {A = ℕ} e.read_only 3 1 e_no in ⊎_elim
    (λ d_yes. let three = cond-true {A = ℕ} d.read_only 3 1 d_yes in absurd (omega (arith, same, three, one)))
    (λ d_no. e_no ∙ sym d_no)
    (cases_Bool d.read_only))
    (cases_Bool e.read_only)

entry_same : (e d : Entry) → e.read_only ≡ d.read_only → e.length ≡ d.length → e.extent_count ≡ d.extent_count → e.extents ≡ d.extents → e ≡ d
entry_same e d flag length count extents =
    let one : Bool → Entry = λ b. record { read_only = b; length = e.length; extent_count = e.extent_count; extents = e.extents } in
    let two : ℕ → Entry = λ n. record { read_only = d.read_only; length = n; extent_count = e.extent_count; extents = e.extents } in
    let three : ℕ → Entry = λ n. record { read_only = d.read_only; length = d.length; extent_count = n; extents = e.extents } in
    let four : List Extent → Entry = λ xs. record { read_only = d.read_only; length = d.length; extent_count = d.extent_count; extents = xs } in
    ap one flag ∙ ap two length ∙ ap three count ∙ ap four extents

one_file : (bytes : List ℕ) (e d : Entry) → SaysFile bytes e → SaysFile bytes d → e ≡ d
one_file bytes e d says also = entry_same e d
    (one_flag e d (sym says.flags ∙ also.flags)) (sym says.length ∙ also.length) (sym says.count ∙ also.count)
    (ext_get_or no_extent e.extents d.extents (says.room ∙ sym also.room)
    (λ i inside. let room = says.room in let less : i < 30 = omega (arith, inside, room) in sym (says.extents i less) ∙ also.extents i less))

one_entry : (bytes : List ℕ) (e d : Option Entry) → SaysEntry bytes e → SaysEntry bytes d → e ≡ d
one_entry bytes None None says also = refl
one_entry bytes None (Some d) says also = absurd (flags_set d (sym also.flags ∙ zeros_flag bytes says))
one_entry bytes (Some e) None says also = absurd (flags_set e (sym says.flags ∙ zeros_flag bytes also))
one_entry bytes (Some e) (Some d) says also = ap Some (one_file bytes e d says also)

pub reads_back : (bytes : List ℕ) (e : Option Entry) (r : Result (Option Entry) EntryFault) → SaysEntry bytes e → IfOk r (SaysEntry bytes)
    → OnErr r ((d : Option Entry) → SaysEntry bytes d → ⊥) → r ≡ Ok e
reads_back bytes e (Ok d) says found none = ap Ok (one_entry bytes d e found says)
reads_back bytes e (Err fault) says found none = absurd (none e says)

-- and that is what they are read as
flag_said : (bytes : List ℕ) (e : Entry) → number_at 0 bytes ≡ flags_of e → eqb (number_at 0 bytes) 3 ≡ e.read_only
flag_said bytes e flags = ⊎_elim
    (λ yes'. eq-eqb (number_at 0 bytes) 3 (flags ∙ cond-true {A = ℕ} e.read_only 3 1 yes') ∙ sym yes')
    (λ no'. let one = cond-false {A = ℕ} e.read_only 3 1 no' in ne_eqb (number_at 0 bytes) 3 (λ three. omega (arith, flags, one, three)) ∙ sym no')
    (cases_Bool e.read_only)

extents_said : (bytes : List ℕ) (e : Entry) → SaysFile bytes e → extents_in bytes ≡ e.extents
extents_said bytes e says = sym (fill_by_all (λ i. extent_at i bytes) e.extents 30 no_extent says.room (λ i less. sym (says.extents i less)))

pub said : (bytes : List ℕ) (e : Option Entry) → SaysEntry bytes e → entry_said bytes ≡ e
unfolding entry_said
said bytes None says = cond-true (eqb (number_at 0 bytes) 0) None (Some (file_said bytes)) (eq-eqb (number_at 0 bytes) 0 (zeros_flag bytes says))
said bytes (Some e) says =
    cond-false (eqb (number_at 0 bytes) 0) None (Some (file_said bytes)) (ne_eqb (number_at 0 bytes) 0 (λ zero'. flags_set e (sym says.flags ∙ zero')))
    ∙ ap Some (entry_same (file_said bytes) e (flag_said bytes e says.flags) says.length says.count (extents_said bytes e says))

-- What an entry that was set for a page makes of the page.
use Rattle.fault.{specs.Leaves.{IsFullEntry, is_touched_behind}, proofs.{Names.{◌&&◌, ◌==◌, eq-eqb, count_of}, SwapSteps.{full_count}}}
use Rattle.fault.proofs.{Forms.{mapped_page, over_here, touched_of}, Names.{◌≡◌, ℕ, Bool, true, false, Option, Some, refl, ◌∙◌, subst, ◌≢◌, inl, inr, None, List, sym, ap, false≢true, cases_Bool, same_Some, IfSome, option_map, Load, Store}}
use Rattle.fault.proofs.Names.{Fetch, Prot, Attr, lets, Access, PageKey, Backing, Anon, Shared, Common, stands_on, View, ReadsToo, IsEntryOver, IsLeaf, Picture, entry, own_in, bytes_in, view, IsFit, IsBehind, is_shared, Seat}
use Rattle.fault.proofs.{Names.{seat, is_private, is_swapped, bytes_of, IsSound, frame_of, grants, is_dirty, is_store, over_some, seat_common}, OwnSteps.{shown_own, shown_common}, Ready.{ready_open, zero_same, view-mapped, own_in-private}}
use Rattle.fault.{proofs.{Ready.{own_in-none, reads, touches, owns}, Steps.{seen_then}}, specs.{Changes.{KeepsSeen, KeepsOtherViews, frame_of_place, frame_behind, shown_bytes}, Granted.{IsOpenLeaf, IsEntered, IsReadyAt}, Outcome.{Reads}}}
use Rattle.{fault.specs.{Outcome.{MarksTouchedIn, Owns, IsReadyToStore, IsFrameFor, seen_at}, Shown.{AreBehind, AreOwnOrBehind, AreShown}}, vm_types.specs.declared.region.Backing.TheVariants.{Private}}
use Rattle.std.proofs.lemmas.Bool.{not_from_true, or_left, or_right}
use Rattle.vm_types.specs.Permission as Permission

opened : {access : Access} {e : ℕ} {prot : Prot} {write stored : Bool} → IsLeaf e prot write stored → grants access e ≡ true → (is_store access ≡ true → is_dirty e ≡ true) → IsOpenLeaf access e
opened leaf granted dirty = record { valid = leaf.valid; sound = leaf.unreserved; leaf = leaf.leaf; user = leaf.user; grants = granted; accessed = leaf.accessed; dirty = dirty }

opens_read : (access : Access) (e : ℕ) (prot : Prot) (n : ℕ) (private write stored : Bool) → access ≢ Store → IsEntryOver e prot n private write stored → lets access prot ≡ true → IsOpenLeaf access e
opens_read Load e prot n private write stored other over allowed =
    let leaf = over.leaf (not_from_true _ (or_left _ _ allowed)) in opened leaf (leaf.reads ∙ allowed) (λ store. absurd (false≢true store))
opens_read Fetch e prot n private write stored other over allowed =
    let leaf = over.leaf (not_from_true _ (or_right _ _ allowed)) in opened leaf (leaf.executes ∙ allowed) (λ store. absurd (false≢true store))
opens_read Store e prot n private write stored other over allowed = absurd (other refl)

pub opens_store : (e : ℕ) (prot : Prot) (n : ℕ) (private : Bool) → IsEntryOver e prot n private true true → Permission.can_read prot ≡ true → IsOpenLeaf Store e
opens_store e prot n private over readable =
    let leaf = over.leaf (not_from_true _ (or_left _ _ readable)) in
    opened leaf leaf.writes (λ store. leaf.dirty)

-- a page that may be written may be read
pub reads_too : {mode : ℕ} (c : Picture mode) (pid page : ℕ) (a : Attr) → IsFit c → c.at pid page ≡ Some a → Permission.can_write a.prot ≡ true → Permission.can_read a.prot ≡ true
reads_too c pid page a fit mapped = let P : Option Attr → Type 0 = λ o. IfSome o (λ attr. ReadsToo attr.prot) in subst P mapped (fit.granting.readable pid page)

pub one_view : (v w : View) → Some v ≡ Some w → v ≡ w
one_view v w same = (cc)

-- a page that is seen as it was is to its process what it was
pub seen_same : {mode : ℕ} (old new : Picture mode) (pid page : ℕ) (a : Attr) → old.at pid page ≡ Some a → new.at pid page ≡ Some a → view new pid page ≡ view old pid page
    → seen_at new pid page a ≡ seen_at old pid page a
seen_same old new pid page a was now same =
    one_view (seen_at new pid page a) (seen_at old pid page a) (sym (view-mapped new pid page a now) ∙ same ∙ view-mapped old pid page a was)

no_seat : (f : Seat → List ℕ) (o : Option Seat) → option_map f o ≡ None → o ≡ None
no_seat f None e = refl
no_seat f (Some x) e = (cc)

-- one that had no own copy has none
pub none_same : {mode : ℕ} (old new : Picture mode) (pid page : ℕ) (a : Attr) → old.at pid page ≡ Some a → new.at pid page ≡ Some a → view new pid page ≡ view old pid page
    → seat (entry old pid page) ≡ None → seat (entry new pid page) ≡ None
none_same old new pid page a was now same none =
    no_seat (bytes_in new.frames new.slots) (seat (entry new pid page))
    (ap (λ v. v.own) (seen_same old new pid page a was now same) ∙ own_in-none old.frames old.slots (entry old pid page) none)

-- a page that was made to be read
pub readable : {mode : ℕ} (old new : Picture mode) (pid page : ℕ) (a : Attr) (n : ℕ) (private write stored : Bool) → IsFit new → IsSound new.frames → old.at pid page ≡ Some a → new.at pid page ≡ Some a
    → KeepsSeen old new → IsEntryOver (entry new pid page) a.prot n private write stored → Reads old new (seen_at old pid page a) n
readable old new pid page a n private write stored fit sound was now keeps over =
    let some = over_some (entry new pid page) a.prot n private write stored over in
    let here = over_here (entry new pid page) a n private write stored over in
    let is = reads old new pid page a fit sound (mapped_page new pid page a fit.granting now) now some here keeps in
    let Q : ℕ → Type 0 = λ x. Reads old new (seen_at old pid page a) x in
    subst Q over.names (subst (λ (v : View). Reads old new v (frame_of (entry new pid page))) (seen_same old new pid page a was now (keeps.views pid page)) is)

pub ready_read : {mode : ℕ} (access : Access) (old new : Picture mode) (pid page : ℕ) (a : Attr) (n : ℕ) → access ≢ Store → Reads old new (seen_at old pid page a) n → IsReadyAt old new pid page a access n
ready_read Store old new pid page a n other reads = absurd (other refl)
ready_read access old new pid page a n other reads = reads

touched_same : {mode : ℕ} (old new : Picture mode) (b : Backing) → ((p : PageKey) → new.touched p ≡ old.touched p) → is_touched_behind new b ≡ is_touched_behind old b
touched_same old new Anon same = refl
touched_same old new (Private p) same = refl
touched_same old new b same = same _

-- the fullest entry is the fullest one still, where the frame's shares and what is touched stay
pub full_same : {mode : ℕ} (old new : Picture mode) (a : Attr) (n : ℕ) (private : Bool) (e : ℕ) → count_of new.frames n ≡ count_of old.frames n → ((p : PageKey) → new.touched p ≡ old.touched p)
    → IsFullEntry old a n private e → IsFullEntry new a n private e
full_same old new a n true e count touched full = full_count old new a n e count full
full_same old new a n false e count touched full =
    let P : Bool → Type 0 = λ x. IsEntryOver e a.prot n false (is_shared a.backing && Permission.can_write a.prot) (x && Permission.can_write a.prot) in
    subst P (sym (touched_same old new a.backing touched)) full

-- one with W and D is, over an own frame that nobody else has,
pub full_sole : {mode : ℕ} (c : Picture mode) (a : Attr) (n e : ℕ) → count_of c.frames n ≡ 1 → Permission.can_write a.prot ≡ true → IsEntryOver e a.prot n true true true → IsFullEntry c a n true e
full_sole c a n e one writable over =
    let both : ((count_of c.frames n == 1) && Permission.can_write a.prot) ≡ true = ap (λ x. x && Permission.can_write a.prot) (eq-eqb (count_of c.frames n) 1 one) ∙ writable in
    let P : Bool → Type 0 = λ x. IsEntryOver e a.prot n true x x in
    subst P (sym both) over

-- and over that of a touched page of a file or an object
pub full_touched : {mode : ℕ} (c : Picture mode) (a : Attr) (p : PageKey) (n e : ℕ) → is_shared a.backing ≡ true → stands_on a.backing ≡ Some p → c.touched p ≡ true → Permission.can_write a.prot ≡ true
    → IsEntryOver e a.prot n false true true → IsFullEntry c a n false e
full_touched c a p n e shared is touched writable over =
    let cw = Permission.can_write a.prot in
    let write : (is_shared a.backing && cw) ≡ true = ap (λ t. t && cw) shared ∙ writable in
    let stored : (is_touched_behind c a.backing && cw) ≡ true = ap (λ t. t && cw) (touched_of c a.backing p shared is ∙ touched) ∙ writable in
    let P : Bool → Bool → Type 0 = λ x y. IsEntryOver e a.prot n false x y in
    subst (λ (x : Bool). P x (is_touched_behind c a.backing && cw)) (sym write) (subst (λ (y : Bool). P true y) (sym stored) over)

-- a page whose entry lets it be read
pub entered_read : {mode : ℕ} (access : Access) (c : Picture mode) (pid page : ℕ) (a : Attr) (n : ℕ) (private : Bool) → access ≢ Store → lets access a.prot ≡ true
    → IsFullEntry c a n private (entry c pid page) → IsFrameFor access c pid page a.backing n → IsEntered c pid page a access n
entered_read access c pid page a n private other allowed full usable =
    record { opens = opens_read access (entry c pid page) a.prot n private _ _ other full allowed; frame = full.names; usable = usable; private = private; full = full }

-- one whose entry lets stores through
pub entered_store : {mode : ℕ} (c : Picture mode) (pid page : ℕ) (a : Attr) (n : ℕ) (private : Bool) → Permission.can_read a.prot ≡ true
    → IsEntryOver (entry c pid page) a.prot n private true true → IsFullEntry c a n private (entry c pid page) → IsFrameFor Store c pid page a.backing n → IsEntered c pid page a Store n
entered_store c pid page a n private readable over full usable =
    record { opens = opens_store (entry c pid page) a.prot n private over readable; frame = over.names; usable = usable; private = private; full = full }

-- and that is ready
pub entered_ready : {mode : ℕ} (access : Access) (old new : Picture mode) (pid page : ℕ) (a : Attr) (n : ℕ) → IsReadyAt old new pid page a access n → IsFrameFor access new pid page a.backing n
entered_ready access old new pid page a n ready = ready_open access old new pid page (seen_at old pid page a) n ready

to_shared : {mode : ℕ} (old new : Picture mode) (pid page : ℕ) (v : View) (b : Backing) (p : PageKey) (n : ℕ) → is_shared b ≡ true → stands_on b ≡ Some p → MarksTouchedIn old new p n
    → IsReadyToStore old new pid page v b n
to_shared old new pid page v Anon p n shared is touched = absurd (false≢true shared)
to_shared old new pid page v (Private q) p n shared is touched = absurd (false≢true shared)
to_shared old new pid page v b p n shared is touched = let P : PageKey → Type 0 = λ x. MarksTouchedIn old new x n in subst P (sym (same_Some _ p is)) touched

pub ready_shared : {mode : ℕ} (old new : Picture mode) (pid page : ℕ) (a : Attr) (p : PageKey) (n : ℕ) → is_shared a.backing ≡ true → stands_on a.backing ≡ Some p → MarksTouchedIn old new p n
    → IsReadyAt old new pid page a Store n
ready_shared old new pid page a p n shared is touched = to_shared old new pid page (seen_at old pid page a) a.backing p n shared is touched

to_own : {mode : ℕ} (old new : Picture mode) (pid page : ℕ) (v : View) (b : Backing) (n : ℕ) → is_shared b ≡ false → Owns old new pid page v n → IsReadyToStore old new pid page v b n
to_own old new pid page v (Shared p) n is own = absurd (false≢true (sym is))
to_own old new pid page v (Common p) n is own = absurd (false≢true (sym is))
to_own old new pid page v b n is own = own

pub ready_own : {mode : ℕ} (old new : Picture mode) (pid page : ℕ) (a : Attr) (n : ℕ) → is_shared a.backing ≡ false → Owns old new pid page (seen_at old pid page a) n → IsReadyAt old new pid page a Store n
ready_own old new pid page a n is own = to_own old new pid page (seen_at old pid page a) a.backing n is own

-- what was seen as it was before
reads_after : {mode : ℕ} (old mid new : Picture mode) (v w : View) (n : ℕ) → KeepsSeen old mid → v ≡ w → Reads mid new v n → Reads old new w n
reads_after old mid new v w n keeps e reads = record {
  keeps = seen_then old mid new keeps reads.keeps;
  inside = reads.inside;
  shown = (let P : View → Type 0 = λ x. AreShown new x (bytes_of new.frames n) in subst P e reads.shown);
}

owns_after : {mode : ℕ} (old mid new : Picture mode) (pid page : ℕ) (v w : View) (n : ℕ) → KeepsSeen old mid → v ≡ w → Owns mid new pid page v n → Owns old new pid page w n
owns_after old mid new pid page v w n keeps e own =
    record {
      own = (let Q : View → Type 0 = λ x. view new pid page ≡ Some (record x { own = Some (bytes_of new.frames n) }) in subst Q e own.own);
      shown = subst (λ (x : View). AreShown new x (bytes_of new.frames n)) e own.shown;
      others = λ q k other. own.others q k other ∙ keeps.views q k;
      touched = λ p. own.touched p ∙ keeps.touched p;
      held = own.held;
      sole = own.sole;
    }

pub touches_after : {mode : ℕ} (old mid new : Picture mode) (p : PageKey) (n : ℕ) → KeepsSeen old mid → MarksTouchedIn mid new p n → MarksTouchedIn old new p n
touches_after old mid new p n keeps touched = record {
  views = λ q k. touched.views q k ∙ keeps.views q k;
  held = touched.held;
  place = touched.place;
  touched = touched.touched;
  others = λ q ne. touched.others q ne ∙ keeps.touched q;
}

to_store : {mode : ℕ} (old mid new : Picture mode) (pid page : ℕ) (v w : View) (b : Backing) (n : ℕ) → KeepsSeen old mid → v ≡ w → IsReadyToStore mid new pid page v b n → IsReadyToStore old new pid page w b n
to_store old mid new pid page v w Anon n keeps e own = owns_after old mid new pid page v w n keeps e own
to_store old mid new pid page v w (Private p) n keeps e own = owns_after old mid new pid page v w n keeps e own
to_store old mid new pid page v w b n keeps e touched = touches_after old mid new _ n keeps touched

-- what is ready for the page as it was seen between is ready for it as it was seen before
pub ready_after : {mode : ℕ} (old mid new : Picture mode) (pid page : ℕ) (a : Attr) (access : Access) (n : ℕ) → old.at pid page ≡ Some a → mid.at pid page ≡ Some a → KeepsSeen old mid
    → IsReadyAt mid new pid page a access n → IsReadyAt old new pid page a access n
ready_after old mid new pid page a Store n was now keeps is = to_store old mid new pid page _ _ a.backing n keeps (seen_same old mid pid page a was now (keeps.views pid page)) is
ready_after old mid new pid page a access n was now keeps is = reads_after old mid new _ _ n keeps (seen_same old mid pid page a was now (keeps.views pid page)) is

-- the bytes of the frame behind a page stand behind it, where that one stays
behind_bytes : {mode : ℕ} (old new : Picture mode) (b : Backing) (m : ℕ) (bytes : List ℕ) → IsSound old.frames → IsBehind old b m → IsBehind new b m × (bytes_of new.frames m ≡ bytes_of old.frames m)
    → bytes ≡ bytes_of old.frames (frame_behind old b) → AreBehind new b bytes
behind_bytes old new Anon m bytes sound was now is = is ∙ sound.zero_page ∙ zero_same
behind_bytes old new b m bytes sound was now is = (record { 0 = m }, now.0, is ∙ ap (bytes_of old.frames) (ap frame_of_place was) ∙ sym now.1)

-- a copy of the bytes that a page showed shows the same
pub copy_shown : {mode : ℕ} (old new : Picture mode) (pid page : ℕ) (a : Attr) (bytes : List ℕ) → IsSound old.frames → is_swapped (entry old pid page) ≡ false
    → (is_private (entry old pid page) ≡ false → (m : ℕ) × IsBehind old a.backing m)
    → ((m : ℕ) → is_private (entry old pid page) ≡ false → IsBehind old a.backing m → IsBehind new a.backing m × (bytes_of new.frames m ≡ bytes_of old.frames m))
    → bytes ≡ shown_bytes old pid page a → AreShown new (seen_at old pid page a) bytes
copy_shown old new pid page a bytes sound here memory stays is =
    let e = entry old pid page in
    let P : Option (List ℕ) → Type 0 = λ o. AreOwnOrBehind new a.backing o bytes in
    elim (cases_Bool (is_private e)) [
      | inl private ↦ subst P (sym (own_in-private old.frames old.slots e private)) (is ∙ ap (bytes_of old.frames) (shown_own old e a.backing private))
      | inr common ↦ (
          let behind = memory common in
          subst P (sym (own_in-none old.frames old.slots e (seat_common e common here)))
          (behind_bytes old new a.backing behind.0 bytes sound behind.1 (stays behind.0 common behind.1) (is ∙ ap (bytes_of old.frames) (shown_common old e a.backing common))))
    ]

-- a shared page of which the entry lets stores through
pub touched_entry : {mode : ℕ} (old new : Picture mode) (pid page : ℕ) (a : Attr) (p : PageKey) (n : ℕ) → IsFit new → IsSound new.frames → new.at pid page ≡ Some a
    → is_shared a.backing ≡ true → stands_on a.backing ≡ Some p → Permission.can_read a.prot ≡ true → IsEntryOver (entry new pid page) a.prot n false true true
    → ((q k : ℕ) → view new q k ≡ view old q k) → ((q : PageKey) → q ≢ p → new.touched q ≡ old.touched q) → MarksTouchedIn old new p n
touched_entry old new pid page a p n fit sound now shared is readable over views others =
    let opens = opens_store (entry new pid page) a.prot n false over readable in
    let h = mapped_page new pid page a fit.granting now in
    subst (λ (x : ℕ). MarksTouchedIn old new p x) over.names (touches old new pid page a p fit sound h now opens.valid (opens.dirty refl) shared is views others)

-- any other page of which it does
pub owned_entry : {mode : ℕ} (old new : Picture mode) (pid page : ℕ) (a : Attr) (n : ℕ) → IsFit new → IsSound new.frames → new.at pid page ≡ Some a
    → is_shared a.backing ≡ false → Permission.can_read a.prot ≡ true → IsEntryOver (entry new pid page) a.prot n true true true
    → AreShown new (seen_at old pid page a) (bytes_of new.frames n) → KeepsOtherViews old new pid page → ((q : PageKey) → new.touched q ≡ old.touched q)
    → Owns old new pid page (seen_at old pid page a) n
owned_entry old new pid page a n fit sound now private readable over shown others touched =
    let opens = opens_store (entry new pid page) a.prot n true over readable in
    let h = mapped_page new pid page a fit.granting now in
    let Q : ℕ → Type 0 = λ x. AreShown new (seen_at old pid page a) (bytes_of new.frames x) in
    subst (λ (x : ℕ). Owns old new pid page (seen_at old pid page a) x) over.names
    (owns old new pid page a (own_in old.frames old.slots (entry old pid page)) fit sound h now opens.valid opens.grants private (subst Q (sym over.names) shown) others touched)

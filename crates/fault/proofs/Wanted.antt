-- When an access wants a frame, which frame it keeps meanwhile, and when it wants the page from its home.
use Rattle.fault.proofs.{AccessSteps.{untouched_home}, Forms.{mapped_page}, Names.{top_level, widest_end, Access, Store, FrameNo, PageKey, File, Object, Attr, Backing, Anon, Common, stands_on, Phys, Code, Width, Fine}}
use Rattle.fault.proofs.Names.{true_from_ne_false, leb-false, ⊎_elim, Faults, is_past_end, FileInfo, ObjectPage, is_object_page, names, is_past_end_of, ◌≡◌, ◌≢◌, ℕ, inl, inr, true, false, Some, None, refl, sym, ap, ◌∙◌, Result, Ok, Err}
use Rattle.fault.proofs.Names.{◌⊎◌, Option, subst, ◌*◌, ◌<◌, arith, eq-eqb, cases_Bool, cases_eq, false≢true, same_Some, bytes_of, IsPage, missing_of, Place, Home, Frame, Slot, InFrame, InSlot, seat, is_private, is_swapped, Picture, entry}
use Rattle.fault.proofs.{Names.{IsFit, IsBehind, is_shared, IsPageFor, Frees, IsWhole, Core, seat_own, seat_common, seat_away, IsErrAnd, translated, sizes, named-at}, OwnSteps.{shown_own, shown_behind}}
use Rattle.fault.{proofs.{Ready.{page_user, behind_place, one_place}, Settled.{none_same}, Steps.{linked_kept, on_right}}, specs.Changes.{IsLinked, KeepsSeen, KeepsSpaces, KeepsTables, KeepsViews, copied_frame, shown_frame, IsCalm, is_sole}}
use Rattle.{fault.specs.{Files.{IsInStore}, Outcome.{verdict_of, IsPlaced, IsWalked}, Wants.{HoldsShown, KeepsOwnFrame, ShowsFile, LacksTable, Wants, ForFile, ForStore, ReadsHome}}, std.proofs.Common.{is_some}}
use Rattle.vm_types.specs.declared.mode.Levels as Levels

-- none while a table is missing
pub unlinked_keeps : {mode : ℕ} (c : Picture mode) (pid page : ℕ) (access : Access) → (IsWhole c pid page → ⊥) → KeepsOwnFrame c pid page access None
unlinked_keeps c pid page access never n copies = never copies.whole

away_unshown : {mode : ℕ} (c : Picture mode) (e k n : ℕ) (b : Backing) → seat e ≡ Some (InSlot k) → HoldsShown c e b n → ⊥
away_unshown c e k n b away (inl own) = (cc)
away_unshown c e k n b away (inr none) = (cc)

-- nor while the own copy lies in a slot
pub away_keeps : {mode : ℕ} (old new : Picture mode) (pid page : ℕ) (access : Access) → IsPage (top_level mode) page → is_private (entry old pid page) ≡ false → is_swapped (entry old pid page) ≡ true
    → Frees old new None → KeepsOwnFrame new pid page access None
away_keeps old new pid page access h common away frees n copies =
    away_unshown new (entry new pid page) _ n.0 copies.attr.backing (ap seat (frees.entries pid page h (inr (inl away))) ∙ seat_away (entry old pid page) common away) copies.shown

away_stays : {mode : ℕ} (old new : Picture mode) (p : PageKey) (place : Place) → old.place p ≡ place → Frees old new None → ((n : FrameNo) → old.place p ≡ Frame n → ⊥) → (n : FrameNo) → new.place p ≢ Frame n
away_stays old new p Home at frees never n there = let bad : Home ≡ Frame n = sym (frees.home p at) ∙ there in (cc)
away_stays old new p (Slot k) at frees never n there = let bad : Slot k ≡ Frame n = sym (frees.slotted p k.0 at) ∙ there in (cc)
away_stays old new p (Frame m) at frees never n there = never m at

nowhere_unshown : {mode : ℕ} (c : Picture mode) (e n : ℕ) (b : Backing) (p : PageKey) → seat e ≡ None → stands_on b ≡ Some p → ((m : FrameNo) → c.place p ≢ Frame m) → HoldsShown c e b n → ⊥
nowhere_unshown c e n b p none is never (inl own) = let bad : None ≡ Some (InFrame n) = sym none ∙ own in (cc)
nowhere_unshown c e n b p none is never (inr behind) = never (record { 0 = n }) (behind_place c b p n is behind.1)

-- nor while the file page that the page shows lies in none
pub nowhere_keeps : {mode : ℕ} (old new : Picture mode) (pid page : ℕ) (access : Access) (p : PageKey) → ShowsFile old pid page p → ((q k : ℕ) → new.at q k ≡ old.at q k) → KeepsSeen old new → Frees old new None
    → ((n : FrameNo) → old.place p ≡ Frame n → ⊥) → KeepsOwnFrame new pid page access None
nowhere_keeps old new pid page access p shows at keeps frees never n copies =
    let now = at pid page ∙ shows.mapped in
    let same : copies.attr ≡ shows.attr = same_Some copies.attr shows.attr (sym copies.mapped ∙ now) in
    nowhere_unshown new (entry new pid page) n.0 copies.attr.backing p (none_same old new pid page shows.attr shows.mapped now (keeps.views pid page) shows.none)
    (ap (λ (a : Attr). stands_on a.backing) same ∙ shows.behind) (away_stays old new p (old.place p) refl frees never) copies.shown

-- a store that is to copy the frame whose bytes its page shows keeps that one
module _ {mode : ℕ} (old new : Picture mode) (pid page : ℕ) (a : Attr) (linked : IsLinked old pid page) (was : old.at pid page ≡ Some a) (alone : is_shared a.backing ≡ false)
    (here : is_swapped (entry old pid page) ≡ false) (memory : is_private (entry old pid page) ≡ false → (n : ℕ) × IsBehind old a.backing n)
    (stays : (n : ℕ) → is_private (entry old pid page) ≡ false → IsBehind old a.backing n → IsBehind new a.backing n × (bytes_of new.frames n ≡ bytes_of old.frames n))
    (fit : IsFit new) (spaces : KeepsSpaces old new) (tables : KeepsTables old new) (views : KeepsViews old new) (frees : Frees old new (copied_frame old pid page a)) where
  held_own : is_private (entry old pid page) ≡ true → HoldsShown new (entry new pid page) a.backing (shown_frame old (entry old pid page) a.backing)
  held_own own =
      let names = shown_own old (entry old pid page) a.backing own in
      let h = mapped_page old pid page a linked.fit.granting was in
      inl (ap seat (frees.entries pid page h (inr (inr (inr (sym names))))) ∙ seat_own (entry old pid page) own ∙ ap (λ (n : ℕ). Some (InFrame n)) (sym names))

  held_behind : is_private (entry old pid page) ≡ false → HoldsShown new (entry new pid page) a.backing (shown_frame old (entry old pid page) a.backing)
  held_behind common =
      inr (
        none_same old new pid page a was (spaces.at pid page ∙ was) (views pid page) (seat_common (entry old pid page) common here),
        (stays (shown_frame old (entry old pid page) a.backing) common (shown_behind old (entry old pid page) a.backing common (memory common))).0,
      )

  pub copy_keeps : KeepsOwnFrame new pid page Store (copied_frame old pid page a)
  copy_keeps = record {
    attr = a;
    stores = refl;
    mapped = spaces.at pid page ∙ was;
    not_shared = alone;
    whole = (linked_kept old new pid page linked fit spaces tables).whole;
    shown = (elim (cases_Bool (is_private (entry old pid page))) [
      | inl own ↦ held_own own
      | inr common ↦ held_behind common
    ]);
  }

pub cases_frame : (place : Place) → ((n : FrameNo) × (place ≡ Frame n)) ⊎ ((n : FrameNo) → place ≢ Frame n)
cases_frame (Frame m) = inl (m, refl)
cases_frame place = inr (λ n e. (cc))

pub shows_file : {mode : ℕ} (c : Picture mode) (pid page : ℕ) (a : Attr) (p : PageKey) → c.at pid page ≡ Some a → stands_on a.backing ≡ Some p → seat (entry c pid page) ≡ None
    → ShowsFile c pid page p
shows_file c pid page a p mapped is none = record { attr = a; mapped = mapped; behind = is; none = none }

-- and so did a page that is seen as it was
pub shows_back : {mode : ℕ} (old mid : Picture mode) (pid page : ℕ) (p : PageKey) → ((q k : ℕ) → mid.at q k ≡ old.at q k) → KeepsSeen old mid → ShowsFile mid pid page p → ShowsFile old pid page p
shows_back old mid pid page p at keeps shows =
    let was = sym (at pid page) ∙ shows.mapped in
    record { attr = shows.attr; mapped = was; behind = shows.behind; none = none_same mid old pid page shows.attr shows.mapped was (sym (keeps.views pid page)) shows.none }

some_of : (o : Option ℕ) → o ≢ None → (r : ℕ) × (o ≡ Some r)
some_of None live = absurd (live refl)
some_of (Some r) live = (r, refl)

pub root_lives : (o : Option ℕ) → is_some o ≡ true → o ≢ None
root_lives o e none = false≢true (sym (ap is_some none) ∙ e)

-- a live process has a root
pub root_live : {mode : ℕ} (c : Picture mode) (pid : ℕ) → is_some (c.root pid) ≡ true → (r : ℕ) × (c.root pid ≡ Some r)
root_live c pid live = some_of (c.root pid) (root_lives (c.root pid) live)

-- a table is missing, or none
module _ {mode : ℕ} where
  pub whole_or : (c : Picture mode) (pid page : ℕ) → ((r : ℕ) × (c.root pid ≡ Some r)) → IsWhole c pid page ⊎ LacksTable c pid page
  whole_or c pid page root = elim (cases_eq (missing_of c.frames (top_level mode) root.0 page) 0) [
    | inl whole ↦ inl (λ r at. ap (λ x. missing_of c.frames (top_level mode) x page) (same_Some r root.0 (sym at ∙ root.1)) ∙ whole)
    | inr missing ↦ inr (record { root = root.0; lives = root.1; missing = missing })
  ]

-- where the file page that the page shows is in no frame, one is wanted
pub there_or : {mode : ℕ} (c : Picture mode) (pid page : ℕ) (access : Access) (p : PageKey) → ShowsFile c pid page p → ((n : FrameNo) × (c.place p ≡ Frame n)) ⊎ Wants c pid page access
there_or c pid page access p shows = on_right (λ away. inr (ForFile p shows away)) (cases_frame (c.place p))

pub page_there : {mode : ℕ} (c : Picture mode) (pid page : ℕ) (access : Access) (p : PageKey) → ShowsFile c pid page p → (Wants c pid page access → ⊥) → (n : FrameNo) × (c.place p ≡ Frame n)
page_there c pid page access p shows none = ⊎_elim (λ there. there) (λ wants. absurd (none wants)) (there_or c pid page access p shows)

-- and a store has its frame
pub sole_there : {mode : ℕ} (c : Picture mode) (pid page : ℕ) (a : Attr) → c.at pid page ≡ Some a → is_shared a.backing ≡ false → (Wants c pid page Store → ⊥)
    → is_sole c (entry c pid page) ≡ true
sole_there c pid page a mapped private none = true_from_ne_false _ (λ several. none (ForStore a refl mapped private several))

pub reads_home : {mode : ℕ} (c : Picture mode) (pid page : ℕ) (p : PageKey) → IsFit c → ShowsFile c pid page p → IsInStore c p → ReadsHome c pid page
reads_home c pid page p fit shows (f, is, home) =
    let at_home = ap c.place (sym is) ∙ home in
    record { file = f; shows = subst (λ (x : PageKey). ShowsFile c pid page x) is shows; untouched = untouched_home c (File f) fit at_home; home = inl at_home }

-- nothing changed
pub calm_same : {M : Type 0} {m : Levels.Ghosts M} → {D E : Type 0} (c : Core D E M m) (pid page : ℕ) → IsCalm c c pid page
calm_same c pid page = record {
  store = refl;
  swap = refl;
  refused = refl;
  frames = record { frames = refl; roles = refl; counts = refl; bytes = λ n other. refl };
  pointers = λ n i m points. points;
  place = λ p. refl;
  others = λ q p h other. refl;
}

-- the walk answers one place
module _ {mode : ℕ} where
  pub walked_same : (c : Picture mode) (pid addr : ℕ) (width : Width) (access : Access) (p q : Phys) → IsPlaced c c pid addr width access p
      → IsWalked c pid addr width access q → p ≡ q
  walked_same c pid addr width access p q placed walked =
      one_place _ p q placed.place (ap (λ r. translated (top_level mode) c.frames r addr access) (same_Some placed.root walked.root (sym placed.lives ∙ walked.lives)) ∙ walked.place)

-- and none to an access that faults
pub no_walk : {mode : ℕ} (c : Picture mode) (pid addr : ℕ) (width : Width) (access : Access) (code : Code) (q : Phys) → verdict_of c pid addr width access ≡ Faults code
    → IsWalked c pid addr width access q → ⊥
no_walk c pid addr width access code q faults walked = let bad : Faults code ≡ Fine walked.seen = sym faults ∙ walked.fine in (cc)

-- a call that hands on an error returns that
pub err_is : {T E : Type 0} (r : Result T E) (e : E) → IsErrAnd r (λ x. x ≡ e) → Err e ≡ r
err_is (Ok x) e is = absurd is
err_is (Err x) e is = ap (λ y. Err y) (sym is)

begins_inside : (o : Option FileInfo) (k : ℕ) → is_past_end_of o k ≡ false → (info : FileInfo) × (o ≡ Some info) × (4096 * k < info.length)
begins_inside None k inside = absurd (false≢true (sym inside))
begins_inside (Some info) k inside = (info, refl, leb-false info.length (4096 * k) inside)

names_itself : (p : ObjectPage) (b : Backing) → b ≡ Common p → is_object_page b p.object p.page ≡ true
names_itself p b is = ap (λ x. is_object_page x p.object p.page) is ∙ rw (eq-eqb p.object p.object refl, eq-eqb p.page p.page refl) refl

-- what stands behind a mapped page that isn't past the end of its file can be brought in
page_for : {mode : ℕ} (c : Picture mode) (pid page : ℕ) (a : Attr) (b : Backing) (p : PageKey) → pid < 65 → page < widest_end → c.at pid page ≡ Some a → a.backing ≡ b → stands_on b ≡ Some p
    → is_past_end c.files b ≡ false → IsPageFor c p
page_for c pid page a Anon p low high mapped backed is inside = (cc)
page_for c pid page a (Common q) p low high mapped backed is inside =
    subst (λ (x : PageKey). IsPageFor c x) (same_Some (Object q) p is)
    (named-at c.at q.object q.page pid page low high (ap (λ x. names x q.object q.page) mapped ∙ names_itself q a.backing backed))
page_for c pid page a b p low high mapped backed is inside = let P : PageKey → Type 0 = λ x. IsPageFor c x in subst P (same_Some _ p is) (begins_inside _ _ inside)

pub page_inside : {mode : ℕ} (c : Picture mode) (pid page : ℕ) (a : Attr) (p : PageKey) → IsLinked c pid page → c.at pid page ≡ Some a → stands_on a.backing ≡ Some p → is_past_end c.files a.backing ≡ false → IsPageFor c p
page_inside {mode = mode} c pid page a p linked mapped is inside =
    let root = some_of (c.root pid) linked.lives in
    let high = (page_user c pid page a linked.fit mapped).1 in
    let low = (linked.fit.rooted.numbers pid root.0 root.1).1 in
    page_for c pid page a a.backing p (omega (arith, low)) (omega (arith, high, (sizes mode).most)) mapped refl is inside

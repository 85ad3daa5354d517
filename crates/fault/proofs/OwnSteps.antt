-- A frame of its own given to a page, with the bytes that it showed.
use Rattle.fault.proofs.{Forms.{mapped_page, behind_used, behind_datum, own_role, used_inside}, Names.{top_level, PageKey, Attr, Backing, can_write, ◌≡◌, ◌≢◌, ◌⊎◌, ℕ, inl, inr, Bool, true, false, Some, get_or, refl, sym, ap, ◌∙◌}}
use Rattle.fault.proofs.Names.{rules, subst, eq-eqb, cases_Bool, same_Some, ◌&&◌, ◌==◌, option_map, Ghosts, Free, Table, Private, IsFrame, IsSound, bytes_of, role_of, count_of, Releases, frame_of, IsPage, IsEntryOver, Frame, Core}
use Rattle.fault.proofs.Names.{InFrame, is_private, is_swapped, Frees, Picture, picture_of, entry, view, view_of, bytes_in, IsFit, IsFitBut, IsBehind, SameBeside, shown_stays, fit_released, release_spares, same, seat_own}
use Rattle.fault.{proofs.{Names.{seat_common}, Settling.{KeepsAside, aside_then, aside_released, HasFrame, GivesFrame, fit_given, fit_seated, entry_given, bytes_given, count_given, set_others, view_given, aside_given}}, specs.Changes.{IsLinked}}
use Rattle.fault.specs.{Changes.{TakesCopy, frame_of_place, frame_behind, shown_frame}, Leaves.{IsFullEntry}, OwnFrames.{IsOwnable}, declared.spot.Spot.{Spot}}
use Rattle.vm_types.specs.declared.mode.Levels as Levels
use Rattle.vm_types.specs.declared.region.Backing.TheVariants as Backings

behind_is : {mode : ℕ} (c : Picture mode) (b : Backing) (n : ℕ) → IsBehind c b n → frame_behind c b ≡ n
behind_is c Backings.Anon n behind = sym behind
behind_is c b n behind = ap frame_of_place behind

behind_stays : {mode : ℕ} (old new : Picture mode) (b : Backing) (x m : ℕ) → IsBehind old b x → x ≡ m → ((p : PageKey) → old.place p ≡ Frame (record { 0 = m }) → new.place p ≡ Frame (record { 0 = m })) → IsBehind new b x
behind_stays old new Backings.Anon x m behind is kept = behind
behind_stays old new b x m behind is kept = kept _ (behind ∙ ap (λ i. Frame (record { 0 = i })) is) ∙ ap (λ i. Frame (record { 0 = i })) (sym is)

pub behind_freed : {mode : ℕ} (old new : Picture mode) (b : Backing) (m : ℕ) → Frees old new (Some (record { 0 = m })) → role_of old.frames m ≢ Table → IsBehind old b m
    → (x : ℕ) → IsBehind old b x → IsBehind new b x × (bytes_of new.frames x ≡ bytes_of old.frames x)
behind_freed old new b m frees datum there x behind =
    let is : x ≡ m = sym (behind_is old b x behind) ∙ behind_is old b m there in (
      behind_stays old new b x m behind is (λ p at. frees.kept_place p m refl at),
      (let P : ℕ → Type 0 = λ y. bytes_of new.frames y ≡ bytes_of old.frames y in subst P (sym is) (frees.kept_bytes m refl datum)),
    )

pub shown_own : {mode : ℕ} (c : Picture mode) (e : ℕ) (b : Backing) → is_private e ≡ true → shown_frame c e b ≡ frame_of e
shown_own c e b private = rw private refl

pub shown_common : {mode : ℕ} (c : Picture mode) (e : ℕ) (b : Backing) → is_private e ≡ false → shown_frame c e b ≡ frame_behind c b
shown_common c e b common = rw common refl

-- the frame that a page shows stands behind it, where it has none of its own
pub shown_behind : {mode : ℕ} (c : Picture mode) (e : ℕ) (b : Backing) → is_private e ≡ false → ((n : ℕ) × IsBehind c b n) → IsBehind c b (shown_frame c e b)
shown_behind c e b common there = subst (λ (x : ℕ). IsBehind c b x) (sym (shown_common c e b common ∙ behind_is c b there.0 there.1)) there.1

pub own_view : {mode : ℕ} (c : Picture mode) (pid page : ℕ) (a : Attr) → c.at pid page ≡ Some a → is_private (entry c pid page) ≡ true
    → view c pid page ≡ Some (record { attr = a; own = Some (bytes_of c.frames (frame_of (entry c pid page))) })
unfolding view
own_view c pid page a at own =
    ap (λ o. view_of o (c.at pid page)) (ap (λ z. option_map (bytes_in c.frames c.slots) z) (seat_own (entry c pid page) own))
    ∙ ap (λ o. view_of (Some (bytes_of c.frames (frame_of (entry c pid page)))) o) at

pub full_own : {mode : ℕ} (c : Picture mode) (a : Attr) (n e : ℕ) → count_of c.frames n ≡ 1 → can_write a.prot ≡ true → IsFullEntry c a n true e → IsEntryOver e a.prot n true true true
full_own c a n e one writable full =
    let both : ((count_of c.frames n == 1) && can_write a.prot) ≡ true = ap (λ x. x && can_write a.prot) (eq-eqb (count_of c.frames n) 1 one) ∙ writable in
    let Q : Bool → Type 0 = λ x. IsEntryOver e a.prot n true true x in
    subst Q both (subst (λ (x : Bool). IsEntryOver e a.prot n true x ((count_of c.frames n == 1) && can_write a.prot)) both full)

module _ {mode : ℕ} where
  -- The frame m holds what the page shows.
  pub record IsShownFrame (old : Picture mode) (pid page m : ℕ) (a : Attr) : Type 0 where
    pub sound : IsSound old.frames
    pub linked : IsLinked old pid page
    pub at : old.at pid page ≡ Some a
    pub resident : is_swapped (entry old pid page) ≡ false
    pub own : is_private (entry old pid page) ≡ true → frame_of (entry old pid page) ≡ m
    pub common : is_private (entry old pid page) ≡ false → IsBehind old a.backing m

module _ {M : Type 0} {m : Levels.Ghosts M} {D E : Type 0} {h : Ghosts E} {core : Core D E M m} {spot : Spot} {a : Attr} (page : IsOwnable h core spot a) where
  abbrev was : ℕ
  was = entry (picture_of core) spot.pid spot.page

  pub ownable_frame : (n : ℕ) → (is_private was ≡ true → frame_of was ≡ n) → (is_private was ≡ false → IsBehind (picture_of core) a.backing n) → IsShownFrame (picture_of core) spot.pid spot.page n a
  ownable_frame n own common = record { sound = core.sound; linked = page.stands.linked; at = page.mapped; resident = page.resident; own = own; common = common }

  -- the one that the code reads off the entry
  pub frame_shown : (is_private was ≡ false → (n : ℕ) × IsBehind (picture_of core) a.backing n) → {e n : ℕ} → e ≡ was → n ≡ shown_frame (picture_of core) e a.backing → IsShownFrame (picture_of core) spot.pid spot.page n a
  frame_shown in_memory is shown =
      let here = shown ∙ ap (λ x. shown_frame (picture_of core) x a.backing) is in
      let P : ℕ → Type 0 = λ x. IsBehind (picture_of core) a.backing x in
      ownable_frame _ (λ own. sym (here ∙ shown_own (picture_of core) was a.backing own)) (λ common. subst P (sym here) (shown_behind (picture_of core) was a.backing common (in_memory common)))

module _ {mode : ℕ} where
  -- The page shows the bytes of the frame m in the frame n, which its process alone has.
  pub record IsCopied (old new : Picture mode) (pid page m n : ℕ) (a : Attr) : Type 0 where
    pub aside : KeepsAside old new pid page
    pub own : view new pid page ≡ Some (record { attr = a; own = Some (bytes_of old.frames m) })
    pub bytes : bytes_of new.frames n ≡ bytes_of old.frames m
    pub entered : IsEntryOver (entry new pid page) a.prot n true true true
    pub sole : count_of new.frames n ≡ 1

module _ {mode : ℕ} {old : Picture mode} {pid page m : ℕ} {a : Attr} (shows : IsShownFrame old pid page m a) where
  here : IsPage (top_level mode) page
  here = mapped_page old pid page a shows.linked.fit.granting shows.at

  own_kind : is_private (entry old pid page) ≡ true → role_of old.frames m ≡ Private
  own_kind private = ap (role_of old.frames) (sym (shows.own private)) ∙ own_role old pid page shows.linked.fit here private

  pub shown_used : role_of old.frames m ≢ Free
  shown_used = elim (cases_Bool (is_private (entry old pid page))) [
    | inl private ↦ (λ free. let bad : Private ≡ Free = sym (own_kind private) ∙ free in (cc))
    | inr not_own ↦ behind_used old a.backing m shows.sound shows.linked.fit.places (shows.common not_own)
  ]

  pub shown_datum : role_of old.frames m ≢ Table
  shown_datum = elim (cases_Bool (is_private (entry old pid page))) [
    | inl private ↦ (λ table. let bad : Private ≡ Table = sym (own_kind private) ∙ table in (cc))
    | inr not_own ↦ behind_datum old a.backing m shows.sound shows.linked.fit.places (shows.common not_own)
  ]

  pub shown_inside : IsFrame old.frames m
  shown_inside = used_inside old.frames m shows.sound shown_used

  module _ {mid : Picture mode} {n r : ℕ} (copy : TakesCopy old mid n page m) (lives : old.root pid ≡ Some r) where
    pub copy_frame : HasFrame old copy.found mid (Some (record { 0 = m })) pid page r n a
    copy_frame =
        let stays = copy.frees.entries pid page here
        (shown_stays old (old.at pid page) a.backing (entry old pid page) m (shows.linked.fit.granting.entries pid page here) (λ b is. ap (λ x. x.backing) (same_Some b a (sym is ∙ shows.at)))
        shows.own (λ not_own not_away. shows.common not_own) shows.resident) in
        search rules

    apart : m ≢ n
    apart e = shown_used (sym (copy.frees.kept_role m refl) ∙ ap (role_of copy.found.frames) e ∙ copy.changes.was_free)

    module _ {set : Picture mode} (gives : GivesFrame old mid set page r n a) where
      pub copied_given : can_write a.prot ≡ true → IsCopied old set pid page m n a
      copied_given writable = record {
        aside = aside_given copy_frame gives;
        own = view_given copy_frame gives ∙ ap (λ w. Some (record { attr = a; own = Some w })) copy.copied;
        bytes = bytes_given copy_frame gives ∙ copy.copied;
        entered = full_own mid a n (entry set pid page) copy.count writable (entry_given copy_frame gives);
        sole = count_given copy_frame gives;
      }

      -- it had no frame of its own
      pub fit_first : is_private (entry old pid page) ≡ false → IsFit set
      fit_first not_own = fit_given copy_frame gives (seat_common (entry old pid page) not_own shows.resident)

      kept_bytes : bytes_of set.frames m ≡ bytes_of old.frames m
      kept_bytes =
          let not_table : role_of mid.frames m ≢ Table = λ t. shown_datum (sym (copy.frees.kept_role m refl) ∙ sym (copy.changes.frames.roles m apart) ∙ t) in
          gives.sets.2.kept.bytes m not_table ∙ copy.changes.frames.bytes m apart ∙ copy.frees.kept_bytes m refl shown_datum

      pub behind_first : is_private (entry old pid page) ≡ false → (x : ℕ) → IsBehind old a.backing x → IsBehind set a.backing x × (bytes_of set.frames x ≡ bytes_of old.frames x)
      behind_first not_own x behind =
          let is : x ≡ m = sym (behind_is old a.backing x behind) ∙ behind_is old a.backing m (shows.common not_own) in (
            behind_stays old set a.backing x m behind is (λ p there. gives.beside.place p ∙ copy.changes.place p ∙ copy.frees.kept_place p m refl there),
            (let P : ℕ → Type 0 = λ y. bytes_of set.frames y ≡ bytes_of old.frames y in subst P (sym is) kept_bytes),
          )

      -- it shared one, and gives its share back
      module _ (private : is_private (entry old pid page) ≡ true) where
        fit_set : IsFitBut set (InFrame m) 1 0
        fit_set = fit_seated copy_frame gives (InFrame m) (seat_own (entry old pid page) private ∙ ap (λ i. Some (InFrame i)) (shows.own private)) (λ e. apart (cc))

        pub role_shared : role_of set.frames m ≡ Private
        role_shared = ap (λ rs. get_or rs m Free) gives.sets.2.kept.roles ∙ copy.changes.frames.roles m apart ∙ copy.frees.kept_role m refl ∙ own_kind private

        module _ {new : Picture mode} (releases : Releases set.frames new.frames m) (beside : SameBeside set new) where
          pub fit_shared : IsFit new
          fit_shared = fit_released set new m 0 fit_set role_shared releases beside

          pub shared_others : (q p : ℕ) → IsPage (top_level mode) p → (q ≢ pid) ⊎ (p ≢ page) → entry new q p ≡ entry mid q p
          shared_others q p h other = same set new m 0 fit_set role_shared releases beside q p ∙ set_others copy_frame gives q p h other

          pub copied_shared : can_write a.prot ≡ true → IsCopied old new pid page m n a
          copied_shared writable =
              let first = copied_given writable in
              let other : n ≢ m = λ e. apart (sym e) in
              record {
                aside = aside_then first.aside (aside_released set new m fit_set role_shared releases beside);
                own = (release_spares set new m 0 fit_set role_shared releases beside).pages.views pid page ∙ first.own;
                bytes = releases.others.bytes n other ∙ first.bytes;
                entered = subst (λ (e : ℕ). IsEntryOver e a.prot n true true true) (sym (same set new m 0 fit_set role_shared releases beside pid page)) first.entered;
                sole = releases.others.counts n other ∙ first.sole;
              }

-- A frame asked for in vain, and a slot left.
use Rattle.residency.proofs.Names.{top_level, PageKey, FileInfo, ◌≡◌, ◌≢◌, ℕ, inl, inr, List, Option, None, sym, ap, ◌∙◌, subst, arith, rules, cases_eq, Free, Zero, Table, Cache, FrameTable, IsSound, role_of, Takes, Releases, with_bytes}
use Rattle.residency.proofs.Names.{SlotTable, same_last, Home, Slot}
use Rattle.residency.{specs.{Picture.{Picture}, Parts.{IsFit}, Calls.{Frees}, Steps.{LeavesSlot, ChangesFrame}}, proofs.{BroughtIn.{frames_written, others_then}, Taking.{trees_changed, entries_changed, views_changed, held_changed}, Places.{one_slot}}}
use Rattle.swap.specs.Slots as Slots

-- the slot of a file page lost its only share
pub leaves_slot : {mode : ℕ} (old new : Picture mode) (page : PageKey) (k : ℕ) (t : SlotTable) → old.place page ≡ Slot (record { 0 = k }) → t ≡ old.slots → Slots.ReleasesSlot t new.slots k → old.slots.count k ≡ 1
    → LeavesSlot old new page
leaves_slot old new page k t at same releases one =
    let other : (j : ℕ) → old.place page ≢ Slot (record { 0 = j }) → j ≢ k = λ j ne e. ne (at ∙ ap (λ i. Slot (record { 0 = i })) (sym e)) in
    record {
      total = releases.others.total ∙ ap (λ s. s.total) same;
      left = λ j here. (
          let is : j ≡ k = one_slot j k (sym here ∙ at) in
          let P : ℕ → Type 0 = λ i. new.slots.count i ≡ 0 in
          subst P (sym is) (omega (arith, releases.lowered, ap (λ s. s.count k) same, one)));
      counts = λ j ne. releases.others.counts j (other j ne) ∙ ap (λ s. s.count j) same;
      bytes = λ j ne used. releases.others.bytes j (other j ne) (let c = ap (λ s. s.count j) same in omega (arith, c, used)) ∙ ap (λ s. s.bytes j) same;
    }

-- a page that lies at home leaves no slot
pub leaves_none : {mode : ℕ} (old new : Picture mode) (page : PageKey) → old.place page ≡ Home → new.slots ≡ old.slots → LeavesSlot old new page
leaves_none old new page home same = record {
  total = ap (λ s. s.total) same;
  left = λ k here. (let bad : Home ≡ Slot (record { 0 = k }) = sym home ∙ here in (cc));
  counts = λ k ne. ap (λ s. s.count k) same;
  bytes = λ k ne used. ap (λ s. s.bytes k) same;
}

-- a frame was taken, written, and given back, and of memory nothing else is otherwise
pub all_spent : {mode : ℕ} (found : Picture mode) (mid new : FrameTable) (slots : SlotTable) (files : ℕ → Option FileInfo) (n : ℕ) (w : List ℕ) → Takes found.frames mid Cache n → Releases (with_bytes mid n w) new n
    → slots ≡ found.slots → ((f : ℕ) → files f ≡ found.files f) → ChangesFrame found (record found { slots = slots; frames = new; files = files }) n
all_spent found mid new slots files n w takes releases same kept =
    search (rules, takes.was_free, others_then n found.frames (with_bytes mid n w) new (frames_written found.frames mid n w takes) releases.others)

pub frees_spent : {mode : ℕ} (old new : Picture mode) (n : ℕ) → IsFit old → ChangesFrame old new n → role_of new.frames n ≡ Free → Frees old new None
frees_spent {mode} old new n fit changes free =
    let datum : role_of new.frames n ≢ Table = λ t. (let bad : Free ≡ Table = sym free ∙ t in (cc)) in
    let trees = trees_changed old new n fit changes datum in
    record {
      pages = record {
        root = changes.root;
        at = changes.at;
        views = views_changed old new n fit changes datum;
        files = record { held = λ p. inl (held_changed old new n fit changes datum p); touched = changes.touched; files = changes.files };
      };
      count = changes.frames.frames;
      roles = λ m. elim (cases_eq m n) [
        | inl e ↦ inl (ap (role_of new.frames) e ∙ free ∙ sym (ap (role_of old.frames) e ∙ changes.was_free))
        | inr ne ↦ inl (changes.frames.roles m ne)
      ];
      missing = λ pid r page e. trees.missing r page (fit.rooted.roots pid r e);
      ends = λ pid r p e. (let table = (fit.rooted.roots pid r e).table in (same_last old.frames new.frames fit.rooted.forest trees.forest trees.same (top_level mode) r p table ((trees.tables r).0 table)).0);
      pointers = trees.same.forth;
      entries = λ pid page h stays. entries_changed old new n fit changes datum pid page;
      slots = λ k used. (ap (λ t. t.bytes k) changes.slots, ap (λ t. t.count k) changes.slots);
      total = ap (λ t. t.total) changes.slots;
      home = λ p e. changes.place p ∙ e;
      slotted = λ p k e. changes.place p ∙ e;
      kept_place = λ p n kept e. absurd kept;
      kept_role = λ n kept. absurd kept;
      kept_count = λ n kept. absurd kept;
      kept_bytes = λ n kept other. absurd kept;
    }

-- frame 0, the zero page, is no table where a frame was asked for
pub zero_no_table : {mode : ℕ} (old new : Picture mode) → IsSound old.frames → Frees old new None → role_of new.frames 0 ≢ Table
zero_no_table old new sound frees e = elim (frees.roles 0) [
  | inl same ↦ (let bad : Zero ≡ Table = sym sound.zero_role ∙ sym same ∙ e in (cc))
  | inr gone ↦ (let bad : Free ≡ Table = sym gone.0 ∙ e in (cc))
]

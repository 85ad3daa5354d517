-- Rows of pages that get another permission: one page after the other.
use Rattle.vm_types.specs.declared.mode.Levels as Levels
use Rattle.ranges.proofs.Names.{top_level, Prot, Attr, File, Object, Backing, ◌≡◌, ◌≢◌, ℕ, inl, inr, ◌⊎◌, ◌+◌, ◌<◌, ◌≤◌, ◌↔◌, Bool, true, false, Option, get_or, refl, sym, ap, ◌∙◌, subst, arith, rules, cases_eq, cases_lt, cases_Bool}
use Rattle.ranges.proofs.Names.{false≢true, Free, Private, FrameTable, role_of, IsFrame, IsSound, frame_of, KeepsFrames, SetsEntry, IsPage, IsTableOf, row_stays, InFrame, IsBehind, IsEntryFor, HasPlaces, IsFit, Picture, entry}
use Rattle.ranges.proofs.Names.{◌/◌, ◌%◌, picture_of, page_entry, entry-of, is_private, is_swapped, Core, SameBeside, SetsPage, KeepsAround, sets_page, rooted_set, seat_own, used_inside}
use Rattle.ranges.{specs.Leaves.{TakesStores, IsPermittedEntry, Permits, Empty, Away, Kept, NamesFrames, PermitsRow}, proofs.{Sharing.{private_used, cache_used}, ClearedPages.{out_front, out_back, other_page}}}
use Rattle.ranges.specs.{RowsCleared.{StandsIn}, RowsPermitted.{IsPermissible, PermitsPage, PermitsPages}, declared.rows.TableRow.{TableRow}}
use Rattle.residency.specs.Parts as Parts

pub beside-refl : {mode : ℕ} (c : Picture mode) → SameBeside c c
beside-refl c = record { slots = refl; root = λ q. refl; at = λ q page. refl; page_of = λ n. refl; place = λ p. refl; touched = λ p. refl; files = λ f. refl }

pub beside_then : {mode : ℕ} (a b c : Picture mode) → SameBeside a b → SameBeside b c → SameBeside a c
beside_then a b c one two = search rules

pub around-refl : {M : Type 0} {m : Levels.Ghosts M} → {D E : Type 0} (c : Core D E M m) → KeepsAround c c
around-refl c = record { store = refl; swap = refl; cache = refl; roots = refl; regions = refl; page_of = refl }

pub around_then : {M : Type 0} {m : Levels.Ghosts M} → {D E : Type 0} (a b c : Core D E M m) → KeepsAround a b → KeepsAround b c → KeepsAround a c
around_then a b c one two = search rules

frames-refl : (t : FrameTable) → KeepsFrames t t
frames-refl t = record { frames = refl; roles = refl; counts = refl; bytes = λ n other. refl }

frames_then : (a b c : FrameTable) → KeepsFrames a b → KeepsFrames b c → KeepsFrames a c
frames_then a b c one two = record {
  frames = two.frames ∙ one.frames;
  roles = two.roles ∙ one.roles;
  counts = two.counts ∙ one.counts;
  bytes = λ n other. two.bytes n (λ e. other (ap (λ rs. get_or rs n Free) (sym one.roles) ∙ e)) ∙ one.bytes n other;
}

-- nothing changed: the pages have no entries, or lie in slots
pub permits_same : {mode : ℕ} (c : Picture mode) (pid low high : ℕ) (prot : Prot)
    → ((page : ℕ) → IsPage (top_level mode) page → low ≤ page → page < high → (entry c pid page ≡ 0) ⊎ (is_swapped (entry c pid page) ≡ true)) → PermitsRow c c pid low high prot
permits_same c pid low high prot each = record {
  beside = beside-refl c;
  memory = frames-refl c.frames;
  kept = λ q page h out. refl;
  changed = λ page h least below. elim (each page h least below) [ inl none ↦ Empty none none | inr away ↦ Away away refl ];
}

stores_moved : (t t' : FrameTable) (o : Option Attr) (prot : Prot) (e : ℕ) → t'.counts ≡ t.counts → TakesStores t' o prot e → TakesStores t o prot e
stores_moved t t' o prot e counts s = record { permitted = s.permitted; sole = λ own. ap (λ cs. get_or cs (frame_of e) 0) (sym counts) ∙ s.sole own; common = s.common }

counts_moved : (t t' : FrameTable) (o : Option Attr) (prot : Prot) (e x : ℕ) → t'.counts ≡ t.counts → Permits t' o prot e x → Permits t o prot e x
counts_moved t t' o prot e x counts (Empty z z') = Empty z z'
counts_moved t t' o prot e x counts (Away away is) = Away away is
counts_moved t t' o prot e x counts (Kept some here writable stores is) =
    Kept some here writable (λ w. stores_moved t t' o prot e counts (stores.0 w), λ s. stores.1 (stores_moved t' t o prot e (sym counts) s)) is

-- one row after the other
pub permits_then : {mode : ℕ} (a b c : Picture mode) (pid low mid high : ℕ) (prot : Prot) → low ≤ mid → mid ≤ high → PermitsRow a b pid low mid prot → PermitsRow b c pid mid high prot
    → PermitsRow a c pid low high prot
permits_then a b c pid low mid high prot le le' one two = record {
  beside = beside_then a b c one.beside two.beside;
  memory = frames_then a.frames b.frames c.frames one.memory two.memory;
  kept = λ q page h out. two.kept q page h (out_back pid low mid high q page le out) ∙ one.kept q page h (out_front pid low mid high q page le' out);
  changed = λ page h least below. elim (cases_lt page mid) [
    | inl front ↦ subst (λ (x : ℕ). Permits a.frames (a.at pid page) prot (entry a pid page) x) (sym (two.kept pid page h (inr (inl front)))) (one.changed page h least front)
    | inr back ↦ (
        let Q : ℕ → Type 0 = λ e. Permits b.frames (a.at pid page) prot e (entry c pid page) in
        counts_moved a.frames b.frames (a.at pid page) prot (entry a pid page) (entry c pid page) one.memory.counts
        (subst Q (one.kept pid page h (inr (inr back))) (subst (λ (o : Option Attr). Permits b.frames o prot (entry b pid page) (entry c pid page)) (one.beside.at pid page) (two.changed page h back below))))
  ];
}

-- what a row's pages that are left as they are come to, and one row after the other
module _ {M : Type 0} {m : Levels.Ghosts M} {D E : Type 0} where
  pub left_row : (c : Core D E M m) (pid low high : ℕ) (prot : Prot) → IsPermissible (picture_of c) pid prot
      → ((page : ℕ) → IsPage (top_level m.mode) page → low ≤ page → page < high → (entry (picture_of c) pid page ≡ 0) ⊎ (is_swapped (entry (picture_of c) pid page) ≡ true))
      → PermitsPages c c pid low high prot
  left_row c pid low high prot may each = record { permits = permits_same (picture_of c) pid low high prot each; rooted = may.rooted; named = may.named; rest = around-refl c; refused = refl }

  pub pages_then : (a b c : Core D E M m) (pid low mid high : ℕ) (prot : Prot) → low ≤ mid → mid ≤ high → PermitsPages a b pid low mid prot → PermitsPages b c pid mid high prot → PermitsPages a c pid low high prot
  pages_then a b c pid low mid high prot le le' one two = record {
    permits = permits_then (picture_of a) (picture_of b) (picture_of c) pid low mid high prot le le' one.permits two.permits;
    rooted = two.rooted;
    named = two.named;
    rest = around_then a b c one.rest two.rest;
    refused = two.refused ∙ one.refused;
  }

-- A page whose entry stands in a table row.
module _ {M : Type 0} {m : Levels.Ghosts M} {D E : Type 0} (was : Core D E M m) (row : TableRow) (page : ℕ) (prot : Prot) (may : IsPermissible (picture_of was) row.pid prot)
    (stands : StandsIn (picture_of was) row page) (h : IsPage (top_level m.mode) page) where
  abbrev old : Picture m.mode
  old = picture_of was

  -- the number at its place is its entry
  pub read_at : (at e : ℕ) → at ≡ page → ((root p : ℕ) → IsTableOf was.frames (top_level m.mode) root (p / 512) row.table.0 → p % 512 ≡ at % 512 → e ≡ page_entry was.frames (top_level m.mode) root p)
      → e ≡ entry old row.pid page
  read_at at e same reads = reads row.root.0 page stands.place (ap (λ x. x % 512) (sym same)) ∙ sym (entry-of old row.pid row.root.0 page stands.root)

  -- it is left as it is
  pub left_page : (entry old row.pid page ≡ 0) ⊎ (is_swapped (entry old row.pid page) ≡ true) → PermitsPage was was row page prot
  left_page each = record {
    leaf = left_row was row.pid page (page + 1) prot may (λ k hk low high. (
        let at : page ≡ k = omega arith in subst (λ (x : ℕ). (entry old row.pid x ≡ 0) ⊎ (is_swapped (entry old row.pid x) ≡ true)) at each));
    places = λ q n is. is;
  }

  -- it names a frame
  module _ (e : ℕ) (reads : e ≡ entry old row.pid page) (some : e ≢ 0) (here : is_swapped e ≡ false) where
    pub frame_read : IsFrame was.frames (frame_of e)
    frame_read = subst (λ (x : ℕ). IsFrame was.frames (frame_of x)) (sym reads) (may.named page h (λ z. some (reads ∙ z)) (ap is_swapped (sym reads) ∙ here))

    -- and was set to one of that permission
    module _ (now : Core D E M m) (number : ℕ) (writable : Bool) (stores : (writable ≡ true) ↔ TakesStores was.frames (old.at row.pid page) prot e) (is : IsPermittedEntry prot writable e number)
        (sets : SetsEntry was.frames now.frames (top_level m.mode) row.root.0 page number) (beside : SameBeside old (picture_of now)) where
      abbrev new : Picture m.mode
      new = picture_of now

      page_set : SetsPage old new row.pid page number
      page_set = sets_page old new 0 row.pid row.root.0 page number may.rooted stands.root h sets beside

      names_still : NamesFrames new row.pid
      names_still p h' used framed = elim (cases_eq p page) [
        | inl same ↦ (
            let frame : frame_of (entry new row.pid p) ≡ frame_of e = ap (λ x. frame_of (entry new row.pid x)) same ∙ ap frame_of page_set.changed ∙ is.over.names in
            rw (frame, sets.kept.frames) frame_read)
        | inr ne ↦ (
            let same : entry new row.pid p ≡ entry old row.pid p = page_set.others row.pid p h' (inr ne) in
            let there : IsFrame was.frames (frame_of (entry old row.pid p)) = may.named p h' (λ z. used (same ∙ z)) (sym (ap is_swapped same) ∙ framed) in
            rw (same, sets.kept.frames) there)
      ]

      pub permits_set : KeepsAround was now → now.refused ≡ was.refused → PermitsPage was now row page prot
      permits_set rest refused = record {
        leaf = record {
          permits = record {
            beside = beside;
            memory = sets.kept;
            kept = λ q k hk out. page_set.others q k hk (other_page row.pid page q k out);
            changed = λ k hk low high. (
                let at : page ≡ k = omega arith in
                let P : ℕ → Type 0 = λ x. Permits was.frames (old.at row.pid page) prot x (entry new row.pid page) in
                let Q : ℕ → Type 0 = λ x. Permits was.frames (old.at row.pid page) prot e x in
                subst (λ (x : ℕ). Permits was.frames (old.at row.pid x) prot (entry old row.pid x) (entry new row.pid x)) at (subst P reads (subst Q (sym page_set.changed) (Kept some here writable stores is))));
          };
          rooted = rooted_set old new 0 row.root.0 page number may.rooted sets beside;
          named = names_still;
          rest = rest;
          refused = refused;
        };
        places = λ q n. row_stays was.frames now.frames (top_level m.mode) row.root.0 page number sets row.root.0 q n (may.rooted.roots row.pid row.root.0 stands.root);
      }

behind_inside : {mode : ℕ} (c : Picture mode) (b : Backing) (n : ℕ) → IsSound c.frames → HasPlaces c → IsBehind c b n → IsFrame c.frames n
behind_inside c Backing.Anon n sound places behind = let least = sound.least in omega (arith, least, behind)
behind_inside c (Backing.Private p) n sound places behind = used_inside c.frames n sound (cache_used (role_of c.frames n) (places.cached (File p) n behind))
behind_inside c (Backing.Shared p) n sound places behind = used_inside c.frames n sound (cache_used (role_of c.frames n) (places.cached (File p) n behind))
behind_inside c (Backing.Common p) n sound places behind = used_inside c.frames n sound (cache_used (role_of c.frames n) (places.cached (Object p) n behind))

named_for : {mode : ℕ} (c : Picture mode) (o : Option Attr) (e : ℕ) → IsSound c.frames → HasPlaces c → IsEntryFor c o e → (is_private e ≡ true → role_of c.frames (frame_of e) ≡ Private)
    → e ≢ 0 → is_swapped e ≡ false → IsFrame c.frames (frame_of e)
named_for c o e sound places (Parts.Nothing none) private some here = absurd (some none)
named_for c o e sound places (Parts.Away a at away) private some here = absurd (false≢true (sym here ∙ away.swapped))
named_for c o e sound places (Parts.Resident a at resident) private some here = elim (cases_Bool (is_private e)) [
  | inl own ↦ used_inside c.frames (frame_of e) sound (private_used (role_of c.frames (frame_of e)) (private own))
  | inr common ↦ behind_inside c a.backing (frame_of e) sound places (resident.behind common)
]

-- each entry names a frame of memory, or its page lies in a slot
pub named_entries : {mode : ℕ} (c : Picture mode) (pid : ℕ) → IsSound c.frames → IsFit c → NamesFrames c pid
named_entries c pid sound fit page h some here =
    named_for c (c.at pid page) (entry c pid page) sound fit.places (fit.granting.entries pid page h)
    (λ own. fit.counted.1.named pid page (InFrame (frame_of (entry c pid page))) h (seat_own (entry c pid page) own)) some here

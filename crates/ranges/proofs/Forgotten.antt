-- A row was cleared, and then the pages of objects that it alone named were forgotten.
use Rattle.vm_types.specs.declared.mode.Levels as Levels
use Rattle.ranges.proofs.{Emptied.{pages_inside}, LastName.{without_same}, Names.{user_end, Attr, is_named, ObjectPage, PageKey, Object, ◌≡◌, ℕ, inl, inr, ◌+◌, ◌≤◌, Option, sym, ap, ◌∙◌, subst, arith, cases_eq, IsSome, Free, Table}}
use Rattle.ranges.{proofs.Names.{Private, Cache, frame_count, cache_frames, place_of, IsTable, Core, IsFit, Picture, picture_of, used_kept}, specs.{Rows.{RemapsRow, ForgetsRow, KeepsNamed, IsLasting, without_maps}, RowsCleared.{ClearsRow}}}
use Rattle.ranges.specs.{RowsForgotten.{ForgetsNames}, Steps.{KeepsEntriesOfOthers, ReturnsRowTables, LosesSlots, IsMappedBeside, IsWithoutTables}}
use Rattle.vm_types.specs.declared.object.PageKey.TheVariants as Objects

-- what other pages in the place of a row's come to, which are those of a map
module _ {mode : ℕ} where
  pub record IsRowRemapped (old new : Picture mode) (pid first pages : ℕ) (map : ℕ → Option Attr) : Type 0 where
    pub row : RemapsRow old new pid first pages map
    pub others : KeepsEntriesOfOthers old new pid
    pub returned : ReturnsRowTables old new pid first (first + pages)
    pub slots : LosesSlots old new pid first (first + pages)
    pub files : KeepsNamed (without_maps old.at pid first pages) old new
    pub fit : IsFit new

module _ {M : Type 0} {m : Levels.Ghosts M} {D E : Type 0} (before between after : Core D E M m) (pid first pages : ℕ) (clears : ClearsRow before between pid first pages)
    (forgot : ForgetsNames between after pid first pages) where
  abbrev old : Picture m.mode
  old = picture_of before

  abbrev mid : Picture m.mode
  mid = picture_of between

  abbrev new : Picture m.mode
  new = picture_of after

  abbrev row : RemapsRow old mid pid first pages (old.at pid)
  row = clears.row

  abbrev forgets : ForgetsRow mid new pid first pages
  forgets = forgot.forgets

  place : (p : PageKey) → mid.place p ≡ old.place p
  place p = ap (λ t. place_of t p) clears.rest.cache

  -- there is a node for each frame
  pub frames_forgot : frame_count after.frames ≡ frame_count before.frames
  frames_forgot = forgets.frames ∙ sym between.node_count ∙ ap cache_frames clears.rest.cache ∙ before.node_count

  table_on : (n : ℕ) → IsTable mid.frames n → IsTable new.frames n
  table_on n table = elim (forgets.roles n) [
    | inl e ↦ record { inside = (let c = forgets.frames in let i = table.inside in omega (arith, c, i)); role = e ∙ table.role }
    | inr gone ↦ absurd (let bad : Cache ≡ Table = sym gone.1 ∙ table.role in (cc))
  ]

  table_was : (n : ℕ) → IsTable new.frames n → IsTable mid.frames n
  table_was n table = elim (forgets.roles n) [
    | inl e ↦ record { inside = (let c = forgets.frames in let i = table.inside in omega (arith, c, i)); role = sym e ∙ table.role }
    | inr gone ↦ absurd (let bad : Free ≡ Table = sym gone.0 ∙ table.role in (cc))
  ]

  pub none_left_forgot : IsWithoutTables new pid first (first + pages)
  none_left_forgot n table =
      used_kept mid new (IsMappedBeside mid pid first (first + pages)) (IsMappedBeside new pid first (first + pages)) n
      (λ a i b p. (forgets.pointers a i b).0 p) forgets.root
      (λ q page is. (subst (λ (o : _). IsSome o) (sym (forgets.at q page)) is.0, is.1)) (clears.none_left n (table_was n table))

  same_names : (p : ObjectPage) → is_named (without_maps mid.at pid first pages) p.object p.page ≡ is_named (without_maps old.at pid first pages) p.object p.page
  same_names p = without_same old.at mid.at pid first pages p (λ q k. elim (cases_eq q pid) [ inl is ↦ rw is (row.at k) | inr ne ↦ row.others_at q k ne ])

  lasting_then : (p : PageKey) → IsLasting (without_maps old.at pid first pages) p → IsLasting (without_maps mid.at pid first pages) p
  lasting_then (Objects.File f) is = is
  lasting_then (Objects.Object p) is = same_names p ∙ is

  pub row_forgot : first + pages ≤ user_end m.mode → IsRowRemapped old new pid first pages (old.at pid)
  row_forgot within = record {
    row = record {
      root = λ q. forgets.root q ∙ row.root q;
      at = λ page. forgets.at pid page ∙ row.at page;
      others_at = λ q page ne. forgets.at q page ∙ row.others_at q page ne;
      entries = λ page e. forgets.entries pid page (pages_inside m.mode first pages page within e) ∙ row.entries page e;
      kept = λ page h e. forgets.entries pid page h ∙ row.kept page h e;
      views = λ page. forgets.views pid page ∙ row.views page;
      others = λ q page ne. forgets.views q page ∙ row.others q page ne;
    };
    others = λ q page h ne. forgets.entries q page h ∙ clears.others q page h ne;
    returned = record {
      tables = λ n table. elim (clears.row_tables.tables n table) [
        | inl still ↦ inl (table_on n still)
        | inr gone ↦ inr (
          elim (forgets.roles n) [ inl e ↦ e ∙ gone.0 | inr now ↦ now.0 ],
          gone.1,
        )
      ];
      free = λ n e. (let was = clears.row_tables.free n e in elim (forgets.roles n) [ inl same ↦ same ∙ was | inr gone ↦ gone.0 ]);
      copies = λ n e. elim (forgets.roles n) [
        | inl same ↦ clears.row_tables.copies n (sym same ∙ e)
        | inr gone ↦ absurd (let bad : Free ≡ Private = sym gone.0 ∙ e in (cc))
      ];
      pointers = λ n i m p. clears.row_tables.pointers n i m ((forgets.pointers n i m).1 p);
    };
    slots = record {
      total = forgets.total ∙ clears.slots.total;
      fewer = λ k. (let a = forgets.fewer k in let b = clears.slots.fewer k in omega (arith, a, b));
      kept = λ k other none. forgets.counts k (λ p at. none p (sym (place (Object p)) ∙ at)) ∙ clears.slots.kept k other;
      bytes = λ k used. (let a = forgets.fewer k in forgets.bytes k used ∙ clears.slots.bytes k (omega (arith, a, used)));
    };
    files = record {
      touched = λ p lasting. forgets.keeps.touched p (lasting_then p lasting) ∙ clears.files.touched p;
      place = λ p lasting. forgets.keeps.place p (lasting_then p lasting) ∙ place p;
      gone = λ p is. forgets.keeps.gone p (same_names p ∙ is);
      files = λ f. forgets.keeps.files f ∙ clears.files.files f;
      held = λ p lasting. elim (forgets.keeps.held p (lasting_then p lasting)) [
        | inl same ↦ elim (clears.files.held p) [ inl before ↦ inl (same ∙ before) | inr home ↦ inr (same ∙ home.0, home.1) ]
        | inr home ↦ inr (home.0, sym (clears.files.touched p) ∙ home.1)
      ];
    };
    fit = forgot.fit;
  }

-- Steps that take no memory, one after the other, and a row that was cleared.
use Rattle.vm_types.specs.declared.mode.Levels as Levels
use Rattle.std.proofs.Common.{◌≡◌, ℕ, inl, inr, ◌⊎◌, None, refl, sym, ap, ◌∙◌, arith}
use Rattle.vm_types.specs.declared.object.PageKey.{PageKey}
use Rattle.frames.specs.{FrameTable.{role_of, IsSound}, declared.role.Role.{Role, TheVariants.{Free, Zero, Table, Private, Cache}}}
use Rattle.page_tables.specs.Tree.{IsTable}
use Rattle.page_cache.specs.{CacheTable.{cache_frames, place_of}, declared.place.Place.{Place, TheVariants.{Home, Frame, Slot}}}
use Rattle.residency.proofs.Refusing.{used_inside}
use Rattle.residency.specs.{declared.kernel.Core.{Core}, Picture.{Picture, picture_of, bytes_at, held}, Parts.{IsFit, IsUsed, IsMapped, AsRoot, OnWay}}
use Rattle.ranges.specs.{RowsCleared.{ClearsRow}, Steps.{ReturnsTables}}
use Rattle.truncation.specs.Steps.{KeepsMaps, KeepsKey, TakesNone}

module _ {mode : ℕ} where
  pub maps-refl : (c : Picture mode) → KeepsMaps c c
  maps-refl c = record { root = λ q. refl; at = λ q k. refl; files = λ f. refl }

  pub maps_then : (a b c : Picture mode) → KeepsMaps a b → KeepsMaps b c → KeepsMaps a c
  maps_then a b c one two = record { root = λ q. two.root q ∙ one.root q; at = λ q k. two.at q k ∙ one.at q k; files = λ f. two.files f ∙ one.files f }

  pub key-refl : (c : Picture mode) (p : PageKey) → KeepsKey c c p
  key-refl c p = record { place = refl; touched = refl; held = refl }

  pub key_then : (a b c : Picture mode) (p : PageKey) → KeepsKey a b p → KeepsKey b c p → KeepsKey a c p
  key_then a b c p one two = record { place = two.place ∙ one.place; touched = two.touched ∙ one.touched; held = two.held ∙ one.held }

  pub takes-refl : (c : Picture mode) → TakesNone c c
  takes-refl c = record { frames = refl; roles = λ n. inl refl; total = refl; fewer = λ k. omega arith; bytes = λ k used. refl }

  pub takes_then : (a b c : Picture mode) → TakesNone a b → TakesNone b c → TakesNone a c
  takes_then a b c one two = record {
    frames = two.frames ∙ one.frames;
    roles = λ n. elim (two.roles n) [
      | inr free ↦ inr free
      | inl same ↦ elim (one.roles n) [ inl e ↦ inl (same ∙ e) | inr free ↦ inr (same ∙ free) ]
    ];
    total = two.total ∙ one.total;
    fewer = λ k. (let x = one.fewer k in let y = two.fewer k in omega (arith, x, y));
    bytes = λ k used. two.bytes k used ∙ one.bytes k (let y = two.fewer k in omega (arith, y, used));
  }

-- tables and own copies were given back, and nothing else
module _ {mode : ℕ} (old new : Picture mode) (pid : ℕ) (fit : IsFit old) (fit' : IsFit new) (sound : IsSound old.frames) (sound' : IsSound new.frames)
    (root : (q : ℕ) → new.root q ≡ old.root q) (returned : ReturnsTables old new pid) (place : (p : PageKey) → new.place p ≡ old.place p) where
  by_use : (n : ℕ) → IsUsed new (IsMapped new) n → IsTable old.frames n
  by_use n (AsRoot q is) = (fit.rooted.roots q n (sym (root q) ∙ is)).table
  by_use n (OnWay q r page is mapped below) = let way = below.2 in fit.rooted.forest.onto_tables way.0 _ n (returned.pointers way.0 _ n way.2)

  was_table : (n : ℕ) → IsTable new.frames n → IsTable old.frames n
  was_table n table = elim (fit'.rooted.used n table) [
    | inl zero ↦ absurd (let bad : Zero ≡ Table = sym (ap (role_of new.frames) zero ∙ sound'.zero_role) ∙ table.role in (cc))
    | inr used ↦ by_use n used
  ]

  by_role : (n : ℕ) (kind : Role) → role_of new.frames n ≡ kind → (role_of new.frames n ≡ role_of old.frames n) ⊎ (role_of new.frames n ≡ Free)
  by_role n Free is = inr is
  by_role n Zero is = inl (is ∙ sym (ap (role_of old.frames) (sound'.zero_alone n is) ∙ sound.zero_role))
  by_role n Table is =
      let table : IsTable new.frames n = record { inside = used_inside new.frames n sound' (λ free. (let bad : Table ≡ Free = sym is ∙ free in (cc))); role = is } in
      inl (is ∙ sym (was_table n table).role)
  by_role n Private is = inl (is ∙ sym (returned.copies n is))
  by_role n Cache is = let p = fit'.places.held n is in inl (is ∙ sym (fit.places.cached p.0 n (sym (place p.0) ∙ p.1)))

  pub same_or_free : (n : ℕ) → (role_of new.frames n ≡ role_of old.frames n) ⊎ (role_of new.frames n ≡ Free)
  same_or_free n = by_role n (role_of new.frames n) refl

-- a page of a file or an object that lies where it lay has the bytes that it had, if it hasn't none
module _ {mode : ℕ} (old new : Picture mode) (p : PageKey) (same : new.place p ≡ old.place p) (none : held new p ≡ None) where
  held_none : (x : Place) → new.place p ≡ x → held new p ≡ held old p
  unfolding held
  held_none Home is = none ∙ sym (ap (λ y. bytes_at old.frames old.slots y) (sym same ∙ is))
  held_none (Frame n) is = (let bad = sym (ap (λ y. bytes_at new.frames new.slots y) is) ∙ none in (cc))
  held_none (Slot k) is = (let bad = sym (ap (λ y. bytes_at new.frames new.slots y) is) ∙ none in (cc))

  pub held_there : held new p ≡ held old p
  held_there = held_none (new.place p) refl

-- a row of pages was cleared
module _ {M : Type 0} {m : Levels.Ghosts M} {D E : Type 0} (was now : Core D E M m) (pid first pages : ℕ) (fit : IsFit (picture_of was)) (clears : ClearsRow was now pid first pages) where
  abbrev old : Picture m.mode
  old = picture_of was

  abbrev new : Picture m.mode
  new = picture_of now

  place : (p : PageKey) → new.place p ≡ old.place p
  place p = ap (λ t. place_of t p) clears.rest.cache

  pub row_keys : (p : PageKey) → KeepsKey old new p
  row_keys p = record {
    place = place p;
    touched = clears.files.touched p;
    held = elim (clears.files.held p) [ inl same ↦ same | inr gone ↦ held_there old new p (place p) gone.0 ];
  }

  pub row_takes : TakesNone old new
  row_takes = record {
    frames = sym now.node_count ∙ ap cache_frames clears.rest.cache ∙ was.node_count;
    roles = same_or_free old new pid fit clears.fit was.sound now.sound clears.row.root clears.tables place;
    total = clears.slots.total;
    fewer = clears.slots.fewer;
    bytes = clears.slots.bytes;
  }

-- Where tables, own copies and pages of objects were given back and nothing else, no frame is taken.
use Rattle.lifecycle.proofs.Names.{◌≡◌, ℕ, inl, inr, ◌⊎◌, refl, sym, ap, ◌∙◌, cases_Bool, PageKey, File, Object, Maps, is_named, Role, Free, Zero, Table, Private, Cache, FrameTable, role_of, IsSound, IsTable, Home, Frame, Picture, IsFit}
use Rattle.lifecycle.{proofs.Names.{IsMapped, IsUsed, AsRoot, OnWay, used_inside, KeepsNamed, ReturnsTables}, specs.Changes.{TakesNoCopy, TakesNoFrame}}

module _ {mode : ℕ} (old new : Picture mode) (pid : ℕ) (fit : IsFit old) (fit' : IsFit new) (sound : IsSound old.frames) (sound' : IsSound new.frames)
    (root : (q : ℕ) → new.root q ≡ old.root q) (returned : ReturnsTables old new pid)
    (place : (p : PageKey) (n : ℕ) → new.place p ≡ Frame (record { 0 = n }) → old.place p ≡ Frame (record { 0 = n })) where
  -- each table is in a tree, and no pointer is new
  by_use : (n : ℕ) → IsUsed new (IsMapped new) n → IsTable old.frames n
  by_use n (AsRoot q is) = (fit.rooted.roots q n (sym (root q) ∙ is)).table
  by_use n (OnWay q r page is mapped below) = let way = below.2 in fit.rooted.forest.onto_tables way.0 _ n (returned.pointers way.0 _ n way.2)

  was_table : (n : ℕ) → IsTable new.frames n → IsTable old.frames n
  was_table n table = elim (fit'.rooted.used n table) [
    | inl zero ↦ absurd (let bad : Zero ≡ Table = sym (ap (role_of new.frames) zero ∙ sound'.zero_role) ∙ table.role in (cc))
    | inr used ↦ by_use n used
  ]

  by_role : (n : ℕ) (kind : Role) → role_of new.frames n ≡ kind → (role_of new.frames n ≡ role_of old.frames n) ⊎ (role_of new.frames n ≡ Free)
  by_role n Free is = inr is
  by_role n Zero is = inl (is ∙ sym (ap (role_of old.frames) (sound'.zero_alone n is) ∙ sound.zero_role))
  by_role n Table is =
      let table : IsTable new.frames n = record { inside = used_inside new.frames n sound' (λ free. (let bad : Table ≡ Free = sym is ∙ free in (cc))); role = is } in
      inl (is ∙ sym (was_table n table).role)
  by_role n Private is = inl (is ∙ sym (returned.copies n is))
  by_role n Cache is = let p = fit'.places.held n is in inl (is ∙ sym (fit.places.cached p.0 n (place p.0 n p.1)))

  pub none_taken : TakesNoFrame old.frames new.frames
  none_taken n = by_role n (role_of new.frames n) refl

-- what lies in a frame lay there, if what is named no more came home
pub still_framed : {mode : ℕ} (old new : Picture mode) (maps : Maps) → KeepsNamed maps old new
    → (p : PageKey) (n : ℕ) → new.place p ≡ Frame (record { 0 = n }) → old.place p ≡ Frame (record { 0 = n })
still_framed old new maps keeps (File p) n at = sym (keeps.place (File p) tt) ∙ at
still_framed old new maps keeps (Object p) n at = elim (cases_Bool (is_named maps p.object p.page)) [
  | inl named ↦ sym (keeps.place (Object p) named) ∙ at
  | inr none ↦ absurd (let bad : Home ≡ Frame (record { 0 = n }) = sym (keeps.gone p none) ∙ at in (cc))
]

-- so no frame came to hold an own copy
pub no_copy_taken : (old new : FrameTable) → TakesNoFrame old new → TakesNoCopy old new
no_copy_taken old new frames n is = elim (frames n) [ inl same ↦ sym same ∙ is | inr free ↦ absurd (let bad : Free ≡ Private = sym free ∙ is in (cc)) ]

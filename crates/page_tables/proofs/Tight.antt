-- What stays of the trees where tables without entries were given back.
use Rattle.page_tables.proofs.Names.{◌≡◌, ℕ, zero, suc, ◌-◌, inl, inr, refl, sym, ap, ◌∙◌, subst, false≢true, Free, Table, FrameTable, role_of, entry_at, frame_of, is_pointer, index_of}
use Rattle.page_tables.{specs.{Tree.{IsTable, Points, IsUnlinked, IsForest, Way}, Change.{Prunes}}, proofs.{Ways.{cases_bool}, Linking.{pair}}}
pub use Rattle.page_tables.proofs.Keeping.{same_taken}

module _ (old new : FrameTable) (top root page : ℕ) (forest : IsForest old) (prunes : Prunes old new top root page) where
  -- a table that stays is pointed to as it was
  pub still_linked : (b j a : ℕ) → Points old b j a → IsTable new a → Points new b j a
  still_linked b j a q table = elim (prunes.gone b q.table) [
    | inl stays ↦ elim (cases_bool (is_pointer (entry_at new b j))) [
      | inl pointer ↦ (
          let there : Points new b j (frame_of (entry_at new b j)) = record { table = stays; index = q.index; pointer = pointer; target = refl } in
          let P : ℕ → Type 0 = λ x. Points new b j x in
          subst P (sym (prunes.pointers b j (frame_of (entry_at new b j)) there).target ∙ q.target) there)
      | inr stop ↦ absurd (unlinked (λ x y p. (
          let one = forest.one_way x y b j a (prunes.pointers x y a p) q in
          let P : ℕ × ℕ → Type 0 = λ z. Points new z.0 z.1 a in
          let here : Points new b j a = subst P (pair x y b j one.0 one.1) p in
          false≢true (sym stop ∙ here.pointer))))
    ]
    | inr lost ↦ absurd (unlinked (λ x y p. (
        let one = forest.one_way x y b j a (prunes.pointers x y a p) q in
        let bad : Free ≡ Table = sym lost.0 ∙ ap (role_of new) (sym one.0) ∙ p.table.role in (cc))))
  ]
    where
      unlinked : IsUnlinked new a → ⊥
      unlinked free = (prunes.unlinked a table).1 free b j q

  -- the way to a table that stays
  pub stay_way : (x p d m : ℕ) → IsTable new m → Way old top x p d m → Way new top x p d m
  stay_way x p zero m table w = w
  stay_way x p (suc d) m table w =
      let q = still_linked w.0 (index_of p (top - d)) m w.2 table in
      (w.0, stay_way x p d w.0 q.table w.1, q)

-- What a device holds where pages were written.
use Rattle.{std.proofs.{Common.{◌≡◌, ◌≢◌, ℕ, inl, inr, ◌+◌, ◌*◌, ◌<◌, List, [], ◌∷◌, Some, None, length, get_or, refl, sym, ap, subst, ◌∙◌, arith, eq-eqb, ne_eqb}, lemmas.Bool.{cases_eq}}, disk_model.proofs.Pieces.{joined-same}}
use Rattle.{disk_model.{proofs.Pieces.{joined_parts}, specs.{Note.{Note}, Sectors.{part_of}, Stop.{Image, ChangesPage}, declared.sector_disk.SectorDisk.{Ghosts}}}, swap.specs.Written.{page_of_rows, written_in, image_page, IsAsWritten}}

pub rows_make : (rows : List (List ℕ)) (page : List ℕ) → length rows ≡ 8 → length page ≡ 4096
    → ((i : ℕ) → i < 8 → get_or rows i [] ≡ part_of page i) → page_of_rows rows ≡ Some page
rows_make [] page eight size each = absurd (omega (arith, eight))
rows_make (row ∷ rows) page eight size each =
    ap (λ (w : List ℕ). Some w) (joined-same 8 (λ i. get_or (row ∷ rows) i []) (part_of page) each ∙ joined_parts page size)

-- a note of page n
pub noted-here : (note : Note) (older : List Note) (n : ℕ) → get_or note.0 0 0 ≡ n → written_in (note ∷ older) n ≡ page_of_rows note.1
noted-here note older n is = rw (eq-eqb (get_or note.0 0 0) n is) refl

pub noted-other : (note : Note) (older : List Note) (n m : ℕ) → get_or note.0 0 0 ≡ n → m ≢ n → written_in (note ∷ older) m ≡ written_in older m
noted-other note older n m is ne = rw (ne_eqb (get_or note.0 0 0) m (λ e. ne (sym e ∙ is))) refl

module _ {D : Type 0} (g : Ghosts D) where
  page_stays : (n m : ℕ) (old new : Image) → m ≢ n → ChangesPage (8 * n) old new → image_page new m ≡ image_page old m
  page_stays n m old new ne changes =
      joined-same 8 (λ i. new (8 * m + i)) (λ i. old (8 * m + i)) (λ i lt. changes.others (8 * m + i) (λ inside. (let low = inside.0 in let high = inside.1 in omega (arith, low, high, lt, ne))))

  -- nothing is known of page n
  pub written_lost : (n : ℕ) (old new : D) (note : Note) (notes : List Note) → get_or note.0 0 0 ≡ n → page_of_rows note.1 ≡ None → IsAsWritten g old notes
      → (g.keeps_model new → g.keeps_model old) → (g.keeps_model new → ChangesPage (8 * n) (g.content old) (g.content new)) → IsAsWritten g new (note ∷ notes)
  written_lost n old new note notes is none as_written kept changes k m w written = elim (cases_eq m n) [
    | inl e ↦ (
        let here = noted-here note notes m (is ∙ sym e) in
        let bad : None ≡ Some w = sym none ∙ sym here ∙ written in (cc))
    | inr ne ↦ page_stays n m (g.content old) (g.content new) ne (changes k) ∙ as_written (kept k) m w (sym (noted-other note notes n m is ne) ∙ written)
  ]

  -- page n was written
  pub written_new : (n : ℕ) (new : D) (lost note : Note) (notes : List Note) (page : List ℕ) → get_or note.0 0 0 ≡ n → page_of_rows note.1 ≡ Some page → length page ≡ 4096
      → IsAsWritten g new (lost ∷ notes) → (g.keeps_model new → (i : ℕ) → i < 8 → g.content new (8 * n + i) ≡ part_of page i) → IsAsWritten g new (note ∷ lost ∷ notes)
  written_new n new lost note notes page is rows size as_written written k m w at = elim (cases_eq m n) [
    | inl e ↦ (
        let here = noted-here note (lost ∷ notes) m (is ∙ sym e) in
        let same : Some page ≡ Some w = sym rows ∙ sym here ∙ at in
        let inner : page ≡ w = (cc) in
        let P : ℕ → Type 0 = λ x. image_page (g.content new) x ≡ page in
        subst P (sym e) (joined-same 8 (λ i. g.content new (8 * n + i)) (part_of page) (written k) ∙ joined_parts page size) ∙ inner)
    | inr ne ↦ as_written k m w (sym (noted-other note (lost ∷ notes) n m is ne) ∙ at)
  ]

  -- a page whose sectors the device holds is what was written
  pub gives_written : (n : ℕ) (old : D) (notes : List Note) (page : List ℕ) → length page ≡ 4096 → IsAsWritten g old notes → g.keeps_model old
      → ((i : ℕ) → i < 8 → part_of page i ≡ g.content old (8 * n + i)) → (w : List ℕ) → written_in notes n ≡ Some w → page ≡ w
  gives_written n old notes page size as_written k read w at =
      sym (joined_parts page size) ∙ joined-same 8 (part_of page) (λ i. g.content old (8 * n + i)) read ∙ as_written k n w at

-- Pages of zeros whose front is read from a source.
use Rattle.file_store.proofs.Names.{◌≡◌, ℕ, ◌-◌, ◌≤◌, List, [], ◌++◌, length, drop, replicate, Option, Some, None, refl, sym, ap, ◌∙◌, arith, take_all, take_at, drop_at, length-append, drop-replicate, none-some, same_Some, Consumes}
use Rattle.file_store.{specs.Layout.{padded_page}, proofs.Pieces.{trimmed-trimmed}}

-- the front of what is told, and zeros
pub trimmed_front : (n : ℕ) (given rest : List ℕ) → length given ≡ n → n ≤ 4096 → given ++ drop n (replicate 4096 0) ≡ padded_page n (given ++ rest)
unfolding padded_page
trimmed_front n given rest size small =
    ap (λ (zeros : List ℕ). given ++ zeros) (drop-replicate n 4096 0)
    ∙ ap (λ (m : ℕ). given ++ replicate (4096 - m) 0) (sym size)
    ∙ sym (ap (λ (front : List ℕ). front ++ replicate (4096 - length front) 0) (take_at given rest n size))

-- nothing is told
pub trimmed_nothing : (n : ℕ) → replicate 4096 0 ≡ padded_page n []
unfolding padded_page
trimmed_nothing n = sym (ap (λ (front : List ℕ). front ++ replicate (4096 - length front) 0) (take_all n [] (omega arith)))

-- what was read is the front of what the source told, and it tells the rest
pub record IsRead (told given : List ℕ) (left : Option (List ℕ)) : Type 0 where
  pub rest : List ℕ
  pub is_left : left ≡ Some rest
  pub whole : told ≡ given ++ rest

pub is_read : (old new : Option (List ℕ)) (told given : List ℕ) → old ≡ Some told → Consumes old new given → IsRead told given new
is_read None new told given is consumes = absurd (none-some told is)
is_read (Some xs) None told given is consumes = absurd consumes
is_read (Some xs) (Some ys) told given is consumes = record { rest = ys; is_left = refl; whole = sym (same_Some xs told is) ∙ consumes }

-- so it told as many, and its rest is what is left
pub left_is : (n : ℕ) (told given : List ℕ) (left : Option (List ℕ)) → length given ≡ n → IsRead told given left → (n ≤ length told) × (left ≡ Some (drop n told))
left_is n told given left size read = (
  (let long = ap length read.whole ∙ length-append given read.rest in omega (arith, long, size)),
  read.is_left ∙ ap Some (sym (ap (drop n) read.whole ∙ drop_at given read.rest n size)),
)

-- a page that is cut is so again
pub trimmed_is : (n : ℕ) (page bytes : List ℕ) → n ≤ 4096 → page ≡ padded_page n bytes → padded_page n page ≡ page
trimmed_is n page bytes small is = ap (padded_page n) is ∙ trimmed-trimmed n bytes small ∙ sym is

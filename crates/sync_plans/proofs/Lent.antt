-- Pages that are lent.
use Rattle.sync_plans.proofs.Names.{ℕ, ◌<◌, ◌≡◌, List, Option, length, ⊎_elim, ap, arith, cases_lt, slice_get_past, slice_get-get_or, get_or}
use Rattle.sync_plans.specs.{Pages.{bytes_or_none, lent_page}, declared.lent_pages.PageBytes.{PageBytes}}

-- a page of bytes is one of the list
pub is_lent : (list : List PageBytes) (i : ℕ) → length (lent_page list i) ≡ 4096 → i < length list
is_lent list i long = ⊎_elim (λ inside. inside)
    (λ past. absurd (let blank : length (lent_page list i) ≡ 0 = ap (λ (o : Option PageBytes). length (bytes_or_none o)) (slice_get_past list i past) in omega (arith, long, blank)))
    (cases_lt i (length list))

pub lent_here : (list : List PageBytes) (i : ℕ) (d : PageBytes) → i < length list → lent_page list i ≡ (get_or list i d).at.now
lent_here list i d inside = ap bytes_or_none (slice_get-get_or list i d inside)

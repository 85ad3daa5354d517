-- Steps that change tables alone.
use Rattle.residency.proofs.Names.{top_level, Attr, ◌≡◌, ℕ, inl, inr, Some, Option, get_or, sym, ap, ◌∙◌, subst, IsSome, Free, FrameTable, role_of, SetsEntry, KeepsFrames, IsPage, IsTable}
use Rattle.residency.{specs.{Picture.{Picture}, Parts.{IsRootedBut, IsMapped}, Steps.{SameBeside, KeepsShares, SetsPage}}, proofs.{Entries.{entry-of, entry-same}, Rooted.{used_kept, rooted_by}}}

-- a call that writes bytes of tables alone
pub shares_kept : (old new : FrameTable) → KeepsFrames old new → KeepsShares old new
shares_kept old new kept =
    let same : (n : ℕ) → role_of new n ≡ role_of old n = λ n. ap (λ rs. get_or rs n Free) kept.roles in
    record {
      private = λ n e. same n ∙ e;
      was_private = λ n e. sym (same n) ∙ e;
      cache = λ n e. same n ∙ e;
      was_cache = λ n e. sym (same n) ∙ e;
      counts = λ n e. ap (λ cs. get_or cs n 0) kept.counts;
    }

pub sets_page : {mode : ℕ} (old new : Picture mode) (m pid r page number : ℕ) → IsRootedBut old m → old.root pid ≡ Some r → IsPage (top_level mode) page
    → SetsEntry old.frames new.frames (top_level mode) r page number → SameBeside old new → SetsPage old new pid page number
sets_page old new m pid r page number rooted root h sets beside = record {
  changed = entry-of new pid r page (beside.root pid ∙ root) ∙ sets.changed;
  others = λ q p h' other. entry-same old new q p (beside.root q) (λ x e. sets.entries x p (rooted.roots q x e) h' (elim other [
    | inl ne ↦ inl (λ same. ne (rooted.apart q pid r (e ∙ ap (λ y. Some y) same) root))
    | inr ne ↦ inr ne
  ]));
  beside = beside;
  shares = shares_kept old.frames new.frames sets.kept;
  bytes = sets.kept.bytes;
}

-- an entry set
pub rooted_set : {mode : ℕ} (old new : Picture mode) (n root page number : ℕ) → IsRootedBut old n → SetsEntry old.frames new.frames (top_level mode) root page number
    → SameBeside old new → IsRootedBut new n
rooted_set old new n root page number rooted sets beside = rooted_by old new n n rooted beside.root sets.forest (λ pid r e. sets.roots r (rooted.roots pid r e))
    (λ m is_table. (
    let there : IsTable old.frames m = record { inside = rw (← sets.kept.frames) is_table.inside; role = ap (λ rs. get_or rs m Free) (sym sets.kept.roles) ∙ is_table.role } in
    elim (rooted.used m there) [
      | inl z ↦ inl z
      | inr o ↦ inr (used_kept old new (IsMapped old) (IsMapped new) m (λ a i b p. (sets.pointers a i b).0 p) beside.root
          (λ pid k some. (let P : Option Attr → Type 0 = λ x. IsSome x in subst P (sym (beside.at pid k)) some)) o)
    ]))

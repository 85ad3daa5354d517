-- The frame that isn't given up for an access to a page is the one that it copies: other pages have their second chance.
use Rattle.fault.proofs.Names.{◌≡◌, ◌≢◌, ℕ, true, false, None, Some, Result, OnOk, refl, sym, ap, ◌∙◌, same_Some, false≢true, Access, Store, Attr, FrameNo, Stall, Picture, entry, IsBehind, is_shared}
use Rattle.fault.proofs.{AccessSteps.{on_ok_then}, Chances.{others_for}, Wanted.{copy_keeps}, Names.{frees_none}}
use Rattle.fault.proofs.Names.{AreAllMarked, is_private, is_swapped, arith}
use Rattle.fault.specs.{Chances.{AreAllMarkedFor, GivesOthersChance}, Changes.{IsLinked, copied_frame}, Wants.{KeepsOwnFrame}}

module _ {mode : ℕ} (c : Picture mode) (pid page : ℕ) where
  -- a load or a fetch copies none
  pub read_keeps : (access : Access) → access ≢ Store → KeepsOwnFrame c pid page access None
  read_keeps access reads n copies = reads copies.stores

  -- nor does a store to a shared page
  pub shared_keeps : (a : Attr) (access : Access) → c.at pid page ≡ Some a → is_shared a.backing ≡ true → KeepsOwnFrame c pid page access None
  shared_keeps a access at shared n copies =
      let same : copies.attr ≡ a = same_Some copies.attr a (sym copies.mapped ∙ at) in
      false≢true (sym copies.not_shared ∙ ap (λ (x : Attr). is_shared x.backing) same ∙ shared)

  pub all_marked_for : {access : Access} → KeepsOwnFrame c pid page access None → AreAllMarked c None → AreAllMarkedFor c pid page access
  all_marked_for keeps all = (None, keeps, all)

  -- a store keeps the frame whose bytes its page shows
  pub own_others : (new : Picture mode) (a : Attr) (r : Result FrameNo Stall) → IsLinked c pid page → c.at pid page ≡ Some a → is_shared a.backing ≡ false → is_swapped (entry c pid page) ≡ false
      → (is_private (entry c pid page) ≡ false → (n : ℕ) × IsBehind c a.backing n) → OnOk r (GivesOthersChance c new pid page (AreAllMarked c (copied_frame c pid page a)))
      → OnOk r (GivesOthersChance c new pid page (AreAllMarkedFor c pid page Store))
  own_others new a r linked at alone here memory gives =
      let keep = copied_frame c pid page a in
      let keeps = copy_keeps c c pid page a linked at alone here memory (λ n common behind. (behind, refl)) linked.fit (record { root = λ q. refl; at = λ q p. refl }) (λ q x p e. omega arith) (λ q p. refl) (frees_none c keep) in
      on_ok_then _ _ r (others_for c new pid page (AreAllMarked c keep) (AreAllMarkedFor c pid page Store) (λ all. (keep, keeps, all))) gives

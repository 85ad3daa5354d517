-- A page of a file or an object that lies in a node of the page cache is the one that the node holds.
use Rattle.std.proofs.Common.{◌≡◌, ◌≢◌, ℕ, ◌+◌, ◌-◌, ◌<◌, ◌≤◌, Option, Some, None, IfSome, IfNone, refl, sym, ap, ◌∙◌, subst, arith}
use Rattle.std.proofs.lemmas.Option.{same_Some}
use Rattle.vm_types.specs.declared.{number.{FrameNo.{FrameNo}, SlotNo.{SlotNo}}, object.PageKey.{PageKey}}
use Rattle.page_cache.specs.{CacheTable.{CacheTable, cache_frames, place_of, IsInside, IsSoundCache}, declared.place.Place.{Place, TheVariants.{Home, Frame, Slot}}}
use Rattle.ranges.specs.Rows.{node_of}

-- what a frame or a slot holds, where it holds a page, and that it holds none else
abbrev pub IsHeldAt : CacheTable → Place → Option PageKey → Type 0
IsHeldAt t place held = IfSome held (λ k. place_of t k ≡ place) × IfNone held ((k : PageKey) → place_of t k ≢ place)

module _ (t : CacheTable) (sound : IsSoundCache t) (p : PageKey) where
  one_there : (place : Place) (held : Option PageKey) → place_of t p ≡ place → place ≢ Home → IsHeldAt t place held → held ≡ Some p
  one_there place None at away is = absurd (is.1 p at)
  one_there place (Some k) at away is = ap Some (sound.apart k p (is.0 ∙ sym at) (λ home. away (sym is.0 ∙ home)))

  at_place : (node : ℕ) (held : Option PageKey) → (node < cache_frames t → IsHeldAt t (Frame (record { 0 = node })) held)
      → (cache_frames t ≤ node → IsHeldAt t (Slot (record { 0 = node - cache_frames t })) held)
      → (place : Place) → place_of t p ≡ place → node_of (cache_frames t) place ≡ Some node → held ≡ Some p
  at_place node held framed slotted Home at is = let bad : None ≡ Some node = is in (cc)
  at_place node held framed slotted (Frame n) at is =
      let same : n.0 ≡ node = same_Some n.0 node is in
      let here : place_of t p ≡ Frame (record { 0 = node }) = at ∙ ap (λ (k : ℕ). Frame (record { 0 = k })) same in
      let inside : n.0 < cache_frames t = subst (λ (x : Place). IsInside t x) at (sound.inside p) in
      one_there (Frame (record { 0 = node })) held here (λ home. let bad : Frame (record { 0 = node }) ≡ Home = home in (cc)) (framed (omega (arith, same, inside)))
  at_place node held framed slotted (Slot k) at is =
      let same : cache_frames t + k.0 ≡ node = same_Some (cache_frames t + k.0) node is in
      let here : place_of t p ≡ Slot (record { 0 = node - cache_frames t }) = at ∙ ap (λ (j : ℕ). Slot (record { 0 = j })) (omega (arith, same)) in
      one_there (Slot (record { 0 = node - cache_frames t })) held here (λ home. let bad : Slot (record { 0 = node - cache_frames t }) ≡ Home = home in (cc)) (slotted (omega (arith, same)))

  pub at_node : (node : ℕ) (held : Option PageKey) → (node < cache_frames t → IsHeldAt t (Frame (record { 0 = node })) held)
      → (cache_frames t ≤ node → IsHeldAt t (Slot (record { 0 = node - cache_frames t })) held) → node_of (cache_frames t) (place_of t p) ≡ Some node → held ≡ Some p
  at_node node held framed slotted is = at_place node held framed slotted (place_of t p) refl is

-- so it doesn't lie at home
pub held_away : (t : CacheTable) (place : Place) (held : Option PageKey) → place ≢ Home → IfSome held (λ k. place_of t k ≡ place) → IfSome held (λ k. place_of t k ≢ Home)
held_away t place None away is = tt
held_away t place (Some k) away is = λ home. away (sym is ∙ home)

-- Why no frame was to be had, told by what processes see and files are touched.
use Rattle.residency.proofs.{Held.{more_held}, Names.{user_end, object_limit, FrameNo, backing_fits, names, uses, is_object_page, is_of_object, ObjectPage, File, Object, Attr, Backing, Stall, NoFrames, NoSwap, SwapDevice, StoreDevice}}
use Rattle.residency.proofs.Names.{has_own, object_page_limit, ◌≡◌, ◌≢◌, ℕ, inl, inr, ◌^◌, ◌<◌, ◌≤◌, true, Option, Some, None, is_some, List, refl, sym, ap, ◌∙◌, subst, arith, and_parts, eqb-true, false≢true, option_map, IfSome, Home}
use Rattle.residency.proofs.{Names.{IsPageOf, Role, Free, Zero, Table, Private, IsSound, IsCountFor, role_of, count_of}, Places.{named_by}, Refusing.{used_inside}, Short.{few_frames}, Start.{seat-none}, Tables.{tables_counted}}
use Rattle.residency.specs.{Calls.{Refuses}, Capacity.{IsShort, table_frames, tables_over}, Parts.{IsFit, IsEntryFor, Nothing, Resident, Away, IsMapped, IsUsed, AsRoot, OnWay}, Picture.{Picture, entry, view, is_live, bytes_in, own_in}}
use Rattle.{residency.specs.{Picture.{view_of}, Seats.{Seat, seat}}, std.specs.Prelude.{◌==◌}, vm_types.specs.declared.region.Backing.TheVariants.{Anon, Private as PrivateOf, Shared as SharedOf, Common as CommonOf}}

some_same : (own : Option (List ℕ)) (o : Option Attr) → is_some (view_of own o) ≡ is_some o
some_same own None = refl
some_same own (Some a) = refl

own_at : (own : Option (List ℕ)) (o : Option Attr) → has_own (view_of own o) ≡ true → is_some o ≡ true
own_at own None e = e
own_at own (Some a) e = refl

owns : (own : Option (List ℕ)) (o : Option Attr) (a : Attr) → o ≡ Some a → is_some own ≡ true → has_own (view_of own o) ≡ true
owns own o a e some = rw e some

used_where : (a : Option Attr) (object page : ℕ) → names a object page ≡ true → uses a object ≡ true
used_where None object page is = is
used_where (Some a) object page is = used_backing a.backing is where
  used_backing : (b : Backing) → is_object_page b object page ≡ true → is_of_object b object ≡ true
  used_backing Anon is = is
  used_backing (PrivateOf p) is = is
  used_backing (SharedOf p) is = is
  used_backing (CommonOf p) is = (and_parts (p.object == object) (p.page == page) is).0

page_where : (a : Option Attr) (object page : ℕ) → names a object page ≡ true → IfSome a (λ x. backing_fits x.backing 1) → page < object_page_limit
page_where None object page is fits = absurd (false≢true is)
page_where (Some a) object page is fits = page_backing a.backing is fits where
  page_backing : (b : Backing) → is_object_page b object page ≡ true → backing_fits b 1 → page < object_page_limit
  page_backing Anon is fits = absurd (false≢true is)
  page_backing (PrivateOf p) is fits = absurd (false≢true is)
  page_backing (SharedOf p) is fits = absurd (false≢true is)
  page_backing (CommonOf p) is fits = let same : p.page ≡ page = eqb-true p.page page (and_parts (p.object == object) (p.page == page) is).1 in omega (arith, same, fits)

module _ {mode : ℕ} (c : Picture mode) (fit : IsFit c) (sound : IsSound c.frames) (few : (f k : ℕ) → IsPageOf c.files f k → (f < 4096) × (k < 2 ^ 30)) where
  seen : (pid page : ℕ) → is_some (view c pid page) ≡ is_some (c.at pid page)
  unfolding view
  seen pid page = some_same (own_in c.frames c.slots (entry c pid page)) (c.at pid page)

  user : (pid page : ℕ) → is_some (c.at pid page) ≡ true → page < user_end mode
  user pid page some = ((fit.granting.user pid).user_pages page some).1

  own_user : (pid page : ℕ) → has_own (view c pid page) ≡ true → page < user_end mode
  unfolding view
  own_user pid page own = user pid page (own_at (own_in c.frames c.slots (entry c pid page)) (c.at pid page) own)

  used_too : (n : ℕ) → IsUsed c (IsMapped c) n → IsUsed c (λ pid page. is_some (view c pid page) ≡ true) n
  used_too n (AsRoot pid e) = AsRoot pid e
  used_too n (OnWay pid r page e is way) = OnWay pid r page e (seen pid page ∙ is) way

  used : (n : ℕ) → role_of c.frames n ≡ Table → IsUsed c (λ pid page. is_some (view c pid page) ≡ true) n
  used n table = elim (fit.rooted.used n (record { inside = used_inside c.frames n sound (λ free. (let bad : Table ≡ Free = sym table ∙ free in (cc))); role = table })) [
    | inl none ↦ (let bad : Zero ≡ Table = sym sound.zero_role ∙ ap (role_of c.frames) (sym none) ∙ table in (cc))
    | inr is ↦ used_too n is
  ]

  number : (pid r : ℕ) → c.root pid ≡ Some r → pid < 65
  number pid r e = let n = fit.rooted.numbers pid r e in omega (arith, n)

  counted : table_frames c.frames ≤ tables_over mode (is_live c) (view c)
  counted = tables_counted c (is_live c) (view c) number (λ pid r e. ap (λ o. is_some o) e) (λ pid page some. user pid page (sym (seen pid page) ∙ some)) used

  seated : (pid page : ℕ) (z : Seat) (e : ℕ) → seat e ≡ Some z → entry c pid page ≡ e → IsEntryFor c (c.at pid page) e → has_own (view c pid page) ≡ true
  unfolding view
  seated pid page z e is here (Nothing none) = let bad : None ≡ Some z = sym (ap seat none ∙ seat-none) ∙ is in (cc)
  seated pid page z e is here (Resident a at res) =
      owns (own_in c.frames c.slots (entry c pid page)) (c.at pid page) a at (ap (λ o. is_some (option_map (bytes_in c.frames c.slots) o)) (ap seat here ∙ is))
  seated pid page z e is here (Away a at away) =
      owns (own_in c.frames c.slots (entry c pid page)) (c.at pid page) a at (ap (λ o. is_some (option_map (bytes_in c.frames c.slots) o)) (ap seat here ∙ is))

  shared : (n : ℕ) → role_of c.frames n ≡ Private → 0 < count_of c.frames n
  shared n is =
      let P : Role → Type 0 = λ r. IsCountFor r (count_of c.frames n) in
      (subst P is (sound.counted n (used_inside c.frames n sound (λ free. (let bad : Private ≡ Free = sym is ∙ free in (cc)))))).0

  -- a page of an object that lies somewhere is one that a process names
  bounded : (p : ObjectPage) → c.place (Object p) ≢ Home → (p.object < object_limit) × (p.page < object_page_limit)
  bounded p away =
      let who = named_by c.at p.object p.page (fit.places.inside (Object p) away) in (
        fit.granting.objects.below who.0 who.1 p.object (used_where (c.at who.0 who.1) p.object p.page who.2),
        page_where (c.at who.0 who.1) p.object p.page who.2 ((fit.granting.user who.0).file_pages who.1),
      )

  pub short_of : (keep : Option FrameNo) (stall : Stall) → Refuses c keep stall → IsShort c stall
  unfolding IsShort
  short_of keep NoFrames refuses = let a = few_frames c keep sound refuses in let b = counted in omega (arith, a, b)
  short_of keep NoSwap refuses =
      let n = refuses.1.0 in
      more_held c 0 fit refuses.3 n (refuses.2 n refuses.1.1) own_user (λ p away. (let i = fit.places.inside (File p) away in few p.file p.page i)) bounded (shared n)
      (λ pid page z h is. seated pid page z (entry c pid page) is refl (fit.granting.entries pid page h))
  short_of keep SwapDevice refuses = tt
  short_of keep StoreDevice refuses = absurd refuses

-- Whether a page of an object is named by others than a row, and what forgetting those leaves that aren't.
use Rattle.vm_types.specs.declared.mode.Levels as Levels
use Rattle.ranges.proofs.Names.{user_end, sizes, picture_of, widest_end, ObjectPage, PageKey, Object, Attr, Backing, Common, Maps, names, is_named, is_object_page, in_row, ◌≡◌, ◌≢◌, ℕ, inl, inr, ◌⊎◌, ◌+◌, ◌<◌, ◌≤◌, true, false, Option, Some, None, refl, sym, ap, ◌∙◌}
use Rattle.ranges.proofs.Names.{subst, arith, eqb-true, eq-eqb, ne_eqb, rules, ◌==◌, same_Some, cases_eq, cases_lt, cases_Bool, false≢true, and_parts, Place, Home, Frame, Slot, Core, KeepsBesidePlaces, Picture, entry, IsFit, AreObjects}
use Rattle.ranges.proofs.Names.{Forgets, HasNoEntry, cases_page, named-same, named_by, named-at, named-where}
use Rattle.{regions.specs.Search.{StandsOn}, std.proofs.lemmas.Bool.{and_from}, vm_types.specs.Attributes.{stands_on}}
use Rattle.ranges.{specs.{ObjectSteps.{IsForgottenThere}, Rows.{IsBareRow, IsLasting, IsLastName, ForgetsMore, ForgetsRow, node_of, without_maps}}, proofs.{Emptied.{row_parts, in_row_from}, Named.{named-imp}}}

module _ (mode : ℕ) (at : Maps) (pid first pages : ℕ) where
  beside_same : (q k : ℕ) → (q ≢ pid) ⊎ (in_row first pages k ≡ false) → without_maps at pid first pages q k ≡ at q k
  beside_same q k (inl ne) = rw (ne_eqb q pid ne) refl
  beside_same q k (inr out) = elim (cases_eq q pid) [ inr ne ↦ rw (ne_eqb q pid ne) refl | inl is ↦ rw (eq-eqb q pid is, out) (ap (λ x. at x k) (sym is)) ]

  row_none : (k : ℕ) → in_row first pages k ≡ true → without_maps at pid first pages pid k ≡ None
  row_none k inside = rw (eq-eqb pid pid refl, inside) refl

  -- what others name, or the process beside the row
  pub named_without : (p : ObjectPage) → is_named at p.object p.page ≡ true → ((k : ℕ) → in_row first pages k ≡ true → names (at pid k) p.object p.page ≡ false)
      → is_named (without_maps at pid first pages) p.object p.page ≡ true
  named_without p is none = named-imp at (without_maps at pid first pages) p.object p.page (λ q k here. ap (λ x. names x p.object p.page) (beside_same q k (beside q k here)) ∙ here) is where
    beside : (q k : ℕ) → names (at q k) p.object p.page ≡ true → (q ≢ pid) ⊎ (in_row first pages k ≡ false)
    beside q k here = elim (cases_eq q pid) [
      | inr ne ↦ inl ne
      | inl e ↦ elim (cases_Bool (in_row first pages k)) [
        | inr out ↦ inr out
        | inl inside ↦ absurd (false≢true (sym (none k inside) ∙ ap (λ x. names (at x k) p.object p.page) (sym e) ∙ here))
      ]
    ]

  pub named_beside : (p : ObjectPage) (q k : ℕ) → q < 65 → k < widest_end → q ≢ pid → names (at q k) p.object p.page ≡ true → is_named (without_maps at pid first pages) p.object p.page ≡ true
  named_beside p q k low high ne here =
      named-at (without_maps at pid first pages) p.object p.page q k low high (ap (λ x. names x p.object p.page) (beside_same q k (inl ne)) ∙ here)

  -- a page of the row names it and no other process does there
  module _ (objects : AreObjects at) (p : ObjectPage) (j : ℕ) (inside : in_row first pages j ≡ true) (here : names (at pid j) p.object p.page ≡ true)
      (none : (q : ℕ) → q ≢ pid → names (at q j) p.object p.page ≡ false) where
    pub only_there : (q k : ℕ) → names (at q k) p.object p.page ≡ true → (q ≡ pid) × (k ≡ j)
    only_there q k there =
        let same = objects.one_page q pid k j p.object p.page there here in
        elim (cases_eq q pid) [
          | inl e ↦ (e, same)
          | inr ne ↦ absurd (false≢true (sym (none q ne) ∙ ap (λ x. names (at q x) p.object p.page) (sym same) ∙ there))
        ]

    pub unnamed_without : is_named (without_maps at pid first pages) p.object p.page ≡ false
    unnamed_without = elim (cases_Bool (is_named (without_maps at pid first pages) p.object p.page)) [
      | inr f ↦ f
      | inl t ↦ absurd (let by = named_by (without_maps at pid first pages) p.object p.page t in no_more by.0 by.1 by.2)
    ] where
      was : (q k : ℕ) → names (without_maps at pid first pages q k) p.object p.page ≡ true → names (at q k) p.object p.page ≡ true
      was q k is = elim (cases_eq q pid) [
        | inr ne ↦ sym (ap (λ x. names x p.object p.page) (beside_same q k (inl ne))) ∙ is
        | inl e ↦ elim (cases_Bool (in_row first pages k)) [
          | inr out ↦ sym (ap (λ x. names x p.object p.page) (beside_same q k (inr out))) ∙ is
          | inl within ↦ absurd (false≢true (sym (ap (λ x. names x p.object p.page) (ap (λ x. without_maps at pid first pages x k) e ∙ row_none k within)) ∙ is))
        ]
      ]

      no_more : (q k : ℕ) → names (without_maps at pid first pages q k) p.object p.page ≡ true → ⊥
      no_more q k is =
          let there = only_there q k (was q k is) in
          let gone : without_maps at pid first pages q k ≡ None = ap (λ x. without_maps at pid first pages x k) there.0 ∙ ap (λ x. without_maps at pid first pages pid x) there.1 ∙ row_none j inside in
          false≢true (sym (ap (λ x. names x p.object p.page) gone) ∙ is)

named_backing : (b : Backing) (p : ObjectPage) → stands_on b ≡ Some (Object p) → is_object_page b p.object p.page ≡ true
named_backing (Common q) p is = and_from _ _ (eq-eqb q.object p.object (cc)) (eq-eqb q.page p.page (cc))
named_backing b p is = (cc)

-- what stands on a page of an object names it
named_on : (map : ℕ → Option Attr) (p : ObjectPage) (k : ℕ) → StandsOn map (Object p) k → names (map k) p.object p.page ≡ true
named_on map p k stands = ap (λ a. names a p.object p.page) stands.mapped ∙ named_backing stands.attr.backing p stands.on

-- so no page that stands on it has an entry
module _ {mode : ℕ} where
  pub bare_last : (c : Picture mode) (pid first pages : ℕ) (p : ObjectPage) (j : ℕ) → IsFit c → IsBareRow c pid first pages → in_row first pages j ≡ true → names (c.at pid j) p.object p.page ≡ true
      → ((q : ℕ) → q ≢ pid → names (c.at q j) p.object p.page ≡ false) → HasNoEntry c (Object p)
  bare_last c pid first pages p j fit bare inside here none q k h stands =
      let there = only_there mode c.at pid first pages fit.granting.objects p j inside here none q k (named_on (c.at q) p k stands) in
      ap (λ x. entry c x k) there.0 ∙ ap (λ x. entry c pid x) there.1 ∙ bare j inside

abbrev slot_number : Place → ℕ
slot_number (Slot j) = j.0
slot_number x = 0

slot_or : (x : Place) (k : ℕ) → (x ≡ Slot (record { 0 = k })) ⊎ (x ≢ Slot (record { 0 = k }))
slot_or (Slot j) k = elim (cases_eq j.0 k) [ inl e ↦ inl (ap (λ i. Slot (record { 0 = i })) e) | inr ne ↦ inr (λ e. ne (ap slot_number e)) ]
slot_or x k = inr (λ e. (cc))

pub more_then : {mode : ℕ} (a b c : Picture mode) (pid first pages : ℕ) (p : ObjectPage) → IsFit b → ForgetsMore a b pid first pages → Forgets b c (Object p)
    → is_named (without_maps a.at pid first pages) p.object p.page ≡ false → ForgetsMore a c pid first pages
more_then a b c pid first pages p fit more forgets unnamed = record {
  frees = record {
    root = λ q. forgets.root q ∙ more.root q;
    at = λ q page. forgets.at q page ∙ more.at q page;
    page_of = λ n. forgets.page_of n ∙ more.page_of n;
    entries = λ q page h. forgets.entries q page h ∙ more.entries q page h;
    views = λ q page. forgets.views q page ∙ more.views q page;
    frames = forgets.frames ∙ more.frames;
    roles = λ n. elim (forgets.roles n) [
      | inl same ↦ elim (more.roles n) [ inl e ↦ inl (same ∙ e) | inr gone ↦ inr (same ∙ gone.0, gone.1) ]
      | inr free ↦ (
          elim (more.roles n) [ inl e ↦ inr (free.0, sym e ∙ fit.places.cached (Object p) n free.1) | inr gone ↦ inr (free.0, gone.1) ])
    ];
    pointers = λ n i m. (λ x. (forgets.pointers n i m).0 ((more.pointers n i m).0 x), λ x. (more.pointers n i m).1 ((forgets.pointers n i m).1 x));
    total = forgets.total ∙ more.total;
    fewer = λ k. (let before = more.fewer k in elim (slot_or (b.place (Object p)) k) [
      | inl is ↦ (let none = forgets.left k is in omega (arith, none))
      | inr ne ↦ (let same = forgets.counts k ne in omega (arith, same, before))
    ]);
    counts = λ k none. forgets.counts k (λ at. elim (more.place (Object p)) [
      | inl e ↦ none p (sym e ∙ at)
      | inr home ↦ (let bad : Home ≡ Slot (record { 0 = k }) = sym home ∙ at in (cc))
    ]) ∙ more.counts k none;
    bytes = λ k used. (
        let was : 0 < b.slots.count k = elim (slot_or (b.place (Object p)) k) [
          | inl is ↦ absurd (let none = forgets.left k is in omega (arith, none, used))
          | inr ne ↦ (let same = forgets.counts k ne in omega (arith, same, used))
        ] in
        forgets.bytes k used ∙ more.bytes k was);
  };
  files = λ f. forgets.files f ∙ more.files f;
  place = λ q. elim (cases_page q (Object p)) [
    | inl e ↦ inr (ap c.place e ∙ forgets.placed)
    | inr ne ↦ elim (more.place q) [ inl e ↦ inl (forgets.others q ne ∙ e) | inr home ↦ inr (forgets.others q ne ∙ home) ]
  ];
  lasting = λ q is. (
      let ne : q ≢ Object p = λ e. (
      false≢true (sym unnamed ∙ (subst (λ (x : PageKey). IsLasting (without_maps a.at pid first pages) x) e is))) in
      let before = more.lasting q is in
      (forgets.others q ne ∙ before.0, forgets.rest q ne ∙ before.1, forgets.held q ne ∙ before.2));
}

-- what the maps of a row leave hangs on the maps
pub without_same : (f g : Maps) (pid first pages : ℕ) (p : ObjectPage) → ((q k : ℕ) → g q k ≡ f q k)
    → is_named (without_maps g pid first pages) p.object p.page ≡ is_named (without_maps f pid first pages) p.object p.page
without_same f g pid first pages p same = named-same (without_maps f pid first pages) (without_maps g pid first pages) p.object p.page (λ q k. elim (cases_eq q pid) [
  | inr ne ↦ rw (ne_eqb q pid ne) (same q k)
  | inl is ↦ elim (cases_Bool (in_row first pages k)) [ inl e ↦ rw (eq-eqb q pid is, e) refl | inr e ↦ rw (eq-eqb q pid is, e) (same pid k) ]
])

-- one node more was looked at
module _ {mode : ℕ} (a b : Picture mode) (pid first pages frames node : ℕ) (more : ForgetsMore a b pid first pages)
    (gone : (p : ObjectPage) (m : ℕ) → node_of frames (b.place (Object p)) ≡ Some m → m < node → is_named (without_maps a.at pid first pages) p.object p.page ≡ true)
    (o : Option ObjectPage) (found : (p : ObjectPage) → node_of frames (b.place (Object p)) ≡ Some node → o ≡ Some p) where
  pub gone_none : o ≡ None → (p : ObjectPage) (m : ℕ) → node_of frames (b.place (Object p)) ≡ Some m → m < node + 1 → is_named (without_maps a.at pid first pages) p.object p.page ≡ true
  gone_none none p m at below = elim (cases_eq m node) [
    | inl e ↦ absurd (let bad : None ≡ Some p = sym none ∙ found p (at ∙ ap (λ x. Some x) e) in (cc))
    | inr ne ↦ gone p m at (omega (arith, below, ne))
  ]

  pub gone_named : (q : ObjectPage) → o ≡ Some q → is_named (without_maps b.at pid first pages) q.object q.page ≡ true
      → (p : ObjectPage) (m : ℕ) → node_of frames (b.place (Object p)) ≡ Some m → m < node + 1 → is_named (without_maps a.at pid first pages) p.object p.page ≡ true
  gone_named q is named p m at below = elim (cases_eq m node) [
    | inl e ↦ (
        let same : q ≡ p = same_Some q p (sym is ∙ found p (at ∙ ap (λ x. Some x) e)) in
        subst (λ (x : ObjectPage). is_named (without_maps a.at pid first pages) x.object x.page ≡ true) same (sym (without_same a.at b.at pid first pages q more.at) ∙ named))
    | inr ne ↦ gone p m at (omega (arith, below, ne))
  ]

  pub gone_forgot : (c : Picture mode) (q : ObjectPage) → o ≡ Some q → Forgets b c (Object q)
      → (p : ObjectPage) (m : ℕ) → node_of frames (c.place (Object p)) ≡ Some m → m < node + 1 → is_named (without_maps a.at pid first pages) p.object p.page ≡ true
  gone_forgot c q is forgets p m at below = elim (cases_page (Object p) (Object q)) [
    | inl e ↦ absurd (let bad : None ≡ Some m = sym (ap (λ x. node_of frames x) (ap c.place e ∙ forgets.placed)) ∙ at in (cc))
    | inr other ↦ (
        let was = sym (ap (λ x. node_of frames x) (forgets.others (Object p) other)) ∙ at in
        elim (cases_eq m node) [
          | inl e ↦ absurd (other (ap (λ x. Object x) (same_Some p q (sym (found p (was ∙ ap (λ x. Some x) e)) ∙ is))))
          | inr ne ↦ gone p m was (omega (arith, below, ne))
        ])
  ]

pub away_or : (x : Place) → (x ≡ Home) ⊎ (x ≢ Home)
away_or Home = inl refl
away_or x = inr (λ e. (cc))

-- what was forgotten, where no page is left that only the row named
forgets_when : {mode : ℕ} (a b : Picture mode) (pid first pages : ℕ) → ForgetsMore a b pid first pages
    → ((p : ObjectPage) → is_named (without_maps a.at pid first pages) p.object p.page ≡ false → b.place (Object p) ≡ Home) → ForgetsRow a b pid first pages
forgets_when a b pid first pages more home = record {
  frees = more.frees;
  keeps = record { touched = λ p is. (more.lasting p is).1; place = λ p is. (more.lasting p is).0; gone = home; files = more.files; held = λ p is. inl (more.lasting p is).2 };
}

-- all nodes were looked at
module _ {mode : ℕ} (a b : Picture mode) (pid first pages frames nodes : ℕ) (fit : IsFit a) (more : ForgetsMore a b pid first pages)
    (inside : (p : ObjectPage) (m : ℕ) → node_of frames (a.place (Object p)) ≡ Some m → m < nodes)
    (gone : (p : ObjectPage) (m : ℕ) → node_of frames (b.place (Object p)) ≡ Some m → m < nodes → is_named (without_maps a.at pid first pages) p.object p.page ≡ true) where
  home_or : (x : Place) → (x ≡ Home) ⊎ ((m : ℕ) × (node_of frames x ≡ Some m))
  home_or Home = inl refl
  home_or (Frame n) = inr (n.0, refl)
  home_or (Slot k) = inr (frames + k.0, refl)

  pub forgets_all : ForgetsRow a b pid first pages
  forgets_all = forgets_when a b pid first pages more (λ p none. elim (home_or (b.place (Object p))) [
    | inl home ↦ home
    | inr node ↦ elim (more.place (Object p)) [
      | inr home ↦ home
      | inl same ↦ absurd (false≢true (sym none ∙ gone p node.0 node.1 (inside p node.0 (ap (λ x. node_of frames x) (sym same) ∙ node.1))))
    ]
  ])

-- all pages of the row were looked at
module _ {mode : ℕ} (a b : Picture mode) (pid first pages : ℕ) (fit : IsFit a) (more : ForgetsMore a b pid first pages)
    (gone : (k : ℕ) (p : ObjectPage) → first ≤ k → k < first + pages → names (a.at pid k) p.object p.page ≡ true
    → (b.place (Object p) ≡ Home) ⊎ (is_named (without_maps a.at pid first pages) p.object p.page ≡ true)) where
  pub forgets_row : ForgetsRow a b pid first pages
  forgets_row = forgets_when a b pid first pages more (λ p none. elim (more.place (Object p)) [
    | inr home ↦ home
    | inl same ↦ elim (away_or (a.place (Object p))) [
      | inl home ↦ same ∙ home
      | inr away ↦ (let who = named-where a.at p.object p.page (fit.places.inside (Object p) away) in home_of p none who.0 who.1 who.2 who.3 who.4)
    ]
  ]) where
    home_of : (p : ObjectPage) → is_named (without_maps a.at pid first pages) p.object p.page ≡ false → (q k : ℕ) → q < 65 → k < widest_end → names (a.at q k) p.object p.page ≡ true
        → b.place (Object p) ≡ Home
    home_of p none q k low high here = elim (cases_eq q pid) [
      | inr ne ↦ absurd (false≢true (sym none ∙ named_beside mode a.at pid first pages p q k low high ne here))
      | inl e ↦ elim (cases_Bool (in_row first pages k)) [
        | inr out ↦ absurd (false≢true (sym none ∙ named-at (without_maps a.at pid first pages) p.object p.page q k low high (ap (λ x. names x p.object p.page) (beside_same mode a.at pid first pages q k (inr out)) ∙ here)))
        | inl within ↦ (
            let parts = row_parts first pages k within in
            elim (gone k p parts.0 parts.1 (ap (λ x. names (a.at x k) p.object p.page) (sym e) ∙ here)) [
              | inl home ↦ home
              | inr named ↦ absurd (false≢true (sym none ∙ named))
            ])
      ]
    ]

-- no page of the row is of an object
module _ {mode : ℕ} where
  pub forgets_none : (a : Picture mode) (pid first pages : ℕ) → IsFit a
      → ((k object page : ℕ) → first ≤ k → k < first + pages → names (a.at pid k) object page ≡ false) → ForgetsRow a a pid first pages
  forgets_none a pid first pages fit none = record {
    frees = search rules;
    keeps = record { touched = λ p is. refl; place = λ p is. refl; gone = λ p unnamed. home_of p unnamed (a.place (Object p)) refl; files = λ f. refl; held = λ p is. inl refl };
  } where
    named : (p : ObjectPage) → a.place (Object p) ≢ Home → is_named (without_maps a.at pid first pages) p.object p.page ≡ true
    named p away = named_without mode a.at pid first pages p (fit.places.inside (Object p) away) (λ k inside. (let parts = row_parts first pages k inside in none k p.object p.page parts.0 parts.1))

    home_of : (p : ObjectPage) → is_named (without_maps a.at pid first pages) p.object p.page ≡ false → (x : Place) → a.place (Object p) ≡ x → a.place (Object p) ≡ Home
    home_of p unnamed Home is = is
    home_of p unnamed x is = absurd (false≢true (sym unnamed ∙ named p (λ home. (let bad : Home ≡ x = sym home ∙ is in (cc)))))

pub same_without : {mode : ℕ} (a b : Picture mode) (pid first pages : ℕ) (p : ObjectPage) → ForgetsMore a b pid first pages
    → is_named (without_maps b.at pid first pages) p.object p.page ≡ is_named (without_maps a.at pid first pages) p.object p.page
same_without a b pid first pages p more = without_same a.at b.at pid first pages p more.at

-- a page names one page of an object
pub names_one : (o : Option Attr) (p q : ObjectPage) → names o p.object p.page ≡ true → names o q.object q.page ≡ true → p ≡ q
names_one None p q is so = absurd (false≢true is)
names_one (Some a) p q is so = alike a.backing is so where
  alike : (b : Backing) → is_object_page b p.object p.page ≡ true → is_object_page b q.object q.page ≡ true → p ≡ q
  alike (Common n) is so =
      let of : ℕ → ℕ → ObjectPage = λ o k. record { object = o; page = k } in
      let here = and_parts (n.object == p.object) (n.page == p.page) is in
      let there = and_parts (n.object == q.object) (n.page == q.page) so in
      let pages : p.page ≡ q.page = sym (eqb-true n.page p.page here.1) ∙ eqb-true n.page q.page there.1 in
      ap (λ x. of x p.page) (sym (eqb-true n.object p.object here.0) ∙ eqb-true n.object q.object there.0) ∙ ap (λ x. of q.object x) pages
  alike b is so = absurd (false≢true is)

-- one page more was looked at, and those between it and the ones before name nothing
module _ {mode : ℕ} (a b c : Picture mode) (pid first pages from k : ℕ) (p : ObjectPage)
    (before : (j : ℕ) (q : ObjectPage) → first ≤ j → j < from → names (a.at pid j) q.object q.page ≡ true
    → (b.place (Object q) ≡ Home) ⊎ (is_named (without_maps a.at pid first pages) q.object q.page ≡ true))
    (at : (j : ℕ) → b.at pid j ≡ a.at pid j) (here : names (b.at pid k) p.object p.page ≡ true)
    (none : (j object page : ℕ) → from ≤ j → j < k → names (b.at pid j) object page ≡ false) where
  pub looked_at : ((q : ObjectPage) → b.place (Object q) ≡ Home → c.place (Object q) ≡ Home)
      → (c.place (Object p) ≡ Home) ⊎ (is_named (without_maps a.at pid first pages) p.object p.page ≡ true)
      → (j : ℕ) (q : ObjectPage) → first ≤ j → j < k + 1 → names (a.at pid j) q.object q.page ≡ true
      → (c.place (Object q) ≡ Home) ⊎ (is_named (without_maps a.at pid first pages) q.object q.page ≡ true)
  looked_at stays this j q low below is = elim (cases_lt j from) [
    | inl passed ↦ elim (before j q low passed is) [ inl home ↦ inl (stays q home) | inr named ↦ inr named ]
    | inr late ↦ elim (cases_eq j k) [
      | inl e ↦ (
          let same : p ≡ q = names_one (b.at pid k) p q here (ap (λ x. names x q.object q.page) (at k ∙ ap (λ x. a.at pid x) (sym e)) ∙ is) in
          subst (λ (x : ObjectPage). (c.place (Object x) ≡ Home) ⊎ (is_named (without_maps a.at pid first pages) x.object x.page ≡ true)) same this)
      | inr ne ↦ absurd (false≢true (sym (none j q.object q.page late (omega (arith, below, ne))) ∙ ap (λ x. names x q.object q.page) (at j) ∙ is))
    ]
  ]

rest_then : {M : Type 0} {m : Levels.Ghosts M} → {D E : Type 0} (a b c : Core D E M m) → KeepsBesidePlaces a b → KeepsBesidePlaces b c → KeepsBesidePlaces a c
rest_then a b c p q = search rules

module _ {M : Type 0} {m : Levels.Ghosts M} {D E : Type 0} where
  -- what is done at a page of the row that names it is what the row wants
  pub last_there : (old new : Core D E M m) (pid first pages k : ℕ) (p : ObjectPage) → AreObjects (picture_of old).at → first + pages ≤ user_end m.mode → first ≤ k → k < first + pages
      → names ((picture_of old).at pid k) p.object p.page ≡ true → IsForgottenThere old new pid k p → IsLastName old new pid first pages p
  last_there old new pid first pages k p objects row low high here (inl same) =
      inl (same.0, named_beside m.mode (picture_of old).at pid first pages p same.1.0 k same.1.1 (let most = (sizes m.mode).most in omega (arith, high, row, most)) same.1.2 same.1.3)
  last_there old new pid first pages k p objects row low high here (inr gone) =
      inr (gone.0, gone.1, unnamed_without m.mode (picture_of old).at pid first pages objects p k (in_row_from first pages k low high) here gone.2)

  -- one page more was looked at
  pub more_last : (a b c : Core D E M m) (pid first pages : ℕ) (p : ObjectPage) → IsFit (picture_of b) → ForgetsMore (picture_of a) (picture_of b) pid first pages → KeepsBesidePlaces a b → IsLastName b c pid first pages p
      → ForgetsMore (picture_of a) (picture_of c) pid first pages × KeepsBesidePlaces a c
  more_last a b c pid first pages p fit more rest (inl same) =
      (subst (λ (x : Core D E M m). ForgetsMore (picture_of a) (picture_of x) pid first pages) (sym same.0) more, subst (λ (x : Core D E M m). KeepsBesidePlaces a x) (sym same.0) rest)
  more_last a b c pid first pages p fit more rest (inr gone) =
      (more_then (picture_of a) (picture_of b) (picture_of c) pid first pages p fit more gone.0 (sym (same_without (picture_of a) (picture_of b) pid first pages p more) ∙ gone.2), rest_then a b c rest gone.1)

  -- those at home stay there
  pub home_last : (b c : Core D E M m) (pid first pages : ℕ) (p : ObjectPage) → IsLastName b c pid first pages p → (q : ObjectPage) → (picture_of b).place (Object q) ≡ Home → (picture_of c).place (Object q) ≡ Home
  home_last b c pid first pages p (inl same) q home = subst (λ (x : Core D E M m). (picture_of x).place (Object q) ≡ Home) (sym same.0) home
  home_last b c pid first pages p (inr gone) q home = elim (cases_page (Object q) (Object p)) [ inl e ↦ ap (picture_of c).place e ∙ gone.0.placed | inr ne ↦ gone.0.others (Object q) ne ∙ home ]

-- What a line says of a walk.
use Rattle.memory.proofs.Names.{ℕ, ◌/◌, ◌%◌, ◌^◌, ◌≡◌, ◌<◌, Bool, true, false, ◌&&◌, ◌||◌, not, if◌then◌else◌, Ok, Some, Option, inl, inr, refl, sym, ap, ◌∙◌, subst, arith, nat_tests, top_level, user_end, Access, two_modes, FrameTable}
use Rattle.memory.{proofs.Names.{frame_count, is_valid, is_user, is_accessed, is_dirty, is_reserved, is_leaf, frame_of, grants, is_canonical, is_store, last_of, translated, answer_of, frame_in}, specs.Lines.{Agrees, Gives, IsLine}}
use Rattle.{memory.specs.{Lines.{leaf_lets, address_in, leaf_for}, declared.{buffer.TranslationBuffer.{TranslationBuffer}, line.Line.{Line}}}, std.proofs.{Common.{◌==◌, nat_le}, lemmas.Bool.{and_parts}}}

canonical_three : (addr : ℕ) → addr / 4096 < 2 ^ 26 → is_canonical 2 addr ≡ true
unfolding is_canonical
canonical_three addr low = let e : addr / 2 ^ 38 ≡ 0 = omega (arith, low) in rw e refl

canonical_four : (addr : ℕ) → addr / 4096 < 2 ^ 35 → is_canonical 3 addr ≡ true
unfolding is_canonical
canonical_four addr low = let e : addr / 2 ^ 47 ≡ 0 = omega (arith, low) in rw e refl

-- the addresses of user pages are canonical
pub canonical : (mode addr : ℕ) → addr / 4096 < user_end mode → is_canonical (top_level mode) addr ≡ true
canonical mode addr low = elim (two_modes mode) [
  | inl three ↦ ap (λ top. is_canonical top addr) three.0 ∙ canonical_three addr (omega (arith, low, three.1))
  | inr four ↦ ap (λ top. is_canonical top addr) four.0 ∙ canonical_four addr (omega (arith, low, four.1))
]

-- a leaf of a page that is no larger than a page names its own frame
pub in_frame : (e page : ℕ) → frame_in 0 e page ≡ frame_of e
unfolding frame_in
in_frame e page = omega arith

-- a chain of tests, none of which holds
chain : {A : Type 0} (v r l m u gr a sd o : Bool) (e1 e2 e3 e4 e5 e6 e7 e8 ok : A) → v ≡ true → not r ≡ true → l ≡ true → m ≡ true → u ≡ true → gr ≡ true → a ≡ true
    → sd ≡ false → o ≡ false
    → (if not v then e1 else if r then e2 else if not l then e3 else if not m then e4 else if not u || not gr then e5 else if not a then e6 else if sd then e7 else if o then e8 else ok) ≡ ok
chain v true l m u gr a sd o e1 e2 e3 e4 e5 e6 e7 e8 ok hv hr hl hm hu hg ha hs ho = cc
chain v false l m u gr a sd o e1 e2 e3 e4 e5 e6 e7 e8 ok hv hr hl hm hu hg ha hs ho = rw (hv, hl, hm, hu, hg, ha, hs, ho) refl

marked : (s d : Bool) → (not s || d) ≡ true → (s && not d) ≡ false
marked true false e = cc
marked s d e = refl

answers : (count addr e : ℕ) (access : Access) → leaf_lets access e ≡ true → frame_of e < count → answer_of count addr access 0 e ≡ Ok (address_in (frame_of e) addr)
unfolding answer_of
answers count addr e access h inside =
    let h0 = and_parts (is_valid e) _ h in
    let h1 = and_parts (not (is_reserved e)) _ h0.1 in
    let h2 = and_parts (is_leaf e) _ h1.1 in
    let h3 = and_parts (is_user e) _ h2.1 in
    let h4 = and_parts (grants access e) _ h3.1 in
    let h5 = and_parts (is_accessed e) _ h4.1 in
    let whole : (frame_of e % 512 ^ 0 == 0) ≡ true = grind (arith, nat_tests) in
    let same : frame_in 0 e (addr / 4096) ≡ frame_of e = in_frame e (addr / 4096) in
    let within : nat_le count (frame_in 0 e (addr / 4096)) ≡ false = rw same (grind (arith, nat_tests, inside)) in
    chain (is_valid e) (is_reserved e) (is_leaf e) (frame_of e % 512 ^ 0 == 0) (is_user e) (grants access e) (is_accessed e)
    (is_store access && not (is_dirty e)) (nat_le count (frame_in 0 e (addr / 4096)))
    _ _ _ _ _ _ _ _ _ h0.0 h1.0 h2.0 whole h3.0 h4.0 h5.0 (marked (is_store access) (is_dirty e) h5.1) within
    ∙ ap (λ (n : ℕ). Ok (address_in n addr)) same

pub walks : (mode : ℕ) (t : FrameTable) (root page addr e : ℕ) (access : Access) → IsLine mode t root page e → addr / 4096 ≡ page → page < user_end mode
    → leaf_lets access e ≡ true → translated (top_level mode) t root addr access ≡ Ok (address_in (frame_of e) addr)
unfolding translated
walks mode t root page addr e access line at low h =
    let there : last_of t (addr / 4096) (top_level mode) root ≡ (0, e) = ap (λ (p : ℕ). last_of t p (top_level mode) root) at ∙ line.last in
    let inside : nat_le (frame_count t) root ≡ false = grind (arith, nat_tests, line.inside) in
    let c : is_canonical (top_level mode) addr ≡ true = canonical mode addr (omega (arith, at, low)) in
    rw c (rw inside (rw there (answers (frame_count t) addr e access h line.target)))

pub kept_here : (o : Option Line) (line : Line) (root page : ℕ) → o ≡ Some line → (line.root.0 == root) ≡ true → (line.page == page) ≡ true
    → leaf_for o root page ≡ Some line.leaf.0
kept_here o line root page e a b = rw e (rw a (rw b refl))

-- what a look says of every memory in which the lines are leaves
pub agrees : (b : TranslationBuffer) (root page : ℕ) (access : Access) (frame : ℕ) → Gives b root page access frame → Agrees b root page access frame
agrees b root page access frame gives = λ mode t addr coherent at low.
    let P : ℕ → Type 0 = λ n. translated (top_level mode) t root addr access ≡ Ok (address_in n addr) in
    subst P (sym gives.3) (walks mode t root page addr gives.0 access (coherent root page gives.0 gives.1) at low gives.2)

-- How runs of device calls go on.
use Rattle.disk_model.proofs.Names.{inl, inr, ⊎_elim, ◌≡◌, ◌⊎◌, ◌≤◌, ℕ, refl, sym, ap, subst, ◌∙◌, arith, cases_eq}
use Rattle.disk_model.proofs.Rows.{of_pages}
use Rattle.disk_model.specs.{Stop.{Image, MayLeave, ChangesOnly, ChangesPage, ChangesPages, IsOfPage, IsOfPages, Elapses, Names, NamesOnce}, Moments.{Nothing, Touches, LeavesNow, LeavesOnly, AsksOnly}, declared.sector_disk.SectorDisk.{Ghosts}}

module _ {D : Type 0} (g : Ghosts D) where
  -- no call at all
  pub stays : (W : ℕ → Type 0) (d : D) → Touches g W d d
  stays W d = record { content = λ k. inr refl; unsynced = λ k u. inl u; later = omega arith; moments = λ t c le left. inl left }

  -- more sectors
  pub wider : (W V : ℕ → Type 0) (old new : D) → ((k : ℕ) → W k → V k) → Touches g W old new → Touches g V old new
  wider W V old new more run = record {
    content = λ k. ⊎_elim (λ w. inl (more k w)) (λ e. inr e) (run.content k);
    unsynced = λ k u. ⊎_elim (λ o. inl o) (λ w. inr (more k w)) (run.unsynced k u);
    later = run.later;
    moments = λ t c le left. ⊎_elim (λ o. inl o)
        (λ may. inr (record { kept = λ k. ⊎_elim (⊎_elim (λ o. inl (inl o)) (λ w. inl (inr (more k w)))) (λ e. inr e) (may.kept k) }))
        (run.moments t c le left);
  }

  -- what a stop may leave after a run is what it may leave before it, with the run's sectors unsynced too
  pub seen_from : (W : ℕ → Type 0) (old new : D) (c : Image) → Touches g W old new
      → MayLeave (g.content new) (λ k. g.unsynced new k ⊎ W k) c → MayLeave (g.content old) (λ k. g.unsynced old k ⊎ W k) c
  seen_from W old new c run may = record {
    kept = λ k. ⊎_elim (⊎_elim (λ u. inl (run.unsynced k u)) (λ w. inl (inr w)))
        (λ e. ⊎_elim (λ w. inl (inr w)) (λ same. inr (e ∙ same)) (run.content k))
        (may.kept k);
  }

  -- one run after another
  pub then : (W : ℕ → Type 0) (old mid new : D) → Touches g W old mid → Touches g W mid new → Touches g W old new
  then W old mid new first second = record {
    content = λ k. ⊎_elim (λ w. inl w) (λ e. ⊎_elim (λ w. inl w) (λ e'. inr (e ∙ e')) (first.content k)) (second.content k);
    unsynced = λ k u. ⊎_elim (first.unsynced k) (λ w. inr w) (second.unsynced k u);
    later = omega (arith, first.later, second.later);
    moments = λ t c le left. ⊎_elim (first.moments t c le) (λ may. inr (seen_from W old mid c first may))
        (second.moments t c (omega (arith, le, first.later)) left);
  }

  -- calls that wrote to sectors of W alone
  pub after_sectors : (W : ℕ → Type 0) (old new : D) → ((k : ℕ) → W k ⊎ (g.content new k ≡ g.content old k))
      → ((k : ℕ) → g.unsynced new k → g.unsynced old k ⊎ W k)
      → Elapses (g.moment old) (g.moment new) (g.left_since old) (g.left_since new) (g.content new) (g.unsynced new)
      → Touches g W old new
  after_sectors W old new same marked time = record {
    content = same;
    unsynced = marked;
    later = time.later;
    moments = λ t c le left. ⊎_elim (λ o. inl o)
        (λ may. inr (record { kept = λ k. ⊎_elim (λ u. inl (marked k u)) (λ e. ⊎_elim (λ w. inl (inr w)) (λ e'. inr (e ∙ e')) (same k)) (may.kept k) }))
        (time.nothing_else t c le left);
  }

  -- a write to a sector of W
  pub after_write : (W : ℕ → Type 0) (n : ℕ) (old new : D) → W n → ChangesOnly n (g.content old) (g.content new)
      → ((k : ℕ) → g.unsynced new k → g.unsynced old k ⊎ (k ≡ n))
      → Elapses (g.moment old) (g.moment new) (g.left_since old) (g.left_since new) (g.content new) (g.unsynced new)
      → Touches g W old new
  after_write W n old new w changes marks time = after_sectors W old new (λ k. ⊎_elim (λ e. inl (here k e)) (λ ne. inr (changes.others k ne)) (cases_eq k n))
      (λ k u. ⊎_elim (λ o. inl o) (λ e. inr (here k e)) (marks k u)) time
    where
      here : (k : ℕ) → k ≡ n → W k
      here k e = subst W (sym e) w

  -- pages written to sectors of W
  pub after_pages : (W : ℕ → Type 0) (n pages : ℕ) (old new : D) → ((k : ℕ) → IsOfPages n pages k → W k) → ChangesPages n pages (g.content old) (g.content new)
      → ((k : ℕ) → g.unsynced new k → g.unsynced old k ⊎ IsOfPages n pages k)
      → Elapses (g.moment old) (g.moment new) (g.left_since old) (g.left_since new) (g.content new) (g.unsynced new)
      → Touches g W old new
  after_pages W n pages old new inside changes marks time = after_sectors W old new
      (λ k. ⊎_elim (λ w. inl (inside k w)) (λ out. inr (changes.others k out)) (of_pages n pages k))
      (λ k u. ⊎_elim (λ o. inl o) (λ w. inr (inside k w)) (marks k u)) time

  -- a page
  pub after_page : (W : ℕ → Type 0) (n : ℕ) (old new : D) → ((k : ℕ) → IsOfPage n k → W k) → ChangesPage n (g.content old) (g.content new)
      → ((k : ℕ) → g.unsynced new k → g.unsynced old k ⊎ IsOfPage n k)
      → Elapses (g.moment old) (g.moment new) (g.left_since old) (g.left_since new) (g.content new) (g.unsynced new)
      → Touches g W old new
  after_page W n old new inside changes marks time = after_pages W n 1 old new inside (record { others = changes.others }) marks time

  -- a read or a sync
  pub after_none : (W : ℕ → Type 0) (old new : D) → g.content new ≡ g.content old
      → ((k : ℕ) → g.unsynced new k → g.unsynced old k)
      → Elapses (g.moment old) (g.moment new) (g.left_since old) (g.left_since new) (g.content new) (g.unsynced new)
      → Touches g W old new
  after_none W old new same marks time = record {
    content = λ k. inr (ap (λ (f : Image). f k) same);
    unsynced = λ k u. inl (marks k u);
    later = time.later;
    moments = λ t c le left. ⊎_elim (λ o. inl o)
        (λ may. inr (record { kept = λ k. ⊎_elim (λ u. inl (inl (marks k u))) (λ e. inr (e ∙ ap (λ (f : Image). f k) same)) (may.kept k) }))
        (time.nothing_else t c le left);
  }

  -- before the first call
  pub started : (old : D) (P : Image → Type 0) → ((c : Image) → g.left_since old (g.moment old) c → MayLeave (g.content old) (g.unsynced old) c)
      → LeavesNow g old P → LeavesOnly g old old P
  started old P only_now here = record { later = omega arith; each = λ c left. here c (only_now c left); before = λ t c le left. inl left }

  -- a run more that wrote to sectors of W alone, where every image that it may leave has P
  pub goes_on : (W : ℕ → Type 0) (old mid new : D) (P : Image → Type 0) → LeavesOnly g old mid P → Touches g W mid new
      → ((c : Image) → MayLeave (g.content mid) (λ k. g.unsynced mid k ⊎ W k) c → P c) → LeavesOnly g old new P
  goes_on W old mid new P so_far run here = record {
    later = omega (arith, so_far.later, run.later);
    each = λ c left. ⊎_elim (so_far.each c) (here c) (run.moments (g.moment old) c so_far.later left);
    before = λ t c le left. ⊎_elim (so_far.before t c le) (λ may. inr (here c may)) (run.moments t c (omega (arith, le, so_far.later)) left);
  }

  -- what follows from P
  pub weaker : (old new : D) (P Q : Image → Type 0) → ((c : Image) → P c → Q c) → LeavesOnly g old new P → LeavesOnly g old new Q
  weaker old new P Q more run = record {
    later = run.later;
    each = λ c left. more c (run.each c left);
    before = λ t c le left. ⊎_elim (λ o. inl o) (λ p. inr (more c p)) (run.before t c le left);
  }

  -- two runs, one after the other
  pub joined : (old mid new : D) (P : Image → Type 0) → LeavesOnly g old mid P → LeavesOnly g mid new P → LeavesOnly g old new P
  joined old mid new P first second = record {
    later = omega (arith, first.later, second.later);
    each = λ c left. ⊎_elim (first.each c) (λ p. p) (second.before (g.moment old) c first.later left);
    before = λ t c le left. ⊎_elim (first.before t c le) (λ p. inr p) (second.before t c (omega (arith, le, first.later)) left);
  }

  -- the present moment is one of the run's
  pub holds_now : (old new : D) (P : Image → Type 0)
      → ((t : ℕ) (c : Image) → t ≤ g.moment new → MayLeave (g.content new) (g.unsynced new) c → g.left_since new t c)
      → LeavesOnly g old new P → LeavesNow g new P
  holds_now old new P counts_now run = λ c may. run.each c (counts_now (g.moment old) c run.later may)

  -- a run that wrote nothing leaves what might be left before it
  pub still_leaves : (old new : D) (P : Image → Type 0) → Touches g Nothing old new → LeavesNow g old P → LeavesNow g new P
  still_leaves old new P run here = λ c may. here c (record {
    kept = λ k. ⊎_elim (λ u. inl (⊎_elim (λ o. o) (λ none. absurd none) (run.unsynced k u)))
        (λ e. ⊎_elim (λ none. absurd none) (λ same. inr (e ∙ same)) (run.content k)) (may.kept k);
  })

  -- no call at all, or one that names no sector
  pub asks_none : (W : ℕ → Type 0) (old new : D) → ((k : ℕ) → g.asked new k ≡ g.asked old k) → AsksOnly g W old new
  asks_none W old new same = record { others = λ k. inr (same k) }

  -- a call that names sectors of W
  pub asks_named : (W V : ℕ → Type 0) (old new : D) → ((k : ℕ) → V k → W k) → Names V (g.asked old) (g.asked new) → AsksOnly g W old new
  asks_named W V old new inside names = record { others = λ k. ⊎_elim (λ v. inl (inside k v)) (λ e. inr e) (names.others k) }

  -- calls that named sectors of W once at most
  pub asks_once : (W V : ℕ → Type 0) (old new : D) → ((k : ℕ) → V k → W k) → NamesOnce V (g.asked old) (g.asked new) → AsksOnly g W old new
  asks_once W V old new inside once = record { others = λ k. ⊎_elim (λ e. inr e) (λ v. inl (inside k v.0)) (once.each k) }

  -- of more sectors
  pub asks_wider : (W V : ℕ → Type 0) (old new : D) → ((k : ℕ) → W k → V k) → AsksOnly g W old new → AsksOnly g V old new
  asks_wider W V old new more asks = record { others = λ k. ⊎_elim (λ w. inl (more k w)) (λ e. inr e) (asks.others k) }

  -- some calls, and then some more
  pub asks_then : (W : ℕ → Type 0) (old mid new : D) → AsksOnly g W old mid → AsksOnly g W mid new → AsksOnly g W old new
  asks_then W old mid new first second = record {
    others = λ k. ⊎_elim (λ w. inl w) (λ e. ⊎_elim (λ w. inl w) (λ e'. inr (e ∙ e')) (first.others k)) (second.others k);
  }

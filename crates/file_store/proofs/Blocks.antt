-- Sectors that are written before a kind is, which pools cite.
use Rattle.file_store.proofs.Names.{◌≡◌, ◌⊎◌, ℕ, ⊎_elim, inl, inr, Result, Ok, Err, OnOk, IsErrAnd, Image, Touches, Ghosts, then, wider}
use Rattle.file_store.specs.Blocks.{KindBehind, KindLast}

-- after an error nothing is said
pub none_on : {T E : Type 0} (P : Type 0) (r : Result T E) (f : E) → IsErrAnd r (λ e. e ≡ f) → OnOk r P
none_on P (Ok x) f none = absurd none
none_on P (Err e) f is = tt

module _ {D : Type 0} (g : Ghosts D) where
  -- more is written before
  pub behind_more : (V W : ℕ → Type 0) (Q R : Image → Type 0) (old mid new : D) → Touches g W old mid → ((k : ℕ) → V k → W k)
      → ((c : Image) → ((k : ℕ) → V k ⊎ (c k ≡ g.content mid k)) → Q c → R c) → KindBehind g V Q mid new → KindBehind g W R old new
  behind_more V W Q R old mid new first more into b = record {
    tables = b.tables;
    before = then g W old mid b.tables first (wider g V W mid b.tables more b.before);
    synced = b.synced;
    holds = into (g.content b.tables) b.before.content b.holds;
    kind = b.kind;
  }

  pub last_more : (V W : ℕ → Type 0) (Q R : Image → Type 0) (old mid new : D) → Touches g W old mid → ((k : ℕ) → V k → W k)
      → ((c : Image) → ((k : ℕ) → V k ⊎ (c k ≡ g.content mid k)) → Q c → R c) → KindLast g V Q mid new → KindLast g W R old new
  last_more V W Q R old mid new first more into = ⊎_elim (λ run. inl (then g W old mid new first (wider g V W mid new more run)))
      (λ b. inr (behind_more V W Q R old mid new first more into b))

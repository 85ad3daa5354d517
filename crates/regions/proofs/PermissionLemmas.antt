-- Maps in which a page that may be written may be read as well, and that the calls on rows keep them so.
use Rattle.std.{proofs.{Common.{◌≡◌, ℕ, Bool, true, false, refl, sym, ap, ◌∙◌, subst, if◌then◌else◌, Option, Some, None, IfSome}, lemmas.{Bool.{false≢true}, Nat.{and_or_self}}}, specs.Prelude.{◌-◌, ◌==◌, option_map}}
use Rattle.{vm_types.specs.{Attributes.{attr_after, with_prot}, Permission.{can_write, kept}, Rows.{in_row, replaced, removed, protected}, declared.{permission.Prot.{Prot}, region.Attr.{Attr}}}, regions.specs.Permission.{ReadsToo}}
use Rattle.regions.specs.Permission.{IsReadableMap}

-- a permission as pages keep it

kept_cases : (prot : Prot) (b : Bool) → can_write prot ≡ b → ReadsToo (kept prot)
kept_cases prot true e = λ w. rw e (ap (λ n. n == 1) (and_or_self 1 prot.0))
kept_cases prot false e = λ w. absurd (false≢true (sym e ∙ (rw e at w)))

pub reads_kept : (prot : Prot) → ReadsToo (kept prot)
reads_kept prot = kept_cases prot (can_write prot) refl

-- what the calls on rows make of a map

abbrev Reads : Option Attr → Type 0
Reads o = IfSome o (λ attr. ReadsToo attr.prot)

either : (b : Bool) (x y : Option Attr) → Reads x → Reads y → Reads (if b then x else y)
either true x y rx ry = rx
either false x y rx ry = ry

changed : (prot : Prot) (o : Option Attr) → ReadsToo prot → Reads (option_map (with_prot prot) o)
changed prot None r = tt
changed prot (Some attr) r = r

pub reads_same : (map other : ℕ → Option Attr) → ((page : ℕ) → other page ≡ map page) → IsReadableMap map → IsReadableMap other
reads_same map other same r page = subst (λ (o : Option Attr). Reads o) (sym (same page)) (r page)

pub reads_replaced : (map : ℕ → Option Attr) (first pages : ℕ) (attr : Attr) → ReadsToo attr.prot → IsReadableMap map
    → IsReadableMap (replaced map first pages attr)
reads_replaced map first pages attr new r page = either (in_row first pages page) (Some (attr_after attr (page - first))) (map page) new (r page)

pub reads_removed : (map : ℕ → Option Attr) (first pages : ℕ) → IsReadableMap map → IsReadableMap (removed map first pages)
reads_removed map first pages r page = either (in_row first pages page) None (map page) tt (r page)

pub reads_protected : (map : ℕ → Option Attr) (first pages : ℕ) (prot : Prot) → ReadsToo prot → IsReadableMap map
    → IsReadableMap (protected map first pages prot)
reads_protected map first pages prot new r page =
    either (in_row first pages page) (option_map (with_prot prot) (map page)) (map page) (changed prot (map page) new) (r page)

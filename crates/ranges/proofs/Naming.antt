-- Which pages of a run name a page of an object.
use Rattle.ranges.{proofs.Names.{◌≡◌, ℕ, false, Option, Some, None, refl, sym, ap, ◌∙◌, false≢true, Attr, Backing, Common, attr_after, backing_after, names, is_object_page, Run}, specs.Rows.{is_common}}

pub none_named : (a : Option Attr) (object page : ℕ) → a ≡ None → names a object page ≡ false
none_named a object page e = ap (λ x. names x object page) e

not_common : (b : Backing) (n object page : ℕ) → is_common b ≡ false → is_object_page (backing_after b n) object page ≡ false
not_common (Common p) n object page e = absurd (false≢true (sym e))
not_common b n object page e = refl

pub uncommon_named : (a : Option Attr) (run : Run) (n object page : ℕ) → a ≡ Some (attr_after run.attr n) → is_common run.attr.backing ≡ false → names a object page ≡ false
uncommon_named a run n object page is e = ap (λ x. names x object page) is ∙ not_common run.attr.backing n object page e

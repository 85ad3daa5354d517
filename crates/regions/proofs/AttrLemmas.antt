-- Attributes of pages that follow one another, and the test whether two are equal.
use Rattle.std.proofs.{Common.{◌≡◌, ℕ, ◌+◌, ◌≤◌, true, ◌==◌, refl, ap, ap₂, subst, add_assoc, add-zero, eqb-true, eq-eqb, arith}, lemmas.Bool.{and_parts, and_from}}
use Rattle.vm_types.specs.{declared.file.FilePage.{FilePage}, declared.object.ObjectPage.{ObjectPage}, declared.region.Attr.{Attr}, declared.region.Backing.{Backing}, declared.region.Backing.TheVariants.{Anon, Private, Shared, Common}}
use Rattle.vm_types.specs.Attributes.{backing_after, attr_after, backing_fits, file_page_eq, object_page_eq, backing_eq, attr_eq}

backing_after-add : (b : Backing) (i j : ℕ) → backing_after (backing_after b i) j ≡ backing_after b (i + j)
backing_after-add Anon i j = refl
backing_after-add (Private p) i j = ap (λ (n : ℕ). Private (record { file = p.file; page = n })) (add_assoc p.page i j)
backing_after-add (Shared p) i j = ap (λ (n : ℕ). Shared (record { file = p.file; page = n })) (add_assoc p.page i j)
backing_after-add (Common p) i j = ap (λ (n : ℕ). Common (record { object = p.object; page = n })) (add_assoc p.page i j)

pub attr_after-add : (a : Attr) (i j : ℕ) → attr_after (attr_after a i) j ≡ attr_after a (i + j)
attr_after-add a i j = ap (λ (b : Backing). let r : Attr = record { prot = a.prot; backing = b } in r) (backing_after-add a.backing i j)

backing_after-zero : (b : Backing) → backing_after b 0 ≡ b
backing_after-zero Anon = refl
backing_after-zero (Private p) = ap (λ (n : ℕ). Private (record { file = p.file; page = n })) (add-zero p.page)
backing_after-zero (Shared p) = ap (λ (n : ℕ). Shared (record { file = p.file; page = n })) (add-zero p.page)
backing_after-zero (Common p) = ap (λ (n : ℕ). Common (record { object = p.object; page = n })) (add-zero p.page)

pub attr_after-zero : (a : Attr) → attr_after a 0 ≡ a
attr_after-zero a = ap (λ (b : Backing). let r : Attr = record { prot = a.prot; backing = b } in r) (backing_after-zero a.backing)

-- a row fits from a page on where the whole does
pub backing_fits-after : (b : Backing) (i j : ℕ) → backing_fits b (i + j) → backing_fits (backing_after b i) j
backing_fits-after Anon i j h = tt
backing_fits-after _ i j h = omega arith

pub backing_fits-merged : (b : Backing) (i j : ℕ) → backing_fits (backing_after b i) j → backing_fits b (i + j)
backing_fits-merged Anon i j h = tt
backing_fits-merged _ i j h = omega arith

pub backing_fits-less : (b : Backing) (i j : ℕ) → i ≤ j → backing_fits b j → backing_fits b i
backing_fits-less Anon i j l h = tt
backing_fits-less _ i j l h = omega arith

file_page_eq-true : (a b : FilePage) → file_page_eq a b ≡ true → a ≡ b
file_page_eq-true a b e =
    let parts = and_parts (a.file == b.file) (a.page == b.page) e in
    ap₂ (λ (f n : ℕ). let p : FilePage = record { file = f; page = n } in p) (eqb-true a.file b.file parts.0) (eqb-true a.page b.page parts.1)

file_page_eq-refl : (a : FilePage) → file_page_eq a a ≡ true
file_page_eq-refl a = and_from (a.file == a.file) (a.page == a.page) (eq-eqb a.file a.file refl) (eq-eqb a.page a.page refl)

object_page_eq-true : (a b : ObjectPage) → object_page_eq a b ≡ true → a ≡ b
object_page_eq-true a b e =
    let parts = and_parts (a.object == b.object) (a.page == b.page) e in
    ap₂ (λ (o n : ℕ). let p : ObjectPage = record { object = o; page = n } in p) (eqb-true a.object b.object parts.0) (eqb-true a.page b.page parts.1)

object_page_eq-refl : (a : ObjectPage) → object_page_eq a a ≡ true
object_page_eq-refl a = and_from (a.object == a.object) (a.page == a.page) (eq-eqb a.object a.object refl) (eq-eqb a.page a.page refl)

backing_eq-true : (a b : Backing) → backing_eq a b ≡ true → a ≡ b
backing_eq-true Anon Anon e = refl
backing_eq-true (Private a) (Private b) e = ap (λ (p : FilePage). Private p) (file_page_eq-true a b e)
backing_eq-true (Shared a) (Shared b) e = ap (λ (p : FilePage). Shared p) (file_page_eq-true a b e)
backing_eq-true (Common a) (Common b) e = ap (λ (p : ObjectPage). Common p) (object_page_eq-true a b e)
backing_eq-true _ _ e = cc

backing_eq-refl : (a : Backing) → backing_eq a a ≡ true
backing_eq-refl Anon = refl
backing_eq-refl (Private p) = file_page_eq-refl p
backing_eq-refl (Shared p) = file_page_eq-refl p
backing_eq-refl (Common p) = object_page_eq-refl p

pub attr_eq-true : (a b : Attr) → attr_eq a b ≡ true → a ≡ b
attr_eq-true a b e =
    let parts = and_parts (a.prot.0 == b.prot.0) (backing_eq a.backing b.backing) e in
    ap₂ (λ (n : ℕ) (k : Backing). let r : Attr = record { prot = record { 0 = n }; backing = k } in r) (eqb-true a.prot.0 b.prot.0 parts.0) (backing_eq-true a.backing b.backing parts.1)

pub attr_eq-refl : (a : Attr) → attr_eq a a ≡ true
attr_eq-refl a = and_from (a.prot.0 == a.prot.0) (backing_eq a.backing a.backing) (eq-eqb a.prot.0 a.prot.0 refl) (backing_eq-refl a.backing)

pub attr_eq-same : (a b : Attr) → a ≡ b → attr_eq a b ≡ true
attr_eq-same a b e = subst (λ (x : Attr). attr_eq a x ≡ true) e (attr_eq-refl a)

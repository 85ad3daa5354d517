-- Lists of checks.
use Rattle.spaces.proofs.Names.{◌≡◌, ◌++◌, ◌&&◌, not, Bool, true, false, if◌then◌else◌, List, [], ◌∷◌, Some, None, refl, subst, and_parts, same_Some, Errno, Check, first_of}
use Rattle.vm_types.specs.Prefix.{is_io_error}

-- put one after the other
pub first_of-append : (xs ys : List Check) → first_of xs ≡ None → first_of (xs ++ ys) ≡ first_of ys
first_of-append [] ys e = refl
first_of-append (x ∷ xs) ys e =
    elim x.0 as (λ (b : Bool). (if b then Some x.1 else first_of xs) ≡ None → (if b then Some x.1 else first_of (xs ++ ys)) ≡ first_of ys) [
      | true ↦ λ k. cc
      | false ↦ λ k. first_of-append xs ys k
    ] e

pub first_of-some : (xs : List Check) (errno : Errno) → first_of xs ≡ Some errno → (ys : List Check) → first_of (xs ++ ys) ≡ Some errno
first_of-some [] errno e ys = cc
first_of-some (x ∷ xs) errno e ys =
    elim x.0 as (λ (b : Bool). (if b then Some x.1 else first_of xs) ≡ Some errno → (if b then Some x.1 else first_of (xs ++ ys)) ≡ Some errno) [
      | true ↦ λ k. k
      | false ↦ λ k. first_of-some xs errno k ys
    ] e

-- whether EIO is the error of none of them
abbrev pub lacks_io_error : List Check → Bool
lacks_io_error [] = true
lacks_io_error (x ∷ xs) = not (is_io_error x.1) && lacks_io_error xs

pub first_of-other : (xs : List Check) (errno : Errno) → lacks_io_error xs ≡ true → first_of xs ≡ Some errno → not (is_io_error errno) ≡ true
first_of-other [] errno none e = cc
first_of-other (x ∷ xs) errno none e =
    let parts = and_parts (not (is_io_error x.1)) (lacks_io_error xs) none in
    elim x.0 as (λ (b : Bool). (if b then Some x.1 else first_of xs) ≡ Some errno → not (is_io_error errno) ≡ true) [
      | true ↦ λ k. subst (λ (n : Errno). not (is_io_error n) ≡ true) (same_Some x.1 errno k) parts.0
      | false ↦ λ k. first_of-other xs errno parts.1 k
    ] e

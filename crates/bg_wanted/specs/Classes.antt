-- What makes terms, by numbers: types of maps by the first term that speaks of them.
use Rattle.std.specs.Prelude.{◌≡◌, ℕ, zero, suc, Bool, false, ◌&&◌, if◌then◌else◌, List, [], ◌∷◌, length, Option, Some, None, slice_get}
use Rattle.bg_ast.specs.Values.{Ty, KeyType}
use Rattle.bg_sense.specs.Types.{key_types_eq, ty_eq}
use Rattle.bg_terms.specs.Terms.{Head, Applies, Selects, Updates, Differs, Term}
use Rattle.bg_wanted.specs.declared.class.Class.{Class}
use Rattle.bg_wanted.specs.declared.class.Class.TheVariants as class

-- whether a head speaks of maps of this type
abbrev pub speaks : Head → List KeyType → Ty → Bool
speaks (Applies f) ks t = false
speaks (Selects ls u) ks t = key_types_eq ls ks && ty_eq u t
speaks (Updates ls u) ks t = key_types_eq ls ks && ty_eq u t
speaks (Differs ls u j) ks t = key_types_eq ls ks && ty_eq u t

abbrev pub speaks_there : Option Term → List KeyType → Ty → Bool
speaks_there None ks t = false
speaks_there (Some x) ks t = speaks x.head ks t

-- the first of these places at which a term speaks of maps of this type
abbrev pub first_met : List Term → List KeyType → Ty → List ℕ → Option ℕ
first_met ts ks t [] = None
first_met ts ks t (m ∷ ms) = if speaks_there (slice_get ts m) ks t then Some m else first_met ts ks t ms

-- the place of the first among so many terms that speaks of maps of this type, where the first of these has place a
abbrev pub first_before : List KeyType → Ty → (i a : ℕ) → List Term → Option ℕ
first_before ks t zero a ts = None
first_before ks t (suc i) a [] = None
first_before ks t (suc i) a (x ∷ xs) = if speaks x.head ks t then Some a else first_before ks t i (suc a) xs

-- for each type of maps the first of these places is that of the first among so many terms that speaks of it
abbrev pub AreMet : List Term → ℕ → List ℕ → Type 0
AreMet ts i met = (ks : List KeyType) (t : Ty) → first_met ts ks t met ≡ first_before ks t i 0 ts

abbrev pub or_zero : Option ℕ → ℕ
or_zero None = zero
or_zero (Some a) = a

-- the place of the first term that speaks of maps of this type
abbrev pub place_of : List KeyType → Ty → List Term → ℕ
place_of ks t ts = or_zero (first_before ks t (length ts) 0 ts)

-- the term with this number has this head
pub record HasHead (ts : List Term) (a : ℕ) (h : Head) : Type 0 where
  pub term : Term
  pub is_there : slice_get ts a ≡ Some term
  pub head : term.head ≡ h

abbrev pub class_in : List Term → Head → Class
class_in ts (Applies f) = class.Function f
class_in ts (Selects ks t) = class.Select (place_of ks t ts)
class_in ts (Updates ks t) = class.Update (place_of ks t ts)
class_in ts (Differs ks t j) = class.Part (place_of ks t ts) j

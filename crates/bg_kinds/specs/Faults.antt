-- Faults of types, and which of them is answered.
use Rattle.std.specs.Prelude.{◌≡◌, Bool, true, false, ◌&&◌, ◌||◌, if◌then◌else◌, List, [], ◌∷◌, ◌++◌, Option, Some, None, nat_lt, ◌==◌}
use Rattle.bg_base.specs.declared.pos.Pos.{Pos}
use Rattle.bg_text.specs.Trees.{Id}
use Rattle.bg_ast.specs.Values as v
use Rattle.bg_sense.specs.Types.{ty_eq}

-- what is wanted: a map of any type, or this type
pub data Wanted : Type 0 where
  SomeMap : Wanted
  Wants : v.Ty → Wanted

pub data Fault : Type 0 where
  CyclicSynonym : Id → Fault
  MapIndex : Pos → Fault
  Arity : Pos → Fault
  Mismatch : Pos → Wanted → v.Ty → Fault
  Nonlinear : Pos → Fault

abbrev pub position_of : Fault → Pos
position_of (CyclicSynonym name) = name.pos
position_of (MapIndex p) = p
position_of (Arity p) = p
position_of (Mismatch p w t) = p
position_of (Nonlinear p) = p

-- whether a position stands before another
abbrev pub precedes : Pos → Pos → Bool
precedes p q = nat_lt p.line q.line || (p.line == q.line && nat_lt p.column q.column)

-- whether a fault stands before another
abbrev pub comes_before : Fault → Fault → Bool
comes_before f g = precedes (position_of f) (position_of g)

-- what holds of each fault of a list
abbrev pub EachOf : (Fault → Type 0) → List Fault → Type 0
EachOf P [] = Unit {0}
EachOf P (f ∷ fs) = P f × EachOf P fs

-- the fault that is answered, of lists in which inner faults stand before outer ones: none stands before it, and those
-- of its position come behind it in the list
pub record IsFirst (fault : Fault) (faults : List Fault) : Type 0 where
  pub before : List Fault
  pub behind : List Fault
  pub split : faults ≡ before ++ fault ∷ behind
  pub first : EachOf (λ f. comes_before fault f ≡ true) before
  pub least : EachOf (λ f. comes_before f fault ≡ false) behind

-- the better of a fault that was found before, and one more
abbrev pub earlier : Option Fault → Fault → Option Fault
earlier None f = Some f
earlier (Some g) f = if comes_before f g then Some f else Some g

-- the best of a fault that was found before, and those of a list
abbrev pub first_of : Option Fault → List Fault → Option Fault
first_of best [] = best
first_of best (f ∷ fs) = first_of (earlier best f) fs

-- whether a type is one that is wanted
abbrev pub meets : Wanted → v.Ty → Bool
meets SomeMap t = v.is_map t
meets (Wants w) t = ty_eq w t

-- an expression that begins here has a type that isn't wanted
abbrev pub against : Pos → Wanted → v.Ty → List Fault
against p w t = if meets w t then [] else Mismatch p w t ∷ []

abbrev pub is_none : List Fault → Bool
is_none [] = true
is_none (f ∷ fs) = false

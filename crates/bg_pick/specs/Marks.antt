-- How far a path's clauses were looked at.
use Rattle.std.specs.Prelude.{◌≡◌, ℕ, zero, suc, ◌+◌, ◌<◌, ◌≤◌, Bool, true, false, not, ◌&&◌, List, [], ◌∷◌, length, reverse, Option, Some, None}
use Rattle.bg_formula.specs.declared.atom.Literal.{Literal}
use Rattle.bg_formula.specs.Atoms.{at}
use Rattle.bg_formula.specs.Formulas.{Formula}
use Rattle.bg_cert.specs.declared.cert.Decision.{Decision}
use Rattle.bg_cert.specs.declared.cert.Decision.TheVariants.{Atom, AtMost}
use Rattle.bg_cert.specs.Paths.{PathOf, names_false}
use Rattle.bg_cert.specs.Causes.{is_decided, has_true, is_unit, is_among}
use Rattle.bg_pick.specs.declared.hint.Hint.{Hint}
use Rattle.bg_pick.specs.declared.index.Index.{Index}
use Rattle.bg_pick.specs.declared.mark.Mark.{Mark}
use Rattle.bg_pick.specs.declared.guide.Guide.{Guide}
use Rattle.bg_pick.specs.Picks.{one_left, some_left}
use Rattle.bg_pick.specs.Index.{clause_at, Names, list_of}

-- whether a clause is there and is a unit, and its atom
abbrev pub unit_at : List Decision → Option (List Literal) → Bool
unit_at ds None = false
unit_at ds (Some c) = is_unit ds c

abbrev pub one_at : List Decision → Option (List Literal) → Option ℕ
one_at ds None = None
one_at ds (Some c) = one_left ds c

-- the clauses with a literal that a decision makes false
abbrev pub touched : Index → Option Decision → List Hint
touched i None = []
touched i (Some (Atom a s)) = list_of i a (not s)
touched i (Some (AtMost x k s)) = []

-- a path's rows: all clauses, then for each decision those that it touches
abbrev pub row_at : Index → List Decision → ℕ → List Hint
row_at i ds zero = i.start.items
row_at i ds (suc g) = touched i (at ds g)

-- what the clauses tell that were looked at: those named in a list, none of them false; those from one place to another, none
-- of them a unit; those below a place, each with a true literal
abbrev pub NoneFalse : Formula → (ℕ → Bool) → List Decision → List Hint → Type 0
NoneFalse f set ds xs = (x : Hint) → Names xs x → names_false ds (clause_at f set x) ≡ false

abbrev pub NoUnit : Formula → (ℕ → Bool) → List Decision → List Hint → ℕ → ℕ → Type 0
NoUnit f set ds xs from to = (k : ℕ) (x : Hint) → from ≤ k → k < to → at xs k ≡ Some x → unit_at ds (clause_at f set x) ≡ false

abbrev pub TrueBelow : List Decision → List (List Literal) → ℕ → Type 0
TrueBelow ds cs n = (k : ℕ) (c : List Literal) → k < n → at cs k ≡ Some c → has_true ds c ≡ true

abbrev pub DecidedBelow : List Decision → ℕ → Type 0
DecidedBelow ds n = (a : ℕ) → a < n → is_decided a ds ≡ true

-- no clause and no unit of the set is a unit
abbrev pub AllPassed : Formula → (ℕ → Bool) → List Decision → Type 0
AllPassed f set ds = (x : Hint) → unit_at ds (clause_at f set x) ≡ false

-- an atom of a unit, and of a clause without a true literal
abbrev pub IsUnitOf : Formula → (ℕ → Bool) → List Decision → ℕ → Type 0
IsUnitOf f set ds a = (x : Hint) × (one_at ds (clause_at f set x) ≡ Some a)

abbrev pub IsOpenOf : List Decision → List (List Literal) → ℕ → Type 0
IsOpenOf ds cs a = (k : ℕ) × (c : List Literal) × (at cs k ≡ Some c) × (some_left ds c ≡ Some a)

-- a clause without a true literal in which an atom stands; the one at a place; and an undecided atom of such a one
abbrev pub stands_in : ℕ → List Decision → List Literal → Bool
stands_in a ds c = not (has_true ds c) && is_among a c

abbrev pub StandsOpen : List Decision → List (List Literal) → ℕ → ℕ → Type 0
StandsOpen ds cs k a = (c : List Literal) × ((at cs k ≡ Some c) × (stands_in a ds c ≡ true))

abbrev pub IsOpenAt : List Decision → List (List Literal) → ℕ → Type 0
IsOpenAt ds cs a = (is_decided a ds ≡ false) × ((k : ℕ) × StandsOpen ds cs k a)

-- the first unit of a list, from a place on, with its atom
pub record IsFirstUnit (f : Formula) (set : ℕ → Bool) (ds : List Decision) (xs : List Hint) (from k a : ℕ) : Type 0 where
  pub behind : from ≤ k
  pub before : NoUnit f set ds xs from k
  pub hint : Hint
  pub there : at xs k ≡ Some hint
  pub one : one_at ds (clause_at f set hint) ≡ Some a

-- a hint stands at the mark or behind it
pub record IsAhead (i : Index) (ds : List Decision) (m : Mark) (x : Hint) : Type 0 where
  pub row : ℕ
  pub place : ℕ
  pub there : at (row_at i ds row) place ≡ Some x
  pub low : m.row ≤ row
  pub from : m.row ≡ row → m.place ≤ place

-- each unit is ahead of the mark, each clause before the mark's has a true literal, each atom before its atom is decided
pub record IsMark (f : Formula) (set : ℕ → Bool) (i : Index) (ds : List Decision) (m : Mark) : Type 0 where
  pub units : (x : Hint) → unit_at ds (clause_at f set x) ≡ true → IsAhead i ds m x
  pub low : m.row ≤ length ds + 1
  pub first : m.row ≡ length ds + 1 → m.place ≡ 0
  pub opens : TrueBelow ds f.clauses m.clause
  pub frees : DecidedBelow ds m.atom

-- besides, each false clause is in the last row
pub record IsReady (f : Formula) (set : ℕ → Bool) (i : Index) (ds : List Decision) (m : Mark) : Type 0 where
  pub mark : IsMark f set i ds m
  pub fresh : (x : Hint) → names_false ds (clause_at f set x) ≡ true → Names (row_at i ds (length ds)) x

-- a mark for each path
abbrev pub AllReady : Formula → (ℕ → Bool) → Index → List PathOf → List Mark → Type 0
AllReady f set i [] ms = Unit {0}
AllReady f set i (p ∷ ps) [] = ⊥
AllReady f set i (p ∷ ps) (m ∷ ms) = IsReady f set i p.decided m × AllReady f set i ps ms

-- the marks of the paths that are open, the next one first
abbrev pub marks_of : Guide → List Mark
marks_of g = g.mark ∷ reverse g.marks.items

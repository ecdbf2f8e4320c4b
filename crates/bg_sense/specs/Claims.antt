-- What is claimed of a program and a set of its candidates.
use Rattle.std.specs.Prelude.{ℕ, Bool, true, ◌||◌, List, [], ◌∷◌, Option, Some, None, slice_get, ◌++◌, ◌≡◌, ◌<◌, IsTrue, Contains}
use Rattle.bg_ast.specs.Syntax.{Decl, Proc, Impl, Prog}
use Rattle.bg_ast.specs.Execution.{Interp, State, Choice, Spot, Place}
use Rattle.bg_sense.specs.Flow.{Failed}
use Rattle.bg_sense.specs.Clauses.{is_kept}
use Rattle.bg_sense.specs.Variables.{procedure_of}
use Rattle.bg_sense.specs.Run.{source_run, induction_run}
pub use Rattle.bg_sense.specs.Types.{are_of, types_of, const_types, key_eq, key_types_eq, ty_eq}
pub use Rattle.bg_sense.specs.Tables.{val_lt, vals_lt, is_before, are_entries, is_table, is_blank, is_table_of, are_tables}
pub use Rattle.bg_sense.specs.Interps.{differs, are_distinct, all_hold, IsInterp, Meets}
pub use Rattle.bg_sense.specs.Places.{checks_of, requires_in, ensures_in, places_in, places_from, places}

-- the variables of an implementation that are no globals
abbrev pub frame_with : Option Proc → Impl → List Decl
frame_with None m = m.locals
frame_with (Some q) m = q.params ++ (q.results ++ m.locals)

-- the same, where the implementation is there
abbrev pub frame_of : Prog → Option Impl → List Decl
frame_of p None = []
frame_of p (Some m) = frame_with (procedure_of p m.procedure) m

-- a state gives each variable of an implementation a value of its type
pub record IsState (p : Prog) (k : ℕ) (s : State) : Type 0 where
  pub globals : IsTrue (are_of (types_of p.globals) s.globals)
  pub frame : IsTrue (are_of (types_of (frame_of p (slice_get p.implementations k))) s.frame)

-- no execution of the implementation fails, of any number of steps, under any interpretation that meets the program
abbrev pub Safe : Prog → (ℕ → Bool) → ℕ → Type 0
Safe p set k =
    (i : Interp) (s : State) (choices : List Choice) (n : ℕ) (spot : Spot) →
    Meets p i → IsState p k s → source_run p set i k s choices n ≡ Failed spot → ⊥

-- this induction run fails at this place
pub record Fails (p : Prog) (set : ℕ → Bool) (t : Place) (i : Interp) (s : State) (choices : List Choice) : Type 0 where
  pub meets : Meets p i
  pub state : IsState p t.implementation s
  pub fails : induction_run p set i t.implementation s choices ≡ Failed t.spot

-- no induction run fails at a place of a candidate of the set
abbrev pub Inductive : Prog → (ℕ → Bool) → Type 0
Inductive p set =
    (t : Place) (b : ℕ) → Contains (places p) t → t.candidate ≡ Some b → IsTrue (set b) →
    (i : Interp) (s : State) (choices : List Choice) → Fails p set t i s choices → ⊥

-- a set of the program's candidates
abbrev pub IsSetOf : Prog → (ℕ → Bool) → Type 0
IsSetOf p set = (b : ℕ) → IsTrue (set b) → b < p.candidates

-- a set of the program's candidates, inductive, and every inductive set of them is a part of it
pub record Greatest (p : Prog) (set : ℕ → Bool) : Type 0 where
  pub is_set : IsSetOf p set
  pub inductive : Inductive p set
  pub above : (other : ℕ → Bool) → IsSetOf p other → Inductive p other → (b : ℕ) → IsTrue (other b) → IsTrue (set b)

-- each place with this spot has a candidate of the set, or none
abbrev pub EachAt : Spot → (ℕ → Bool) → List Place → Type 0
EachAt t set [] = Unit {0}
EachAt t set (u ∷ us) = (u.spot ≡ t → is_kept set u.candidate ≡ true) × EachAt t set us

-- places with one spot have one candidate: clauses have numbers of their own
abbrev pub HasOneCandidate : Prog → Type 0
HasOneCandidate p =
    (t u : Place) → Contains (places p) t → Contains (places p) u → u.spot ≡ t.spot → u.candidate ≡ t.candidate

-- the candidates of either set
abbrev pub union : (ℕ → Bool) → (ℕ → Bool) → ℕ → Bool
union set other b = set b || other b

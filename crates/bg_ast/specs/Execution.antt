-- What an execution is given and what it answers, as data.
use Rattle.std.specs.Prelude.{ℕ, List, Option}
use Rattle.bg_ast.specs.Values.{Val, Table}

-- an interpretation: a value for each constant that is no candidate, and a table for each function without a body
pub record Interp : Type 0 where
  pub constants : List Val
  pub tables : List Table

-- the values of the variables: the globals, and the frame of parameters, results and locals
pub record State : Type 0 where
  pub globals : List Val
  pub frame : List Val

-- what an execution is given where it has a choice: the number of a branch, or a value
pub data Choice : Type 0 where
  Branch : ℕ → Choice
  Chosen : Val → Choice

-- a check: an assertion, an invariant on arrival, an invariant after a turn, a precondition of a call,
-- a postcondition. Each has the number of its clause
pub data Spot : Type 0 where
  AtAssert : (clause : ℕ) → Spot
  AtEntry : (clause : ℕ) → Spot
  AfterTurn : (clause : ℕ) → Spot
  AtCall : (site clause : ℕ) → Spot
  AtReturn : (implementation clause : ℕ) → Spot

-- a place: a check of an implementation, with the candidate of its clause
pub record Place : Type 0 where
  pub implementation : ℕ
  pub spot : Spot
  pub candidate : Option ℕ

-- How a statement leaves off, and where jumps end.
use Rattle.std.specs.Prelude.{ℕ, Bool, true, false, if◌then◌else◌, List, ◌==◌}
use Rattle.bg_ast.specs.Values.{Val}
use Rattle.bg_ast.specs.Execution.{Choice, Spot}

-- a moment of an execution: the variables, the choices that are left, and the steps that are left
pub record World : Type 0 where
  pub globals : List Val
  pub frame : List Val
  pub choices : List Choice
  pub left : ℕ

-- how an execution stands after so many steps: not over yet, at its end, blocked by an assumption, failed at a check, or
-- without the choice that it needs
pub data Answer : Type 0 where
  Going : Answer
  Ended : Answer
  Blocked : Answer
  Failed : Spot → Answer
  BadChoice : Answer

-- where a jump leads: to a label, behind a statement, or to the end of the body
pub data Point : Type 0 where
  ToLabel : ℕ → Point
  Behind : ℕ → Point
  ToEnd : Point

-- how a statement leaves off: it goes on with the next one, it jumps, or the execution is over
pub data Flow : Type 0 where
  Next : World → Flow
  Jumps : Point → World → Flow
  Over : Answer → Flow

-- what goes on is done next
abbrev pub and_then : Flow → (World → Flow) → Flow
and_then (Next w) go_on = go_on w
and_then (Jumps p w) go_on = Jumps p w
and_then (Over a) go_on = Over a

-- whether two points are the same
abbrev pub point_eq : Point → Point → Bool
point_eq (ToLabel x) (ToLabel y) = x == y
point_eq (Behind x) (Behind y) = x == y
point_eq ToEnd ToEnd = true
point_eq _ _ = false

-- a jump to this point ends here
abbrev pub land : Point → Flow → Flow
land p (Jumps q w) = if point_eq p q then Next w else Jumps q w
land p (Next w) = Next w
land p (Over a) = Over a

-- every jump ends here
abbrev pub land_all : Flow → Flow
land_all (Next w) = Next w
land_all (Jumps p w) = Next w
land_all (Over a) = Over a

-- the answer of an execution that has come to its end
abbrev pub ended : Flow → Answer
ended (Next w) = Ended
ended (Jumps p w) = Ended
ended (Over a) = a

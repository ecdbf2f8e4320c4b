-- The places of a program, and where each stands in the text.
use Rattle.std.specs.Prelude.{ℕ, suc, if◌then◌else◌, List, [], ◌∷◌, ◌++◌, Option, Some, None, slice_get}
use Rattle.bg_base.specs.declared.pos.Pos.{Pos}
use Rattle.bg_ast.specs.Execution.{Spot, AtAssert, AtEntry, AfterTurn, AtCall, AtReturn, Place}
use Rattle.bg_ast.specs.Resolved.{Clause, St, Sts, NoSt, Then, Arms, NoArm, Arm, Assert, Invoke, If, While, Proc, Impl, Program}

-- a place, the position of its clause's first word, and of a precondition that of the call
pub record Placed : Type 0 where
  pub place : Place
  pub pos : Pos
  pub call : Option Pos

abbrev pub place_in : Placed → Place
place_in a = a.place

abbrev pub placed_clause : ℕ → (ℕ → Spot) → Option Pos → Clause → Placed
placed_clause m spot call k = record { place = record { implementation = m; spot = spot k.id; candidate = k.candidate }; pos = k.pos; call = call }

-- one for each clause that is checked
abbrev pub placed_clauses : ℕ → (ℕ → Spot) → Option Pos → List Clause → List Placed
placed_clauses m spot call [] = []
placed_clauses m spot call (k ∷ ks) =
    if k.is_free then placed_clauses m spot call ks else placed_clause m spot call k ∷ placed_clauses m spot call ks

-- the clauses of a procedure, where it is there
abbrev pub requires_of : Option Proc → List Clause
requires_of None = []
requires_of (Some q) = q.requires_

abbrev pub ensures_of : Option Proc → List Clause
ensures_of None = []
ensures_of (Some q) = q.ensures_

abbrev mutual
  -- the checks of a statement, where these are the procedures: at a loop the invariants on arrival, the checks of its body, and the
  -- invariants after a turn; at a call the preconditions
  pub placed_st : List Proc → ℕ → St → List Placed
  placed_st qs m (Assert k) = placed_clauses m AtAssert None (k ∷ [])
  placed_st qs m (Invoke k) = placed_clauses m (AtCall k.site) (Some k.pos) (requires_of (slice_get qs k.procedure))
  placed_st qs m (If n arms otherwise) = placed_arms qs m arms ++ placed_sts qs m otherwise
  placed_st qs m (While n p g is body) =
      placed_clauses m AtEntry None is ++ (placed_sts qs m body ++ placed_clauses m AfterTurn None is)
  placed_st qs m _ = []

  pub placed_sts : List Proc → ℕ → Sts → List Placed
  placed_sts qs m NoSt = []
  placed_sts qs m (Then a b) = placed_st qs m a ++ placed_sts qs m b

  pub placed_arms : List Proc → ℕ → Arms → List Placed
  placed_arms qs m NoArm = []
  placed_arms qs m (Arm g body arms) = placed_sts qs m body ++ placed_arms qs m arms

-- the checks of an implementation: those of its body, and the postconditions
abbrev pub placed_impl : List Proc → ℕ → Impl → List Placed
placed_impl qs m i =
    placed_sts qs m i.body ++ placed_clauses m (AtReturn m) None (ensures_of (slice_get qs i.procedure))

-- those of these implementations, numbered from m
abbrev pub placed_from : List Proc → ℕ → List Impl → List Placed
placed_from qs m [] = []
placed_from qs m (i ∷ is) = placed_impl qs m i ++ placed_from qs (suc m) is

-- those of a program, by implementation
abbrev pub placed : Program → List Placed
placed p = placed_from p.procedures 0 p.implementations

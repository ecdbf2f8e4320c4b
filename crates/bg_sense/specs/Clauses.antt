-- Clauses are checked or assumed; those of a candidate outside the set are absent.
use Rattle.std.specs.Prelude.{ℕ, Bool, true, false, ◌&&◌, if◌then◌else◌, List, [], ◌∷◌, Option, Some, None}
use Rattle.bg_ast.specs.Values.{truth_of}
use Rattle.bg_ast.specs.Syntax.{Ex, Clause}
use Rattle.bg_ast.specs.Execution.{Spot}
use Rattle.bg_sense.specs.Eval.{Scope, ev}
use Rattle.bg_sense.specs.Flow.{World, Blocked, Failed, Over, Next, Flow, and_then}
use Rattle.bg_sense.specs.Context.{Ctx, step}

-- whether a clause is there: one of a candidate outside the set is absent
abbrev pub is_kept : (ℕ → Bool) → Option ℕ → Bool
is_kept set None = true
is_kept set (Some b) = set b

-- a check: it passes, or the execution fails there
abbrev pub ensure : Bool → Spot → World → Flow
ensure true spot w = Next w
ensure false spot w = Over (Failed spot)

-- an assumption: it holds, or the execution is blocked
abbrev pub suppose : Bool → World → Flow
suppose true w = Next w
suppose false w = Over Blocked

-- a clause that is checked and there
abbrev pub is_checked : (ℕ → Bool) → Clause → Bool
is_checked set c = (if c.is_free then false else true) && is_kept set c.candidate

-- a clause is checked, or passed over
abbrev pub check : Ctx → (ℕ → Spot) → (World → Scope) → Clause → World → Flow
check c spot sees k w =
    if is_checked c.set k
    then and_then (step c.loops w) (λ v. ensure (truth_of (ev k.says (sees v))) (spot k.id) v)
    else Next w

-- clauses are checked in order
abbrev pub check_all : Ctx → (ℕ → Spot) → (World → Scope) → List Clause → World → Flow
check_all c spot sees [] w = Next w
check_all c spot sees (k ∷ ks) w = and_then (check c spot sees k w) (check_all c spot sees ks)

-- an expression is assumed, which takes a step
abbrev pub suppose_that : Ctx → (World → Scope) → Ex → World → Flow
suppose_that c sees e w = and_then (step c.loops w) (λ v. suppose (truth_of (ev e (sees v))) v)

-- expressions are assumed in order
abbrev pub suppose_all : Ctx → (World → Scope) → List Ex → World → Flow
suppose_all c sees [] w = Next w
suppose_all c sees (e ∷ es) w = and_then (suppose_that c sees e w) (suppose_all c sees es)

-- a free clause that is there
abbrev pub is_free_kept : (ℕ → Bool) → Clause → Bool
is_free_kept set c = c.is_free && is_kept set c.candidate

-- any clause that is there
abbrev pub is_there : (ℕ → Bool) → Clause → Bool
is_there set c = is_kept set c.candidate

-- what the clauses that pass this test say
abbrev pub says_of : (Clause → Bool) → List Clause → List Ex
says_of which [] = []
says_of which (k ∷ ks) = if which k then k.says ∷ says_of which ks else says_of which ks

-- The places of a program: where a check stands.
use Rattle.std.specs.Prelude.{ℕ, suc, if◌then◌else◌, List, [], ◌∷◌, Option, Some, None, ◌++◌}
use Rattle.bg_ast.specs.Syntax.{Clause, St, Assert, If, While, Then, Invoke, Proc, Impl, Prog}
use Rattle.bg_ast.specs.Execution.{AtAssert, AtCall, AtReturn, AtEntry, Spot, AfterTurn, Place}
use Rattle.bg_sense.specs.Variables.{procedure_of}

-- one place for each clause that is checked
abbrev pub checks_of : ℕ → (ℕ → Spot) → List Clause → List Place
checks_of m spot [] = []
checks_of m spot (k ∷ ks) =
    if k.is_free
    then checks_of m spot ks
    else record { implementation = m; spot = spot k.id; candidate = k.candidate } ∷ checks_of m spot ks

-- the preconditions of a procedure
abbrev pub requires_in : Option Proc → List Clause
requires_in None = []
requires_in (Some q) = q.requires_

-- the postconditions of a procedure
abbrev pub ensures_in : Option Proc → List Clause
ensures_in None = []
ensures_in (Some q) = q.ensures_

-- the checks of a statement, in the order of the text
abbrev pub places_in : Prog → ℕ → St → List Place
places_in p m (Then a b) = places_in p m a ++ places_in p m b
places_in p m (Assert k) = checks_of m AtAssert (k ∷ [])
places_in p m (Invoke k) = checks_of m (AtCall k.site) (requires_in (procedure_of p k.procedure))
places_in p m (If n g a b) = places_in p m a ++ places_in p m b
places_in p m (While n g invariants a) =
    checks_of m AtEntry invariants ++ (places_in p m a ++ checks_of m AfterTurn invariants)
places_in p m _ = []

-- the places of these implementations, numbered from m: each body, and the postconditions
abbrev pub places_from : Prog → ℕ → List Impl → List Place
places_from p m [] = []
places_from p m (i ∷ is) =
    (places_in p m i.body ++ checks_of m (AtReturn m) (ensures_in (procedure_of p i.procedure))) ++ places_from p (suc m) is

-- the places of a program, by implementation
abbrev pub places : Prog → List Place
places p = places_from p 0 p.implementations

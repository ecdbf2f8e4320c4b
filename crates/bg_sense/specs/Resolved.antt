-- What name resolution owes besides types: numbers of their own, and lists in order.
use Rattle.std.specs.Prelude.{◌≡◌, ◌≤◌, ◌<◌, ℕ, suc, false, List, [], ◌∷◌, ◌++◌, length, map, Option, Some, None, slice_get, All, Contains}
use Rattle.bg_ast.specs.Syntax.{Clause, St, Then, Label, Assert, Invoke, If, While, Proc, Impl, Prog}

-- no number stands twice
abbrev pub AreDifferent : List ℕ → Type 0
AreDifferent [] = Unit {0}
AreDifferent (n ∷ ns) = (Contains ns n → ⊥) × AreDifferent ns

-- numbers that rise, from low on and below high
abbrev pub Rise : ℕ → ℕ → List ℕ → Type 0
Rise low high [] = Unit {0}
Rise low high (n ∷ ns) = (low ≤ n) × (n < high) × Rise (suc n) high ns

-- the clauses of a statement
abbrev pub clauses_in : St → List Clause
clauses_in (Then a b) = clauses_in a ++ clauses_in b
clauses_in (Assert k) = k ∷ []
clauses_in (If n g a b) = clauses_in a ++ clauses_in b
clauses_in (While n g invariants a) = invariants ++ clauses_in a
clauses_in _ = []

-- the numbers of its calls
abbrev pub calls_in : St → List ℕ
calls_in (Then a b) = calls_in a ++ calls_in b
calls_in (Invoke k) = k.site ∷ []
calls_in (If n g a b) = calls_in a ++ calls_in b
calls_in (While n g invariants a) = calls_in a
calls_in _ = []

-- the procedures that it calls
abbrev pub called_in : St → List ℕ
called_in (Then a b) = called_in a ++ called_in b
called_in (Invoke k) = k.procedure ∷ []
called_in (If n g a b) = called_in a ++ called_in b
called_in (While n g invariants a) = called_in a
called_in _ = []

-- the numbers of its loops and conditionals
abbrev pub branches_in : St → List ℕ
branches_in (Then a b) = branches_in a ++ branches_in b
branches_in (If n g a b) = n ∷ (branches_in a ++ branches_in b)
branches_in (While n g invariants a) = n ∷ branches_in a
branches_in _ = []

-- its labels
abbrev pub labels_in : St → List ℕ
labels_in (Then a b) = labels_in a ++ labels_in b
labels_in (Label l) = l ∷ []
labels_in (If n g a b) = labels_in a ++ labels_in b
labels_in (While n g invariants a) = labels_in a
labels_in _ = []

-- the clauses of specifications
abbrev pub specified : List Proc → List Clause
specified [] = []
specified (q ∷ qs) = q.requires_ ++ (q.ensures_ ++ specified qs)

-- what all bodies have
abbrev pub in_bodies : {A : Type 0} → (St → List A) → List Impl → List A
in_bodies some [] = []
in_bodies some (m ∷ ms) = some m.body ++ in_bodies some ms

-- the clauses of a program
abbrev pub clauses_of : Prog → List Clause
clauses_of p = specified p.procedures ++ in_bodies clauses_in p.implementations

-- a clause's candidate is one of the program's, and the clause is checked
abbrev pub HasCandidate : ℕ → Option ℕ → Clause → Type 0
HasCandidate candidates None k = Unit {0}
HasCandidate candidates (Some b) k = (b < candidates) × (k.is_free ≡ false)

-- procedures that are named are there; clauses, calls, loops and conditionals have numbers of their own, and so have the labels
-- of each body; each `modifies` names declared globals, by declaration; and candidates are the program's, and guard checked
-- clauses alone
pub record IsResolved (p : Prog) : Type 0 where
  pub implemented : All (λ m. m.procedure < length p.procedures) p.implementations
  pub called : All (λ k. k < length p.procedures) (in_bodies called_in p.implementations)
  pub clauses : AreDifferent (map (λ k. k.id) (clauses_of p))
  pub calls : AreDifferent (in_bodies calls_in p.implementations)
  pub branches : AreDifferent (in_bodies branches_in p.implementations)
  pub labels : All (λ m. AreDifferent (labels_in m.body)) p.implementations
  pub modifies : (k : ℕ) (q : Proc) → slice_get p.procedures k ≡ Some q → Rise 0 (length p.globals) q.modifies
  pub candidates : (k : Clause) → Contains (clauses_of p) k → HasCandidate p.candidates k.candidate k

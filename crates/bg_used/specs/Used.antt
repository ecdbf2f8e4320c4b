-- Certificates whose leaves tell the decisions that they use.
use Rattle.std.specs.Prelude.{ℕ, suc, ◌==◌, nat_lt, Bool, true, false, ◌&&◌, ◌||◌, cond, List, [], ◌∷◌, ◌++◌, map, Option, Some, None, ℤ}
use Rattle.std.specs.Ordering.{int_eq}
use Rattle.bg_rows.specs.Rows.{RowOf}
use Rattle.bg_rows.specs.declared.step.Step.{Step}
use Rattle.bg_rows.specs.Steps.{derives}
use Rattle.bg_formula.specs.declared.atom.Literal.{Literal}
use Rattle.bg_formula.specs.Atoms.{at}
use Rattle.bg_formula.specs.Formulas.{Formula, unit_atom}
use Rattle.bg_formula.specs.Meaning.{same}
use Rattle.bg_cert.specs.declared.cert.Decision.{Decision}
use Rattle.bg_cert.specs.declared.cert.Decision.TheVariants.{Atom, AtMost}
use Rattle.bg_cert.specs.Paths.{row_of_decision, rows_on, denials}
use Rattle.bg_cert.specs.Certs.{NodeOf, Splits, Bounds, IsClause, IsUnit, Derives, is_there}
use Rattle.bg_conflict.specs.Picked.{renumbered}

-- ---- decisions

abbrev pub same_decision : Decision → Decision → Bool
same_decision (Atom a s) (Atom b t) = a == b && same s t
same_decision (Atom a s) (AtMost x k t) = false
same_decision (AtMost x k s) (Atom b t) = false
same_decision (AtMost x k s) (AtMost y j t) = x == y && (int_eq k j && same s t)

abbrev pub is_in : Decision → List Decision → Bool
is_in d [] = false
is_in d (e ∷ ds) = same_decision d e || is_in d ds

abbrev pub all_in : List Decision → List Decision → Bool
all_in [] ds = true
all_in (e ∷ es) ds = is_in e ds && all_in es ds

abbrev pub without : Decision → List Decision → List Decision
without d [] = []
without d (e ∷ es) = cond (same_decision e d) (without d es) (e ∷ without d es)

-- ---- derivations

-- the number of a decision's row among those of a path
abbrev pub bump : Option RowOf → ℕ → ℕ
bump None n = n
bump (Some r) n = suc n

abbrev pub row_place : (Decision → Option RowOf) → Decision → List Decision → ℕ
row_place row d [] = 0
row_place row d (e ∷ ds) = cond (same_decision d e) 0 (bump (row e) (row_place row d ds))

abbrev pub place_if : Option RowOf → ℕ → List ℕ → List ℕ
place_if None n ns = ns
place_if (Some r) n ns = n ∷ ns

-- the numbers of the rows of some decisions among those of a path that has them
abbrev pub places : (Decision → Option RowOf) → List Decision → List Decision → List ℕ
places row [] ds = []
places row (e ∷ es) ds = place_if (row e) (row_place row e ds) (places row es ds)

-- ---- proofs

-- a case tree whose derivations stand over decisions of their own
pub data Proof : Type 0 where
  ByClause : ℕ → Proof
  ByUnit : ℕ → Proof
  ByRows : List Decision → List Step → Proof
  OnAtom : ℕ → Proof → Proof → Proof
  OnBound : ℕ → ℤ → Proof → Proof → Proof

abbrev pub denials_of : Option (List Literal) → List Decision
denials_of None = []
denials_of (Some c) = denials c

abbrev pub denial_of : Option ℕ → List Decision
denial_of None = []
denial_of (Some a) = Atom a false ∷ []

-- what a proof uses: at a node what its sides use, without the node's own decisions
abbrev pub used : Formula → Proof → List Decision
used f (ByClause c) = denials_of (at f.clauses c)
used f (ByUnit c) = denial_of (unit_atom f c)
used f (ByRows ds ss) = ds
used f (OnAtom a p q) = without (Atom a true) (used f p) ++ without (Atom a false) (used f q)
used f (OnBound x k p q) = without (AtMost x k true) (used f p) ++ without (AtMost x k false) (used f q)

-- what holds of a proof by itself, on no path
abbrev pub proves : Formula → (ℕ → Bool) → Proof → Bool
proves f set (ByClause c) = is_there (at f.clauses c)
proves f set (ByUnit c) = set c && is_there (unit_atom f c)
proves f set (ByRows ds ss) = derives (rows_on f.atoms ds) [] false ss
proves f set (OnAtom a p q) = is_there (at f.atoms a) && (proves f set p && proves f set q)
proves f set (OnBound x k p q) = nat_lt x f.terms && (proves f set p && proves f set q)

-- the certificate's nodes on a path
abbrev pub nodes_on : Formula → List Decision → Proof → List NodeOf
nodes_on f ds (ByClause c) = IsClause c ∷ []
nodes_on f ds (ByUnit c) = IsUnit c ∷ []
nodes_on f ds (ByRows es ss) = Derives (map (renumbered (places (row_of_decision f.atoms) es ds)) ss) ∷ []
nodes_on f ds (OnAtom a p q) = Splits a ∷ (nodes_on f (ds ++ (Atom a true ∷ [])) p ++ nodes_on f (ds ++ (Atom a false ∷ [])) q)
nodes_on f ds (OnBound x k p q) = Bounds x k ∷ (nodes_on f (ds ++ (AtMost x k true ∷ [])) p ++ nodes_on f (ds ++ (AtMost x k false ∷ [])) q)

-- a formula of one clause, that its only atom isn't so
abbrev pub denied : Formula
denied = record { terms = 0; atoms = []; clauses = (record { atom = 0; sign = false } ∷ []) ∷ []; candidates = [] }

-- Paths of a case tree, and what they decide.
use Rattle.std.specs.Prelude.{ℕ, Bool, true, false, not, ◌&&◌, ◌||◌, ◌==◌, List, [], ◌∷◌, ◌++◌, Option, Some, None, ℤ, pos, negsuc, ◌-ℤ◌, int_le}
use Rattle.bg_rows.specs.Rows.{RowOf, entry}
use Rattle.bg_formula.specs.declared.atom.Literal.{Literal}
use Rattle.bg_formula.specs.Atoms.{AtomOf, IsRow, at}
use Rattle.bg_formula.specs.Meaning.{Valuation, same, signed}
use Rattle.bg_formula.specs.Instances.{SignedAtom, with_clauses, numbered}
use Rattle.bg_cert.specs.declared.cert.Decision.{Decision}
use Rattle.bg_cert.specs.declared.cert.Decision.TheVariants.{Atom, AtMost}

-- a path: the formula with the instances that it added, what it decided, in order, and the lemmas that are known on it
pub record PathOf : Type 0 where
  pub atoms : List AtomOf
  pub clauses : List (List Literal)
  pub decided : List Decision
  pub lemmas : List (List Literal)

abbrev pub with_decision : PathOf → Decision → PathOf
with_decision p d = record p { decided = p.decided ++ (d ∷ []) }

abbrev pub with_added : PathOf → List (List SignedAtom) → PathOf
with_added p cs =
    record p { atoms = with_clauses p.atoms cs; clauses = p.clauses ++ numbered p.atoms cs }

-- each literal the other way, in order
abbrev pub denials : List Literal → List Decision
denials [] = []
denials (l ∷ ls) = Atom l.atom (not l.sign) ∷ denials ls

-- the two paths below a lemma: on one all its literals are false, on the other it is known
abbrev pub with_denied : PathOf → List Literal → PathOf
with_denied p ls = record p { decided = p.decided ++ denials ls }

abbrev pub with_lemma : PathOf → List Literal → PathOf
with_lemma p ls = record p { lemmas = p.lemmas ++ (ls ∷ []) }

-- ---- what a path decides

-- whether a decision gives an atom this sign
abbrev pub is_decision : ℕ → Bool → Decision → Bool
is_decision a s (Atom b t) = a == b && same s t
is_decision a s (AtMost x k t) = false

-- whether a path gives an atom this sign; it may give both, and closes then by no rule of its own
abbrev pub decides : ℕ → Bool → List Decision → Bool
decides a s [] = false
decides a s (d ∷ ds) = is_decision a s d || decides a s ds

-- each literal is decided the other way
abbrev pub clause_false : List Decision → List Literal → Bool
clause_false ds [] = true
clause_false ds (l ∷ ls) = decides l.atom (not l.sign) ds && clause_false ds ls

abbrev pub names_false : List Decision → Option (List Literal) → Bool
names_false ds None = false
names_false ds (Some c) = clause_false ds c

abbrev pub unit_false : List Decision → Option ℕ → Bool
unit_false ds None = false
unit_false ds (Some a) = decides a false ds

-- whether a valuation agrees with a decision
abbrev pub decision_true : Valuation → List AtomOf → Decision → Bool
decision_true v atoms (Atom a s) = signed v (at atoms a) s
decision_true v atoms (AtMost x k s) = same (int_le (v.numbers x) k) s

abbrev pub decided_true : Valuation → List AtomOf → List Decision → Bool
decided_true v atoms [] = true
decided_true v atoms (d ∷ ds) = decision_true v atoms d && decided_true v atoms ds

-- ---- the rows of a path

-- the row `x <= k`
abbrev pub at_most : ℕ → ℤ → RowOf
at_most x k = record { entries = entry x (pos 1) ∷ []; bound = k }

-- the row `-x <= -1 - k`
abbrev pub above : ℕ → ℤ → RowOf
above x k = record { entries = entry x (negsuc 0) ∷ []; bound = negsuc 0 -ℤ k }

abbrev pub row_of_atom : Option AtomOf → Bool → Option RowOf
row_of_atom (Some (IsRow r d)) true = Some r
row_of_atom (Some (IsRow r d)) false = Some d
row_of_atom _ s = None

abbrev pub row_of_decision : List AtomOf → Decision → Option RowOf
row_of_decision atoms (Atom a s) = row_of_atom (at atoms a) s
row_of_decision atoms (AtMost x k true) = Some (at_most x k)
row_of_decision atoms (AtMost x k false) = Some (above x k)

abbrev pub in_front : {A : Type 0} → Option A → List A → List A
in_front None xs = xs
in_front (Some x) xs = x ∷ xs

-- in the order of the path, those of its linear decisions
abbrev pub rows_on : List AtomOf → List Decision → List RowOf
rows_on atoms [] = []
rows_on atoms (d ∷ ds) = in_front (row_of_decision atoms d) (rows_on atoms ds)

-- Certificates, and which are accepted.
use Rattle.std.specs.Prelude.{◌≡◌, ℕ, Bool, true, false, ◌&&◌, ◌||◌, ◌==◌, ◌+◌, ◌++◌, List, [], ◌∷◌, map, length, Option, Some, None, ℤ, nat_lt}
use Rattle.bg_rows.specs.declared.step.Step.{Step}
use Rattle.bg_rows.specs.Steps.{derives}
use Rattle.bg_formula.specs.declared.atom.Literal.{Literal}
use Rattle.bg_formula.specs.Atoms.{AtomOf, at, view_linear}
use Rattle.bg_formula.specs.Formulas.{Formula, unit_atom, rows_below}
use Rattle.bg_formula.specs.Meaning.{Valuation, clauses_true, MeetsUnits}
use Rattle.bg_formula.specs.Instances.{Instance, SignedAtom, added_true}
use Rattle.bg_cert.specs.declared.cert.Decision.TheVariants.{Atom, AtMost}
use Rattle.bg_cert.specs.declared.cert.Node.{Node}
use Rattle.bg_cert.specs.declared.cert.Node.TheVariants.{Split, Bound, Cut, Lemma, Clause, Unit, Known, Rows}
use Rattle.bg_cert.specs.declared.cert.Named.{Named}
use Rattle.bg_cert.specs.declared.cert.Named.TheVariants.{OfAtom, OfRow}
use Rattle.bg_cert.specs.declared.cert.Cert.{Cert}
use Rattle.bg_cert.specs.Paths.{PathOf, names_false, unit_false, rows_on, with_decision, with_added, with_denied, with_lemma}

-- a node of a case tree
pub data NodeOf : Type 0 where
  Splits : ℕ → NodeOf
  Bounds : ℕ → ℤ → NodeOf
  Cuts : ℕ → NodeOf
  Learns : List Named → NodeOf
  Adds : Instance → NodeOf
  IsClause : ℕ → NodeOf
  IsUnit : ℕ → NodeOf
  IsKnown : ℕ → NodeOf
  Derives : List Step → NodeOf

abbrev pub node_of : Node → NodeOf
node_of (Split a) = Splits a
node_of (Bound x k) = Bounds x k
node_of (Cut r) = Cuts r
node_of (Lemma ls) = Learns ls.items
node_of (Clause c) = IsClause c
node_of (Unit c) = IsUnit c
node_of (Known i) = IsKnown i
node_of (Rows steps) = Derives steps.items

abbrev pub is_there : {A : Type 0} → Option A → Bool
is_there None = false
is_there (Some x) = true

-- a certificate: the rows of its table, each with its denial, and its nodes
pub record CertOf : Type 0 where
  pub table : List AtomOf
  pub nodes : List NodeOf

abbrev pub cert_of : Cert → CertOf
cert_of c = record { table = map view_linear c.table.items; nodes = map node_of c.nodes.items }

-- a certificate without rows of its own
abbrev pub bare : List NodeOf → CertOf
bare ns = record { table = []; nodes = ns }

-- a lemma's literal as one over the path's atoms, where the table's rows stand behind the formula's n atoms
abbrev pub literal_of : ℕ → Named → Literal
literal_of n (OfAtom a s) = record { atom = a; sign = s }
literal_of n (OfRow r s) = record { atom = n + r; sign = s }

abbrev pub lemma_of : ℕ → List Named → List Literal
lemma_of n ls = map (literal_of n) ls

-- each literal's atom is there
abbrev pub all_there : List AtomOf → List Literal → Bool
all_there atoms [] = true
all_there atoms (l ∷ ls) = is_there (at atoms l.atom) && all_there atoms ls

-- a leaf's claim about its path
abbrev pub closes : Formula → (ℕ → Bool) → PathOf → NodeOf → Bool
closes f set p (IsClause c) = names_false p.decided (at p.clauses c)
closes f set p (IsUnit c) = set c && unit_false p.decided (unit_atom f c)
closes f set p (IsKnown i) = names_false p.decided (at p.lemmas i)
closes f set p (Derives steps) = derives (rows_on p.atoms p.decided) [] false steps
closes f set p _ = false

-- the nodes are one tree for each path that is open, in this order
abbrev pub accepts : Formula → (ℕ → Bool) → (Instance → Option (List (List SignedAtom))) → List PathOf → List NodeOf → Bool
accepts f set adds [] [] = true
accepts f set adds [] (n ∷ ns) = false
accepts f set adds (p ∷ ps) [] = false
accepts f set adds (p ∷ ps) (Splits a ∷ ns) =
    is_there (at p.atoms a)
    && accepts f set adds (with_decision p (Atom a true) ∷ with_decision p (Atom a false) ∷ ps) ns
accepts f set adds (p ∷ ps) (Bounds x k ∷ ns) =
    nat_lt x f.terms
    && accepts f set adds (with_decision p (AtMost x k true) ∷ with_decision p (AtMost x k false) ∷ ps) ns
accepts f set adds (p ∷ ps) (Cuts r ∷ ns) =
    is_there (at p.atoms (length f.atoms + r))
    && accepts f set adds (with_decision p (Atom (length f.atoms + r) true) ∷ with_decision p (Atom (length f.atoms + r) false) ∷ ps) ns
accepts f set adds (p ∷ ps) (Learns ls ∷ ns) =
    all_there p.atoms (lemma_of (length f.atoms) ls)
    && accepts f set adds (with_denied p (lemma_of (length f.atoms) ls) ∷ with_lemma p (lemma_of (length f.atoms) ls) ∷ ps) ns
accepts f set adds (p ∷ ps) (Adds i ∷ ns) =
    elim (adds i) [ None ↦ false | Some cs ↦ accepts f set adds (with_added p cs ∷ ps) ns ]
accepts f set adds (p ∷ ps) (n ∷ ns) = closes f set p n && accepts f set adds ps ns

abbrev pub root : Formula → PathOf
root f = record { atoms = f.atoms; clauses = f.clauses; decided = []; lemmas = [] }

-- the root of a tree with a table, whose rows are atoms behind the formula's
abbrev pub root_with : Formula → List AtomOf → PathOf
root_with f table = record { atoms = f.atoms ++ table; clauses = f.clauses; decided = []; lemmas = [] }

-- the table's rows are over the formula's terms, and the nodes are one tree
abbrev pub is_accepted : Formula → (ℕ → Bool) → (Instance → Option (List (List SignedAtom))) → CertOf → Bool
is_accepted f set adds cert =
    rows_below f.terms cert.table && accepts f set adds (root_with f cert.table ∷ []) cert.nodes

abbrev pub Accepts : Formula → (ℕ → Bool) → (Instance → Option (List (List SignedAtom))) → CertOf → Type 0
Accepts f set adds cert = is_accepted f set adds cert ≡ true

-- no valuation meets the clauses, the units of the set and all instances
abbrev pub HasNoValuation : Formula → (ℕ → Bool) → (Instance → Option (List (List SignedAtom))) → Type 0
HasNoValuation f set adds =
    (v : Valuation) → clauses_true v f.atoms f.clauses ≡ true → MeetsUnits v f set →
    ((i : Instance) (cs : List (List SignedAtom)) → adds i ≡ Some cs → added_true v cs ≡ true) → ⊥

-- whether a certificate names the unit
abbrev pub names_unit : ℕ → NodeOf → Bool
names_unit c (IsUnit b) = b == c
names_unit c _ = false

abbrev pub uses : List NodeOf → ℕ → Bool
uses [] c = false
uses (n ∷ ns) c = names_unit c n || uses ns c

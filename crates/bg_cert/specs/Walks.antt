-- A walk through a tree without lemmas, as the paths that are open.
use Rattle.std.specs.Prelude.{ℕ, ◌+◌, ◌≤◌, Bool, false, cond, List, [], ◌∷◌, ◌++◌, take, length, slice_index_or, Option, None}
use Rattle.bg_formula.specs.Formulas.{Formula}
use Rattle.bg_formula.specs.Instances.{Instance, SignedAtom}
use Rattle.bg_cert.specs.declared.cert.Decision.{Decision}
use Rattle.bg_cert.specs.declared.walk.Waiting.{Waiting}
use Rattle.bg_cert.specs.declared.walk.Walk.{Walk}
use Rattle.bg_cert.specs.Paths.{PathOf}
use Rattle.bg_cert.specs.Counts.{Fits}

-- a set of candidates that is kept as a list of truth values; those past its end are no members
abbrev pub has : List Bool → ℕ → Bool
has set c = slice_index_or set c false

-- no form has an instance
abbrev pub no_instance : Instance → Option (List (List SignedAtom))
no_instance i = None

abbrev pub path_of : Formula → List Decision → PathOf
path_of f trail = record { atoms = f.atoms; clauses = f.clauses; decided = trail; lemmas = [] }

abbrev pub waiting_path : Formula → List Decision → Waiting → PathOf
waiting_path f trail w = path_of f (take w.depth trail ++ (w.last ∷ []))

-- the paths that wait, the last one first, in front of others
abbrev pub below : Formula → List Decision → List Waiting → List PathOf → List PathOf
below f trail [] others = others
below f trail (w ∷ ws) others = below f trail ws (waiting_path f trail w ∷ others)

-- what the open path decided
abbrev pub decided_on : Walk → List Decision
decided_on w = w.trail.decisions.items

-- how many atoms the walk counts decisions of
abbrev pub atoms_on : Walk → ℕ
atoms_on w = length w.trail.counts.items

-- the paths that wait behind the open one
abbrev pub others_of : Formula → Walk → List PathOf
others_of f w = below f (decided_on w) w.waiting.items []

-- the paths that are open, the next one first
abbrev pub stack_of : Formula → Walk → List PathOf
stack_of f w = cond w.is_open (path_of f (decided_on w) ∷ others_of f w) []

-- depths do not fall
abbrev pub Rising : ℕ → List Waiting → Type 0
Rising low [] = Unit {0}
Rising low (w ∷ ws) = (low ≤ w.depth) × Rising w.depth ws

abbrev pub AtMostDeep : ℕ → List Waiting → Type 0
AtMostDeep high [] = Unit {0}
AtMostDeep high (w ∷ ws) = (w.depth ≤ high) × AtMostDeep high ws

abbrev pub AllFit : ℕ → List Waiting → Type 0
AllFit n [] = Unit {0}
AllFit n (w ∷ ws) = Fits n w.last × AllFit n ws

pub record IsWalk (w : Walk) : Type 0 where
  pub rising : Rising 0 w.waiting.items
  pub within : AtMostDeep (length (decided_on w)) w.waiting.items
  pub fits : AllFit (atoms_on w) w.waiting.items

-- how many paths are open
abbrev pub paths_open : Walk → ℕ
paths_open w = length w.waiting.items + cond w.is_open 1 0

-- What a path leaves undecided, and where a node may split an atom or a bound.
use Rattle.std.specs.Prelude.{ℕ, zero, suc, ◌==◌, nat_lt, Bool, true, false, not, ◌&&◌, ◌||◌, List, [], ◌∷◌, ◌++◌, length, Option, Some, None, ℤ, if◌then◌else◌}
use Rattle.std.specs.Ordering.{int_eq}
use Rattle.bg_formula.specs.declared.atom.Literal.{Literal}
use Rattle.bg_formula.specs.Formulas.{Formula, unit_atom}
use Rattle.bg_cert.specs.declared.cert.Decision.{Decision}
use Rattle.bg_cert.specs.declared.cert.Decision.TheVariants.{Atom, AtMost}
use Rattle.bg_cert.specs.Paths.{decides, clause_false}

-- ---- what a path leaves undecided

abbrev pub is_decided : ℕ → List Decision → Bool
is_decided a ds = decides a true ds || decides a false ds

abbrev pub has_true : List Decision → List Literal → Bool
has_true ds [] = false
has_true ds (l ∷ ls) = decides l.atom l.sign ds || has_true ds ls

abbrev pub undecided : List Decision → List Literal → List Literal
undecided ds [] = []
undecided ds (l ∷ ls) = if is_decided l.atom ds then undecided ds ls else l ∷ undecided ds ls

-- literals of one atom alone: atoms are counted, not literals
abbrev pub all_of : ℕ → List Literal → Bool
all_of a [] = true
all_of a (l ∷ ls) = l.atom == a && all_of a ls

abbrev pub is_one_of : ℕ → List Literal → Bool
is_one_of a [] = false
is_one_of a (l ∷ ls) = l.atom == a && all_of a ls

abbrev pub is_one : List Literal → Bool
is_one [] = false
is_one (l ∷ ls) = all_of l.atom ls

abbrev pub is_among : ℕ → List Literal → Bool
is_among a [] = false
is_among a (l ∷ ls) = l.atom == a || is_among a ls

-- a clause with exactly one undecided atom and no true literal; and one in which that atom is a
abbrev pub is_unit : List Decision → List Literal → Bool
is_unit ds c = not (has_true ds c) && is_one (undecided ds c)

abbrev pub is_unit_of : ℕ → List Decision → List Literal → Bool
is_unit_of a ds c = not (has_true ds c) && is_one_of a (undecided ds c)

abbrev pub any_unit : List Decision → List (List Literal) → Bool
any_unit ds [] = false
any_unit ds (c ∷ cs) = is_unit ds c || any_unit ds cs

abbrev pub any_unit_of : ℕ → List Decision → List (List Literal) → Bool
any_unit_of a ds [] = false
any_unit_of a ds (c ∷ cs) = is_unit_of a ds c || any_unit_of a ds cs

-- a clause without a true literal; and one in which atom a stands
abbrev pub any_open : List Decision → List (List Literal) → Bool
any_open ds [] = false
any_open ds (c ∷ cs) = not (has_true ds c) || any_open ds cs

abbrev pub any_open_of : ℕ → List Decision → List (List Literal) → Bool
any_open_of a ds [] = false
any_open_of a ds (c ∷ cs) = (not (has_true ds c) && is_among a c) || any_open_of a ds cs

abbrev pub any_false : List Decision → List (List Literal) → Bool
any_false ds [] = false
any_false ds (c ∷ cs) = clause_false ds c || any_false ds cs

-- the atom that a candidate adds, where it is a member of the set and has one
abbrev pub member_atom : Formula → (ℕ → Bool) → ℕ → Option ℕ
member_atom f set c = if set c then unit_atom f c else None

-- the unit clauses of the set, for the candidates up to a number
abbrev pub unit_clause : Option ℕ → List (List Literal)
unit_clause None = []
unit_clause (Some a) = (record { atom = a; sign = true } ∷ []) ∷ []

abbrev pub unit_clauses : Formula → (ℕ → Bool) → ℕ → List (List Literal)
unit_clauses f set zero = []
unit_clauses f set (suc c) = unit_clauses f set c ++ unit_clause (member_atom f set c)

abbrev pub units_of : Formula → (ℕ → Bool) → List (List Literal)
units_of f set = unit_clauses f set (length f.candidates)

-- ---- the rule of splitting, of n atoms: one that is there and undecided, a unit's where there is one, else one of an open
-- clause where there is one
abbrev pub may_split : ℕ → ℕ → List Decision → List (List Literal) → Bool
may_split n a ds cs =
    nat_lt a n
    && (not (is_decided a ds)
    && (if any_unit ds cs then any_unit_of a ds cs else if any_open ds cs then any_open_of a ds cs else true))

abbrev pub all_decided : ℕ → List Decision → Bool
all_decided zero ds = true
all_decided (suc n) ds = is_decided n ds && all_decided n ds

-- whether a bound node above on the path split this bound
abbrev pub is_bound : ℕ → ℤ → Decision → Bool
is_bound x k (Atom a s) = false
is_bound x k (AtMost y j s) = x == y && int_eq k j

abbrev pub has_bound : ℕ → ℤ → List Decision → Bool
has_bound x k [] = false
has_bound x k (d ∷ ds) = is_bound x k d || has_bound x k ds

-- the rule of bounds: each atom is decided, and the bound is a new one
abbrev pub may_bound : ℕ → ℕ → ℤ → List Decision → Bool
may_bound n x k ds = all_decided n ds && not (has_bound x k ds)

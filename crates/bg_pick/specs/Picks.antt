-- The first clause of a kind on a path, and what may be done there.
use Rattle.std.specs.Prelude.{◌≡◌, ℕ, ◌==◌, Bool, true, false, List, [], ◌∷◌, ◌++◌, length, Option, Some, None, if◌then◌else◌}
use Rattle.bg_formula.specs.declared.atom.Literal.{Literal}
use Rattle.bg_formula.specs.Formulas.{Formula}
use Rattle.bg_cert.specs.declared.cert.Decision.{Decision}
use Rattle.bg_cert.specs.Certs.{node_of, closes}
use Rattle.bg_cert.specs.Walks.{path_of}
use Rattle.bg_cert.specs.Causes.{has_true, undecided, any_false, any_unit, any_open, may_split, all_decided, units_of}
use Rattle.bg_pick.specs.declared.pick.Pick.{Pick}
use Rattle.bg_pick.specs.declared.pick.Pick.TheVariants.{Close, Split, Leaf}
use Rattle.bg_pick.specs.declared.left.Left.{Left}
use Rattle.bg_pick.specs.declared.left.Left.TheVariants.{Nothing, One, Several}

-- what is left of two lists, one behind the other
abbrev pub join_left : Left → Left → Left
join_left Nothing x = x
join_left (One a) Nothing = One a
join_left (One a) (One b) = if a == b then One a else Several a
join_left (One a) (Several b) = Several a
join_left (Several a) x = Several a

abbrev pub left_of : List Literal → Left
left_of [] = Nothing
left_of (l ∷ ls) = join_left (One l.atom) (left_of ls)

abbrev pub one_of : Left → Option ℕ
one_of (One a) = Some a
one_of _ = None

abbrev pub some_of : Left → Option ℕ
some_of Nothing = None
some_of (One a) = Some a
some_of (Several a) = Some a

abbrev pub one_left : List Decision → List Literal → Option ℕ
one_left ds c = if has_true ds c then None else one_of (left_of (undecided ds c))

abbrev pub some_left : List Decision → List Literal → Option ℕ
some_left ds c = if has_true ds c then None else some_of (left_of (undecided ds c))

-- none of these units is left undecided
abbrev pub UnitsDone : List Decision → List (List Literal) → Type 0
UnitsDone ds us = (any_unit ds us ≡ false) × (any_false ds us ≡ false → any_open ds us ≡ false)

-- nothing is false, and the atom may be split
pub record MaySplit (f : Formula) (set : ℕ → Bool) (ds : List Decision) (a : ℕ) : Type 0 where
  pub fine : any_false ds (f.clauses ++ units_of f set) ≡ false
  pub rule : may_split (length f.atoms) a ds (f.clauses ++ units_of f set) ≡ true

-- nothing is false, and nothing is left to decide
pub record IsComplete (f : Formula) (set : ℕ → Bool) (ds : List Decision) : Type 0 where
  pub fine : any_false ds (f.clauses ++ units_of f set) ≡ false
  pub decided : all_decided (length f.atoms) ds ≡ true

-- what may be done at a path
abbrev pub IsPick : Formula → (ℕ → Bool) → List Decision → Pick → Type 0
IsPick f set ds (Close n) = closes f set (path_of f ds) (node_of n) ≡ true
IsPick f set ds (Split choice) = MaySplit f set ds choice.atom
IsPick f set ds Leaf = IsComplete f set ds

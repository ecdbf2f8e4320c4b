-- The truth values of atoms and what stands for the values of incarnations, by a path that decides every atom and a point.
use Rattle.std.specs.Prelude.{ℕ, zero, suc, ◌+◌, ℤ, pos, nat_eq, Bool, true, false, ◌||◌, if◌then◌else◌, List, [], ◌∷◌, slice_get, slice_set, unwrap_or}
use Rattle.bg_rows.specs.declared.entry.Entry.{Entry}
use Rattle.bg_formula.specs.Atoms.{AtomOf, IsTruth, IsRow}
use Rattle.bg_cert.specs.declared.cert.Decision.{Decision}
use Rattle.bg_cert.specs.declared.cert.Decision.TheVariants.{Atom, AtMost}
use Rattle.bg_point.specs.declared.spot.Spot.{Spot}
use Rattle.bg_linear.specs.declared.scalar.Sort.{Sort}
use Rattle.bg_linear.specs.declared.scalar.Sort.TheVariants as sort
use Rattle.bg_atoms.specs.Ranks.{one_for}
use Rattle.bg_scalar.specs.declared.scalar.Scalar.{Scalar}
use Rattle.bg_scalar.specs.declared.scalar.Scalar.TheVariants.{Truth, Number}

-- the truth values with those that a decision makes true
abbrev pub marked_by : Decision → List Bool → List Bool
marked_by (Atom a true) ts = slice_set ts a true
marked_by (Atom a false) ts = ts
marked_by (AtMost x k s) ts = ts

abbrev pub marked : List Decision → List Bool → List Bool
marked [] ts = ts
marked (d ∷ ds) ts = marked ds (marked_by d ts)

-- the marks with those of what entries name, an atom's row, or some row
abbrev pub noted_by : List Entry → List Bool → List Bool
noted_by [] bs = bs
noted_by (t ∷ ts) bs = noted_by ts (slice_set bs t.variable true)

abbrev pub noted_in : AtomOf → List Bool → List Bool
noted_in (IsTruth y) bs = bs
noted_in (IsRow r d) bs = noted_by r.entries bs

abbrev pub noted : List AtomOf → List Bool → List Bool
noted [] bs = bs
noted (a ∷ xs) bs = noted xs (noted_in a bs)

-- the numbers with those of the point's variables
abbrev pub numbered : List Spot → List ℤ → List ℤ
numbered [] zs = zs
numbered (s ∷ ss) zs = slice_set (numbered ss zs) s.variable s.value

-- whether some entry is of this variable
abbrev pub names : ℕ → List Entry → Bool
names x [] = false
names x (t ∷ ts) = nat_eq x t.variable || names x ts

-- whether the row of some atom names the term with this number
abbrev pub speaks_of : ℕ → List AtomOf → Bool
speaks_of x [] = false
speaks_of x (IsTruth y ∷ xs) = speaks_of x xs
speaks_of x (IsRow r d ∷ xs) = names x r.entries || speaks_of x xs

-- the number of a spot's variable; what has no spot has this one
abbrev pub value_or : ℤ → List Spot → ℕ → ℤ
value_or z [] x = z
value_or z (s ∷ ss) x = if nat_eq x s.variable then s.value else value_or z ss x

-- the number at a complete leaf: that of the point, and without one the target of what no row names, 0 of all else
abbrev pub leaf_number : (ℕ → ℤ) → List AtomOf → List Spot → ℕ → ℤ
leaf_number targets atoms spots x = value_or (if speaks_of x atoms then pos 0 else targets x) spots x

-- the numbers without a point of so many incarnations and terms, the first of which has number j
abbrev pub unnamed : (ℕ → ℤ) → List AtomOf → ℕ → ℕ → List ℤ
unnamed targets atoms j zero = []
unnamed targets atoms j (suc n) = (if speaks_of j atoms then pos 0 else targets j) ∷ unnamed targets atoms (suc j) n

-- the same by marks of what some row names
abbrev pub unnamed_by : (ℕ → ℤ) → ℕ → List Bool → List ℤ
unnamed_by targets j [] = []
unnamed_by targets j (b ∷ bs) = (if b then pos 0 else targets j) ∷ unnamed_by targets (suc j) bs

-- what stands for the value of an incarnation or a term, by its sort; what is neither a number nor a truth value is not said
abbrev pub scalar_for : Sort → ℤ → Bool → Scalar
scalar_for sort.Truth z b = Truth b
scalar_for sort.Number z b = Number z
scalar_for sort.Other z b = Number (pos 0)

-- the scalars of incarnations and terms, the first of which has number j, and n truth values before it
abbrev pub scalars_from : List Bool → List ℤ → ℕ → ℕ → List Sort → List Scalar
scalars_from ts zs j n [] = []
scalars_from ts zs j n (s ∷ ss) =
    scalar_for s (unwrap_or (slice_get zs j) (pos 0)) (unwrap_or (slice_get ts n) false)
    ∷ scalars_from ts zs (suc j) (n + one_for s) ss

-- Statements and arms in front of others.
use Rattle.std.proofs.Common.{◌≡◌, List, [], ◌∷◌, ◌++◌, refl, ap}
use Rattle.bg_ast.specs.Resolved as r
use Rattle.bg_ast.specs.Views.{sts_from, Armed, arms_from}

abbrev pub in_front : List r.St → r.Sts → r.Sts
in_front [] rest = rest
in_front (a ∷ xs) rest = r.Then a (in_front xs rest)

pub one_more : (xs : List r.St) (a : r.St) (rest : r.Sts) → in_front (xs ++ a ∷ []) rest ≡ in_front xs (r.Then a rest)
one_more [] a rest = refl
one_more (b ∷ xs) a rest = ap (r.Then b) (one_more xs a rest)

pub all : (xs : List r.St) → in_front xs r.NoSt ≡ sts_from xs
all [] = refl
all (a ∷ xs) = ap (r.Then a) (all xs)

abbrev pub arms_in_front : List Armed → r.Arms → r.Arms
arms_in_front [] rest = rest
arms_in_front (a ∷ xs) rest = r.Arm a.0 a.1 (arms_in_front xs rest)

pub one_arm_more : (xs : List Armed) (a : Armed) (rest : r.Arms) → arms_in_front (xs ++ a ∷ []) rest ≡ arms_in_front xs (r.Arm a.0 a.1 rest)
one_arm_more [] a rest = refl
one_arm_more (b ∷ xs) a rest = ap (r.Arm b.0 b.1) (one_arm_more xs a rest)

pub all_arms : (xs : List Armed) → arms_in_front xs r.NoArm ≡ arms_from xs
all_arms [] = refl
all_arms (a ∷ xs) = ap (r.Arm a.0 a.1) (all_arms xs)

pub ruleset front_forms = (one_more, all, one_arm_more, all_arms)

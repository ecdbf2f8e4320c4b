-- What is counted along a tree's parts are the nodes that count.
use Rattle.std.proofs.Common.{◌≡◌, ℕ, ◌+◌, Bool, true, false, List, [], ◌∷◌, ◌++◌, refl, ap, append-nil, append_assoc, arith}
use Rattle.bg_cert.specs.declared.cert.Node.TheVariants.{Split, Bound as BoundNode, Cut, Lemma, Clause, Unit as UnitNode, Known, Rows}
use Rattle.bg_tree.specs.declared.part.Part.{Part}
use Rattle.bg_tree.specs.Counts.{Beside, Alone, After, cost, passed, counted}
use Rattle.bg_tree.specs.Shapes.{Shape, IsOpen, IsClosed, Splits, Halves, AreLeaves, parts_of, is_closed, count}

not_passed : (b : Beside) (bs : List Beside) → passed b false bs ≡ bs
not_passed Alone bs = refl
not_passed (After c) bs = refl

passed_first : (c : Bool) (bs : List Beside) → passed Alone c (After false ∷ bs) ≡ After c ∷ bs
passed_first true bs = refl
passed_first false bs = refl

leaf_sum : (n m : ℕ) → n + m ≡ (n + 0) + m
leaf_sum n m = omega arith

counted_on : (t : Shape) (b : Beside) (bs : List Beside) (rest : List Part) → AreLeaves t → counted (b ∷ bs) (parts_of t ++ rest) ≡ (cost b (is_closed t) + count t) + counted (passed b (is_closed t) bs) rest
counted_on IsOpen b bs rest l = leaf_sum (cost b false) (counted (passed b false bs) rest)
counted_on (IsClosed (Split a)) b bs rest l = absurd l
counted_on (IsClosed (Clause c)) b bs rest l = leaf_sum (cost b true) (counted (passed b true bs) rest)
counted_on (IsClosed (UnitNode c)) b bs rest l = leaf_sum (cost b true) (counted (passed b true bs) rest)
counted_on (IsClosed (Rows ss)) b bs rest l = leaf_sum (cost b true) (counted (passed b true bs) rest)
counted_on (IsClosed (BoundNode x k)) b bs rest l = leaf_sum (cost b true) (counted (passed b true bs) rest)
counted_on (IsClosed (Cut r)) b bs rest l = leaf_sum (cost b true) (counted (passed b true bs) rest)
counted_on (IsClosed (Lemma ls)) b bs rest l = leaf_sum (cost b true) (counted (passed b true bs) rest)
counted_on (IsClosed (Known i)) b bs rest l = leaf_sum (cost b true) (counted (passed b true bs) rest)
counted_on (Splits a t u) b bs rest l =
    let s = append_assoc (parts_of t) (parts_of u) rest in
    let x = counted_on t Alone (After false ∷ bs) (parts_of u ++ rest) l.0 in
    let y = counted_on u (After (is_closed t)) bs rest l.1 in
    let p = ap (λ qs. counted qs (parts_of u ++ rest)) (passed_first (is_closed t) bs) in
    let z = ap (counted (Alone ∷ After false ∷ bs)) s in
    let q = ap (λ qs. counted qs rest) (not_passed b bs) in
    omega (arith, x, y, p, z, q)
counted_on (Halves k t u) b bs rest l =
    let s = append_assoc (parts_of t) (parts_of u) rest in
    let x = counted_on t Alone (After false ∷ bs) (parts_of u ++ rest) l.0 in
    let y = counted_on u (After (is_closed t)) bs rest l.1 in
    let p = ap (λ qs. counted qs (parts_of u ++ rest)) (passed_first (is_closed t) bs) in
    let z = ap (counted (Alone ∷ After false ∷ bs)) s in
    let q = ap (λ qs. counted qs rest) (not_passed b bs) in
    omega (arith, x, y, p, z, q)

root_cost : (c : Bool) → cost Alone c ≡ 0
root_cost c = refl

none_behind : (c : Bool) → counted (passed Alone c []) [] ≡ 0
none_behind true = refl
none_behind false = refl

pub counted_tree : (t : Shape) → AreLeaves t → counted (Alone ∷ []) (parts_of t) ≡ count t
counted_tree t l =
    let x = counted_on t Alone [] [] l in
    let y = ap (counted (Alone ∷ [])) (append-nil (parts_of t)) in
    let z = none_behind (is_closed t) in
    omega (arith, x, y, z)

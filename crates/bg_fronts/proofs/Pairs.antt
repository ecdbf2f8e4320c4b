-- Lists of pairs, from the back.
use Rattle.std.proofs.Common.{◌≡◌, ℕ, zero, suc, ◌<◌, ◌≤◌, Bool, List, [], ◌∷◌, length, drop, get_or, refl, sym, ap, ◌∙◌, inl, inr, arith}
use Rattle.std.specs.Prelude.{◌==◌, ◌⊎◌}
use Rattle.bg_ast.specs.declared.resolved.Expr.{Expr}
use Rattle.bg_ast.specs.Syntax.{Ex, Exs, Binary, And, Fact, More}
use Rattle.bg_terms.specs.Instances.{equal, all_equal}
use Rattle.bg_term_table.specs.Views.{meaning, meanings, listed}

abbrev pub from : ℕ → List Expr → Exs
from k xs = listed (meanings (drop k xs))

drop_at : (xs : List Expr) (k : ℕ) (d : Expr) → k < length xs → drop k xs ≡ get_or xs k d ∷ drop (suc k) xs
drop_at [] k d l = absurd (omega (arith, l))
drop_at (x ∷ xs) zero d l = refl
drop_at (x ∷ xs) (suc k) d l = drop_at xs k d (omega (arith, l))

-- where one list is at its end, both are, or they differ in length
pub pairs_start : (xs ys : List Expr) (k : ℕ) (b : Bool) → k ≤ length xs → k ≤ length ys → (k ≡ length xs) ⊎ (k ≡ length ys) → b ≡ (length xs == length ys) → Fact b ≡ all_equal (from k xs) (from k ys)
pairs_start [] [] zero b l m o e = ap Fact (e ∙ grind arith)
pairs_start [] [] (suc k) b l m o e = absurd (omega (arith, l))
pairs_start [] (y ∷ ys) zero b l m o e = ap Fact (e ∙ grind arith)
pairs_start [] (y ∷ ys) (suc k) b l m o e = absurd (omega (arith, l))
pairs_start (x ∷ xs) [] zero b l m o e = ap Fact (e ∙ grind arith)
pairs_start (x ∷ xs) [] (suc k) b l m o e = absurd (omega (arith, m))
pairs_start (x ∷ xs) (y ∷ ys) zero b l m (inl o) e = absurd (omega (arith, o))
pairs_start (x ∷ xs) (y ∷ ys) zero b l m (inr o) e = absurd (omega (arith, o))
pairs_start (x ∷ xs) (y ∷ ys) (suc k) b l m (inl o) e =
    pairs_start xs ys k b (omega (arith, l)) (omega (arith, m)) (inl (omega (arith, o))) (e ∙ grind arith)
pairs_start (x ∷ xs) (y ∷ ys) (suc k) b l m (inr o) e =
    pairs_start xs ys k b (omega (arith, l)) (omega (arith, m)) (inr (omega (arith, o))) (e ∙ grind arith)

-- one more pair in front
pub pairs_more : (xs ys : List Expr) (k j : ℕ) (d f : Expr) (one made now : Ex) → j ≡ suc k → k < length xs → k < length ys → made ≡ all_equal (from j xs) (from j ys) → one ≡ equal (meaning (get_or xs k d)) (meaning (get_or ys k f)) → now ≡ Binary And one made → now ≡ all_equal (from k xs) (from k ys)
pairs_more xs ys k j d f one made now step l m h o n =
    n
    ∙ (ap (λ x. Binary And x made) o
    ∙ (ap (Binary And (equal (meaning (get_or xs k d)) (meaning (get_or ys k f)))) (h ∙ ap (λ i. all_equal (from i xs) (from i ys)) step)
    ∙ (ap (λ zs. all_equal (listed (meanings zs)) (More (meaning (get_or ys k f)) (from (suc k) ys))) (sym (drop_at xs k d l))
    ∙ ap (λ zs. all_equal (from k xs) (listed (meanings zs))) (sym (drop_at ys k f m)))))

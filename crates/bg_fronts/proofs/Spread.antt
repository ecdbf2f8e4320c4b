-- Arguments one by one.
use Rattle.std.proofs.Common.{◌≡◌, ℕ, List, ◌∷◌, sym, ap, ◌∙◌}
use Rattle.bg_ast.specs.declared.resolved.Expr.{Expr}
use Rattle.bg_ast.specs.Values.{KeyType, Ty}
use Rattle.bg_ast.specs.Syntax.{Ex, Exs, Binary, And, Implies, More}
use Rattle.bg_terms.specs.Terms.{Term}
use Rattle.bg_terms.specs.Instances.{term, equal, all_equal, are_parts, apart_of}
use Rattle.bg_term_table.specs.Views.{meaning, meanings, listed}

abbrev pub args : List Expr → Exs
args xs = listed (meanings xs)

pub split_args : (xs : List Expr) (x : Expr) (rest : List Expr) → xs ≡ x ∷ rest → args xs ≡ More (meaning x) (args rest)
split_args xs x rest e = ap args e

-- ---- selects at the index at which maps differ

module _ (n : ℕ) (ts : List Term) (s r : ℕ) (ks : List KeyType) (t : Ty) (ss rs : List Expr) where
  module _ (m : Expr) (index : List Expr) (e : ss ≡ m ∷ index) where
    pub one_map : (o : Expr) (others : List Expr) → rs ≡ o ∷ others → (parts same there alike premise conclusion made : Ex) → parts ≡ are_parts n ts ks t 0 (meaning m) (meaning o) ks (args index) → same ≡ all_equal (args index) (args others) → there ≡ Binary And parts same → alike ≡ equal (term n s) (term n r) → premise ≡ Binary And there alike → conclusion ≡ equal (meaning m) (meaning o) → made ≡ Binary Implies premise conclusion → made ≡ apart_of n ts s r ks t (args ss) (args rs)
    one_map o others f parts same there alike premise conclusion made p q h a b c d =
        d
        ∙ (ap (λ z. Binary Implies z conclusion) (b ∙ (ap (λ z. Binary And z alike) (h ∙ (ap (λ z. Binary And z same) p ∙ ap (Binary And (are_parts n ts ks t 0 (meaning m) (meaning o) ks (args index))) q)) ∙ ap (Binary And (Binary And (are_parts n ts ks t 0 (meaning m) (meaning o) ks (args index)) (all_equal (args index) (args others)))) a))
        ∙ (ap (Binary Implies (Binary And (Binary And (are_parts n ts ks t 0 (meaning m) (meaning o) ks (args index)) (all_equal (args index) (args others))) (equal (term n s) (term n r)))) c
        ∙ sym (ap (λ l. apart_of n ts s r ks t l (args rs)) (split_args ss m index e) ∙ ap (apart_of n ts s r ks t (More (meaning m) (args index))) (split_args rs o others f))))

-- Nodes of what is claimed of constants: three for each pair of unique constants of a type, and those of the axioms.
use Rattle.std.proofs.Common.{◌≡◌, ℕ, suc, ◌+◌, ◌*◌, Bool, true, false, List, [], ◌∷◌, ◌++◌, length, map, Option, refl, sym, ap, ◌∙◌, arith}
use Rattle.std.specs.Prelude.{if◌then◌else◌}
use Rattle.bg_ast.specs.Values.{Ty}
use Rattle.bg_ast.specs.Resolved as r
use Rattle.bg_ast.specs.Views.{exs_of}
use Rattle.bg_places.specs.Counts.{capped, nodes, nodes_of}
use Rattle.bg_sense.specs.Types.{ty_eq}
use Rattle.bg_opened.specs.Unique.{uniques, pairs_with, pairs, unique_pairs}
use Rattle.bg_opened.specs.Written.{all_opened, apart, constants_of, claims}
use Rattle.bg_expanded.specs.Bodies.{IsAlike, IsCountOf}
use Rattle.bg_expanded.specs.Pairs.{count_with, pair_count}
use Rattle.bg_expanded.specs.declared.count.Count.{Count}
use Rattle.bg_expanded.proofs.Alike.{alike_sum}

length_both : {A : Type 0} (xs ys : List A) → length (xs ++ ys) ≡ length xs + length ys
length_both [] ys = omega arith
length_both (x ∷ xs) ys = let h = length_both xs ys in omega arith

pub length_with : (k : ℕ) (t : Ty) (xs : List (ℕ × Ty)) → length (pairs_with k t xs) ≡ count_with t xs
length_with k t [] = refl
length_with k t (x ∷ xs) = by (ty_eq t x.1) (length_with k t xs)
  where
    by : (b : Bool) → length (pairs_with k t xs) ≡ count_with t xs → length {A = ℕ × ℕ} ((if b then (k, x.0) ∷ [] else []) ++ pairs_with k t xs) ≡ (if b then 1 else 0) + count_with t xs
    by true e = let one : suc (length (pairs_with k t xs)) ≡ 1 + count_with t xs = omega (arith, e) in one
    by false e = let none : length (pairs_with k t xs) ≡ 0 + count_with t xs = omega (arith, e) in none

pairs_length : (xs : List (ℕ × Ty)) → length (pairs xs) ≡ pair_count xs
pairs_length [] = refl
pairs_length (x ∷ xs) =
    let a = length_both (pairs_with x.0 x.1 xs) (pairs xs) in
    let b = length_with x.0 x.1 xs in
    let c = pairs_length xs in
    omega arith

module _ (table : List (Option Count)) (o : r.Ex → r.Ex) (tells : IsCountOf table o) where
  abbrev Nodes : List r.Ex → ℕ
  Nodes es = nodes_of (all_opened o (exs_of es))

  apart_nodes : (qs : List (ℕ × ℕ)) (es : List r.Ex) → IsAlike (Nodes (map apart qs ++ es)) (3 * length qs + Nodes es)
  apart_nodes [] es = let same : Nodes es ≡ 3 * 0 + Nodes es = omega arith in ap capped same
  apart_nodes (q ∷ qs) es =
      let one : IsAlike (nodes (o (apart q))) 3 = tells (apart q) in
      let same : 3 + (3 * length qs + Nodes es) ≡ 3 * suc (length qs) + Nodes es = omega arith in
      alike_sum (nodes (o (apart q))) (Nodes (map apart qs ++ es)) 3 (3 * length qs + Nodes es) one (apart_nodes qs es)
      ∙ ap capped same

  pub claims_counted : (p : r.Program) (told : List (ℕ × Ty)) → told ≡ uniques 0 (constants_of p) → (old first new : ℕ) → IsAlike first (old + 3 * pair_count told) → IsAlike new (first + Nodes p.axioms) → IsAlike new (old + Nodes (claims p))
  claims_counted p told e old first new a b =
      let qs = unique_pairs (constants_of p) in
      let is : length qs ≡ pair_count told = pairs_length (uniques 0 (constants_of p)) ∙ ap pair_count (sym e) in
      let all : IsAlike (Nodes (claims p)) (3 * length qs + Nodes p.axioms) = apart_nodes qs p.axioms in
      added old first new (pair_count told) (length qs) (Nodes p.axioms) (Nodes (claims p)) is all a b
    where
      added : (old first new x l n whole : ℕ) → l ≡ x → IsAlike whole (3 * l + n) → IsAlike first (old + 3 * x) → IsAlike new (first + n) → IsAlike new (old + whole)
      added old first new x l n whole is all a b = omega (arith, is, all, a, b)

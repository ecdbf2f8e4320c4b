-- Parts of an index, from the back.
use Rattle.std.proofs.Common.{◌≡◌, ℕ, zero, suc, ◌<◌, ◌≤◌, Bool, List, [], ◌∷◌, length, drop, get_or, refl, sym, ap, ◌∙◌, inl, inr, arith}
use Rattle.std.specs.Prelude.{◌==◌, ◌⊎◌}
use Rattle.bg_ast.specs.declared.resolved.Expr.{Expr}
use Rattle.bg_ast.specs.Values.{KeyType, Ty}
use Rattle.bg_ast.specs.Syntax.{Ex, Exs, Binary, And, Fact, More}
use Rattle.bg_terms.specs.Terms.{Term}
use Rattle.bg_terms.specs.Instances.{are_parts, is_part, read_at}
use Rattle.bg_term_table.specs.Views.{meaning, meanings, listed}
use Rattle.bg_fronts.proofs.Pairs.{from}

drop_at : {A : Type 0} (xs : List A) (k : ℕ) (d : A) → k < length xs → drop k xs ≡ get_or xs k d ∷ drop (suc k) xs
drop_at [] k d l = absurd (omega (arith, l))
drop_at (x ∷ xs) zero d l = refl
drop_at (x ∷ xs) (suc k) d l = drop_at xs k d (omega (arith, l))

pub sized : (j l n q : ℕ) → l ≡ n → (j ≡ n) ⊎ (j ≡ q) → (j ≡ l) ⊎ (j ≡ q)
sized j l n q e (inl h) = inl (h ∙ sym e)
sized j l n q e (inr h) = inr h

module _ (n : ℕ) (ts : List Term) (ks : List KeyType) (t : Ty) (m o : Ex) where
  abbrev pub parts : ℕ → List KeyType → Exs → Ex
  parts j ls qs = are_parts n ts ks t j m o ls qs

  -- where one list is at its end, both are, or they differ in length
  pub parts_start : (ls : List KeyType) (qs : List Expr) (k j : ℕ) (b : Bool) → k ≤ length ls → k ≤ length qs → (k ≡ length ls) ⊎ (k ≡ length qs) → b ≡ (length ls == length qs) → Fact b ≡ parts j (drop k ls) (from k qs)
  parts_start [] [] zero j b l q e h = ap Fact (h ∙ grind arith)
  parts_start [] [] (suc k) j b l q e h = absurd (omega (arith, l))
  parts_start [] (y ∷ ys) zero j b l q e h = ap Fact (h ∙ grind arith)
  parts_start [] (y ∷ ys) (suc k) j b l q e h = absurd (omega (arith, l))
  parts_start (x ∷ xs) [] zero j b l q e h = ap Fact (h ∙ grind arith)
  parts_start (x ∷ xs) [] (suc k) j b l q e h = absurd (omega (arith, q))
  parts_start (x ∷ xs) (y ∷ ys) zero j b l q (inl e) h = absurd (omega (arith, e))
  parts_start (x ∷ xs) (y ∷ ys) zero j b l q (inr e) h = absurd (omega (arith, e))
  parts_start (x ∷ xs) (y ∷ ys) (suc k) j b l q (inl e) h =
      parts_start xs ys k j b (omega (arith, l)) (omega (arith, q)) (inl (omega (arith, e))) (h ∙ grind arith)
  parts_start (x ∷ xs) (y ∷ ys) (suc k) j b l q (inr e) h =
      parts_start xs ys k j b (omega (arith, l)) (omega (arith, q)) (inr (omega (arith, e))) (h ∙ grind arith)

  both_dropped : (ls : List KeyType) (qs : List Expr) (k : ℕ) (d : KeyType) (f : Expr) → k < length ls → k < length qs → parts k (drop k ls) (from k qs) ≡ Binary And (is_part ks t k m o (read_at n ts (meaning (get_or qs k f)))) (parts (suc k) (drop (suc k) ls) (from (suc k) qs))
  both_dropped ls qs k d f l q =
      ap (λ zs. parts k zs (from k qs)) (drop_at ls k d l)
      ∙ ap (λ zs. parts k (get_or ls k d ∷ drop (suc k) ls) (listed (meanings zs))) (drop_at qs k f q)

  -- one more part in front
  pub parts_more : (ls : List KeyType) (qs : List Expr) (k j : ℕ) (d : KeyType) (f : Expr) (one made now : Ex) → j ≡ suc k → k < length ls → k < length qs → made ≡ parts j (drop j ls) (from j qs) → one ≡ is_part ks t k m o (read_at n ts (meaning (get_or qs k f))) → now ≡ Binary And one made → now ≡ parts k (drop k ls) (from k qs)
  parts_more ls qs k j d f one made now step l q h e is =
      is
      ∙ (ap (λ x. Binary And x made) e
      ∙ (ap (Binary And (is_part ks t k m o (read_at n ts (meaning (get_or qs k f))))) (h ∙ ap (λ i. parts i (drop i ls) (from i qs)) step)
      ∙ sym (both_dropped ls qs k d f l q)))

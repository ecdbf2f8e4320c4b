-- Equal keys of rows.
use Rattle.std.proofs.Common.{◌≡◌, ℕ, Bool, true, List, ap, ◌∙◌, subst, ℤ}
use Rattle.std.specs.Prelude.{◌==◌, ◌&&◌}
use Rattle.std.specs.Ordering.{is_eq, int_eq}
use Rattle.std.specs.Bool.{Decides, one_answer}
use Rattle.std.specs.Cmp.{unsigned_Decides, signed_Decides}
use Rattle.std.specs.Cmp.Lexicographic.{pointwise, pointwise_decides}
use Rattle.bg_rows.specs.Keys.{KeyOf, key_cmp}
use Rattle.bg_rows.proofs.Keyed.{key_is, key_same}
use Rattle.bg_formed.proofs.Below.{and_left, and_right, and_both}
use Rattle.bg_atoms.specs.Tables.{key_eq}

pair_decides : (p q : ℕ × ℤ) → Decides ((p.0 == q.0) && int_eq p.1 q.1) (p ≡ q)
pair_decides p q = (there, back)
  where
    there : ((p.0 == q.0) && int_eq p.1 q.1) ≡ true → p ≡ q
    there h =
        let a = (unsigned_Decides p.0 q.0).0 (and_left (p.0 == q.0) (int_eq p.1 q.1) h) in
        let b = (signed_Decides p.1 q.1).0 (and_right (p.0 == q.0) (int_eq p.1 q.1) h) in
        ap (λ z. (z, p.1)) a ∙ ap (λ z. (q.0, z)) b

    back : p ≡ q → ((p.0 == q.0) && int_eq p.1 q.1) ≡ true
    back e = and_both (p.0 == q.0) (int_eq p.1 q.1) ((unsigned_Decides p.0 q.0).1 (ap (λ (z : ℕ × ℤ). z.0) e)) ((signed_Decides p.1 q.1).1 (ap (λ (z : ℕ × ℤ). z.1) e))

same_pairs : (xs ys : List (ℕ × ℤ)) → Decides (pointwise (λ p q. (p.0 == q.0) && int_eq p.1 q.1) xs ys) (xs ≡ ys)
same_pairs xs ys = pointwise_decides pair_decides xs ys

key_decides : (x y : KeyOf) → Decides (key_eq x y) (x ≡ y)
key_decides x y = (there, back)
  where
    lists : Bool
    lists = pointwise (λ p q. (p.0 == q.0) && int_eq p.1 q.1) x.0 y.0

    there : key_eq x y ≡ true → x ≡ y
    there h =
        let a = (same_pairs x.0 y.0).0 (and_left lists (int_eq x.1 y.1) h) in
        let b = (signed_Decides x.1 y.1).0 (and_right lists (int_eq x.1 y.1) h) in
        ap (λ z. (z, x.1)) a ∙ ap (λ z. (y.0, z)) b

    back : x ≡ y → key_eq x y ≡ true
    back e = and_both lists (int_eq x.1 y.1) ((same_pairs x.0 y.0).1 (ap (λ (z : KeyOf). z.0) e)) ((signed_Decides x.1 y.1).1 (ap (λ (z : KeyOf). z.1) e))

pub key_eq_is : (x y : KeyOf) → key_eq x y ≡ is_eq (key_cmp x y)
key_eq_is x y = one_answer (key_eq x y) (is_eq (key_cmp x y)) (key_decides x y) (key_is x y, λ e. subst (λ z. is_eq (key_cmp x z) ≡ true) e (key_same x))

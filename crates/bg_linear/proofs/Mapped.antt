-- Maps from variables to coefficients, as lists of entries.
use Rattle.std.proofs.Common.{◌≡◌, ℕ, zero, suc, Bool, true, false, ◌==◌, List, [], ◌∷◌, ℤ, pos, negsuc, refl, sym, ap, ◌∙◌, arith, cond, nat_lt, Option, Some, None, Less, Equal, Greater}
use Rattle.std.specs.Ordering.{is_eq, nat_cmp, match_ordering}
use Rattle.std.specs.Map.{lookup, remove_entry}
use Rattle.std.specs.BTreeMap.{is_at, insert_entry}
use Rattle.std.proofs.lemmas.Bool.Decides.{nat_tests}
use Rattle.bg_rows.specs.declared.entry.Entry.{Entry}
use Rattle.bg_rows.specs.Entries.{is_zero, coefficient}
use Rattle.bg_rows.specs.Rows.{entry}
use Rattle.bg_rows.proofs.Divisors.{not_zero}
use Rattle.bg_linear.specs.Lins.{listed, without, with_entry, with_coefficient}

not_both : (x y : ℕ) → nat_lt x y ≡ true → (x == y) ≡ false
not_both x y h = grind (arith, nat_tests)

at_is : (x y : ℕ) → is_at (nat_cmp x) y ≡ (x == y)
at_is x y = by_less (nat_lt x y) (x == y) refl refl
  where
    by_less : (l e : Bool) → nat_lt x y ≡ l → (x == y) ≡ e → is_eq (cond l Less (cond e Equal Greater)) ≡ e
    by_less true e p q = sym (not_both x y p) ∙ q
    by_less false true p q = refl
    by_less false false p q = refl

swap_eq : (x y : ℕ) → (x == y) ≡ (y == x)
swap_eq x y = grind (arith, nat_tests)

abbrev value_or_zero : Option ℤ → ℤ
value_or_zero None = pos 0
value_or_zero (Some c) = c

coefficient_is : (x : ℕ) (es : List (ℕ × ℤ)) → value_or_zero (lookup (is_at (nat_cmp x)) es) ≡ coefficient x (listed es)
coefficient_is x [] = refl
coefficient_is x (e ∷ es) =
    ap (λ b. value_or_zero (cond b (Some e.1) (lookup (is_at (nat_cmp x)) es))) (at_is x e.0 ∙ swap_eq x e.0)
    ∙ by_same (e.0 == x) (coefficient_is x es)
  where
    by_same : (b : Bool) → value_or_zero (lookup (is_at (nat_cmp x)) es) ≡ coefficient x (listed es) → value_or_zero (cond b (Some e.1) (lookup (is_at (nat_cmp x)) es)) ≡ cond b e.1 (coefficient x (listed es))
    by_same true r = refl
    by_same false r = r

pub found : (x : ℕ) (es : List (ℕ × ℤ)) (c : ℤ) → lookup (is_at (nat_cmp x)) es ≡ Some c → c ≡ coefficient x (listed es)
found x es c h = ap value_or_zero (sym h) ∙ coefficient_is x es

pub missing : (x : ℕ) (es : List (ℕ × ℤ)) → lookup (is_at (nat_cmp x)) es ≡ None → pos 0 ≡ coefficient x (listed es)
missing x es h = ap value_or_zero (sym h) ∙ coefficient_is x es

removed_is : (x : ℕ) (es : List (ℕ × ℤ)) → listed (remove_entry (is_at (nat_cmp x)) es) ≡ without x (listed es)
removed_is x [] = refl
removed_is x (e ∷ es) =
    ap (λ b. listed (cond b es (e ∷ remove_entry (is_at (nat_cmp x)) es))) (at_is x e.0)
    ∙ by_same (x == e.0) (removed_is x es)
  where
    by_same : (b : Bool) → listed (remove_entry (is_at (nat_cmp x)) es) ≡ without x (listed es) → listed (cond b es (e ∷ remove_entry (is_at (nat_cmp x)) es)) ≡ cond b (listed es) (entry e.0 e.1 ∷ without x (listed es))
    by_same true r = refl
    by_same false r = ap (λ l. entry e.0 e.1 ∷ l) r

pub inserted_is : (x : ℕ) (c : ℤ) (es : List (ℕ × ℤ)) → listed (insert_entry nat_cmp es x c) ≡ with_entry x c (listed es)
inserted_is x c [] = refl
inserted_is x c (e ∷ es) = by_less (nat_lt x e.0) (x == e.0) refl (inserted_is x c es)
  where
    same : (x == e.0) ≡ true → e.0 ≡ x
    same h = grind (arith, nat_tests)

    by_less : (l b : Bool) → (x == e.0) ≡ b → listed (insert_entry nat_cmp es x c) ≡ with_entry x c (listed es) → listed (match_ordering (cond l Less (cond b Equal Greater)) ((x, c) ∷ e ∷ es) ((e.0, c) ∷ es) (e ∷ insert_entry nat_cmp es x c)) ≡ cond l (entry x c ∷ entry e.0 e.1 ∷ listed es) (cond b (entry x c ∷ listed es) (entry e.0 e.1 ∷ with_entry x c (listed es)))
    by_less true b p r = refl
    by_less false true p r = ap (λ y. entry y c ∷ listed es) (same p)
    by_less false false p r = ap (λ l. entry e.0 e.1 ∷ l) r

zero_set : (x : ℕ) (c : ℤ) (ts : List Entry) → c ≡ pos 0 → without x ts ≡ with_coefficient x c ts
zero_set x c ts h = rw h refl

is_not_zero : (c : ℤ) → (c ≡ pos 0 → ⊥) → is_zero c ≡ false
is_not_zero (pos zero) h = absurd (h refl)
is_not_zero (pos (suc n)) h = not_zero n
is_not_zero (negsuc n) h = refl

other_set : (x : ℕ) (c : ℤ) (ts : List Entry) → (c ≡ pos 0 → ⊥) → with_entry x c ts ≡ with_coefficient x c ts
other_set x c ts h = rw (is_not_zero c h) refl

pub removed : (x : ℕ) (c : ℤ) (es fs : List (ℕ × ℤ)) → c ≡ pos 0 → fs ≡ remove_entry (is_at (nat_cmp x)) es → listed fs ≡ with_coefficient x c (listed es)
removed x c es fs z h = ap listed h ∙ removed_is x es ∙ zero_set x c (listed es) z

pub inserted : (x : ℕ) (c : ℤ) (es fs : List (ℕ × ℤ)) → (c ≡ pos 0 → ⊥) → fs ≡ insert_entry nat_cmp es x c → listed fs ≡ with_coefficient x c (listed es)
inserted x c es fs z h = ap listed h ∙ inserted_is x c es ∙ other_set x c (listed es) z

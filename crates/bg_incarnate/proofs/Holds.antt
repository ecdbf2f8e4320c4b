-- Lists of which one ends before the other.
use Rattle.std.proofs.Common.{◌≡◌, ◌≤◌, ℕ, zero, suc, List, [], ◌∷◌, length, drop, refl, arith}
use Rattle.bg_ast.specs.Syntax as s
use Rattle.bg_ast.specs.Resolved as r
use Rattle.bg_ast.specs.Meaning as m
use Rattle.bg_ast.specs.Views.{exs_in}
use Rattle.bg_ast.specs.declared.resolved.Expr.{Expr}
use Rattle.bg_passive.specs.Incarnations.{Env, hold_all}

hold_none : (xs : List s.Var) (v : Env) → hold_all xs [] v ≡ v
hold_none [] v = refl
hold_none (x ∷ xs) v = refl

-- no incarnation is left to hold
pub hold_past : (xs : List s.Var) (ns : List ℕ) (v : Env) (i : ℕ) → length ns ≤ i → hold_all xs (drop i ns) v ≡ v
hold_past xs [] v zero h = hold_none xs v
hold_past xs [] v (suc i) h = hold_none xs v
hold_past xs (n ∷ ns) v zero h = absurd (omega (arith, h))
hold_past xs (n ∷ ns) v (suc i) h = hold_past xs ns v i (omega (arith, h))

values_none : (ts : List r.Target) → m.values_of ts r.NoMore ≡ s.NoMore
values_none [] = refl
values_none (t ∷ ts) = refl

-- no value is left to assign
pub values_past : (ts : List r.Target) (es : List Expr) (i : ℕ) → length es ≤ i → m.values_of ts (exs_in (drop i es)) ≡ s.NoMore
values_past ts [] zero h = values_none ts
values_past ts [] (suc i) h = values_none ts
values_past ts (e ∷ es) zero h = absurd (omega (arith, h))
values_past ts (e ∷ es) (suc i) h = values_past ts es i (omega (arith, h))

-- Arguments and bodies at their places.
use Rattle.std.proofs.Common.{◌≡◌, ◌<◌, ◌≤◌, ℕ, zero, suc, List, [], ◌∷◌, length, map, None, refl, sym, ap, arith}
use Rattle.std.specs.Prelude.{get_or, pos}
use Rattle.bg_base.specs.declared.pos.Pos.{Pos}
use Rattle.bg_text.specs.Views.{option_of}
use Rattle.bg_ast.specs.declared.resolved.Expr.{Expr}
use Rattle.bg_ast.specs.declared.resolved.Function.{Function}
use Rattle.bg_ast.specs.Resolved as r
use Rattle.bg_ast.specs.Views.{ex_of, exs_in, fun_of}
use Rattle.bg_opened.specs.Changed.{copying, ex_at, bodies_in}
use Rattle.bg_opening.specs.Views.{changed_expr}
use Rattle.bg_opening.proofs.Turns.{copied}

pub arg-None : (p : Pos) (xs : List Expr) (j : ℕ) → length xs ≤ j → ex_at p (exs_in xs) j ≡ r.Number p (pos 0)
arg-None p [] j h = refl
arg-None p (x ∷ xs) zero h = absurd (omega arith)
arg-None p (x ∷ xs) (suc j) h = arg-None p xs j (omega arith)

pub arg-Some : (p : Pos) (xs : List Expr) (j : ℕ) (e : Expr) → j < length xs → e ≡ get_or xs j e → ex_at p (exs_in xs) j ≡ ex_of e
arg-Some p [] j e h is = absurd (omega arith)
arg-Some p (x ∷ xs) zero e h is = ap ex_of (sym is)
arg-Some p (x ∷ xs) (suc j) e h is = arg-Some p xs j e (omega arith) is

pub body-None : (fs : List Function) (f : ℕ) → length fs ≤ f → bodies_in (map fun_of fs) f ≡ None
body-None [] f h = refl
body-None (x ∷ fs) zero h = absurd (omega arith)
body-None (x ∷ fs) (suc f) h = body-None fs f (omega arith)

pub body-Some : (fs : List Function) (f : ℕ) (x : Function) → f < length fs → x ≡ get_or fs f x → bodies_in (map fun_of fs) f ≡ option_of ex_of x.body
body-Some [] f x h is = absurd (omega arith)
body-Some (y ∷ fs) zero x h is = ap (λ (z : Function). option_of ex_of z.body) (sym is)
body-Some (y ∷ fs) (suc f) x h is = body-Some fs f x (omega arith) is

pub copy-same : (e : Expr) → changed_expr copying e ≡ ex_of e
copy-same e = copied (ex_of e)

pub ruleset there_forms = (arg-None, arg-Some, body-None, body-Some, copy-same)

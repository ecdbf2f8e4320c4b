-- Lists of expressions are worth their values.
use Rattle.std.proofs.Common.{◌≡◌, ◌<◌, ◌+◌, ℕ, suc, List, [], ◌∷◌, ◌++◌, map, length, drop, drop-cons, add-one, get_or, refl, sym, ap, ◌∙◌, append_assoc}
use Rattle.bg_ast.specs.Values.{Val}
use Rattle.bg_ast.specs.Syntax.{Exs}
use Rattle.bg_ast.specs.Meaning.{exs_of}
use Rattle.bg_ast.specs.Views.{exs_in}
use Rattle.bg_ast.specs.declared.resolved.Expr.{Expr}
use Rattle.bg_sense.specs.Eval.{evs}
use Rattle.bg_scalar.specs.Worths.{Seen, Is}
use Rattle.bg_scalar.specs.Values.{value_of, MeanTables, scope_in}
use Rattle.bg_scalar.specs.Views.{lent_in, worth_in}
use Rattle.bg_scalar.specs.Lists.{Listed, Are, Leave, NoValues, cons, worths, onto}
use Rattle.bg_scalar.specs.declared.value.Value.{Value}
use Rattle.bg_scalar.specs.declared.held.Lent.{Lent}
use Rattle.bg_scalar.specs.declared.held.Worth.TheVariants as code
use Rattle.bg_scalar.specs.declared.held.Worth.{Worth}
use Rattle.bg_scalar.proofs.Agreeing.{AllAgree, all_agree}
use Rattle.bg_scalar.proofs.Chains.{worth_of}

-- one more value behind those that are there
pub onto_one : (xs : List Value) (x : Value) (l : Listed) → onto (map value_of (xs ++ x ∷ [])) l ≡ onto (map value_of xs) (cons (Is (value_of x)) l)
onto_one xs x l = ap (λ vs. onto vs l) (map_one xs) ∙ put_behind (map value_of xs) (value_of x) l
  where
    map_one : (ys : List Value) → map value_of (ys ++ x ∷ []) ≡ map value_of ys ++ value_of x ∷ []
    map_one [] = refl
    map_one (y ∷ ys) = ap (λ vs. value_of y ∷ vs) (map_one ys)

    put_behind : (vs : List Val) (v : Val) (k : Listed) → onto (vs ++ v ∷ []) k ≡ onto vs (cons (Is v) k)
    put_behind vs v (Are ys) = ap Are (append_assoc vs (v ∷ []) ys)
    put_behind vs v (Leave o) = refl
    put_behind vs v NoValues = refl

pub onto_none : (l : Listed) → onto [] l ≡ l
onto_none (Are ys) = refl
onto_none (Leave o) = refl
onto_none NoValues = refl

pub ruleset list_forms = (onto_one, onto_none)

-- one more expression that has a value
pub list_step : (es : List Expr) (i : ℕ) (e : Expr) (w : Seen) (made new : List Value) (l : Lent) (x : Value) (a : Worth) (whole : Listed) → i < length es → e ≡ get_or es i e → worth_in a ≡ worth_of e w → a ≡ code.Is l → value_of x ≡ lent_in l → new ≡ made ++ x ∷ [] → onto (map value_of made) (worths (exs_of (exs_in (drop i es))) w) ≡ whole → onto (map value_of new) (worths (exs_of (exs_in (drop (i + 1) es))) w) ≡ whole
list_step es i e w made new y x a whole l at h k own m known =
    let rest = worths (exs_of (exs_in (drop (i + 1) es))) w in
    let one : drop i es ≡ e ∷ drop (i + 1) es = rw (add-one, drop-cons es i e l) (ap (λ y. y ∷ drop (suc i) es) (sym at)) in
    ap (λ ys. onto (map value_of ys) rest) m
    ∙ (onto_one made x rest
    ∙ (ap (λ b. onto (map value_of made) (cons b rest)) (ap Is own ∙ (sym (ap worth_in k) ∙ h))
    ∙ (ap (λ ys. onto (map value_of made) (worths (exs_of (exs_in ys)) w)) (sym one) ∙ known)))

pub worths_are : (fs : ℕ → List Val → Val) (cs : List Val) (es : Exs) (w : Seen) (xs : List Val) → MeanTables fs w.tables → worths es w ≡ Are xs → evs es (scope_in fs cs w) ≡ xs
worths_are fs cs es w xs m h = on (worths es w) h (all_agree fs cs es w m)
  where
    on : (l : Listed) → l ≡ Are xs → AllAgree l (evs es (scope_in fs cs w)) → evs es (scope_in fs cs w) ≡ xs
    on (Are ys) e k = let same : ys ≡ xs = cc in k ∙ same
    on (Leave o) e k = absurd (let bad : ⊥ = cc in bad)
    on NoValues e k = absurd (let bad : ⊥ = cc in bad)

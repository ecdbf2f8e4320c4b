-- The default of a map type, bracket by bracket from the inside.
use Rattle.std.proofs.Common.{◌≡◌, ℕ, zero, suc, ◌+◌, ◌≤◌, List, [], ◌∷◌, length, map, refl, ap, ◌∙◌, arith, Vec, Box, Global}
use Rattle.bg_ast.specs.Values.{Val, Ty, Default}
use Rattle.bg_sense.specs.Eval.{default_for}
use Rattle.bg_kinds.specs.Views.{base_of, tower}
use Rattle.bg_kinds.specs.declared.kinds.Base.{Base}
use Rattle.bg_kinds.specs.declared.kinds.Keys.{Keys}
use Rattle.bg_scalar.specs.declared.value.Entry.{Entry}
use Rattle.bg_scalar.specs.declared.value.Value.{Value}
use Rattle.bg_scalar.specs.declared.value.Value.TheVariants as value
use Rattle.bg_scalar.specs.Values.{value_of}
use Rattle.bg_scalar.specs.Maps.{entry_in, with_entries}
use Rattle.bg_scalar.proofs.Rows.{value_of-Map}

abbrev pub wrapped : ℕ → Val → Val
wrapped zero v = v
wrapped (suc k) v = Default (wrapped k v)

pub wrapped_more : (k : ℕ) (v : Val) (es : Vec Entry Global) (b : Box Value Global) (d : Value) → es.items ≡ [] → b.value ≡ d → value_of d ≡ wrapped k v → value_of (value.Map es b) ≡ wrapped (k + 1) v
wrapped_more k v es b d none is so =
    value_of-Map es b
    ∙ (ap (λ l. with_entries (map entry_in l) (Default (value_of b.value))) none
    ∙ (ap (λ x. Default (value_of x)) is ∙ (ap Default so ∙ ap (λ j. wrapped j v) (let q : suc k ≡ k + 1 = omega arith in q))))

tower_default : (ks : List Keys) (t : Ty) → wrapped (length ks) (default_for t) ≡ default_for (tower ks t)
tower_default [] t = refl
tower_default (k ∷ ks) t = ap Default (tower_default ks t)

pub default_all : (ks : List Keys) (b : Base) (k : ℕ) (v : Value) → length ks ≤ k → k ≤ length ks → value_of v ≡ wrapped k (default_for (base_of b)) → value_of v ≡ default_for (tower ks (base_of b))
default_all ks b k v low high so =
    so ∙ (ap (λ j. wrapped j (default_for (base_of b))) (let q : k ≡ length ks = omega (arith, low, high) in q) ∙ tower_default ks (base_of b))

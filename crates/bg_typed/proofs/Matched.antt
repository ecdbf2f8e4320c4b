-- A scope that has a signature's types agrees with it.
use Rattle.std.proofs.Common.{◌≡◌, ℕ, zero, suc, ◌<◌, true, List, [], ◌∷◌, length, map, Some, None, slice_get, refl, sym, ap, ◌∙◌, arith}
use Rattle.bg_ast.specs.Values as v
use Rattle.bg_ast.specs.Syntax.{Fun}
use Rattle.bg_sense.specs.Typing.{Sig}
use Rattle.bg_kinds.specs.Kinds.{Kind}
use Rattle.bg_typing.specs.Sides.{Shape, Scope, is_typed_kind, kind_at}
use Rattle.bg_typed.specs.Agreement.{Agrees}
use Rattle.bg_typed.proofs.Bits.{nothing}
use Rattle.bg_typed.specs.Naming.{function_kinds, Matches}

type_there : (ts : List v.Ty) (k : ℕ) (t : v.Ty) → kind_at (map Some ts) k ≡ Some t → slice_get ts k ≡ Some t
type_there [] k t e = nothing t e
type_there (u ∷ ts) zero t e = e
type_there (u ∷ ts) (suc k) t e = type_there ts k t e

pub kind_there : (ts : List v.Ty) (k : ℕ) → k < length ts → is_typed_kind (kind_at (map Some ts) k) ≡ true
kind_there [] k h = absurd (omega arith)
kind_there (u ∷ ts) zero h = refl
kind_there (u ∷ ts) (suc k) h = kind_there ts k (omega arith)

function_there : (fs : List Fun) (k : ℕ) (f : Shape) → slice_get (map function_kinds fs) k ≡ Some f → (fn : Fun) × (slice_get fs k ≡ Some fn) × (f ≡ function_kinds fn)
function_there [] k f e = let bad : None ≡ Some f = e in absurd (cc)
function_there (fn ∷ fs) zero f e = let same : function_kinds fn ≡ f = cc in (fn, refl, sym same)
function_there (fn ∷ fs) (suc k) f e = function_there fs k f e

pub shape_there : (fs : List Fun) (k : ℕ) → k < length fs → (fn : Fun) × (slice_get (map function_kinds fs) k ≡ Some (function_kinds fn))
shape_there [] k h = absurd (omega arith)
shape_there (fn ∷ fs) zero h = (fn, refl)
shape_there (fn ∷ fs) (suc k) h = shape_there fs k (omega arith)

pub agrees : (g : Scope) (s : Sig) → Matches g s → Agrees g s
agrees g s h =
    record {
      constants = λ k t e. type_there s.constants k t (sym (ap (λ (l : List Kind). kind_at l k) h.constants) ∙ e);
      globals = λ k t e. type_there s.globals k t (sym (ap (λ (l : List Kind). kind_at l k) h.globals) ∙ e);
      frame = λ k t e. type_there s.frame k t (sym (ap (λ (l : List Kind). kind_at l k) h.frame) ∙ e);
      functions = λ k f e.
          (let found = function_there s.functions k f (sym (ap (λ (l : List Shape). slice_get l k) h.functions) ∙ e) in
          record {
            declared = found.0;
            is_there = found.1;
            params = ap (λ (x : Shape). x.params) found.2;
            results = ap (λ (x : Shape). x.results) found.2;
          });
    }

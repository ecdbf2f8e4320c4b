-- The types of variables of a frame, part by part.
use Rattle.std.proofs.Common.{◌≡◌, List, [], ◌∷◌, ◌++◌, refl, ap, sym, ◌∙◌, append_assoc}
use Rattle.bg_ast.specs.Syntax.{Decl}
use Rattle.bg_sense.specs.Types.{types_of}

types_append : (ds es : List Decl) → types_of (ds ++ es) ≡ types_of ds ++ types_of es
types_append [] es = refl
types_append (d ∷ ds) es = ap (λ l. d.ty ∷ l) (types_append ds es)

-- parameters, results and locals
pub three_parts : (ds es fs : List Decl) → (([] ++ types_of ds) ++ types_of es) ++ types_of fs ≡ types_of (ds ++ (es ++ fs))
three_parts ds es fs =
    append_assoc (types_of ds) (types_of es) (types_of fs)
    ∙ (ap (λ l. types_of ds ++ l) (sym (types_append es fs)) ∙ sym (types_append ds (es ++ fs)))

-- Bodies with axioms in front.
use Rattle.std.proofs.Common.{◌≡◌, List, [], ◌∷◌, ◌++◌, map, refl, sym, ap, ◌∙◌}
use Rattle.std.proofs.lemmas.List.{map-append}
use Rattle.bg_ast.specs.Resolved as r
use Rattle.bg_ast.specs.declared.resolved.Stmt.{Stmt}
use Rattle.bg_ast.specs.Views.{st_of, sts_from, sts_in}
use Rattle.bg_opened.specs.Written as w
use Rattle.bg_opening.specs.Views.{assuming}
use Rattle.bg_opening.proofs.Statements.{sts-are}

-- statements behind what is assumed
assumed-front : (es : List r.Ex) (ss : List r.St) → sts_from (map assuming es ++ ss) ≡ w.supposing es (sts_from ss)
assumed-front [] ss = refl
assumed-front (e ∷ es) ss = ap (r.Then (r.Assume e)) (assumed-front es ss)

-- a body that is made of both
pub body-is : (o : r.Ex → r.Ex) (made front rest ss : List Stmt) (es : List r.Ex) → made ≡ front ++ rest → map st_of front ≡ map assuming es → map st_of rest ≡ map (w.opened_st o) (map st_of ss) → sts_in made ≡ w.supposing es (w.opened_sts o (sts_in ss))
body-is o made front rest ss es is f h =
    ap sts_in is
    ∙ ap sts_from (map-append st_of front rest ∙ ap (λ l. l ++ map st_of rest) f)
    ∙ assumed-front es (map st_of rest)
    ∙ ap (w.supposing es) (sts-are o ss rest h)

-- what is assumed first, and what behind it
supposing-both : (o : r.Ex → r.Ex) (xs ys : List r.Ex) (s : r.Sts) → w.supposing (map o (xs ++ ys)) s ≡ w.supposing (map o xs) (w.supposing (map o ys) s)
supposing-both o [] ys s = refl
supposing-both o (x ∷ xs) ys s = ap (r.Then (r.Assume (o x))) (supposing-both o xs ys s)

-- a body that is made of what is assumed first, and of one that assumes more
pub claimed-is : (o : r.Ex → r.Ex) (made front rest : List Stmt) (xs ys : List r.Ex) (s : r.Sts) → made ≡ front ++ rest → map st_of front ≡ map assuming (map o xs) → sts_in rest ≡ w.supposing (map o ys) s → sts_in made ≡ w.supposing (map o (xs ++ ys)) s
claimed-is o made front rest xs ys s is f h =
    ap sts_in is
    ∙ ap sts_from (map-append st_of front rest ∙ ap (λ l. l ++ map st_of rest) f)
    ∙ assumed-front (map o xs) (map st_of rest)
    ∙ ap (w.supposing (map o xs)) h
    ∙ sym (supposing-both o xs ys s)

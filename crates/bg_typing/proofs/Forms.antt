-- How each form of an expression is judged, at the lists that the code meets.
use Rattle.std.proofs.Common.{◌≡◌, ℕ, List, [], ◌∷◌, ◌++◌, map, Option, Some, None, refl, sym, ap, ◌∙◌, append_assoc, append-nil, Vec, Box, Global}
use Rattle.bg_base.specs.declared.pos.Pos.{Pos}
use Rattle.bg_text.specs.declared.expr.InfixSign.{InfixSign}
use Rattle.bg_text.specs.declared.expr.InfixSign.TheVariants as op
use Rattle.bg_ast.specs.Resolved as r
use Rattle.bg_ast.specs.declared.resolved.Expr.{Expr}
use Rattle.bg_ast.specs.declared.resolved.Expr.TheVariants as expr
use Rattle.bg_ast.specs.declared.resolved.Bracket.{Bracket}
use Rattle.bg_ast.specs.declared.resolved.Bracket.TheVariants as bracket
use Rattle.bg_ast.specs.declared.resolved.Link.{Link}
use Rattle.bg_ast.specs.Views.{ex_of, exs_in, brackets_of, bracket_view, links_of, link_view, behind_parts}
use Rattle.bg_ast.proofs.Lists.{ex_of-Apply, ex_of-Chain, ex_of-Postfix, bracket_view-Select, bracket_view-Update}
use Rattle.bg_kinds.specs.Faults.{Fault, first_of}
use Rattle.bg_typing.specs.Sides.{Scope, Side, Judged, infix_side, infix_faults}
use Rattle.bg_typing.specs.Exprs.{judge, judge_all, sides_of, faults_of, behind, chained, after, implied, made, bracket_side, bracket_faults}
use Rattle.bg_typing.specs.Chains.{Waiting, unwound, waits, left_side, left_faults}
use Rattle.bg_kinds.proofs.Firsts.{first_of_append}

pub behind_step : (g : Scope) (m : Side) (p : Pos) (es : r.Exs) (v : Option r.Ex) (bs : r.Brackets) → behind g m (behind_parts p es v bs) ≡ after (bracket_faults g m p es v) (behind g (bracket_side g m p es v) bs)
behind_step g m p es None bs = refl
behind_step g m p es (Some e) bs = refl

pub judged_apply : (g : Scope) (e : Expr) (p : Pos) (f : ℕ) (args : Vec Expr Global) → e ≡ expr.Apply p f args → judge g (ex_of e) ≡ judge g (r.Apply p f (exs_in args.items))
judged_apply g e p f args h = ap (λ x. judge g (ex_of x)) h ∙ ap (judge g) (ex_of-Apply p f args)

pub judged_postfix : (g : Scope) (e : Expr) (m : Box Expr Global) (bs : Vec Bracket Global) → e ≡ expr.Postfix m bs → judge g (ex_of e) ≡ judge g (r.Postfix (ex_of m.value) (brackets_of (map bracket_view bs.items)))
judged_postfix g e m bs h = ap (λ x. judge g (ex_of x)) h ∙ ap (judge g) (ex_of-Postfix m bs)

pub judged_chain : (g : Scope) (e : Expr) (a : Box Expr Global) (ls : Vec Link Global) → e ≡ expr.Chain a ls → judge g (ex_of e) ≡ judge g (r.Chain (ex_of a.value) (links_of (map link_view ls.items)))
judged_chain g e a ls h = ap (λ x. judge g (ex_of x)) h ∙ ap (judge g) (ex_of-Chain a ls)

pub viewed_select : (b : Bracket) (p : Pos) (es : Vec Expr Global) → b ≡ bracket.Select p es → bracket_view b ≡ (p, exs_in es.items, None)
viewed_select b p es h = ap bracket_view h ∙ bracket_view-Select p es

pub viewed_update : (b : Bracket) (p : Pos) (es : Vec Expr Global) (e : Expr) → b ≡ bracket.Update p es e → bracket_view b ≡ (p, exs_in es.items, Some (ex_of e))
viewed_update b p es e h = ap bracket_view h ∙ bracket_view-Update p es e

-- the steps of loops over lists
pub list_best : (g : Scope) (es rest : List Expr) (x : Expr) (b0 b1 : Option Fault) → es ≡ x ∷ rest → b1 ≡ first_of b0 (judge g (ex_of x)).faults → first_of b1 (faults_of (judge_all g (exs_in rest))) ≡ first_of b0 (faults_of (judge_all g (exs_in es)))
list_best g es rest x b0 b1 h e = rw (e, h) (sym (first_of_append b0 (judge g (ex_of x)).faults _))

pub list_sides : (g : Scope) (es rest : List Expr) (x : Expr) (made : List Side) (a : Side) → es ≡ x ∷ rest → a ≡ (judge g (ex_of x)).side → (made ++ a ∷ []) ++ sides_of (judge_all g (exs_in rest)) ≡ made ++ sides_of (judge_all g (exs_in es))
list_sides g es rest x made a h e = rw (e, h) (append_assoc made _ _)

pub brackets_side : (g : Scope) (bs rest : List Bracket) (x : Bracket) (m n : Side) → bs ≡ x ∷ rest → n ≡ bracket_side g m (bracket_view x).0 (bracket_view x).1 (bracket_view x).2 → (behind g n (brackets_of (map bracket_view rest))).side ≡ (behind g m (brackets_of (map bracket_view bs))).side
brackets_side g bs rest x m n h e =
    let v = bracket_view x in
    rw (e, h) (ap (λ j. j.side) (sym (behind_step g m v.0 v.1 v.2 (brackets_of (map bracket_view rest)))))

pub brackets_best : (g : Scope) (bs rest : List Bracket) (x : Bracket) (m n : Side) (b0 b1 : Option Fault) → bs ≡ x ∷ rest → n ≡ bracket_side g m (bracket_view x).0 (bracket_view x).1 (bracket_view x).2 → b1 ≡ first_of b0 (bracket_faults g m (bracket_view x).0 (bracket_view x).1 (bracket_view x).2) → first_of b1 (behind g n (brackets_of (map bracket_view rest))).faults ≡ first_of b0 (behind g m (brackets_of (map bracket_view bs))).faults
brackets_best g bs rest x m n b0 b1 h e k =
    let v = bracket_view x in
    let bs = brackets_of (map bracket_view rest) in
    rw (e, k, h)
    (sym (first_of_append b0 (bracket_faults g m v.0 v.1 v.2) (behind g (bracket_side g m v.0 v.1 v.2) bs).faults)
    ∙ ap (λ j. first_of b0 j.faults) (sym (behind_step g m v.0 v.1 v.2 bs)))

-- a row of `==>` that waits keeps what stands before
implied_after : (p : Pos) (a : Side) (fs : List Fault) (j : Judged) → implied p a (after fs j) ≡ after fs (implied p a j)
implied_after p a fs j = ap (made _) (append_assoc fs j.faults _)

unwound_after : (xs : List Waiting) (fs : List Fault) (j : Judged) → unwound xs (after fs j) ≡ after fs (unwound xs j)
unwound_after [] fs j = refl
unwound_after (x ∷ xs) fs j = ap (implied x.0 x.1) (unwound_after xs fs j) ∙ implied_after x.0 x.1 fs (unwound xs j)

unwound_more : (xs : List Waiting) (x : Waiting) (j : Judged) → unwound (xs ++ x ∷ []) j ≡ unwound xs (implied x.0 x.1 j)
unwound_more [] x j = refl
unwound_more (y ∷ ys) x j = ap (implied y.0 y.1) (unwound_more ys x j)

after_after : (fs gs : List Fault) (j : Judged) → after fs (after gs j) ≡ after (fs ++ gs) j
after_after fs gs j = ap (made _) (sym (append_assoc fs gs j.faults))

-- what the last that waits does to the side behind it
pub unwound_last : (xs : List Waiting) (p : Pos) (a b : Side) → unwound (xs ++ (p, a) ∷ []) (made b []) ≡ after (infix_faults op.Implies p a b) (unwound xs (made (infix_side op.Implies a b) []))
unwound_last xs p a b =
    unwound_more xs (p, a) (made b [])
    ∙ (ap (λ fs. unwound xs (made (infix_side op.Implies a b) fs)) (sym (append-nil (infix_faults op.Implies p a b)))
    ∙ unwound_after xs (infix_faults op.Implies p a b) (made (infix_side op.Implies a b) []))

-- the step of a chain at each sign
abbrev Step : Scope → List Waiting → Side → Pos → InfixSign → r.Ex → r.Links → Type 0
Step g xs a p sign e ls =
    unwound xs (chained g a (r.Link p sign e ls))
    ≡ after
    ((judge g e).faults ++ left_faults sign p a (judge g e).side)
    (unwound (xs ++ waits sign p a) (chained g (left_side sign a (judge g e).side) ls))

none_waits : (xs : List Waiting) (fs : List Fault) (j : Judged) → unwound xs (after fs j) ≡ after fs (unwound (xs ++ []) j)
none_waits xs fs j = rw (append-nil xs) (unwound_after xs fs j)

one_waits : (xs : List Waiting) (fs : List Fault) (p : Pos) (a : Side) (j : Judged) → unwound xs (after fs (implied p a j)) ≡ after (fs ++ []) (unwound (xs ++ (p, a) ∷ []) j)
one_waits xs fs p a j = rw (append-nil fs, unwound_more xs (p, a) j) (unwound_after xs fs (implied p a j))

pub chained_step : (g : Scope) (xs : List Waiting) (a : Side) (p : Pos) (sign : InfixSign) (e : r.Ex) (ls : r.Links) → Step g xs a p sign e ls
chained_step g xs a p op.Implies e ls = one_waits xs (judge g e).faults p a (chained g (judge g e).side ls)
chained_step g xs a p sign e ls = none_waits xs ((judge g e).faults ++ left_faults sign p a (judge g e).side) (chained g (left_side sign a (judge g e).side) ls)

pub chain_side : (g : Scope) (ls rest : List Link) (x : Link) (xs ys : List Waiting) (a b : Side) → ls ≡ x ∷ rest → ys ≡ xs ++ waits x.sign x.pos a → b ≡ left_side x.sign a (judge g (ex_of x.operand)).side → (unwound ys (chained g b (links_of (map link_view rest)))).side ≡ (unwound xs (chained g a (links_of (map link_view ls)))).side
chain_side g ls rest x xs ys a b h e k = rw (e, k, h) (ap (λ j. j.side) (sym (chained_step g xs a x.pos x.sign (ex_of x.operand) (links_of (map link_view rest)))))

pub chain_best : (g : Scope) (ls rest : List Link) (x : Link) (xs ys : List Waiting) (a b : Side) (b0 b1 b2 : Option Fault) → ls ≡ x ∷ rest → ys ≡ xs ++ waits x.sign x.pos a → b ≡ left_side x.sign a (judge g (ex_of x.operand)).side → b1 ≡ first_of b0 (judge g (ex_of x.operand)).faults → b2 ≡ first_of b1 (left_faults x.sign x.pos a (judge g (ex_of x.operand)).side) → first_of b2 (unwound ys (chained g b (links_of (map link_view rest)))).faults ≡ first_of b0 (unwound xs (chained g a (links_of (map link_view ls)))).faults
chain_best g ls rest x xs ys a b b0 b1 b2 h e k m n =
    let own = left_faults x.sign x.pos a (judge g (ex_of x.operand)).side in
    let inner = (judge g (ex_of x.operand)).faults in
    let j = unwound (xs ++ waits x.sign x.pos a) (chained g (left_side x.sign a (judge g (ex_of x.operand)).side) (links_of (map link_view rest))) in
    rw (e, k, n, m, h)
    (ap (λ b. first_of b j.faults) (sym (first_of_append b0 inner own))
    ∙ (sym (first_of_append b0 (inner ++ own) j.faults)
    ∙ ap (λ j. first_of b0 j.faults) (sym (chained_step g xs a x.pos x.sign (ex_of x.operand) (links_of (map link_view rest))))))

pub unwind_side : (xs ys : List Waiting) (p : Pos) (a b c : Side) → xs ≡ ys ++ (p, a) ∷ [] → c ≡ infix_side op.Implies a b → (unwound ys (made c [])).side ≡ (unwound xs (made b [])).side
unwind_side xs ys p a b c h e = rw (h, e) (ap (λ j. j.side) (sym (unwound_last ys p a b)))

pub unwind_best : (xs ys : List Waiting) (p : Pos) (a b c : Side) (b0 b1 : Option Fault) → xs ≡ ys ++ (p, a) ∷ [] → c ≡ infix_side op.Implies a b → b1 ≡ first_of b0 (infix_faults op.Implies p a b) → first_of b1 (unwound ys (made c [])).faults ≡ first_of b0 (unwound xs (made b [])).faults
unwind_best xs ys p a b c b0 b1 h e k =
    rw (h, e, k)
    (sym (first_of_append b0 (infix_faults op.Implies p a b) (unwound ys (made (infix_side op.Implies a b) [])).faults)
    ∙ ap (λ j. first_of b0 j.faults) (sym (unwound_last ys p a b)))

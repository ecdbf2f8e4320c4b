-- What a variable is assigned, bracket by bracket, from the last one on.
use Rattle.std.proofs.Common.{◌≡◌, List, [], ◌∷◌, ◌++◌, map, Some, None, refl, sym, ap, ◌∙◌, Vec, Box, Global}
use Rattle.std.proofs.lemmas.List.{map-append}
use Rattle.bg_base.specs.declared.pos.Pos.{Pos}
use Rattle.bg_ast.specs.declared.resolved.Expr.{Expr}
use Rattle.bg_ast.specs.declared.resolved.Expr.TheVariants as expr
use Rattle.bg_ast.specs.declared.resolved.Bracket.{Bracket}
use Rattle.bg_ast.specs.declared.resolved.Bracket.TheVariants as bracket
use Rattle.bg_ast.specs.declared.resolved.Indices.{Indices}
use Rattle.bg_ast.specs.Syntax as s
use Rattle.bg_ast.specs.Resolved as r
use Rattle.bg_ast.specs.Meaning as m
use Rattle.bg_ast.specs.Views as u
use Rattle.bg_ast.proofs.Lists as z
use Rattle.bg_passive.specs.Incarnations.{Env, rename, renames}
use Rattle.bg_renamed.specs.Renamed.{renames_r}
use Rattle.bg_renamed.specs.Views.{renamed_expr}
use Rattle.bg_renamed.specs.Written.{renamed_select, selected}
use Rattle.bg_renamed.proofs.Means.{all_renamed}
use Rattle.bg_renamed.proofs.Forms.{exs-of}

-- a value written behind these brackets, where the map is over incarnations already
abbrev pub rewritten : Env → s.Ex → List (Pos × r.Exs) → s.Ex → s.Ex
rewritten v x [] e = e
rewritten v x (b ∷ bs) e = s.Update x (renames (m.exs_of b.1) v) (rewritten v (s.Select x (renames (m.exs_of b.1) v)) bs e)

pub rewritten_is : (v : Env) (x : s.Ex) (bs : List (Pos × r.Exs)) (e : s.Ex) → rewritten v (rename x v) bs (rename e v) ≡ rename (m.written x bs e) v
rewritten_is v x [] e = refl
rewritten_is v x (b ∷ bs) e = ap (s.Update (rename x v) (renames (m.exs_of b.1) v)) (rewritten_is v (s.Select x (m.exs_of b.1)) bs e)

-- the last bracket first
pub rewritten_last : (v : Env) (x : s.Ex) (bs : List (Pos × r.Exs)) (b : Pos × r.Exs) (e : s.Ex) → rewritten v x (bs ++ b ∷ []) e ≡ rewritten v x bs (s.Update (selected v x bs) (renames (m.exs_of b.1) v) e)
rewritten_last v x [] b e = refl
rewritten_last v x (a ∷ bs) b e =
    ap (s.Update x (renames (m.exs_of a.1) v)) (rewritten_last v (s.Select x (renames (m.exs_of a.1) v)) bs b e)

-- one turn of the loop over brackets
pub rewritten_step : (v : Env) (x : s.Ex) (left before : List Indices) (last : Indices) (e new whole : s.Ex) → left ≡ before ++ last ∷ [] → new ≡ s.Update (selected v x (map u.bracket_of before)) (renames (m.exs_of (u.bracket_of last).1) v) e → rewritten v x (map u.bracket_of left) e ≡ whole → rewritten v x (map u.bracket_of before) new ≡ whole
rewritten_step v x left before last e new whole h k known =
    ap (rewritten v x (map u.bracket_of before)) k
    ∙ sym (rewritten_last v x (map u.bracket_of before) (u.bracket_of last) e)
    ∙ ap (λ l. rewritten v x l e) (sym (map-append u.bracket_of before (last ∷ [])) ∙ ap (map u.bracket_of) (sym h))
    ∙ known

behind_select : (v : Env) (bs : List (Pos × r.Exs)) (x : s.Ex) (q : Pos) (es : r.Exs) (e : r.Ex) → m.behind x (u.brackets_of (map (renamed_select v) bs ++ (q, es, Some e) ∷ [])) ≡ s.Update (selected v x bs) (m.exs_of es) (m.ex_of e)
behind_select v [] x q es e = refl
behind_select v (b ∷ bs) x q es e =
    ap (λ l. m.behind (s.Select x l) (u.brackets_of (map (renamed_select v) bs ++ (q, es, Some e) ∷ []))) (all_renamed b.1 v)
    ∙ behind_select v bs (s.Select x (renames (m.exs_of b.1) v)) q es e

pub select-is : (v : Env) (at : Indices) (xs : Vec Expr Global) → map u.ex_of xs.items ≡ map (renamed_expr v) at.indices.items → u.bracket_view (bracket.Select at.pos xs) ≡ renamed_select v (u.bracket_of at)
select-is v at xs h = z.bracket_view-Select at.pos xs ∙ ap (λ l. (at.pos, l, None)) (ap u.exs_of h ∙ sym (exs-of v at.indices.items))

-- the bracket that updates
update_view : (v : Env) (at : Indices) (xs : Vec Expr Global) (e : Expr) → map u.ex_of xs.items ≡ map (renamed_expr v) at.indices.items → u.bracket_view (bracket.Update at.pos xs e) ≡ (at.pos, renames_r (u.bracket_of at).1 v, Some (u.ex_of e))
update_view v at xs e h = z.bracket_view-Update at.pos xs e ∙ ap (λ l. (at.pos, l, Some (u.ex_of e))) (ap u.exs_of h ∙ sym (exs-of v at.indices.items))

pub updated-is : (v : Env) (first : Box Expr Global) (x : Expr) (made : List Bracket) (behind : Vec Bracket Global) (before : List Indices) (at : Indices) (xs : Vec Expr Global) (e : Expr) → first.value ≡ x → map u.bracket_view made ≡ map (renamed_select v) (map u.bracket_of before) → behind.items ≡ made ++ bracket.Update at.pos xs e ∷ [] → map u.ex_of xs.items ≡ map (renamed_expr v) at.indices.items → m.ex_of (u.ex_of (expr.Postfix first behind)) ≡ s.Update (selected v (m.ex_of (u.ex_of x)) (map u.bracket_of before)) (renames (m.exs_of (u.bracket_of at).1) v) (m.ex_of (u.ex_of e))
updated-is v first x made behind before at xs e h k is js =
    ap m.ex_of (z.ex_of-Postfix first behind)
    ∙ ap (λ b. m.behind (m.ex_of (u.ex_of b)) (u.brackets_of (map u.bracket_view behind.items))) h
    ∙ ap (λ l. m.behind (m.ex_of (u.ex_of x)) (u.brackets_of l)) (ap (map u.bracket_view) is ∙ map-append u.bracket_view made (bracket.Update at.pos xs e ∷ []) ∙ ap (λ l. l ++ u.bracket_view (bracket.Update at.pos xs e) ∷ []) k ∙ ap (λ b. map (renamed_select v) (map u.bracket_of before) ++ b ∷ []) (update_view v at xs e js))
    ∙ behind_select v (map u.bracket_of before) (m.ex_of (u.ex_of x)) at.pos (renames_r (u.bracket_of at).1 v) (u.ex_of e)
    ∙ ap (λ l. s.Update (selected v (m.ex_of (u.ex_of x)) (map u.bracket_of before)) l (m.ex_of (u.ex_of e))) (all_renamed (u.bracket_of at).1 v)

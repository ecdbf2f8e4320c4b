use Rattle.std.proofs.Common.{◌≡◌, ℕ, ◌+◌, List, [], ◌∷◌, ◌++◌, map, drop, sym, ap, ◌∙◌, append_assoc}
use Rattle.bg_ast.specs.declared.resolved.Procedure.{Procedure}
use Rattle.bg_ast.specs.Views.{proc_of}
use Rattle.bg_places.specs.Counts.{capped, spec_nodes}
use Rattle.bg_opened.specs.Written.{opened_proc}
use Rattle.bg_expanded.proofs.Within.{drop_here}
use Rattle.bg_expanded.proofs.expanded.sizes.Goals as goal

pub loop-q-preserved : goal.loop-q-preserved
loop-q-preserved c o k =
    let qs = c.args.procedures.now in
    let i = c.loop-q.q-index in
    let made = c.loop-q.made.items in
    let F : List Procedure → List ℕ = λ l. map capped (map spec_nodes (map (opened_proc o) (map proc_of l))) in
    let x = capped (spec_nodes (opened_proc o (proc_of c.q-item.result))) in
    let rest = F (drop (i + 1) qs) in
    let new : c.push.new.self.items ≡ made ++ x ∷ [] = c.in_ok-push.ensures.items ∙ ap (λ (n : ℕ). made ++ n ∷ []) (c.in_ok-size.ensures o k) in
    ap (λ (l : List ℕ). l ++ rest) new
    ∙ (append_assoc made (x ∷ []) rest
    ∙ (ap (λ (l : List ℕ). made ++ l) (sym (ap F (drop_here qs i c.q-item.result c.loop-q-test.true c.q-item.is))) ∙ c.loop-q.invariant o k))

use Rattle.std.proofs.Common.{◌≡◌, ℕ, List, [], ◌+◌, ◌*◌, map, ap, ◌∙◌, subst}
use Rattle.std.proofs.lemmas.Result.{on_ok_weaker}
use Rattle.bg_ast.specs.declared.resolved.TypeName.{TypeName}
use Rattle.bg_ast.specs.declared.resolved.Constant.{Constant}
use Rattle.bg_ast.specs.declared.resolved.Expr.{Expr}
use Rattle.bg_ast.specs.Views.{exs_in, program_of}
use Rattle.bg_places.specs.Counts.{nodes_of}
use Rattle.bg_opened.specs.Unique.{uniques}
use Rattle.bg_opened.specs.Written.{all_opened, constants_of}
use Rattle.bg_opening.specs.Constants.{constants_in, unique_of}
use Rattle.bg_opening.specs.declared.uniques.Unique.{Unique}
use Rattle.bg_expanded.specs.Bodies.{IsAlike, worth}
use Rattle.bg_expanded.specs.Pairs.{pair_count}
use Rattle.bg_expanded.proofs.PairNodes.{claims_counted}
use Rattle.bg_expanded.proofs.expanded.add_claims.Goals as goal

pub returns : goal.returns
returns c =
    let q = c.args.program.now in
    let told = map unique_of c.in_ok-told.told.items in
    let all : told ≡ uniques 0 (constants_of (program_of q)) =
    c.in_ok-told.ensures
    ∙ ap (λ (ts : List TypeName). uniques 0 (constants_in ts c.deref-2.result.now)) c.deref.ensures.value
    ∙ ap (λ (cs : List Constant). uniques 0 (constants_in q.types.items cs)) c.deref-2.ensures.value in
    let first = subst (λ (l : List Unique). IsAlike (worth c.add_pairs.new.count []) (worth c.args.count.now [] + 3 * pair_count (map unique_of l))) c.deref-3.ensures.value (c.in_ok-add_pairs.ensures []) in
    on_ok_weaker c.add_exprs.result (λ h o k.
    let second = subst (λ (es : List Expr). IsAlike (worth c.add_exprs.new.count []) (worth c.add_pairs.new.count [] + nodes_of (all_opened o (exs_in es)))) c.deref-4.ensures.value (h o k) in
    claims_counted c.args.table.now o k (program_of q) told all (worth c.args.count.now []) (worth c.add_pairs.new.count []) (worth c.add_exprs.new.count []) first second) c.add_exprs.ensures

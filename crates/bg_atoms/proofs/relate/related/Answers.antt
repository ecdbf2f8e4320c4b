use Rattle.std.proofs.Common.{map, refl}
use Rattle.std.proofs.lemmas.Result.{IfOk-weaker}
use Rattle.bg_ast.specs.Meaning as m
use Rattle.bg_ast.specs.Views.{ex_of}
use Rattle.bg_formula.specs.Atoms.{view_linear}
use Rattle.bg_linear.specs.Relations.{op_of}
use Rattle.bg_atoms.specs.Made.{behind}
use Rattle.bg_atoms.proofs.Listing.{relation_grows, refused_grows}
use Rattle.bg_atoms.proofs.Relating.{relation_makes, refused_makes, range_of}
use Rattle.bg_atoms.proofs.relate.related.Goals as goal

pub returns-in-Err-clause-grows : goal.returns-in-Err-clause-grows
returns-in-Err-clause-grows c =
    let r = c.requires.related in
    IfOk-weaker c.refused.result _ _ (λ x is. refused_grows c.args.names.now.sorts.items (op_of c.args.l.now.sign) (behind (m.ex_of (ex_of c.args.first.now)) c.args.before.now) (m.ex_of (ex_of c.args.l.now.operand)) r.related r.left r.right c.args.names.now.base _ c.in-Err.r x c.requires.table (range_of (λ v. map view_linear v) c.in-Err.r _ c.in-Err.ensures) is) c.refused.ensures

pub returns-in-Err-clause-made : goal.returns-in-Err-clause-made
returns-in-Err-clause-made c =
    let r = c.requires.related in
    IfOk-weaker c.refused.result _ _ (λ x is all b. refused_makes c.args.names.now.sorts.items c.args.names.now.base all (op_of c.args.l.now.sign) (behind (m.ex_of (ex_of c.args.first.now)) c.args.before.now) (m.ex_of (ex_of c.args.l.now.operand)) r.related r.left r.right c.in-Err.r x (range_of (λ v. map view_linear v) c.in-Err.r _ c.in-Err.ensures) is) c.refused.ensures

pub returns-in_ok-said-in-Ok-clause-grows : goal.returns-in_ok-said-in-Ok-clause-grows
returns-in_ok-said-in-Ok-clause-grows c =
    let r = c.requires.related in
    relation_grows c.args.names.now.sorts.items (op_of c.args.l.now.sign) (behind (m.ex_of (ex_of c.args.first.now)) c.args.before.now) (m.ex_of (ex_of c.args.l.now.operand)) r.related r.left r.right c.args.names.now.base _ _ (map view_linear c.in-Ok.rows.items) c.in-Ok.ensures c.in_ok-all-in-Ok.ensures.grows

pub returns-in_ok-said-in-Ok-clause-made : goal.returns-in_ok-said-in-Ok-clause-made
returns-in_ok-said-in-Ok-clause-made c =
    let r = c.requires.related in
    let whole = map view_linear c.in-Ok.rows.items in
    λ all b. relation_makes c.args.names.now.sorts.items c.args.names.now.base all (op_of c.args.l.now.sign) _ _ r.related r.left r.right (m.ex_of (ex_of c.in_ok-all-in-Ok.all)) _ whole c.in-Ok.ensures (c.in_ok-all-in-Ok.ensures.rows all b) c.in_ok-said-in-Ok.ensures refl

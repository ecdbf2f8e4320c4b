use Rattle.std.proofs.Common.{rules, ◌≡◌, ◌<◌, ◌≤◌, length, get_or, sym, ◌∙◌}
use Rattle.bg_ast.specs.Meaning as m
use Rattle.bg_ast.specs.Views.{ex_of}
use Rattle.bg_atoms.proofs.Heading.{head_at_end, head_other, head_relation, three}
use Rattle.bg_atoms.proofs.heads.head.Goals as goal

pub returns-in-None : goal.returns-in-None
returns-in-None c =
    let end : length c.args.links.now ≤ c.sums-n.result = search rules in
    head_at_end c.args.names.now.sorts.items (m.ex_of (ex_of c.args.first.now)) c.args.links.now c.sums-n.result c.sums-n.ensures end

pub returns-then-is_relation : goal.returns-then-is_relation
returns-then-is_relation c =
    let lt : c.sums-n.result < length c.args.links.now = search rules in
    let is : c.in-Some.l.now ≡ get_or c.args.links.now c.sums-n.result c.in-Some.l.now = search rules in
    let all = three _ _ _ (sym c.is_relation.ensures ∙ c.if-is_relation.true) in
    head_relation c.args.names.now.sorts.items (m.ex_of (ex_of c.args.first.now)) c.args.links.now c.sums-n.result c.sums-n.ensures c.in-Some.l.now lt is all.0 all.1 all.2

pub returns-else-is_relation : goal.returns-else-is_relation
returns-else-is_relation c =
    let lt : c.sums-n.result < length c.args.links.now = search rules in
    let is : c.in-Some.l.now ≡ get_or c.args.links.now c.sums-n.result c.in-Some.l.now = search rules in
    head_other c.args.names.now.sorts.items (m.ex_of (ex_of c.args.first.now)) c.args.links.now c.sums-n.result c.sums-n.ensures c.in-Some.l.now lt is (sym c.is_relation.ensures ∙ c.if-is_relation.false)

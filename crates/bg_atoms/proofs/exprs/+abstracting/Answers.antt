use Rattle.std.proofs.Common.{◌≡◌, ◌<◌, ◌≤◌, ◌+◌, ◌-◌, length, take, drop, refl, sym, ap, ◌∙◌, subst, arith}
use Rattle.bg_ast.specs.declared.resolved.Link.{Link}
use Rattle.std.proofs.lemmas.Bool.Decides.{nat_tests}
use Rattle.std.proofs.lemmas.Result.{IfOk-weaker}
use Rattle.std.proofs.lemmas.List.{take_rest}
use Rattle.bg_ast.specs.Meaning as m
use Rattle.bg_ast.specs.Views.{ex_of, var_of}
use Rattle.bg_linear.specs.Sorts.{kind_ex}
use Rattle.bg_linear.proofs.Kinded.{kind_none}
use Rattle.bg_atoms.specs.Over.{first_refused}
use Rattle.bg_atoms.specs.Made.{rows_in, IsMade, behind}
use Rattle.bg_atoms.specs.Turned.{turned_by, turned_in, with_turned, AreTurned}
use Rattle.bg_atoms.specs.Growing.{Grows}
use Rattle.bg_atoms.proofs.Lists.{begins_itself, begins_on}
use Rattle.bg_atoms.proofs.Listing.{begins_ex, begins_grown}
use Rattle.bg_atoms.proofs.Turning.{begins_turned, begins_links, begins_operand, grows_same, grows_signed, grows_brackets, grows_relation, turn_none, turn_one, turn_none_made, turn_one_made, until_behind, turned_grows, turned_made, turned_last, turned_start, turned_begin, front_relation, anew_at, turned_grown, other_grown, made_anew, made_alone, pop_at, pop_some, left_at}
use Rattle.bg_atoms.proofs.Ranked.{variable_means}
use Rattle.bg_atoms.proofs.Joining.{postfix_bare, none_truth, plain_made, signed_made, chain_whole, chain_grows, linking_none, linking_on, linked, passing_on, made_here, passing_none, passed, no_front, relation_made}
use denote.Param.Weighed.{most, at_most}
use Rattle.bg_ast.specs.declared.resolved.Link.{size_is-Link}
use Rattle.bg_ast.specs.declared.resolved.Expr.{size_is-Expr}
use Rattle.bg_ast.specs.declared.resolved.Expr.TheVariants as expr
use Rattle.bg_ast.proofs.resolved.Link.TheLaws.{the_size as link_size}
use Rattle.bg_ast.proofs.resolved.Expr.TheLaws.{the_size as expr_size}
use Rattle.bg_atoms.proofs.exprs.+abstracting.Goals as goal

pub abstracted-returns-in-Read-clause-made : goal.abstracted-returns-in-Read-clause-made
abstracted-returns-in-Read-clause-made t c =
    let names = c.args.names.now in
    let node = ap (λ y. m.ex_of (ex_of y)) c.in-Read.is in
    λ all b. plain_made names.sorts.items names.base all (m.ex_of (ex_of c.args.e.now)) (m.ex_of (ex_of c.read.result)) c.without_relations-in-Read.result (ap (first_refused names.sorts.items) node) c.without_relations-in-Read.ensures (variable_means names.sorts.items names.base all names.ranks.items (var_of c.in-Read.x) (m.ex_of (ex_of c.args.e.now)) (m.ex_of (ex_of c.read.result)) names.ranked names.counted node c.read.ensures)

pub abstracted-returns-then-is_empty-clause-made : goal.abstracted-returns-then-is_empty-clause-made
abstracted-returns-then-is_empty-clause-made t c =
    let names = c.args.names.now in
    let empty : length c.in-Postfix.brackets.items ≡ 0 = let h = c.is_empty.ensures in let k = c.if-is_empty.true in grind (arith, nat_tests, h, k) in
    let same = ap (λ y. m.ex_of (ex_of y)) c.deref-then-is_empty.ensures ∙ sym (postfix_bare c.in-Postfix.e c.in-Postfix.brackets empty) ∙ ap (λ y. m.ex_of (ex_of y)) (sym c.in-Postfix.is) in
    IfOk-weaker c.abstracted-then-is_empty.result _ _ (λ x is all b. subst (λ e. IsMade names.sorts.items names.base all e x) same (is all b)) c.abstracted-then-is_empty.ensures.made

pub abstracted-returns-else-is_empty-clause-made : goal.abstracted-returns-else-is_empty-clause-made
abstracted-returns-else-is_empty-clause-made t c =
    let names = c.args.names.now in
    let some : 0 < length c.in-Postfix.brackets.items = let h = c.is_empty.ensures in let k = c.if-is_empty.false in grind (arith, nat_tests, h, k) in
    λ all b k. absurd (none_truth (kind_ex names.sorts.items (m.ex_of (ex_of c.args.e.now))) (ap (λ y. kind_ex names.sorts.items (m.ex_of (ex_of y))) c.in-Postfix.is ∙ kind_none names.sorts.items c.in-Postfix.e c.in-Postfix.brackets some) k)

pub begun-returns-in-None-clause-made : goal.begun-returns-in-None-clause-made
begun-returns-in-None-clause-made t c =
    let names = c.args.names.now in
    IfOk-weaker c.abstracted.result _ _ (λ x is all b. subst (λ e. IsMade names.sorts.items names.base all e x) (no_front (m.ex_of (ex_of c.args.first.now)) c.args.front.now c.in-None.ensures.cases) (is all b)) c.abstracted.ensures.made

pub abstracted-returns-in_ok-x-in-Prefix-clause-made : goal.abstracted-returns-in_ok-x-in-Prefix-clause-made
abstracted-returns-in_ok-x-in-Prefix-clause-made t c =
    let sorts = c.args.names.now.sorts.items in
    let signs = c.in-Prefix.signs.items in
    let same = ap (λ y. m.signed signs (m.ex_of (ex_of y))) c.deref-in-Prefix.ensures ∙ ap (λ y. m.ex_of (ex_of y)) (sym c.in-Prefix.is) in
    IfOk-weaker c.prefixed.result _ _ (λ y is all b. subst (λ e. IsMade sorts c.args.names.now.base all e y) same (signed_made sorts c.args.names.now.base all signs (m.ex_of (ex_of c.deref-in-Prefix.result.now)) c.in_ok-x-in-Prefix.x y c.deref-in-Prefix-2.result.now c.deref-in-Prefix-2.ensures.value is (c.in_ok-x-in-Prefix.ensures.made all b))) c.prefixed.ensures

pub abstracted-returns-in_ok-rest-in-Chain-clause-made : goal.abstracted-returns-in_ok-rest-in-Chain-clause-made
abstracted-returns-in_ok-rest-in-Chain-clause-made t c =
    let names = c.args.names.now in
    IfOk-weaker c.joined.result _ _ (λ x is all b.
    let front = begins_on _ _ _ (begins_grown (begins_links names.sorts.items (drop c.head-n.result c.deref-in-Chain-6.result.now)) c.in_ok-rest-in-Chain.ensures.grows) b in
    chain_whole names.sorts.items names.base all _ _ _ _ _ c.in-Chain.e c.in-Chain.links c.args.e.now c.head-n.result c.in_ok-first-in-Chain.first c.in_ok-rest-in-Chain.rest x c.deref-in-Chain.ensures c.deref-in-Chain-4.ensures c.deref-in-Chain-2.ensures.value c.deref-in-Chain-5.ensures.value c.deref-in-Chain-6.ensures.value c.in-Chain.is c.head-n.ensures (c.in_ok-first-in-Chain.ensures.made all front) (c.in_ok-rest-in-Chain.ensures.made all b) is) c.joined.ensures

pub links_from-returns-clause-made : goal.links_from-returns-clause-made
links_from-returns-clause-made t c =
    let names = c.args.over.now.names.now in
    λ all b. linked names.sorts.items names.base all c.args.first _ _ (drop c.args.from c.args.links.now) c.args.links.now _ c.loop-i.i c.loop-i-test.false c.first.ensures (c.loop-i.invariant.1 all b)

pub begun-returns-in-Some-clause-made : goal.begun-returns-in-Some-clause-made
begun-returns-in-Some-clause-made t c =
    let split = c.in-Some.ensures.cases.0 in
    let sorts = c.args.names.now.sorts.items in
    IfOk-weaker c.related.result _ _ (λ x is all b. relation_made sorts c.args.names.now.base all (m.ex_of (ex_of c.args.first.now)) c.args.front.now c.in-Some.before.now c.in-Some.l.now x split (c.requires.front c.in-Some.before.now c.in-Some.l.now split) (is all b)) c.related.ensures.made

pub abstracted-returns-in-Parens-clause-made : goal.abstracted-returns-in-Parens-clause-made
abstracted-returns-in-Parens-clause-made t c =
    let sorts = c.args.names.now.sorts.items in
    let same = ap (λ y. m.ex_of (ex_of y)) c.deref.ensures ∙ ap (λ y. m.ex_of (ex_of y)) (sym c.in-Parens.is) in
    IfOk-weaker c.abstracted.result _ _ (λ x is all b. subst (λ e. IsMade sorts c.args.names.now.base all e x) same (is all b)) c.abstracted.ensures.made

-- ---- what stands behind `<==`

pub turn-returns-then-not-is_explies-clause-grows : goal.turn-returns-then-not-is_explies-clause-grows
turn-returns-then-not-is_explies-clause-grows t c =
    turn_none c.args.names.now.sorts.items c.args.names.now.base c.args.l.now c.args.table.now (sym c.is_explies.ensures ∙ c.if-not-is_explies.true) c.requires.table

pub turn-returns-then-not-is_explies-clause-made : goal.turn-returns-then-not-is_explies-clause-made
turn-returns-then-not-is_explies-clause-made t c =
    λ all b es h. turn_none_made c.args.names.now.sorts.items c.args.names.now.base c.args.l.now all es c.args.made.now.items (sym c.is_explies.ensures ∙ c.if-not-is_explies.true) h

pub turn-returns-clause-grows : goal.turn-returns-clause-grows
turn-returns-clause-grows t c =
    turn_one c.args.names.now.sorts.items c.args.names.now.base c.args.l.now c.args.table.now c.abstracted.new.table (sym c.is_explies.ensures ∙ c.if-not-is_explies.false) c.in_ok-x.ensures.grows

pub turn-returns-clause-made : goal.turn-returns-clause-made
turn-returns-clause-made t c =
    λ all b es h. turn_one_made c.args.names.now.sorts.items c.args.names.now.base c.args.l.now all es c.args.made.now.items c.push.new.self.items c.in_ok-x.x (sym c.is_explies.ensures ∙ c.if-not-is_explies.false) c.in_ok-push.ensures.items (c.in_ok-x.ensures.made all b) h

pub turned-loop-i-init : goal.turned-loop-i-init
turned-loop-i-init t c =
    let names = c.args.names.now in
    let links = c.args.links.now in
    let u = c.until_implies.result in
    let part = take_rest links c.args.from in
    let last = turned_last names.sorts.items names.base links _ c.args.from u part c.until_implies.ensures.until in (
      omega arith,
      omega (arith, last),
      let h = until_behind links c.args.from c.requires.from in omega (arith, h, last),
      turned_start names.sorts.items names.base links _ c.args.from u part c.until_implies.ensures.until c.args.table.now c.requires.table,
      λ all b. turned_begin names.sorts.items names.base links _ c.args.from u part c.until_implies.ensures.until all c.new-made.result.items c.new-made.ensures.items,
    )

pub turned-loop-i-preserved : goal.turned-loop-i-preserved
turned-loop-i-preserved t c =
    let names = c.args.names.now in
    let links = c.args.links.now in
    let from = c.args.from in
    let i = c.loop-i.i in
    let l = c.index-links-i.result in
    let more : from < i = c.loop-i-test.true in
    let at : i - 1 + 1 ≡ i = omega arith in
    let le : from ≤ i - 1 = omega arith in (
      le,
      omega (arith, c.loop-i.invariant.1),
      omega (arith, c.loop-i.invariant.2),
      turned_grows names.sorts.items names.base links from (i - 1) i l c.requires.from at le c.loop-i.invariant.1 c.index-links-i.is c.args.table.now c.loop-i.table c.turn.new.table c.loop-i.invariant.3 c.in_ok-turn.ensures.grows,
      λ all b. turned_made names.sorts.items names.base links from (i - 1) i l c.requires.from at le c.loop-i.invariant.1 c.index-links-i.is all c.loop-i.made.items c.turn.new.made.items (c.in_ok-turn.ensures.made all b) (c.loop-i.invariant.4 all (begins_on _ _ _ (begins_grown (begins_turned names.sorts.items (turned_by l)) c.in_ok-turn.ensures.grows) b)),
    )

pub turned-returns-clause-grows : goal.turned-returns-clause-grows
turned-returns-clause-grows t c =
    let end : c.loop-i.i ≡ c.args.from = omega (arith, c.loop-i.invariant.0) in
    subst (λ j. Grows c.args.names.now.base (with_turned c.args.names.now.sorts.items (turned_in (drop j c.args.links.now))) c.args.table.now c.loop-i.table) end c.loop-i.invariant.3

pub turned-returns-clause-made : goal.turned-returns-clause-made
turned-returns-clause-made t c =
    let end : c.loop-i.i ≡ c.args.from = omega (arith, c.loop-i.invariant.0) in
    λ all b. subst (λ j. AreTurned c.args.names.now.sorts.items c.args.names.now.base all (turned_in (drop j c.args.links.now)) c.loop-i.made.items) end (c.loop-i.invariant.4 all b)

-- ---- operands

pub operand-returns-then-is_implies-clause-grows : goal.operand-returns-then-is_implies-clause-grows
operand-returns-then-is_implies-clause-grows t c =
    let names = c.args.over.now.names.now in
    let links = c.args.links.now in
    let lt : c.args.i < length links = let h = c.requires.within in omega (arith, h) in
    let f = ap (λ k. take k (drop (c.args.i + 1) links)) (let e : c.args.i + 1 + c.args.n - (c.args.i + 1) ≡ c.args.n = omega arith in e) in
    IfOk-weaker c.begun.result _ _ (λ x is. anew_at names.sorts.items names.base links c.args.i c.args.n c.index-links-i.result lt c.index-links-i.is c.requires.next _ c.args.table.now c.turned.new.table c.begun.new.table f (sym c.is_implies.ensures ∙ c.if-is_implies.true) c.in_ok-made.ensures.grows is) c.begun.ensures.grows

pub operand-returns-then-is_implies-clause-turned : goal.operand-returns-then-is_implies-clause-turned
operand-returns-then-is_implies-clause-turned t c =
    let names = c.args.over.now.names.now in
    let front = take (c.args.i + 1 + c.args.n - (c.args.i + 1)) (drop (c.args.i + 1) c.args.links.now) in
    IfOk-weaker c.begun.result _ _ (λ x is all b. c.in_ok-made.ensures.made all (begins_on _ _ _ (begins_grown (begins_ex names.sorts.items (behind (m.ex_of (ex_of c.index-links-i.result.operand)) front)) is) b)) c.begun.ensures.grows

pub operand-returns-then-is_implies-clause-made : goal.operand-returns-then-is_implies-clause-made
operand-returns-then-is_implies-clause-made t c =
    let names = c.args.over.now.names.now in
    let links = c.args.links.now in
    let lt : c.args.i < length links = let h = c.requires.within in omega (arith, h) in
    let f = ap (λ k. take k (drop (c.args.i + 1) links)) (let e : c.args.i + 1 + c.args.n - (c.args.i + 1) ≡ c.args.n = omega arith in e) in
    IfOk-weaker c.begun.result _ _ (λ x is all b. made_anew names.sorts.items names.base links c.args.i c.args.n c.index-links-i.result lt c.index-links-i.is c.requires.next all _ x f (is all b)) c.begun.ensures.made

pub operand-returns-clause-turned : goal.operand-returns-clause-turned
operand-returns-clause-turned t c =
    let names = c.args.over.now.names.now in
    let links = c.args.links.now in
    let lt : c.args.i < length links = let h = c.requires.within in omega (arith, h) in
    IfOk-weaker c.abstracted.result _ _ (λ x is all b. left_at names.sorts.items names.base links c.args.i c.args.n c.index-links-i.result lt c.index-links-i.is c.requires.next all c.args.made.now.items (sym c.is_implies.ensures ∙ c.if-is_implies.false) (sym c.is_explies.ensures ∙ c.if-is_explies.false) (c.requires.made all (begins_on _ _ _ (begins_grown (begins_ex names.sorts.items (m.ex_of (ex_of c.index-links-i.result.operand))) is) b))) c.abstracted.ensures.grows

pub operand-begun-requires : goal.operand-begun-requires
operand-begun-requires t c =
    let names = c.args.over.now.names.now in
    let links = c.args.links.now in
    let lt : c.args.i < length links = let h = c.requires.within in omega (arith, h) in
    let f = ap (λ k. take k (drop (c.args.i + 1) links)) (let e : c.args.i + 1 + c.args.n - (c.args.i + 1) ≡ c.args.n = omega arith in e) in
    (let h = at_most link_size links c.args.i c.index-links-i.result lt in let k = ap link_size c.index-links-i.is in let d = c.decreases in let z = size_is-Link c.index-links-i.result in omega (arith, h, k, d, z), (front_relation names.sorts.items names.base links c.args.i c.args.n c.index-links-i.result lt c.index-links-i.is c.requires.next _ f, c.in_ok-made.ensures.grows.table))

pub operand-returns-clause-grows : goal.operand-returns-clause-grows
operand-returns-clause-grows t c =
    let names = c.args.over.now.names.now in
    let links = c.args.links.now in
    let lt : c.args.i < length links = let h = c.requires.within in omega (arith, h) in
    IfOk-weaker c.abstracted.result _ _ (λ x is. other_grown names.sorts.items names.base links c.args.i c.args.n c.index-links-i.result lt c.index-links-i.is c.requires.next c.args.table.now c.abstracted.new.table (sym c.is_implies.ensures ∙ c.if-is_implies.false) (sym c.is_explies.ensures ∙ c.if-is_explies.false) is) c.abstracted.ensures.grows

pub operand-returns-clause-made : goal.operand-returns-clause-made
operand-returns-clause-made t c =
    let names = c.args.over.now.names.now in
    let links = c.args.links.now in
    let lt : c.args.i < length links = let h = c.requires.within in omega (arith, h) in
    IfOk-weaker c.abstracted.result _ _ (λ x is all b. made_alone names.sorts.items names.base links c.args.i c.args.n c.index-links-i.result lt c.index-links-i.is c.requires.next all x (sym c.is_implies.ensures ∙ c.if-is_implies.false) (is all b)) c.abstracted.ensures.made

pub operand-last-requires : goal.operand-last-requires
operand-last-requires t c =
    let names = c.args.over.now.names.now in
    let links = c.args.links.now in
    let lt : c.args.i < length links = let h = c.requires.within in omega (arith, h) in
    pop_some names.sorts.items names.base links c.args.i c.args.n c.index-links-i.result lt c.index-links-i.is c.requires.next (rows_in c.args.table.now.rows) c.args.made.now.items (sym c.is_implies.ensures ∙ c.if-is_implies.false) (sym c.is_explies.ensures ∙ c.if-is_explies.true) (c.requires.made (rows_in c.args.table.now.rows) (begins_itself (rows_in c.args.table.now.rows)))

pub operand-returns-then-is_explies-clause-grows : goal.operand-returns-then-is_explies-clause-grows
operand-returns-then-is_explies-clause-grows t c =
    let names = c.args.over.now.names.now in
    let links = c.args.links.now in
    let lt : c.args.i < length links = let h = c.requires.within in omega (arith, h) in
    turned_grown names.sorts.items names.base links c.args.i c.args.n c.index-links-i.result lt c.index-links-i.is c.requires.next c.args.table.now (sym c.is_implies.ensures ∙ c.if-is_implies.false) (sym c.is_explies.ensures ∙ c.if-is_explies.true) c.requires.table

pub operand-returns-then-is_explies-clause-turned : goal.operand-returns-then-is_explies-clause-turned
operand-returns-then-is_explies-clause-turned t c =
    let names = c.args.over.now.names.now in
    let links = c.args.links.now in
    let lt : c.args.i < length links = let h = c.requires.within in omega (arith, h) in
    λ all b. (pop_at names.sorts.items names.base links c.args.i c.args.n c.index-links-i.result lt c.index-links-i.is c.requires.next all c.args.made.now.items c.last.new.made.items c.last.result (sym c.is_implies.ensures ∙ c.if-is_implies.false) (sym c.is_explies.ensures ∙ c.if-is_explies.true) c.last.ensures (c.requires.made all b)).1

pub operand-returns-then-is_explies-clause-made : goal.operand-returns-then-is_explies-clause-made
operand-returns-then-is_explies-clause-made t c =
    let names = c.args.over.now.names.now in
    let links = c.args.links.now in
    let lt : c.args.i < length links = let h = c.requires.within in omega (arith, h) in
    λ all b. (pop_at names.sorts.items names.base links c.args.i c.args.n c.index-links-i.result lt c.index-links-i.is c.requires.next all c.args.made.now.items c.last.new.made.items c.last.result (sym c.is_implies.ensures ∙ c.if-is_implies.false) (sym c.is_explies.ensures ∙ c.if-is_explies.true) c.last.ensures (c.requires.made all b)).0

pub abstracted-links_from-requires : goal.abstracted-links_from-requires
abstracted-links_from-requires t c =
    let names = c.args.names.now in
    let n = c.head-n.result in
    let same = c.deref-in-Chain-3.ensures.value ∙ sym c.deref-in-Chain-6.ensures.value in (
      let h = ap expr_size c.in-Chain.is in let k = ap (most link_size) c.deref-in-Chain-6.ensures.value in let d = c.decreases in let z = rw (expr.outs-Chain c.in-Chain.e c.in-Chain.links) at (size_is-Expr (expr.Chain c.in-Chain.e c.in-Chain.links)) in omega (arith, h, k, d, z),
      (
        c.in_ok-first-in-Chain.ensures.grows.table,
        λ all b. subst (λ d. AreTurned names.sorts.items names.base all (turned_in (drop n d)) c.in_ok-before-in-Chain.before.items) same (c.in_ok-before-in-Chain.ensures.made all (begins_on _ _ _ (begins_grown (begins_ex names.sorts.items (behind (m.ex_of (ex_of c.deref-in-Chain-4.result.now)) (take n c.deref-in-Chain-5.result.now))) c.in_ok-first-in-Chain.ensures.grows) b)),
      ),
    )

pub abstracted-returns-in_ok-x-in-Prefix-clause-grows : goal.abstracted-returns-in_ok-x-in-Prefix-clause-grows
abstracted-returns-in_ok-x-in-Prefix-clause-grows t c =
    let names = c.args.names.now in
    let signs = c.in-Prefix.signs.items in
    let same = ap (λ y. m.signed signs (m.ex_of (ex_of y))) c.deref-in-Prefix.ensures ∙ ap (λ y. m.ex_of (ex_of y)) (sym c.in-Prefix.is) in
    IfOk-weaker c.prefixed.result _ _ (λ y is. grows_signed names.sorts.items names.base signs (m.ex_of (ex_of c.deref-in-Prefix.result.now)) (m.ex_of (ex_of c.args.e.now)) _ _ same c.in_ok-x-in-Prefix.ensures.grows) c.prefixed.ensures

pub abstracted-returns-then-is_empty-clause-grows : goal.abstracted-returns-then-is_empty-clause-grows
abstracted-returns-then-is_empty-clause-grows t c =
    let names = c.args.names.now in
    let empty : length c.in-Postfix.brackets.items ≡ 0 = let h = c.is_empty.ensures in let k = c.if-is_empty.true in grind (arith, nat_tests, h, k) in
    let same = ap (λ y. m.ex_of (ex_of y)) c.deref-then-is_empty.ensures ∙ sym (postfix_bare c.in-Postfix.e c.in-Postfix.brackets empty) ∙ ap (λ y. m.ex_of (ex_of y)) (sym c.in-Postfix.is) in
    IfOk-weaker c.abstracted-then-is_empty.result _ _ (λ x is. grows_same names.sorts.items names.base (m.ex_of (ex_of c.deref-then-is_empty.result.now)) (m.ex_of (ex_of c.args.e.now)) _ _ same is) c.abstracted-then-is_empty.ensures.grows

pub abstracted-returns-else-is_empty-clause-grows : goal.abstracted-returns-else-is_empty-clause-grows
abstracted-returns-else-is_empty-clause-grows t c =
    let names = c.args.names.now in
    let some : 0 < length c.in-Postfix.brackets.items = let h = c.is_empty.ensures in let k = c.if-is_empty.false in grind (arith, nat_tests, h, k) in
    grows_brackets names.sorts.items names.base c.in-Postfix.e c.in-Postfix.brackets c.args.e.now _ c.in-Postfix.is some c.requires.table

pub abstracted-returns-in_ok-rest-in-Chain-clause-grows : goal.abstracted-returns-in_ok-rest-in-Chain-clause-grows
abstracted-returns-in_ok-rest-in-Chain-clause-grows t c =
    let names = c.args.names.now in
    IfOk-weaker c.joined.result _ _ (λ x is. chain_grows names.sorts.items names.base _ _ _ _ _ _ c.in-Chain.e c.in-Chain.links c.args.e.now c.head-n.result _ _ _ _ c.deref-in-Chain.ensures c.deref-in-Chain-4.ensures c.deref-in-Chain-2.ensures.value c.deref-in-Chain-5.ensures.value c.deref-in-Chain-6.ensures.value c.deref-in-Chain-3.ensures.value c.in-Chain.is c.head-n.ensures c.in_ok-before-in-Chain.ensures.grows c.in_ok-first-in-Chain.ensures.grows c.in_ok-rest-in-Chain.ensures.grows) c.joined.ensures

pub begun-returns-in-Some-clause-grows : goal.begun-returns-in-Some-clause-grows
begun-returns-in-Some-clause-grows t c =
    let names = c.args.names.now in
    let split = c.in-Some.ensures.cases.0 in
    IfOk-weaker c.related.result _ _ (λ x is. grows_relation names.sorts.items names.base (m.ex_of (ex_of c.args.first.now)) c.args.front.now c.in-Some.before.now c.in-Some.l.now _ _ split (c.requires.front c.in-Some.before.now c.in-Some.l.now split) is) c.related.ensures.grows

pub begun-returns-in-None-clause-grows : goal.begun-returns-in-None-clause-grows
begun-returns-in-None-clause-grows t c =
    let names = c.args.names.now in
    IfOk-weaker c.abstracted.result _ _ (λ x is. grows_same names.sorts.items names.base (m.ex_of (ex_of c.args.first.now)) (behind (m.ex_of (ex_of c.args.first.now)) c.args.front.now) _ _ (no_front (m.ex_of (ex_of c.args.first.now)) c.args.front.now c.in-None.ensures.cases) is) c.abstracted.ensures.grows

-- ---- links

pub links_from-loop-i-init : goal.links_from-loop-i-init
links_from-loop-i-init t c =
    let names = c.args.over.now.names.now in (
      passing_none names.sorts.items names.base (drop c.args.from c.args.links.now) c.args.table.now c.requires.table,
      λ all b. linking_none names.sorts.items names.base all c.args.first _ _ (drop c.args.from c.args.links.now) c.new-made.result.items c.new-order.ensures.before c.new-order.ensures.here c.new-made.ensures.items,
      c.requires.before,
    )

pub links_from-loop-i-preserved : goal.links_from-loop-i-preserved
links_from-loop-i-preserved t c =
    let names = c.args.over.now.names.now in
    let l = c.index-links-i.result in
    let y : Link = record { pos = l.pos; sign = l.sign; operand = c.in_ok-x.x.says } in
    let links = c.args.links.now in
    let rest = take (length links - (c.loop-i.i + 1)) (drop (c.loop-i.i + 1) links) in
    let whole = drop c.args.from links in
    let j = c.loop-i.i + (1 + c.next-n.result) in
    let at : j ≡ c.loop-i.i + 1 + c.next-n.result = omega arith in (
      passing_on names.sorts.items links c.loop-i.i l rest c.next-n.result c.loop-i-test.true c.index-links-i.is (take_rest links (c.loop-i.i + 1)) c.next-n.ensures names.base whole c.args.table.now c.loop-i.table c.operand.new.table j at c.loop-i.invariant.0 c.in_ok-x.ensures.grows,
      λ all b. linking_on names.sorts.items links c.loop-i.i l rest c.next-n.result c.loop-i-test.true c.index-links-i.is (take_rest links (c.loop-i.i + 1)) c.next-n.ensures names.base all c.args.first c.loop-i.order.before c.loop-i.order.here c.then-order.result.before c.then-order.result.here whole c.loop-i.made.items c.push.new.self.items y c.in_ok-x.x j at refl refl c.in_ok-push.ensures.items c.then-order.ensures.before c.then-order.ensures.here (made_here names.sorts.items links c.loop-i.i l rest c.next-n.result c.loop-i-test.true c.index-links-i.is (take_rest links (c.loop-i.i + 1)) c.next-n.ensures names.base all c.in_ok-x.x (c.in_ok-x.ensures.made all b)) (c.loop-i.invariant.1 all (begins_on _ _ _ (begins_grown (begins_operand names.sorts.items (drop c.loop-i.i links) c.next-n.result) c.in_ok-x.ensures.grows) b)),
      λ all b. subst (λ k. AreTurned names.sorts.items names.base all (turned_in (drop k links)) c.operand.new.made.items) (sym at) (c.in_ok-x.ensures.turned all b),
    )

pub links_from-returns-clause-grows : goal.links_from-returns-clause-grows
links_from-returns-clause-grows t c =
    passed c.args.over.now.names.now.sorts.items c.args.over.now.names.now.base (drop c.args.from c.args.links.now) c.args.links.now c.loop-i.i c.args.table.now c.loop-i.table c.loop-i-test.false c.loop-i.invariant.0

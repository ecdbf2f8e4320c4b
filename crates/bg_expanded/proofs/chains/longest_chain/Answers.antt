use Rattle.std.proofs.Common.{◌≡◌, ℕ, List, map, length, sym, ap, ◌∙◌, subst, arith, Vec, Global}
use Rattle.std.proofs.lemmas.List.{length-map}
use Rattle.bg_ast.specs.Resolved.{Fun}
use Rattle.bg_ast.specs.declared.resolved.Function.{Function}
use Rattle.bg_ast.specs.Views.{fun_of}
use Rattle.bg_graph.specs.Graphs.{Graph, graph_of, IsGraph, IsFirstOnCycle}
use Rattle.bg_graph.specs.Answers.{IsAnswer}
use Rattle.bg_graph.specs.declared.order.Order.{Order}
use Rattle.bg_expanded.specs.Chains.{chain_to, greatest_below}
use Rattle.bg_expanded.specs.Ranked.{greatest_of}
use Rattle.bg_expanded.specs.Applied.{applied_graph, applied_by}
use Rattle.bg_expanded.proofs.Ranks.{is_graph, endless_below}
use Rattle.bg_expanded.proofs.Greatest.{greatest_table}
use Rattle.bg_expanded.proofs.chains.longest_chain.Goals as goal

pub order_of-requires-clause-graph : goal.order_of-requires-clause-graph
order_of-requires-clause-graph c =
    let P : Graph → Type 0 = λ g. IsGraph g in
    subst P (sym (ap graph_of c.deref.ensures.value ∙ c.in_ok-edges.ensures)) (is_graph (map fun_of c.as_slice-functions.result.now))

pub returns-in-Cyclic : goal.returns-in-Cyclic
returns-in-Cyclic c =
    let fs = map fun_of c.as_slice-functions.result.now in
    let P : Graph → Type 0 = λ g. IsFirstOnCycle g c.in-Cyclic.field-0 in
    let A : Order → Type 0 = λ o. IsAnswer (graph_of c.deref.result.now) o in
    let first : IsFirstOnCycle (graph_of c.deref.result.now) c.in-Cyclic.field-0 = subst A c.in-Cyclic.is c.in_ok-order_of.ensures in
    let here : IsFirstOnCycle (applied_graph fs) c.in-Cyclic.field-0 = subst P (ap graph_of c.deref.ensures.value ∙ c.in_ok-edges.ensures) first in
    let n = endless_below fs c.in-Cyclic.field-0 here.0 in
    let long : length (graph_of c.in_ok-edges.edges.items) ≡ length (applied_graph fs) = ap length c.in_ok-edges.ensures in
    let a = length-map c.in_ok-edges.edges.items (λ (row : Vec ℕ Global). row.items) in
    let b = length-map fs (λ (f : Fun). applied_by (length fs) f.body) in
    let same : c.as_slice-functions.result.now ≡ c.args.program.now.functions.items = c.as_slice-functions.ensures.value in
    let count : c.len-in-Cyclic.result ≡ length fs = omega (arith, c.len-in-Cyclic.ensures, c.deref.ensures.len, ap length c.deref.ensures.value) in
    count ∙ (sym n ∙ ap (λ (l : List Function). greatest_below (chain_to (map fun_of l) (length (map fun_of l))) (length (map fun_of l))) same)

pub returns : goal.returns
returns c =
    let functions = c.as_slice-functions.result.now in
    let fs = map fun_of functions in
    let same : functions ≡ c.args.program.now.functions.items = c.as_slice-functions.ensures.value in
    let n = length-map functions fun_of in
    let deep = c.in_ok-deep-in-Acyclic.deep.items in
    let table = greatest_table (chain_to fs (length fs)) deep (length fs) (c.in_ok-deep-in-Acyclic.ensures.long ∙ sym n) (λ f h. c.in_ok-deep-in-Acyclic.ensures.is f (omega arith) ∙ ap (λ (m : ℕ). chain_to fs m f) (sym n)) in
    c.greatest.ensures ∙ (ap greatest_of c.deref-in-Acyclic-3.ensures.value ∙ (table ∙ ap (λ (l : List Function). greatest_below (chain_to (map fun_of l) (length (map fun_of l))) (length (map fun_of l))) same))

use Rattle.std.proofs.Common.{◌≡◌, [], map, sym, subst, refl}
use Rattle.bg_text.specs.Views as v
use Rattle.bg_graph.specs.Graphs.{graph_of, IsGraph}
use Rattle.bg_names.specs.Spaces.{names_of}
use Rattle.bg_spaces.specs.Declarations.{function_ids}
use Rattle.bg_resolve.specs.Calls.{calls_in, fun_in}
use Rattle.bg_resolve.specs.Calls.IsRecursion.{never, first}
use Rattle.bg_resolve.proofs.Recursions.{calls-graph, acyclic, on_cycle, function_at}
use Rattle.bg_resolve.proofs.recursion.note_recursion.Goals as goal

pub order-requires : goal.order-requires
order-requires c =
    let ds = map v.decl_of c.args.decls.now in
    let same : graph_of c.deref.result.now ≡ calls_in (names_of (function_ids ds)) ds = rw c.deref.ensures.value c.in_ok-functions.ensures.rows in
    record { graph = subst IsGraph (sym same) (calls-graph ds) }

pub returns-in-Acyclic-clause-ok : goal.returns-in-Acyclic-clause-ok
returns-in-Acyclic-clause-ok c =
    let ds = map v.decl_of c.args.decls.now in
    let same : graph_of c.deref.result.now ≡ calls_in (names_of (function_ids ds)) ds = rw c.deref.ensures.value c.in_ok-functions.ensures.rows in
    ([], never (acyclic _ _ _ _ same c.in-Acyclic.is c.in_ok-order.ensures.ok), refl)

pub returns-clause-ok : goal.returns-clause-ok
returns-clause-ok c =
    let ds = map v.decl_of c.args.decls.now in
    let same : graph_of c.deref.result.now ≡ calls_in (names_of (function_ids ds)) ds = rw c.deref.ensures.value c.in_ok-functions.ensures.rows in
    let cycle = on_cycle _ _ _ _ same c.in-Cyclic.is c.in_ok-order.ensures.ok in
    let lt = c.what_reaches_is_a_node.ensures (calls_in (names_of (function_ids ds)) ds) c.in-Cyclic.k c.in-Cyclic.k cycle.0 in
    (_, first c.in-Cyclic.k (fun_in c.index-f.result.now) cycle (function_at ds _ _ c.in-Cyclic.k c.index-f.result.now c.in_ok-functions.ensures.functions lt c.index-f.ensures), rw (sym c.deref-in-Cyclic.ensures.value) c.note.ensures)

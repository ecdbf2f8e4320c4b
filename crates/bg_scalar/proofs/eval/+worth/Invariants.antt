use Rattle.std.proofs.Common.{◌≡◌, drop, map, None}
use Rattle.bg_scalar.specs.Views.{seen_of, worth_in, premise_in}
use Rattle.bg_ast.specs.Meaning.{exs_of}
use Rattle.bg_ast.specs.Views.{link_view, bracket_view, exs_in}
use Rattle.bg_scalar.specs.Values.{value_of}
use Rattle.bg_scalar.specs.Lists.{worths, onto}
use Rattle.bg_scalar.specs.Along.{along, behind}
use Rattle.bg_scalar.proofs.eval.+worth.Given as goal

abbrev pub invariant-chain-loop-link : goal.invariant-chain-loop-link
invariant-chain-loop-link l =
    along (premise_in l.held.premise) (worth_in l.held.operand) (map link_view (drop l.link-index l.links)) (seen_of l.sight) ≡ along None (worth_in l.fn.first) (map link_view l.links) (seen_of l.sight)

abbrev pub invariant-behind-loop-b : goal.invariant-behind-loop-b
invariant-behind-loop-b l =
    behind (worth_in l.value) (map bracket_view (drop l.b-index l.brackets)) (seen_of l.sight) ≡ behind (worth_in l.fn.first) (map bracket_view l.brackets) (seen_of l.sight)

abbrev pub invariant-worths-loop-e : goal.invariant-worths-loop-e
invariant-worths-loop-e l =
    onto (map value_of l.made.items) (worths (exs_of (exs_in (drop l.e-index l.es))) (seen_of l.sight)) ≡ worths (exs_of (exs_in l.es)) (seen_of l.sight)

use Rattle.std.proofs.Common.{◌≡◌, map, drop}
use Rattle.bg_ast.specs.Views.{links_of, link_view}
use Rattle.bg_linear.specs.ChainKinds.{chain_kinds, folded}
use Rattle.bg_linear.proofs.sorted.+kinds.Given as goal

abbrev pub invariant-chain_kind-loop-l : goal.invariant-chain_kind-loop-l
invariant-chain_kind-loop-l l =
    folded l.waiting (chain_kinds l.sorts l.made (links_of (map link_view (drop l.l-index l.links)))) ≡ chain_kinds l.sorts l.fn.first (links_of (map link_view l.links))

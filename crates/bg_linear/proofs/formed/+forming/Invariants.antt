use Rattle.std.proofs.Common.{◌≡◌, map, drop}
use Rattle.bg_ast.specs.Views.{links_of, link_view}
use Rattle.bg_linear.specs.Chains.{chain_forms}
use Rattle.bg_linear.specs.Views.{made_of}
use Rattle.bg_linear.proofs.formed.+forming.Given as goal

abbrev pub invariant-chain-loop-l : goal.invariant-chain-loop-l
invariant-chain-loop-l l =
    chain_forms (made_of l.made) (links_of (map link_view (drop l.l-index l.links))) ≡ chain_forms (made_of l.fn.first) (links_of (map link_view l.links))

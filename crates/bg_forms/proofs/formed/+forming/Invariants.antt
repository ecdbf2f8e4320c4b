use Rattle.std.proofs.Common.{◌≡◌, map, drop}
use Rattle.bg_ast.specs.Views.{links_of, link_view}
use Rattle.bg_forms.specs.ChainForms.{chain_forms, folded}
use Rattle.bg_forms.specs.Views.{form_in}
use Rattle.bg_forms.proofs.formed.+forming.Given as goal

abbrev pub invariant-chain-loop-l : goal.invariant-chain-loop-l
invariant-chain-loop-l l =
    folded (map form_in l.waiting.items) (chain_forms (form_in l.made) (links_of (map link_view (drop l.l-index l.links)))) ≡ chain_forms (form_in l.fn.first) (links_of (map link_view l.links))

use Rattle.std.proofs.Common.{ℕ, List, ◌+◌, ◌*◌, ◌≤◌, drop, map, length}
use Rattle.bg_ast.specs.Views.{exs_in, link_view, links_of, bracket_view, brackets_of}
use Rattle.bg_expanded.specs.Weights.{total, weights, weight_behind, weight_linked}
use Rattle.bg_expanded.specs.Bodies.{IsAlike, paired, worth, weigher}
use Rattle.bg_expanded.proofs.nodes.+add.Given as goal

abbrev pub invariant-add_args-loop-place : goal.invariant-add_args-loop-place
invariant-add_args-loop-place l = record {
  within : l.place ≤ length l.es;
  is : (ws : List ℕ) →
      IsAlike (worth l.count ws + l.times * paired (drop l.place l.reads) (weights (weigher l.table) ws (exs_in (drop l.place l.es))))
      (worth l.fn.count ws + l.times * paired l.reads (weights (weigher l.table) ws (exs_in l.es)));
}

abbrev pub invariant-add_all-loop-e : goal.invariant-add_all-loop-e
invariant-add_all-loop-e l =
    (ws : List ℕ) →
    IsAlike (worth l.count ws + l.times * total (weights (weigher l.table) ws (exs_in (drop l.e-index l.es))))
    (worth l.fn.count ws + l.times * total (weights (weigher l.table) ws (exs_in l.es)))

abbrev pub invariant-add_behind-loop-bracket : goal.invariant-add_behind-loop-bracket
invariant-add_behind-loop-bracket l =
    (ws : List ℕ) →
    IsAlike (worth l.count ws + l.times * weight_behind (weigher l.table) ws (brackets_of (map bracket_view (drop l.bracket-index l.brackets))))
    (worth l.fn.count ws + l.times * weight_behind (weigher l.table) ws (brackets_of (map bracket_view l.brackets)))

abbrev pub invariant-add_linked-loop-link : goal.invariant-add_linked-loop-link
invariant-add_linked-loop-link l =
    (ws : List ℕ) →
    IsAlike (worth l.count ws + l.times * weight_linked (weigher l.table) ws (links_of (map link_view (drop l.link-index l.links))))
    (worth l.fn.count ws + l.times * weight_linked (weigher l.table) ws (links_of (map link_view l.links)))

use Rattle.std.proofs.Common.{◌≡◌, ◌++◌, map, drop}
use Rattle.bg_ast.specs.Views.{exs_in, brackets_of, bracket_view, links_of, link_view}
use Rattle.bg_kinds.specs.Faults.{first_of}
use Rattle.bg_typing.specs.Exprs.{judge_all, sides_of, faults_of, behind, chained}
use Rattle.bg_typing.specs.Chains.{unwound}
use Rattle.bg_kinds.specs.FaultViews.{best_of}
use Rattle.bg_typing.specs.SideViews.{side_of, scope_of, waiting_of}
use Rattle.bg_typing.proofs.exprs.+judge.Given as goal

abbrev pub invariant-judge_list-loop-e : goal.invariant-judge_list-loop-e
invariant-judge_list-loop-e l =
    record {
      best : first_of (best_of l.best) (faults_of (judge_all (scope_of l.fn.g) (exs_in (drop l.e-index l.es)))) ≡ first_of (best_of l.fn.best) (faults_of (judge_all (scope_of l.fn.g) (exs_in l.es)));
      sides : (map side_of l.made.items ++ sides_of (judge_all (scope_of l.fn.g) (exs_in (drop l.e-index l.es)))) ≡ sides_of (judge_all (scope_of l.fn.g) (exs_in l.es));
    }

abbrev pub invariant-judge_brackets-loop-bracket : goal.invariant-judge_brackets-loop-bracket
invariant-judge_brackets-loop-bracket l =
    record {
      best : first_of (best_of l.best) (behind (scope_of l.fn.g) (side_of l.side) (brackets_of (map bracket_view (drop l.bracket-index l.brackets)))).faults ≡ first_of (best_of l.fn.best) (behind (scope_of l.fn.g) (side_of l.fn.m) (brackets_of (map bracket_view l.brackets))).faults;
      side : (behind (scope_of l.fn.g) (side_of l.side) (brackets_of (map bracket_view (drop l.bracket-index l.brackets)))).side ≡ (behind (scope_of l.fn.g) (side_of l.fn.m) (brackets_of (map bracket_view l.brackets))).side;
    }

abbrev pub invariant-judge_chain-loop-link : goal.invariant-judge_chain-loop-link
invariant-judge_chain-loop-link l =
    record {
      best : first_of (best_of l.best) (unwound (map waiting_of l.waiting.items) (chained (scope_of l.fn.g) (side_of l.side) (links_of (map link_view (drop l.link-index l.links))))).faults ≡ first_of (best_of l.fn.best) (chained (scope_of l.fn.g) (side_of l.fn.a) (links_of (map link_view l.links))).faults;
      side : (unwound (map waiting_of l.waiting.items) (chained (scope_of l.fn.g) (side_of l.side) (links_of (map link_view (drop l.link-index l.links))))).side ≡ (chained (scope_of l.fn.g) (side_of l.fn.a) (links_of (map link_view l.links))).side;
    }

use Rattle.std.proofs.Common.{◌+◌, ◌∷◌, [], ◌++◌, map, drop, ap, ◌∙◌, sym, append-nil}
use Rattle.std.proofs.lemmas.List.{map-append, at_drop_all}
use Rattle.bg_ast.specs.Views.{exs_in, brackets_of, bracket_view, links_of, link_view}
use Rattle.bg_kinds.specs.Faults.{first_of}
use Rattle.bg_typing.specs.Exprs.{judge_all, sides_of, faults_of, behind, chained}
use Rattle.bg_typing.specs.Chains.{left_side, left_faults, unwound}
use Rattle.bg_kinds.specs.FaultViews.{best_of}
use Rattle.bg_typing.specs.SideViews.{side_of, scope_of, waiting_of}
use Rattle.bg_kinds.proofs.Loops.{dropped}
use Rattle.bg_typing.proofs.Forms.{list_best, list_sides, brackets_best, brackets_side}
use Rattle.bg_typing.proofs.Forms as F
use Rattle.bg_typing.proofs.Judged as J
use Rattle.bg_typing.proofs.exprs.+judge.Goals as goal

pub judge_list-loop-e-preserved : goal.judge_list-loop-e-preserved
judge_list-loop-e-preserved t c =
    let at = dropped c.args.es.now c.loop-e.e-index c.e-item.result c.loop-e-test.true c.e-item.is in
    record {
      best = list_best (scope_of c.args.g) _ _ _ _ _ at c.in_ok-judge.ensures.best ∙ c.loop-e.invariant.best;
      sides =
          ap (λ l. l ++ sides_of (judge_all (scope_of c.args.g) (exs_in (drop (c.loop-e.e-index + 1) c.args.es.now)))) (ap (map side_of) c.in_ok-push.ensures.items ∙ map-append side_of c.loop-e.made.items (c.in_ok-judge.field-0 ∷ []))
          ∙ (list_sides (scope_of c.args.g) _ _ _ (map side_of c.loop-e.made.items) _ at c.in_ok-judge.ensures.side ∙ c.loop-e.invariant.sides);
    }

pub judge_brackets-loop-bracket-preserved : goal.judge_brackets-loop-bracket-preserved
judge_brackets-loop-bracket-preserved t c =
    let at = dropped c.args.brackets.now c.loop-bracket.bracket-index c.bracket-item.result c.loop-bracket-test.true c.bracket-item.is in
    record {
      best = brackets_best (scope_of c.args.g) _ _ _ _ _ _ _ at c.in_ok-side.ensures.side c.in_ok-side.ensures.best ∙ c.loop-bracket.invariant.best;
      side = brackets_side (scope_of c.args.g) _ _ _ _ _ at c.in_ok-side.ensures.side ∙ c.loop-bracket.invariant.side;
    }

pub judge_chain-loop-link-preserved : goal.judge_chain-loop-link-preserved
judge_chain-loop-link-preserved t c =
    let at = dropped c.args.links.now c.loop-link.link-index c.link-item.result c.loop-link-test.true c.link-item.is in
    let g = scope_of c.args.g in
    let side = c.in_ok-side.ensures.side ∙ ap (left_side c.link-item.result.sign (side_of c.loop-link.side)) c.in_ok-b.ensures.side in
    let own = c.in_ok-side.ensures.best ∙ ap (λ b. first_of (best_of c.judge.new.best) (left_faults c.link-item.result.sign c.link-item.result.pos (side_of c.loop-link.side) b)) c.in_ok-b.ensures.side in
    record {
      best = F.chain_best g _ _ _ _ _ _ _ _ _ _ at c.in_ok-side.ensures.waiting side c.in_ok-b.ensures.best own ∙ c.loop-link.invariant.best;
      side = F.chain_side g _ _ _ _ _ _ _ at c.in_ok-side.ensures.waiting side ∙ c.loop-link.invariant.side;
    }

pub judge-returns-in_ok-es-in-Apply-clause-best : goal.judge-returns-in_ok-es-in-Apply-clause-best
judge-returns-in_ok-es-in-Apply-clause-best t c =
    let sides = ap (map side_of) c.deref-in-Apply.ensures.value ∙ c.in_ok-es-in-Apply.ensures.sides in
    J.apply_best (scope_of c.args.g) _ _ _ _ _ _ _ _ _ c.in-Apply.is c.deref.ensures.value sides c.in_ok-es-in-Apply.ensures.best c.apply.ensures.best

pub judge-returns-in_ok-es-in-Apply-clause-side : goal.judge-returns-in_ok-es-in-Apply-clause-side
judge-returns-in_ok-es-in-Apply-clause-side t c =
    let sides = ap (map side_of) c.deref-in-Apply.ensures.value ∙ c.in_ok-es-in-Apply.ensures.sides in
    J.apply_one (scope_of c.args.g) _ _ _ _ _ _ _ c.in-Apply.is c.deref.ensures.value sides c.apply.ensures.side

pub judge-returns-in_ok-a-in-Prefix-clause-best : goal.judge-returns-in_ok-a-in-Prefix-clause-best
judge-returns-in_ok-a-in-Prefix-clause-best t c =
    J.prefix_best (scope_of c.args.g) _ _ _ _ _ _ _ _ _ c.in-Prefix.is c.deref-in-Prefix.ensures c.deref-in-Prefix-2.ensures.value c.in_ok-a-in-Prefix.ensures.side c.in_ok-a-in-Prefix.ensures.best c.put_signs.ensures.best

pub judge-returns-in_ok-a-in-Prefix-clause-side : goal.judge-returns-in_ok-a-in-Prefix-clause-side
judge-returns-in_ok-a-in-Prefix-clause-side t c =
    J.prefix_one (scope_of c.args.g) _ _ _ _ _ _ _ c.in-Prefix.is c.deref-in-Prefix.ensures c.deref-in-Prefix-2.ensures.value c.in_ok-a-in-Prefix.ensures.side c.put_signs.ensures.side

pub judge-returns-in_ok-side-in-Postfix-clause-best : goal.judge-returns-in_ok-side-in-Postfix-clause-best
judge-returns-in_ok-side-in-Postfix-clause-best t c =
    J.postfix_best (scope_of c.args.g) _ _ _ _ _ _ _ _ _ c.in-Postfix.is c.deref-in-Postfix.ensures c.deref-in-Postfix-2.ensures.value c.in_ok-m-in-Postfix.ensures.side c.in_ok-m-in-Postfix.ensures.best c.in_ok-side-in-Postfix.ensures.best

pub judge-returns-in_ok-side-in-Postfix-clause-side : goal.judge-returns-in_ok-side-in-Postfix-clause-side
judge-returns-in_ok-side-in-Postfix-clause-side t c =
    J.postfix_one (scope_of c.args.g) _ _ _ _ _ _ _ c.in-Postfix.is c.deref-in-Postfix.ensures c.deref-in-Postfix-2.ensures.value c.in_ok-m-in-Postfix.ensures.side c.in_ok-side-in-Postfix.ensures.side

pub judge-returns-in_ok-side-in-Chain-clause-best : goal.judge-returns-in_ok-side-in-Chain-clause-best
judge-returns-in_ok-side-in-Chain-clause-best t c =
    J.chain_best (scope_of c.args.g) _ _ _ _ _ _ _ _ _ c.in-Chain.is c.deref-in-Chain.ensures c.deref-in-Chain-2.ensures.value c.in_ok-a-in-Chain.ensures.side c.in_ok-a-in-Chain.ensures.best c.in_ok-side-in-Chain.ensures.best

pub judge-returns-in_ok-side-in-Chain-clause-side : goal.judge-returns-in_ok-side-in-Chain-clause-side
judge-returns-in_ok-side-in-Chain-clause-side t c =
    J.chain_one (scope_of c.args.g) _ _ _ _ _ _ _ c.in-Chain.is c.deref-in-Chain.ensures c.deref-in-Chain-2.ensures.value c.in_ok-a-in-Chain.ensures.side c.in_ok-side-in-Chain.ensures.side

pub judge_bracket-returns-in_ok-es-in-Select-clause-best : goal.judge_bracket-returns-in_ok-es-in-Select-clause-best
judge_bracket-returns-in_ok-es-in-Select-clause-best t c =
    let sides = ap (map side_of) c.deref-in-Select.ensures.value ∙ c.in_ok-es-in-Select.ensures.sides in
    J.select_best (scope_of c.args.g) (side_of c.args.m) _ _ _ _ _ _ _ _ c.in-Select.is c.deref.ensures.value sides c.in_ok-es-in-Select.ensures.best c.select.ensures.best

pub judge_bracket-returns-in_ok-es-in-Select-clause-side : goal.judge_bracket-returns-in_ok-es-in-Select-clause-side
judge_bracket-returns-in_ok-es-in-Select-clause-side t c =
    let sides = ap (map side_of) c.deref-in-Select.ensures.value ∙ c.in_ok-es-in-Select.ensures.sides in
    J.select_one (scope_of c.args.g) (side_of c.args.m) _ _ _ _ _ _ c.in-Select.is c.deref.ensures.value sides c.select.ensures.side

pub judge_bracket-returns-in_ok-e-in-Update-clause-best : goal.judge_bracket-returns-in_ok-e-in-Update-clause-best
judge_bracket-returns-in_ok-e-in-Update-clause-best t c =
    let sides = ap (map side_of) c.deref-in-Update-2.ensures.value ∙ c.in_ok-es-in-Update.ensures.sides in
    J.update_best (scope_of c.args.g) (side_of c.args.m) _ _ _ _ _ _ _ _ _ _ _ c.in-Update.is c.deref-in-Update.ensures.value sides c.in_ok-es-in-Update.ensures.best c.in_ok-e-in-Update.ensures.side c.in_ok-e-in-Update.ensures.best c.update.ensures.best

pub judge_bracket-returns-in_ok-e-in-Update-clause-side : goal.judge_bracket-returns-in_ok-e-in-Update-clause-side
judge_bracket-returns-in_ok-e-in-Update-clause-side t c =
    let sides = ap (map side_of) c.deref-in-Update-2.ensures.value ∙ c.in_ok-es-in-Update.ensures.sides in
    J.update_one (scope_of c.args.g) (side_of c.args.m) _ _ _ _ _ _ _ _ c.in-Update.is c.deref-in-Update.ensures.value sides c.in_ok-e-in-Update.ensures.side c.update.ensures.side

pub judge_list-returns-clause-best : goal.judge_list-returns-clause-best
judge_list-returns-clause-best t c =
    sym (at_drop_all (λ l. first_of (best_of c.loop-e.best) (faults_of (judge_all (scope_of c.args.g) (exs_in l)))) c.args.es.now c.loop-e.e-index c.loop-e-test.false) ∙ c.loop-e.invariant.best

pub judge_list-returns-clause-sides : goal.judge_list-returns-clause-sides
judge_list-returns-clause-sides t c =
    let made = map side_of c.loop-e.made.items in
    sym (append-nil made) ∙ sym (at_drop_all (λ l. made ++ sides_of (judge_all (scope_of c.args.g) (exs_in l))) c.args.es.now c.loop-e.e-index c.loop-e-test.false) ∙ c.loop-e.invariant.sides

pub judge_brackets-returns-clause-best : goal.judge_brackets-returns-clause-best
judge_brackets-returns-clause-best t c =
    sym (at_drop_all (λ l. first_of (best_of c.loop-bracket.best) (behind (scope_of c.args.g) (side_of c.loop-bracket.side) (brackets_of (map bracket_view l))).faults) c.args.brackets.now c.loop-bracket.bracket-index c.loop-bracket-test.false) ∙ c.loop-bracket.invariant.best

pub judge_brackets-returns-clause-side : goal.judge_brackets-returns-clause-side
judge_brackets-returns-clause-side t c =
    sym (at_drop_all (λ l. (behind (scope_of c.args.g) (side_of c.loop-bracket.side) (brackets_of (map bracket_view l))).side) c.args.brackets.now c.loop-bracket.bracket-index c.loop-bracket-test.false) ∙ c.loop-bracket.invariant.side

pub judge_chain-returns-clause-best : goal.judge_chain-returns-clause-best
judge_chain-returns-clause-best t c =
    c.unwind.ensures.best
    ∙ sym (at_drop_all (λ l. first_of (best_of c.loop-link.best) (unwound (map waiting_of c.loop-link.waiting.items) (chained (scope_of c.args.g) (side_of c.loop-link.side) (links_of (map link_view l)))).faults) c.args.links.now c.loop-link.link-index c.loop-link-test.false)
    ∙ c.loop-link.invariant.best

pub judge_chain-returns-clause-side : goal.judge_chain-returns-clause-side
judge_chain-returns-clause-side t c =
    c.unwind.ensures.side
    ∙ sym (at_drop_all (λ l. (unwound (map waiting_of c.loop-link.waiting.items) (chained (scope_of c.args.g) (side_of c.loop-link.side) (links_of (map link_view l)))).side) c.args.links.now c.loop-link.link-index c.loop-link-test.false)
    ∙ c.loop-link.invariant.side

use Rattle.std.proofs.Common.{◌≡◌, ◌++◌, [], ◌<◌, ◌≤◌, List, map, length, drop, get_or, ◌∙◌, ap, subst, arith}
use Rattle.bg_text.specs.Views.{id_of, option_of}
use Rattle.bg_text.specs.declared.expr.Name.{Name}
use Rattle.bg_words.specs.Sets.{has}
use Rattle.bg_check.specs.declared.proof.Proof.{Proof}
use Rattle.bg_certify.specs.Seen.{seen_as}
use Rattle.bg_places.specs.Placed.{Placed}
use Rattle.bg_places.specs.Views.{placed_in}
use Rattle.bg_rounds.specs.declared.checker.Kept.{Kept}
use Rattle.std.specs.Prelude.{Option}
use Rattle.bg_certtext.specs.Views.{section_of}
use Rattle.bg_check.specs.declared.verdict.Judged.{Judged}
use Rattle.bg_certify.specs.Spelled.{with_section, row}
use Rattle.bg_certify.specs.Found.{kept_behind, certs_for}
use Rattle.bg_certify.proofs.Walks.{its, place_step, task_step, places_end, judged_there}
use Rattle.bg_certify.proofs.sections.push_sections.Goals as goal

pub loop-i-preserved : goal.loop-i-preserved
loop-i-preserved c =
    let ps = c.in_ok-places.places.items in
    let i = c.loop-i.i in
    let x = c.index-in-loop-i.result.now in
    let kept = c.args.outcome.now.inferred.kept.items in
    let set = has c.args.outcome.now.inferred.retained in
    let judged = c.as_slice-judged.result.now in
    let cert = option_of seen_as c.found_for-cert.result in
    let inside : i < length ps = omega (arith, c.loop-i-test.true, c.len-i-end.ensures, c.in_ok-places.places.ok.0) in
    let item : x ≡ get_or ps i x = c.index-in-loop-i.ensures in
    let next : drop c.next_task-next.result kept ≡ kept_behind (its x) (drop c.loop-i.next kept) =
    subst (λ (l : List (Option (Kept (Option Proof)))). drop c.next_task-next.result l ≡ kept_behind (its x) (drop c.loop-i.next l)) c.as_slice-in-loop-i.ensures.value c.next_task-next.ensures in
    let made : map section_of c.push_section.new.made.items ≡ map section_of c.loop-i.made.items ++ with_section (map id_of c.args.program.now.candidates.items) c.args.k i cert [] =
    subst (λ (l : List Name). map section_of c.push_section.new.made.items ≡ map section_of c.loop-i.made.items ++ with_section (map id_of l) c.args.k i cert []) c.as_slice.ensures.value c.in_ok-push_section.ensures in
    record {
      made =
          place_step (map id_of c.args.program.now.candidates.items) c.args.k i set (drop c.loop-i.next kept) (drop c.next_task-next.result kept) (drop c.loop-i.ordinary judged) (drop c.next_ordinary-ordinary.result judged) ps x cert _ _ _
          inside item c.found_for-cert.ensures made next c.next_ordinary-ordinary.ensures c.loop-i.invariant.made;
      next = task_step (drop c.loop-i.next kept) (drop c.next_task-next.result kept) _ i ps x inside item next c.loop-i.invariant.next;
    }

pub returns-clause-made : goal.returns-clause-made
returns-clause-made c = λ m js hm hj.
    let names = map id_of c.args.program.now.candidates.items in
    let ps = c.in_ok-places.places.items in
    let kept = c.args.outcome.now.inferred.kept.items in
    let set = has c.args.outcome.now.inferred.retained in
    let judged = c.as_slice-judged.result.now in
    let old = map section_of c.args.made.now.items in
    let left : length ps ≤ c.loop-i.i = omega (arith, c.loop-i-test.false, c.len-i-end.ensures, c.in_ok-places.places.ok.0) in
    let its : judged ≡ js =
    c.as_slice-judged.ensures.value ∙ judged_there c.args.outcome.now.verdicts.items c.args.k c.index.result.now js c.requires c.index.ensures hj in
    places_end names c.args.k c.loop-i.i set (drop c.loop-i.next kept) (drop c.loop-i.ordinary judged) ps _ _ left c.loop-i.invariant.made
    ∙ (ap (λ (l : List Judged). old ++ row names c.args.k 0 (certs_for set (drop c.args.task kept) l (placed_in ps))) its
    ∙ ap (λ (l : List Placed). old ++ row names c.args.k 0 (certs_for set (drop c.args.task kept) js l)) (c.in_ok-places.ensures m hm))

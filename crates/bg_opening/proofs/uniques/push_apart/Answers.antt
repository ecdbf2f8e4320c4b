use Rattle.std.proofs.Common.{◌++◌, map, ap, sym, ◌∙◌, arith}
use Rattle.bg_ast.specs.Views.{ex_of}
use Rattle.bg_kinds.specs.Views.{ref_in}
use Rattle.bg_opened.specs.Written.{apart}
use Rattle.bg_opening.specs.Nexts.{code_of}
use Rattle.bg_opening.proofs.NextSteps.{at_mapped, length_mapped, next_in, to_next, one_apart, all_apart}
use Rattle.bg_opening.proofs.uniques.push_apart.Goals as goal

pub loop-at-init : goal.loop-at-init
loop-at-init c =
    let told = c.args.told.now in
    let first = c.args.first.now in
    let next = next_in told c.args.nexts.now c.args.place c.next_of-at.result c.requires.place c.requires.nexts c.next_of-at.ensures in
    let code = sym (at_mapped code_of told c.args.place first c.requires.place c.requires.first) in
    record {
      is =
          ap (λ qs. map ex_of c.args.out.now.items ++ map apart qs) (sym (to_next told first.number (ref_in first.kind) c.args.place c.next_of-at.result next code));
      code = λ l. next.same l ∙ code;
    }

pub loop-at-preserved : goal.loop-at-preserved
loop-at-preserved c =
    let told = c.args.told.now in
    let first = c.args.first.now in
    let i = c.loop-at.at in
    let inside = c.loop-at-test.true in
    let next = next_in told c.args.nexts.now i c.next_of-at-in-loop-at.result inside c.requires.nexts c.next_of-at-in-loop-at.ensures in
    let long = length_mapped code_of told in
    let code = c.loop-at.invariant.code (omega (arith, long, inside)) in
    record {
      is =
          one_apart told first.number (ref_in first.kind) apart (map ex_of c.loop-at.out.items) (map ex_of c.push_pair.new.out.items) _ i c.next_of-at-in-loop-at.result c.index-told-at.result inside c.index-told-at.is code next c.in_ok-push_pair.ensures c.loop-at.invariant.is;
      code = λ l. next.same l ∙ code;
    }

pub returns : goal.returns
returns c =
    let first = c.args.first.now in
    all_apart c.args.told.now first.number (ref_in first.kind) apart (map ex_of c.loop-at.out.items) _ c.loop-at.at c.loop-at-test.false c.loop-at.invariant.is

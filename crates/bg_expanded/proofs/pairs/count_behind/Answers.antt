use Rattle.std.proofs.Common.{◌+◌, min, map, drop, ap, ◌∙◌, arith}
use Rattle.bg_ast.specs.Values.{Ty}
use Rattle.bg_opening.specs.Constants.{unique_of}
use Rattle.bg_expanded.specs.Pairs.{count_with}
use Rattle.bg_expanded.proofs.Tallies.{next_is, counted_from, none_from}
use Rattle.bg_expanded.proofs.pairs.count_behind.Goals as goal

pub count_from-requires : goal.count_from-requires
count_from-requires c =
    let next = next_is c.args.told.now c.args.nexts.now c.args.place c.next_of-at.result c.args.first.now c.requires.place c.requires.first c.requires.nexts c.next_of-at.ensures in
    let later = next.later in
    record {
      at = c.if-at-told.true;
      counts = λ j x a b is. c.requires.counts j x (omega (arith, later, a)) b is;
    }

pub returns-then-at-told : goal.returns-then-at-told
returns-then-at-told c =
    let told = c.args.told.now in
    counted_from told c.args.nexts.now c.args.place c.next_of-at.result c.args.first.now c.requires.place c.requires.first c.requires.nexts c.next_of-at.ensures c.count_from.result
    (c.count_from.ensures ∙ ap (λ (u : Ty). min 1000001 (count_with u (map unique_of (drop c.next_of-at.result told)))) c.as_ref.ensures)

pub returns-else-at-told : goal.returns-else-at-told
returns-else-at-told c =
    none_from c.args.told.now c.args.nexts.now c.args.place c.next_of-at.result c.args.first.now c.requires.place c.requires.first c.requires.nexts c.next_of-at.ensures c.if-at-told.false

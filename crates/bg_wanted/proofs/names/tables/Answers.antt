use Rattle.std.proofs.Common.{ℕ, ◌<◌, ◌≤◌, length, map, ap, ◌∙◌, arith}
use Rattle.std.proofs.lemmas.List.{take_all}
use Rattle.bg_ast.specs.Values.{MapTy}
use Rattle.bg_sense.specs.Eval.{value_at}
use Rattle.bg_terms.specs.Built.{built}
use Rattle.bg_kinds.specs.Views.{keys_of, ref_of}
use Rattle.bg_term_table.specs.Views.{terms_in}
use Rattle.bg_wanted.specs.Scalars.{scalars_in}
use Rattle.bg_scalar.specs.Values.{value_of}
use Rattle.bg_wanted.proofs.Grouping.{taken_more, mapped_last, one_longer, number_at}
use Rattle.bg_wanted.proofs.names.tables.Goals as goal

pub loop-i-init : goal.loop-i-init
loop-i-init c = ((omega arith, ap length c.new-made.ensures.items), λ fs incs looked. ap (map value_of) c.new-made.ensures.items)

pub loop-i-preserved : goal.loop-i-preserved
loop-i-preserved c =
    let g = c.args.group.now in
    let i = c.loop-i.i in
    let test = c.loop-i-test.true in
    let len = c.len.ensures in
    let ok = g.numbers.ok.0 in
    let lt : i < length g.numbers.items = omega (arith, test, len, ok) in (
      (omega (arith, lt), one_longer c.loop-i.made.items c.push.new.self.items c.in_ok-t.t i c.in_ok-push.ensures.items c.loop-i.invariant.0.1),
      λ fs incs looked.
          let s = scalars_in c.args.values.now in
          let f = λ (j : ℕ). built s (length incs) (terms_in fs c.args.looked.terms.now) (MapTy (keys_of g.keys.now) (ref_of g.gives)) (value_at s j) in
          taken_more f g.numbers.items i (map value_of c.loop-i.made.items) (map value_of c.push.new.self.items) (value_of c.in_ok-t.t) lt (mapped_last value_of c.loop-i.made.items c.push.new.self.items c.in_ok-t.t c.in_ok-push.ensures.items) (c.in_ok-t.ensures fs incs looked ∙ ap f (number_at g.numbers.items i c.index.result.now lt c.index.ensures)) (c.loop-i.invariant.1 fs incs looked),
    )

pub returns : goal.returns
returns c =
    let g = c.args.group.now in
    let test = c.loop-i-test.false in
    let len = c.len.ensures in
    let ok = g.numbers.ok.0 in
    let end : length g.numbers.items ≤ c.loop-i.i = omega (arith, test, len, ok) in
    let most = c.loop-i.invariant.0.0 in
    let many = c.loop-i.invariant.0.1 in
    record {
      count = omega (arith, end, most, many);
      tables =
          λ fs incs looked.
          let s = scalars_in c.args.values.now in
          c.loop-i.invariant.1 fs incs looked
          ∙ ap (map (λ j. built s (length incs) (terms_in fs c.args.looked.terms.now) (MapTy (keys_of g.keys.now) (ref_of g.gives)) (value_at s j))) (take_all c.loop-i.i g.numbers.items end);
    }

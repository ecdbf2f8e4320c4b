use Rattle.std.proofs.Common.{arith, map, drop, ◌+◌, ◌∙◌, ap, sym, refl}
use Rattle.std.specs.Prelude.{Some}
use Rattle.bg_formula.specs.Formulas.{formula_of}
use Rattle.bg_cert.specs.Certs.{node_of, accepts}
use Rattle.bg_cert.specs.Walks.{has, no_instance}
use Rattle.bg_cert.specs.Tours.{path_in, stack_of}
use Rattle.bg_cert.proofs.Places.{at_there}
use Rattle.bg_cert.proofs.Tells.{refuses, goes_on, past_end}
use Rattle.bg_cert.proofs.check.is_tree.Goals as goal

pub step-requires-clause-is_node : goal.step-requires-clause-is_node
step-requires-clause-is_node c =
    at_there c.args.cert.now.nodes.items c.loop-k.k c.index.result.now (omega (arith, c.loop-k-test.true, c.len-k-end.ensures)) ∙ ap Some (sym c.index.ensures)

pub returns-then-not-branch : goal.returns-then-not-branch
returns-then-not-branch c =
    let f = formula_of c.args.f.now in
    let nodes = c.args.cert.now.nodes.items in
    let rest = map node_of (drop (c.loop-k.k + 1) nodes) in
    refuses (accepts f (has c.args.set.now) no_instance (stack_of (path_in f c.args.cert.now) c.loop-k.tour)) nodes c.loop-k.k c.index.result.now (omega (arith, c.loop-k-test.true, c.len-k-end.ensures)) c.index.ensures c.in_ok-step.field-0 (accepts f (has c.args.set.now) no_instance (stack_of (path_in f c.args.cert.now) c.step.new.tour) rest) (c.in_ok-step.ensures.told rest) c.if-not-branch.true _ c.loop-k.invariant.told

pub loop-k-preserved : goal.loop-k-preserved
loop-k-preserved c =
    let f = formula_of c.args.f.now in
    let nodes = c.args.cert.now.nodes.items in
    let rest = map node_of (drop (c.loop-k.k + 1) nodes) in
    record {
      tours = c.in_ok-step.ensures.tours c.if-not-branch.false;
      sized = c.in_ok-step.ensures.sized c.if-not-branch.false ∙ c.loop-k.invariant.sized;
      told = goes_on (accepts f (has c.args.set.now) no_instance (stack_of (path_in f c.args.cert.now) c.loop-k.tour)) nodes c.loop-k.k c.index.result.now (omega (arith, c.loop-k-test.true, c.len-k-end.ensures)) c.index.ensures c.in_ok-step.field-0 (accepts f (has c.args.set.now) no_instance (stack_of (path_in f c.args.cert.now) c.step.new.tour) rest) (c.in_ok-step.ensures.told rest) c.if-not-branch.false _ c.loop-k.invariant.told;
    }

pub returns-then-not-tour : goal.returns-then-not-tour
returns-then-not-tour c =
    let f = formula_of c.args.f.now in
    let o = c.if-not-tour.true in
    past_end f (has c.args.set.now) (stack_of (path_in f c.args.cert.now) c.loop-k.tour) c.args.cert.now.nodes.items c.loop-k.k (omega (arith, c.loop-k-test.true, c.len-k-end.ensures)) (rw o refl) _ c.loop-k.invariant.told

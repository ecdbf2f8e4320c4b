use Rattle.std.proofs.Common.{map, ap, ◌∙◌}
use Rattle.bg_ast.specs.Views.{ex_of, sts_in}
use Rattle.bg_opened.specs.Written as w
use Rattle.bg_opening.specs.Axioms as a
use Rattle.bg_opening.specs.Desks.{opened_at}
use Rattle.bg_opening.proofs.Bodies.{claimed-is}
use Rattle.bg_opening.proofs.axioms.claimed.Goals as goal

pub returns : goal.returns
returns c =
    let o = opened_at c.args.desk in
    let first = map ex_of c.args.first.now in
    let axioms = map ex_of c.args.axioms.now in
    let claim = ap sts_in c.deref.ensures.value ∙ c.in_ok-claim.ensures in
    claimed-is o c.append.new.self.items c.in_ok-made.made.items c.in_ok-rest.rest.items first axioms (w.opened_sts o a.claim) c.in_ok-append.ensures.items c.in_ok-made.ensures (c.in_ok-rest.ensures ∙ ap (λ s. w.supposing (map o axioms) (w.opened_sts o s)) claim)

use Rattle.std.proofs.Common.{map, length, refl, ◌∙◌}
use Rattle.bg_ast.specs.Meaning as m
use Rattle.bg_ast.specs.Execution.{AtCall}
use Rattle.bg_ast.specs.Views.{exs_in, placed_of, var_of}
use Rattle.bg_flow.specs.Core.{demands, sayings, each_one}
use Rattle.bg_blocks.specs.Views.{clauses_in}
use Rattle.bg_incarnate.specs.Views.{cmds_of, held_env}
use Rattle.bg_incarnate.proofs.Calls.{called_steps, onto_plan}
use Rattle.bg_incarnate.proofs.call.call.Goals as goal

pub returns : goal.returns
returns c =
    let k = c.args.plan.call.now in
    let q = c.args.plan.procedure.now in
    λ p. called_steps (m.exs_of (exs_in k.args.items)) (demands (AtCall k.site) (clauses_in q.requires_.items)) (map var_of c.args.plan.modifies.now) (sayings each_one (clauses_in q.ensures_.items)) (map m.variable_of (map placed_of k.takes.items)) (length q.results.items)
    (cmds_of c.args.out.now.items) (cmds_of c.arguments.new.out.items) (cmds_of c.claims.new.out.items) (cmds_of c.supposes.new.out.items)
    (held_env c.args.held.now) (held_env c.hold_new.new.held) (held_env c.hold_taken.new.held)
    c.args.next.now c.arguments.new.next c.hold_new.new.next c.results.new.next
    c.in_ok-frame.frame.items c.in_ok-was.was'.items c.results.new.frame.items c.in_ok-made.made.items
    (c.in_ok-frame.ensures.cmds ∙ rw (c.deref.ensures.value, c.seen.ensures) refl)
    (c.in_ok-frame.ensures.made ∙ rw c.deref.ensures.value refl)
    (c.in_ok-frame.ensures.more ∙ rw c.deref.ensures.value refl)
    (c.in_ok-was.ensures.items_if_clones_equal (λ x y e. e) ∙ c.deref-2.ensures.value)
    (c.in_ok-claims.ensures ∙ rw (c.deref-3.ensures.value, c.deref-4.ensures.value, c.deref-5.ensures.value, c.deref-6.ensures.value) refl)
    c.in_ok-hold_new.ensures.env
    c.in_ok-hold_new.ensures.more
    (c.in_ok-made.ensures.made ∙ rw c.deref-7.ensures.value refl)
    (c.in_ok-made.ensures.frame ∙ rw c.deref-7.ensures.value refl)
    (c.in_ok-made.ensures.more ∙ rw c.deref-7.ensures.value refl)
    (c.in_ok-supposes.ensures ∙ rw (c.deref-8.ensures.value, c.deref-9.ensures.value, c.deref-10.ensures.value, c.deref-11.ensures.value) refl)
    (c.hold_taken.ensures ∙ rw (c.deref-12.ensures.value, c.deref-13.ensures.value) refl)
    ∙ onto_plan p k q c.args.plan.modifies.now _

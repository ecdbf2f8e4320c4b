use Rattle.std.proofs.Common.{◌≡◌, [], ◌∷◌, ◌++◌, map, ap, ◌∙◌, rules}
use Rattle.bg_ast.specs.Syntax.{Read, Update}
use Rattle.bg_ast.specs.Meaning as m
use Rattle.bg_ast.specs.Views.{ex_of, var_of, bracket_of}
use Rattle.bg_passive.specs.Incarnations.{rename_var, renames}
use Rattle.bg_renamed.specs.Views.{env_of}
use Rattle.bg_renamed.specs.Written.{selected}
use Rattle.bg_renamed.proofs.Means.{var_means}
use Rattle.bg_renamed.proofs.Writes.{rewritten, rewritten_is, rewritten_step}
use Rattle.bg_renamed.proofs.targets.assigned.Goals as goal

pub loop-last-init : goal.loop-last-init
loop-last-init c =
    let v = env_of c.args.env.now in
    let x = var_of c.args.target.now.placed.variable in
    ap (λ l. rewritten v (rename_var v x) (map bracket_of l) (m.ex_of (ex_of c.in_ok-value.value))) c.deref-left.ensures.value
    ∙ ap (rewritten v (rename_var v x) (map bracket_of c.args.target.now.brackets.items)) c.in_ok-value.ensures
    ∙ rewritten_is v (Read x) (map bracket_of c.args.target.now.brackets.items) (m.ex_of (ex_of c.args.e.now))

pub loop-last-preserved : goal.loop-last-preserved
loop-last-preserved c =
    let v = env_of c.args.env.now in
    let x = var_of c.args.target.now.placed.variable in
    let before = c.in-Some.before.now in
    let last = c.in-Some.last.now in
    let value = m.ex_of (ex_of c.loop-last.value) in
    let parts : c.loop-last.left.now ≡ before ++ last ∷ [] = search rules in
    rewritten_step v (rename_var v x) c.loop-last.left.now before last value (m.ex_of (ex_of c.in_ok-value-2.value)) _ parts
    (c.in_ok-value-2.ensures ∙ ap (λ y. Update (selected v y (map bracket_of before)) (renames (m.exs_of (bracket_of last).1) v) value) (ap m.ex_of c.read-first.ensures ∙ var_means c.args.target.now.placed.pos v x))
    c.loop-last.invariant

use Rattle.std.proofs.Common.{◌≤◌}
use Rattle.bg_forms.specs.declared.form.Form.{size-Form}
use Rattle.bg_forms.proofs.form.Form.+drop.Given as goal

abbrev pub invariant-loop-self : goal.invariant-loop-self
invariant-loop-self l = size-Form l.self ≤ size-Form l.fn.self

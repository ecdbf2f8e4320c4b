use Rattle.std.proofs.Common.{◌≡◌, [], ◌∷◌, ◌++◌, ◌∙◌, rules}
use Rattle.bg_forms.specs.Views.{form_in}
use Rattle.bg_forms.proofs.ChainForms.{close_step}
use Rattle.bg_forms.proofs.formed.close.Goals as goal

pub loop-p-preserved : goal.loop-p-preserved
loop-p-preserved c =
    let parts : c.loop-p.waiting.items ≡ c.pop.new.self.items ++ c.in-Some.p ∷ [] = search rules in
    close_step c.pop.new.self.items c.loop-p.waiting.items c.in-Some.p (form_in c.loop-p.made) (form_in c.in_ok-made.made) parts c.in_ok-made.ensures ∙ c.loop-p.invariant

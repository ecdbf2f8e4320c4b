use Rattle.bg_forms.proofs.Meaning.{form_means}
use Rattle.bg_forms.proofs.laws.forms_mean_expressions.Goals as goal

pub returns : goal.returns
returns c = form_means

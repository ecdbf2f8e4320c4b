use Rattle.bg_sense.proofs.TableForms.{normal_form}
use Rattle.bg_sense.proofs.functions.tables_have_normal_forms.Goals as goal

pub returns : goal.returns
returns c = normal_form

-- How the code's forms are read.
use Rattle.bg_forms.specs.declared.form.Form as code
use Rattle.bg_forms.specs.declared.form.Form.TheVariants as form
use Rattle.bg_forms.specs.declared.form.Parts.{Parts}
use Rattle.bg_forms.specs.declared.form.Parts.TheVariants as part
use Rattle.bg_forms.specs.Forms.{Form, Plain, Is, NotSo, Both, Same}

abbrev pub form_in : code.Form → Form
form_in (form.Plain b) = Plain b
form_in (form.Is l) = Is l
form_in (form.NotSo' p f) = NotSo (form_in f)
form_in (form.Both' p f q g) = Both (form_in f) (form_in g)
form_in (form.Same' p f q g) = Same (form_in f) (form_in g)

abbrev pub parts_in : Parts → Form
parts_in (part.Plain b) = Plain b
parts_in (part.Is l) = Is l
parts_in (part.NotSo f) = NotSo (form_in f)
parts_in (part.Both f g) = Both (form_in f) (form_in g)
parts_in (part.Same f g) = Same (form_in f) (form_in g)

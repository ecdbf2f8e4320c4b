-- How the code's tables are read.
use Rattle.std.specs.Prelude.{ℕ}
use Rattle.bg_text.specs.Views.{id_of}
use Rattle.bg_names.specs.declared.scope.Meaning.{Meaning}
use Rattle.bg_names.specs.declared.scope.Meaning.TheVariants as means
use Rattle.bg_spaces.specs.declared.values.Entry as values_
use Rattle.bg_spaces.specs.declared.values.Sort.{Sort}
use Rattle.bg_spaces.specs.declared.values.Sort.TheVariants as sorts
use Rattle.bg_spaces.specs.Declarations.{Entry}

abbrev pub meaning_as : Sort → ℕ → Meaning
meaning_as sorts.Constant k = means.Constant k
meaning_as sorts.Candidate k = means.Candidate k
meaning_as sorts.Global k = means.Global k

-- a name with what it is
abbrev pub entry_of : values_.Entry → Entry
entry_of e = (id_of e.name.now, e.meaning)

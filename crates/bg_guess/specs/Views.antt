-- How the code's survey is read.
use Rattle.bg_guess.specs.Lists.{base_of}
use Rattle.bg_guess.specs.Guessed.{Survey}
use Rattle.bg_guess.specs.declared.survey.Survey as code

-- the survey that the code's is
abbrev pub survey_view : code.Survey → Survey
survey_view v = record { base = base_of v.base; called = v.called.items; implemented = v.implemented.items }

use Rattle.bg_parse.proofs.Answered.{forget, twin, one_program}
use Rattle.bg_parse.proofs.laws.tokens_spell_one_program.Goals as goal

pub returns-clause-one : goal.returns-clause-one
returns-clause-one c = one_program

pub returns-clause-twin : goal.returns-clause-twin
returns-clause-twin c = twin

pub returns-clause-words : goal.returns-clause-words
returns-clause-words c = forget

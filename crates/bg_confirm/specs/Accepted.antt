-- When a program with constants, functions and axioms accepts a certificate, and what is answered of it.
use Rattle.std.specs.Prelude.{Option, Some, None}
use Rattle.bg_ast.specs.Resolved as r
use Rattle.bg_opened.specs.Written.{opened_program}
use Rattle.bg_expanded.specs.Chains.{most_bodies}
use Rattle.bg_certtext.specs.Views.{InterpOf, CertOf}
use Rattle.bg_accept.specs.Accepted as accept
use Rattle.bg_accept.specs.Answers as answers
use Rattle.bg_accept.specs.Answers.{AnswerOf, NoInterp}
use Rattle.bg_confirm.specs.Met.{IsMet}

-- the program without constants, axioms and bodies of functions that is judged in its place
abbrev pub judged_program : r.Program → r.Program
judged_program p = opened_program most_bodies p

abbrev pub AreMet : r.Program → Option InterpOf → Type 0
AreMet p None = ⊥
AreMet p (Some i) = IsMet p i

-- the certificate has an interpretation that meets the axioms
abbrev pub IsInterpMet : r.Program → CertOf → Type 0
IsInterpMet p c = AreMet p c.interp

-- it has one, and the opened program accepts the certificate
abbrev pub IsAccepted : r.Program → CertOf → Type 0
IsAccepted p c = IsInterpMet p c × accept.IsAccepted (judged_program p) c

-- the first reason why not: that it has none comes first
abbrev pub IsAnswer : r.Program → CertOf → AnswerOf → Type 0
IsAnswer p c NoInterp = IsInterpMet p c → ⊥
IsAnswer p c a = IsInterpMet p c × answers.IsAnswer (judged_program p) c a

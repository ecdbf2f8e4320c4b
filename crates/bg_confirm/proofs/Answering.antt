-- The answer, of whether the axioms are met and of what the opened program answers.
use Rattle.std.proofs.Common.{◌≡◌, Option, Some, None, refl}
use Rattle.bg_ast.specs.Resolved as r
use Rattle.bg_certtext.specs.Views.{InterpOf, CertOf}
use Rattle.bg_accept.specs.Accepted as accept
use Rattle.bg_accept.specs.Answers as answers
use Rattle.bg_accept.specs.Answers.{AnswerOf, Accepted, NoInterp, NotRetained, NotShown, NotRequired}
use Rattle.bg_confirm.specs.Accepted.{judged_program, AreMet, IsInterpMet, IsAccepted, IsAnswer}

none_met : (p : r.Program) (o : Option InterpOf) → AreMet p o → o ≡ None → ⊥
none_met p None h e = h
none_met p (Some i) h e = absurd (let b : ⊥ = cc in b)

pub answered : (p : r.Program) (c : CertOf) (a : AnswerOf) → IsInterpMet p c → answers.IsAnswer (judged_program p) c a → IsAnswer p c a
answered p c Accepted h g = (h, g)
answered p c NoInterp h g = absurd (none_met p c.interp h g)
answered p c (NotRetained name) h g = (h, g)
answered p c (NotShown a) h g = (h, g)
answered p c (NotRequired k i) h g = (h, g)

-- a certificate that is accepted isn't answered in another way
pub answered_so : ((q : r.Program) (c : CertOf) (a : AnswerOf) → accept.IsAccepted q c → answers.IsAnswer q c a → a ≡ Accepted) → (p : r.Program) (c : CertOf) (a : AnswerOf) → IsAccepted p c → IsAnswer p c a → a ≡ Accepted
answered_so law p c Accepted h g = refl
answered_so law p c NoInterp h g = absurd (g h.0)
answered_so law p c (NotRetained name) h g = law (judged_program p) c (NotRetained name) h.1 g.1
answered_so law p c (NotShown a) h g = law (judged_program p) c (NotShown a) h.1 g.1
answered_so law p c (NotRequired k i) h g = law (judged_program p) c (NotRequired k i) h.1 g.1

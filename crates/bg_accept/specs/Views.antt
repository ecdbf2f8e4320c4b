-- How the code's answers are read.
use Rattle.bg_places.specs.Views.{placed_of}
use Rattle.bg_accept.specs.Answers as a
use Rattle.bg_accept.specs.declared.answer.Answer.{Answer}
use Rattle.bg_accept.specs.declared.answer.Answer.TheVariants.{Accepted, NoInterp, NotRetained, NotShown, NotRequired}

abbrev pub answer_of : Answer → a.AnswerOf
answer_of Accepted = a.Accepted
answer_of NoInterp = a.NoInterp
answer_of (NotRetained name) = a.NotRetained name.now
answer_of (NotShown place) = a.NotShown (placed_of place)
answer_of (NotRequired k i) = a.NotRequired k i

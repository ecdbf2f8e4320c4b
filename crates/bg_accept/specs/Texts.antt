-- The line that is answered.
use Rattle.std.specs.Prelude.{ℕ, List, [], ◌++◌, codes, Option, Some, None, slice_get}
use Rattle.std.specs.Fmt.{decimal}
use Rattle.bg_ast.specs.Resolved as r
use Rattle.bg_lines.specs.Lines.{line, position_text}
use Rattle.bg_lines.specs.Places.{place_text}
use Rattle.bg_accept.specs.Answers.{AnswerOf, Accepted, NoInterp, NotRetained, NotShown, NotRequired}

-- an implementation's name and position
abbrev pub name_text : Option r.Impl → List ℕ
name_text None = []
name_text (Some m) = m.name.text ++ codes " " ++ position_text m.pos ++ codes " "

abbrev pub reason_text : r.Program → AnswerOf → List ℕ
reason_text p Accepted = []
reason_text p NoInterp = codes "axioms"
reason_text p (NotRetained name) = codes "retain " ++ name
reason_text p (NotShown a) = name_text (slice_get p.implementations a.place.implementation) ++ place_text a
reason_text p (NotRequired k i) = codes "place " ++ decimal k ++ codes " " ++ decimal i

abbrev pub answer_text : r.Program → AnswerOf → List ℕ
answer_text p Accepted = line (codes "accepted")
answer_text p a = line (codes "rejected: " ++ reason_text p a)

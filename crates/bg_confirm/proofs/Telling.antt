-- The line of an answer is the same of the opened program: names and positions of implementations are kept.
use Rattle.std.proofs.Common.{◌≡◌, ℕ, List, ◌++◌, Option, Some, None, codes, refl, ap, ◌∙◌}
use Rattle.std.specs.Prelude.{slice_get, option_map}
use Rattle.std.proofs.lemmas.Option.{slice_get-map}
use Rattle.bg_ast.specs.Resolved as r
use Rattle.bg_lines.specs.Lines.{line}
use Rattle.bg_lines.specs.Places.{place_text}
use Rattle.bg_opened.specs.Written.{claims, opened_impl, opened_in, opened_program}
use Rattle.bg_accept.specs.Answers.{AnswerOf, Accepted, NoInterp, NotRetained, NotShown, NotRequired}
use Rattle.bg_accept.specs.Texts.{name_text, answer_text}

name_alike : (o : r.Ex → r.Ex) (axioms : List r.Ex) (m : Option r.Impl) → name_text (option_map (opened_impl o axioms) m) ≡ name_text m
name_alike o axioms None = refl
name_alike o axioms (Some m) = refl

pub text_alike : (depth : ℕ) (p : r.Program) (a : AnswerOf) → answer_text (opened_program depth p) a ≡ answer_text p a
text_alike depth p Accepted = refl
text_alike depth p NoInterp = refl
text_alike depth p (NotRetained name) = refl
text_alike depth p (NotShown a) =
    let f = opened_impl (opened_in depth p) (claims p) in
    ap (λ n. line (codes "rejected: " ++ (n ++ place_text a)))
    (ap name_text (slice_get-map f p.implementations a.place.implementation)
    ∙ name_alike (opened_in depth p) (claims p) (slice_get p.implementations a.place.implementation))
text_alike depth p (NotRequired k i) = refl

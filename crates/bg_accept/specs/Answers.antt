-- What is answered of a certificate.
use Rattle.std.specs.Prelude.{◌≡◌, ◌⊎◌, ℕ, ◌<◌, true, List, Some, None, is_some}
use Rattle.bg_ast.specs.Resolved as r
use Rattle.bg_ast.specs.Meaning.{meaning_of}
use Rattle.bg_places.specs.Placed.{Placed}
use Rattle.bg_certtext.specs.Views.{SectionOf, CertOf}
use Rattle.bg_accept.specs.Names.{unplaced}
use Rattle.bg_accept.specs.Accepted.{retained_by, IsShown, IsBare, IsRequired, AreShown, extra, IsAccepted}

pub data AnswerOf : Type 0 where
  Accepted : AnswerOf
  NoInterp : AnswerOf
  NotRetained : List ℕ → AnswerOf
  NotShown : Placed → AnswerOf
  NotRequired : (k i : ℕ) → AnswerOf

-- place i of implementation k is the first required one that isn't shown
pub record IsFirstBare (p : r.Program) (c : CertOf) (k i : ℕ) (a : Placed) : Type 0 where
  pub required : IsRequired p (retained_by p c) k i a
  pub bare : IsBare (meaning_of p) (retained_by p c) p.candidates c.sections i a.place
  pub before : (j n : ℕ) (b : Placed) → (j < k) ⊎ ((j ≡ k) × (n < i)) → IsRequired p (retained_by p c) j n b →
      IsShown (meaning_of p) (retained_by p c) p.candidates c.sections n b.place

-- the first of the rules that is broken, in the order in which they stand in `IsAccepted`
abbrev pub IsAnswer : r.Program → CertOf → AnswerOf → Type 0
IsAnswer p c Accepted = IsAccepted p c
IsAnswer p c NoInterp = c.interp ≡ None
IsAnswer p c (NotRetained name) = (is_some c.interp ≡ true) × (unplaced p.candidates c.retained ≡ Some name)
IsAnswer p c (NotShown a) =
    (is_some c.interp ≡ true) × ((unplaced p.candidates c.retained ≡ None) × ((i : ℕ) × IsFirstBare p c a.place.implementation i a))
IsAnswer p c (NotRequired k i) =
    (is_some c.interp ≡ true) × ((unplaced p.candidates c.retained ≡ None) × (AreShown p c × ((s : SectionOf) × ((extra p c ≡ Some s) × ((s.implementation ≡ k) × (s.place ≡ i))))))

-- The answer, of what the places and the sections come to.
use Rattle.std.proofs.Common.{◌≡◌, ℕ, ◌<◌, Bool, List, sym, subst, ◌⊎◌, inl, inr}
use Rattle.bg_ast.specs.Resolved as r
use Rattle.bg_ast.specs.Meaning.{meaning_of}
use Rattle.bg_places.specs.Placed.{Placed}
use Rattle.bg_certtext.specs.Views.{SectionOf, CertOf}
use Rattle.bg_cert.specs.Walks.{has}
use Rattle.bg_accept.specs.Names.{marks}
use Rattle.bg_accept.specs.Accepted.{retained_by, IsRequired, IsShown}
use Rattle.bg_accept.specs.Answers.{IsFirstBare}
use Rattle.bg_accept.specs.Reading.{IsFirst}
use Rattle.bg_accept.proofs.Settled.{place_number}

first_of : (p : r.Program) (c : CertOf) (a : Placed) (x : IsFirst p (retained_by p c) c.sections a) → IsFirstBare p c a.place.implementation x.bare.number a
first_of p c a x =
    let set = retained_by p c in
    let e = place_number p set c.sections x.implementation x.bare.number a x.bare.required in
    subst (λ k. IsFirstBare p c k x.bare.number a) (sym e)
    (record { required = x.bare.required; bare = x.bare.bare; before = λ j n b o q. by j n b o q })
  where
    by : (j n : ℕ) (b : Placed) → (j < x.implementation) ⊎ ((j ≡ x.implementation) × (n < x.bare.number)) → IsRequired p (retained_by p c) j n b → IsShown (meaning_of p) (retained_by p c) p.candidates c.sections n b.place
    by j n b (inl l) q = x.before j l n b q
    by j n b (inr g) q = x.bare.before n b g.1 (subst (λ m. IsRequired p (retained_by p c) m n b) g.0 q)

-- a place that isn't shown
pub unshown : (p : r.Program) (c : CertOf) (set : List Bool) (ss : List SectionOf) (a : Placed) → set ≡ marks p.candidates c.retained → ss ≡ c.sections → IsFirst p (has set) ss a → (i : ℕ) × IsFirstBare p c a.place.implementation i a
unshown p c set ss a e s x =
    let y = subst (λ l. IsFirst p (has l) c.sections a) e (subst (λ l. IsFirst p (has set) l a) s x) in
    (y.bare.number, first_of p c a y)

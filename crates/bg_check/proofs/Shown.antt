-- Certificates and causes that are kept or dropped.
use Rattle.std.proofs.Common.{◌≡◌, ℕ, Bool, true, List, [], ◌∷◌, ◌++◌, ◌&&◌, Option, Some, None, ap, ◌∙◌}
use Rattle.bg_ast.specs.Syntax.{Prog}
use Rattle.bg_ast.specs.Execution.{Place}
use Rattle.bg_sense.proofs.Bools.{and_left, and_right}
use Rattle.bg_cert.specs.Certs.{cert_of}
use Rattle.bg_term_table.specs.Lines.{lines_of}
use Rattle.bg_check.specs.declared.proof.Proof.{Proof}
use Rattle.bg_check.specs.declared.verdict.Judged.{Judged}
use Rattle.bg_check.specs.Verdicts.{IsCertified, IsShown, has_all, have_all}

-- what is shown is certified
pub certified : (p : Prog) (set : ℕ → Bool) (t : Place) (o : Option Proof) → IsShown p set t o → IsCertified p set t
certified p set t (Some proof) h =
    record { lines = lines_of proof.lines.items; cert = cert_of proof.cert; certificate = h }
certified p set t None h = h

-- one more verdict that has its certificate or its cause
pub all_more : (js : List Judged) (j : Judged) → have_all js ≡ true → has_all j.verdict ≡ true → have_all (js ++ (j ∷ [])) ≡ true
all_more [] j h g = ap (λ (b : Bool). b && true) g
all_more (i ∷ js) j h g =
    ap (λ (b : Bool). b && have_all (js ++ (j ∷ []))) (and_left (has_all i.verdict) (have_all js) h)
    ∙ all_more js j (and_right (has_all i.verdict) (have_all js) h) g

-- What a verdict on a task tells.
use Rattle.std.proofs.Common.{◌≡◌, ℕ, Bool, true, ◌&&◌, length, Option, Some, sym, ap, ◌∙◌}
use Rattle.std.specs.Prelude.{slice_get, nat_lt, is_some}
use Rattle.std.proofs.lemmas.Bool.{lt-ltb}
use Rattle.bg_ast.specs.Syntax.{Prog}
use Rattle.bg_ast.specs.Execution.{Place}
use Rattle.bg_sense.proofs.Bools.{and_right}
use Rattle.bg_words.specs.Sets.{Numbers, has, IsSubset}
use Rattle.bg_cert.specs.Certs.{cert_of, uses}
use Rattle.bg_cert.specs.Walks.{no_instance}
use Rattle.bg_cert.proofs.Uses.{certificate_lies_in, certificate_above}
use Rattle.bg_rounds.proofs.Lists.{has_below}
use Rattle.bg_check.specs.declared.proof.Proof.{Proof}
use Rattle.bg_check.specs.Verdicts.{IsShown}
use Rattle.bg_task.specs.Certified.{HasCertificate}
use Rattle.bg_term_table.specs.Lines.{lines_of}
use Rattle.bg_houdini.specs.Tasks.{tasks_of}
use Rattle.bg_houdini.specs.Checks.{AreUsed, TaskPasses}

-- a certificate under a set is one under the members that it uses
pub passes_by : (keeps : Bool) (p : Prog) (k : ℕ) (t : Place) (set used : Numbers) (proof : Proof) (kept : Option Proof) → slice_get (tasks_of p) k ≡ Some t → HasCertificate p (has set) t (lines_of proof.lines.items) proof.cert
    → ((q : Prog) (s : ℕ → Bool) (u : Place) → HasCertificate q s u (lines_of proof.lines.items) proof.cert → IsShown q s u kept) → (keeps ≡ true → is_some kept ≡ true) → AreUsed (length set) proof.cert used
    → TaskPasses keeps p k (has used) kept × IsSubset used set × (length used ≡ length set)
passes_by keeps p k t set used proof kept there h shown whole exact =
    let names = (cert_of proof.cert).nodes in
    let inside : (c : ℕ) → uses names c ≡ true → has set c ≡ true = λ c u. certificate_lies_in h.formula (has set) no_instance (cert_of proof.cert) h.accepted c u in
    let marked : (c : ℕ) → uses names c ≡ true → has used c ≡ true = λ c u.
    exact.exact c ∙ (ap (λ (b : Bool). b && uses names c) (lt-ltb c (length set) (has_below set c (inside c u))) ∙ u) in (
      (
        record {
          task = t;
          is_there = there;
          so =
              shown p (has used) t
              (record {
                formula = h.formula;
                is = h.is;
                there = h.there;
                agree = h.agree;
                accepted = certificate_above h.formula (has set) (has used) no_instance (cert_of proof.cert) h.accepted marked;
              });
        },
        whole,
      ),
      λ c here. inside c (and_right (nat_lt c (length set)) (uses names c) (sym (exact.exact c) ∙ here)),
      exact.count,
    )

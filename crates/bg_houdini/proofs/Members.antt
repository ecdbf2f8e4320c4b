-- What a checker owes of a program's tasks.
use Rattle.std.proofs.Common.{◌≡◌, ℕ, ◌<◌, Bool, true, false, List, length, map, Option, Some, sym, ap, ◌∙◌, subst}
use Rattle.std.specs.Prelude.{slice_get}
use Rattle.bg_ast.specs.Syntax.{Prog}
use Rattle.bg_ast.specs.Execution.{Interp, State, Choice, Place}
use Rattle.bg_sense.specs.Claims.{Fails}
use Rattle.bg_sense.specs.Resolved.{IsResolved}
use Rattle.bg_sense.specs.Clauses.{is_kept}
use Rattle.bg_sense.specs.Places.{places}
use Rattle.bg_sense.proofs.Members.{contained}
use Rattle.bg_sense.proofs.Unions.{under_part}
use Rattle.bg_core.specs.Inductive.{Candidates, Subset}
use Rattle.bg_cert.specs.Certs.{CertOf, uses}
use Rattle.bg_cert.specs.Walks.{no_instance}
use Rattle.bg_cert.proofs.Uses.{certificate_lies_in}
use Rattle.bg_tree.specs.declared.outcome.Budget.{Budget}
use Rattle.bg_numbered.specs.Lines.{Line}
use Rattle.bg_model.specs.Interps.{interp_of}
use Rattle.bg_scalar.specs.Choices.{choice_of, state_of}
use Rattle.bg_scalar.specs.Views.{vals_in}
use Rattle.bg_task.specs.Certified.{HasCertificateOf}
use Rattle.bg_check.specs.declared.proof.Proof.{Proof}
use Rattle.bg_check.proofs.Shown.{certified}
use Rattle.bg_houdini.specs.declared.reason.Reason.{Reason}
use Rattle.bg_houdini.specs.declared.reason.Reason.TheVariants.{Refuted, Unknown, Left}
use Rattle.bg_houdini.specs.Tasks.{tasks_of, candidate_of}
use Rattle.bg_houdini.specs.Checks.{FailsAt, TaskFails, IsTaskShown, TaskFinds}
use Rattle.bg_houdini.specs.Checkers.{Owes}
use Rattle.bg_houdini.proofs.Declared.{IsBelow, declared}
use Rattle.bg_houdini.proofs.Tasks.{get_there, task_place, task_candidate}

-- no induction run fails at a place under a set that has what a certificate of its clauses uses
abbrev pub CertificatesHold : Prog → Type 0
CertificatesHold p =
    (set other : ℕ → Bool) (t : Place) (lines : List Line) (cert : CertOf) → HasCertificateOf p set t lines cert → ((c : ℕ) → uses cert.nodes c ≡ true → other c ≡ true) →
    (i : Interp) (s : State) (choices : List Choice) → Fails p other t i s choices → ⊥

pub task_below : (p : Prog) → IsResolved p → (k : ℕ) → k < length (tasks_of p) → candidate_of p k < p.candidates
task_below p h k l =
    let t = get_there (tasks_of p) k l in
    subst (IsBelow p.candidates) (task_candidate p k t.0 t.1) (declared p h t.0 (task_place p k t.0 t.1))

pub task_shrinks : (p : Prog) → IsResolved p → (k : ℕ) (set sub : Candidates) → Subset sub set → sub (candidate_of p k) ≡ true → TaskFails p k set → TaskFails p k sub
task_shrinks p h k set sub within here f =
    let t = f.task in
    let kept : is_kept sub t.candidate ≡ true = ap (is_kept sub) (task_candidate p k t f.is_there) ∙ here in
    record {
      task = t;
      is_there = f.is_there;
      so = record {
        interp = f.so.interp;
        state = f.so.state;
        choices = f.so.choices;
        run = under_part p set sub t f.so.interp f.so.state f.so.choices h within (contained (places p) t (task_place p k t f.is_there)) kept f.so.run;
      };
    }

pub same_task : (p : Prog) (k : ℕ) (t u : Place) → slice_get (tasks_of p) k ≡ Some t → slice_get (tasks_of p) k ≡ Some u → t ≡ u
same_task p k t u e h = let s : Some t ≡ Some u = sym e ∙ h in cc

pub task_passing : (p : Prog) → CertificatesHold p → (k : ℕ) (used set : Candidates) (proof : Option Proof) → IsTaskShown p k used proof → Subset used set → TaskFails p k set → ⊥
task_passing p hold k used set proof h within f =
    let same : f.task ≡ h.task = same_task p k f.task h.task f.is_there h.is_there in
    let run = subst (FailsAt p set) same f.so in
    let x = certified p used h.task proof h.so in
    hold used set h.task x.lines x.cert x.certificate (λ c u. within c (certificate_lies_in x.certificate.formula used no_instance x.cert x.certificate.accepted c u)) run.interp run.state run.choices run.run

pub task_failing : (budget : Budget) (p : Prog) (k : ℕ) (set : Candidates) (reason : Reason) → TaskFinds budget p k set false reason → TaskFails p k set
task_failing budget p k set (Refuted cex) h =
    record {
      task = h.task;
      is_there = h.is_there;
      so = record {
        interp = interp_of cex;
        state = state_of (vals_in cex.globals.items) (vals_in cex.frame.items);
        choices = map choice_of cex.choices.items;
        run = h.so.0;
      };
    }
task_failing budget p k set (Unknown rounds cause) h = absurd h.so
task_failing budget p k set (Left kept) h = absurd h.so

pub owed : (budget : Budget) (p : Prog) → IsResolved p → CertificatesHold p → Owes budget p
owed budget p resolved hold = record {
  below = task_below p resolved;
  shrinks = task_shrinks p resolved;
  passing = task_passing p hold;
  failing = task_failing budget p;
}

-- What a true outcome means for the places of the program.
use Rattle.std.proofs.Common.{◌≡◌, ℕ, ◌<◌, Bool, true, List, length, Option, Some, None, refl, sym, ap, ◌∙◌, subst}
use Rattle.std.specs.Prelude.{Contains, is_some, slice_get}
use Rattle.bg_ast.specs.Syntax.{Prog}
use Rattle.bg_ast.specs.Resolved as r
use Rattle.bg_ast.specs.Meaning.{meaning_of}
use Rattle.bg_ast.specs.Execution.{Place}
use Rattle.bg_sense.specs.Claims as claims
use Rattle.bg_sense.specs.Resolved.{IsResolved}
use Rattle.bg_sense.specs.Places.{places}
use Rattle.bg_sense.proofs.Members.{contained}
use Rattle.bg_words.specs.Sets.{Numbers, has, IsSubset}
use Rattle.bg_core.specs.Inductive.{Candidates, Inductive}
use Rattle.bg_cert.specs.Certs.{CertOf, cert_of}
use Rattle.bg_cert.specs.Walks.{no_instance}
use Rattle.bg_cert.proofs.Uses.{certificate_lies_in, certificate_above}
use Rattle.bg_tree.specs.declared.outcome.Budget.{Budget}
use Rattle.bg_rounds.specs.declared.checker.Kept.{Kept}
use Rattle.bg_rounds.specs.Outcomes.{NoneUnknown}
use Rattle.bg_rounds.proofs.Laws.{inductive, greatest, both_ways}
use Rattle.bg_rounds.proofs.Lists.{has_below}
use Rattle.bg_numbered.specs.Lines.{Line}
use Rattle.bg_term_table.specs.Lines.{lines_of}
use Rattle.bg_task.specs.Certified.{HasCertificateOf, HasCertificate}
use Rattle.bg_check.specs.declared.proof.Proof.{Proof}
use Rattle.bg_check.specs.Verdicts.{IsCertified, IsShown}
use Rattle.bg_check.proofs.Shown.{certified}
use Rattle.bg_houdini.specs.declared.outcome.Outcome.{Outcome}
use Rattle.bg_houdini.specs.Tasks.{tasks_of, candidate_of}
use Rattle.bg_houdini.specs.Checks.{TaskFails, TaskPasses, TaskFinds}
use Rattle.bg_houdini.specs.Outcomes.{IsKept, IsTrueOutcome}
use Rattle.bg_houdini.proofs.Tasks.{as_task, get_below, task_place, task_candidate, candidate_is}
use Rattle.bg_houdini.proofs.Members.{CertificatesHold, same_task, task_shrinks, task_passing, task_failing}

abbrev IsTask : Prog → ℕ → Type 0
IsTask p k = k < length (tasks_of p)

-- a set is inductive over the places exactly where it is over the tasks
pub over_places : (p : Prog) (set : Candidates) → Inductive (IsTask p) (candidate_of p) (TaskFails p) set → claims.Inductive p set
over_places p set ind t b there is here i s choices run =
    let k = as_task p t b there is in
    ind k.0 (get_below (tasks_of p) k.0 t k.1) (ap set (candidate_is p k.0 t b k.1 is) ∙ here)
    (record {
      task = t;
      is_there = k.1;
      so = record { interp = i; state = s; choices = choices; run = run };
    })

pub over_tasks : (p : Prog) (set : Candidates) → claims.Inductive p set → Inductive (IsTask p) (candidate_of p) (TaskFails p) set
over_tasks p set ind k lt here f =
    ind f.task (candidate_of p k) (contained (places p) f.task (task_place p k f.task f.is_there)) (task_candidate p k f.task f.is_there) here f.so.interp f.so.state f.so.choices f.so.run

module _ (keeps : Bool) (budget : Budget) (p : r.Program) (o : Outcome) (hold : CertificatesHold (meaning_of p)) (truth : IsTrueOutcome keeps budget p o) where
  abbrev P : Prog
  P = meaning_of p

  pub places_inductive : claims.Inductive P (has o.inferred.retained)
  places_inductive =
      over_places P (has o.inferred.retained)
      (inductive P.candidates (length (tasks_of P)) (candidate_of P) (TaskPasses keeps P) (TaskFinds budget P) (TaskFails P) o.inferred truth.inferred (λ t used set proof h. task_passing P hold t used set proof h.0))

  pub is_set : claims.IsSetOf P (has o.inferred.retained)
  is_set b here = subst (λ (n : ℕ). b < n) truth.inferred.count (has_below o.inferred.retained b here)

  pub places_greatest : IsResolved P → NoneUnknown o.inferred → claims.Greatest P (has o.inferred.retained)
  places_greatest resolved known = record {
    is_set = is_set;
    inductive = places_inductive;
    above =
        λ other small ind b here.
        (greatest P.candidates (length (tasks_of P)) (candidate_of P) (TaskPasses keeps P) (TaskFinds budget P) (TaskFails P) o.inferred truth.inferred
        (λ t set sub within has_it fails. task_shrinks P resolved t set sub within has_it fails)
        (λ t used set proof h. task_passing P hold t used set proof h.0)
        (λ t set told. task_failing budget P t set told)
        known).1
        other (λ c e. small c e) (over_tasks P other ind) b here;
  }

-- ---- each place of a retained candidate has a certificate under what is retained

-- a certificate that uses members of a part is one under the whole
under : (p : Prog) (used set : Numbers) (t : Place) (lines : List Line) (cert : CertOf) → IsSubset used set → HasCertificateOf p (has used) t lines cert → HasCertificateOf p (has set) t lines cert
under p used set t lines cert sub h = record {
  formula = h.formula;
  is = h.is;
  there = h.there;
  agree = h.agree;
  accepted =
      certificate_above h.formula (has used) (has set) no_instance cert h.accepted
      (λ x u. sub x (certificate_lies_in h.formula (has used) no_instance cert h.accepted x u));
}

-- what the outcome keeps of the task of the place
record KeptFor (keeps : Bool) (p : Prog) (o : Outcome) (t : Place) : Type 0 where
  number : ℕ
  kept : Kept (Option Proof)
  there : slice_get o.inferred.kept.items number ≡ Some (Some kept)
  sub : IsSubset kept.used o.inferred.retained
  shown : IsShown p (has kept.used) t kept.proof
  whole : keeps ≡ true → is_some kept.proof ≡ true

kept_for : (keeps : Bool) (budget : Budget) (p : r.Program) (o : Outcome) → IsTrueOutcome keeps budget p o → (t : Place) (b : ℕ) → Contains (places (meaning_of p)) t → t.candidate ≡ Some b → has o.inferred.retained b ≡ true
    → KeptFor keeps (meaning_of p) o t
kept_for keeps budget p o truth t b there is here =
    let q = meaning_of p in
    let k = as_task q t b there is in
    let c = truth.inferred.certificates k.0 (get_below (tasks_of q) k.0 t k.1) (ap (has o.inferred.retained) (candidate_is q k.0 t b k.1 is) ∙ here) in
    let h : TaskPasses keeps q k.0 (has c.0.used) c.0.proof = c.2.shown in
    record {
      number = k.0;
      kept = c.0;
      there = c.1;
      sub = c.3;
      shown = subst (λ (u : Place). IsShown q (has c.0.used) u c.0.proof) (same_task q k.0 h.0.task t h.0.is_there k.1) h.0.so;
      whole = h.1;
    }

pub place_certified : (keeps : Bool) (budget : Budget) (p : r.Program) (o : Outcome) → IsTrueOutcome keeps budget p o → (t : Place) (b : ℕ) → Contains (places (meaning_of p)) t → t.candidate ≡ Some b → has o.inferred.retained b ≡ true
    → IsCertified (meaning_of p) (has o.inferred.retained) t
place_certified keeps budget p o truth t b there is here =
    let w = kept_for keeps budget p o truth t b there is here in
    let x = certified (meaning_of p) (has w.kept.used) t w.kept.proof w.shown in
    record {
      lines = x.lines;
      cert = x.cert;
      certificate = under (meaning_of p) w.kept.used o.inferred.retained t x.lines x.cert w.sub x.certificate;
    }

-- where certificates are kept it is a kept one
pub place_kept : (budget : Budget) (p : r.Program) (o : Outcome) → IsTrueOutcome true budget p o → (t : Place) (b : ℕ) → Contains (places (meaning_of p)) t → t.candidate ≡ Some b → has o.inferred.retained b ≡ true
    → (proof : Proof) × IsKept o proof × HasCertificate (meaning_of p) (has o.inferred.retained) t (lines_of proof.lines.items) proof.cert
place_kept budget p o truth t b there is here = by w.kept.proof refl (w.whole refl)
  where
    q : Prog
    q = meaning_of p

    w : KeptFor true q o t
    w = kept_for true budget p o truth t b there is here

    by : (x : Option Proof) → w.kept.proof ≡ x → is_some x ≡ true → (proof : Proof) × IsKept o proof × HasCertificate q (has o.inferred.retained) t (lines_of proof.lines.items) proof.cert
    by None e h = absurd (let bad : ⊥ = cc in bad)
    by (Some proof) e h = (
      proof,
      (w.number, w.kept, w.there, e),
      under q w.kept.used o.inferred.retained t (lines_of proof.lines.items) (cert_of proof.cert) w.sub (subst (IsShown q (has w.kept.used) t) e w.shown),
    )

-- the greatest set is one list
pub same_retained : (keeps keeping : Bool) (budget other : Budget) (p : r.Program) (o q : Outcome) → CertificatesHold (meaning_of p) → IsResolved (meaning_of p) → IsTrueOutcome keeps budget p o → IsTrueOutcome keeping other p q → NoneUnknown o.inferred → NoneUnknown q.inferred → o.inferred.retained ≡ q.inferred.retained
same_retained keeps keeping budget other p o q hold resolved h g known known' =
    let a = places_greatest keeps budget p o hold h resolved known in
    let b = places_greatest keeping other p q hold g resolved known' in
    both_ways o.inferred.retained q.inferred.retained (h.inferred.count ∙ sym g.inferred.count)
    (λ c here. b.above (has o.inferred.retained) a.is_set a.inductive c here)
    (λ c here. a.above (has q.inferred.retained) b.is_set b.inductive c here)

-- A place with an accepted certificate has no failing run.
use Rattle.std.proofs.Common.{◌≡◌, ℕ, Bool, true, List}
use Rattle.bg_ast.specs.Syntax.{Prog}
use Rattle.bg_ast.specs.Execution.{Interp, State, Choice, Place}
use Rattle.bg_sense.specs.Flow.{Failed}
use Rattle.bg_sense.specs.Context.{Turning}
use Rattle.bg_sense.specs.Run.{induction_run}
use Rattle.bg_sense.specs.Interps.{Meets}
use Rattle.bg_sense.specs.Claims.{IsState, Fails}
use Rattle.bg_sense.specs.Typed.{IsTyped}
use Rattle.bg_passive.specs.Incarnations.{passive_scope}
use Rattle.bg_block_types.specs.Typed.{arrivals_in, passives_in}
use Rattle.bg_formula.specs.Formulas.{Formula}
use Rattle.bg_formula.specs.Meaning.{Valuation, clauses_true, AtomsAgree}
use Rattle.bg_cert.specs.Certs.{CertOf, Accepts, uses}
use Rattle.bg_cert.specs.Walks.{no_instance}
use Rattle.bg_fits.specs.Valued.{is_over_values}
use Rattle.bg_forms.specs.Worth.{bools_at}
use Rattle.bg_clause.specs.Tables.{there_in}
use Rattle.bg_numbered.specs.Lines.{Line}
use Rattle.bg_termed.specs.Clauses.{HasClauses}
use Rattle.bg_task.specs.Certified.{HasCertificateOf}
use Rattle.bg_task.proofs.LawTypes.{FunctionLaw, BodyLaw, PassiveLaw, FitLaw, DenyLaw, MetLaw, CertLaw, UsedLaw, UnitAtomLaw, NamedUnitLaw}
use Rattle.bg_task.proofs.Formulas.{plain_formula, plain_agree, meets_units}

module _ (functions : FunctionLaw) (bodies : BodyLaw) (runs : PassiveLaw) (fits : FitLaw) (denies : DenyLaw) (met : MetLaw) (p : Prog) (t : IsTyped p) (o : is_over_values p ≡ true) where
  -- a failing run gives a valuation that makes the clauses true, and the candidates as they are in the set
  valued : (set : ℕ → Bool) (u : Place) (es : List Line) (f : Formula) (h : HasClauses p u es f) (i : Interp) (s : State) (choices : List Choice) → Meets p i → IsState p u.implementation s → induction_run p set i u.implementation s choices ≡ Failed u.spot → (v : Valuation) × ((clauses_true v f.atoms f.clauses ≡ true) × ((b : ℕ) → bools_at h.encoding.named b ≡ true → there_in f.candidates v.truths b ≡ set b))
  valued set u es f h i s choices meets state e =
      let k = u.implementation in
      let m = h.implementation in
      let q = h.procedure in
      let typed = bodies Turning p set i k m q s t h.is_there h.is_its in
      let a = arrivals_in p k m q in
      let x = (runs p set i k m q s u.spot a.made a.arrivals h.is_there h.is_its (functions p t) typed meets.interp state (fits p set i k m q s typed)).0 (choices, e) in
      let d = (denies set u.spot (passive_scope p i x.0) (passives_in p k m q) 0).1 x.1.1 in
      let y = met p k m q t o h.is_there h.is_its es h.encoding h.is_encoding u.spot f h.clauses i x.0 set meets.interp x.1.0.typed d in
      (y.0, (y.1.1, y.1.0))

  module _ (certs : CertLaw) (used : UsedLaw) (units : UnitAtomLaw) (named : NamedUnitLaw) where
    -- where the clauses accept a certificate
    pub no_failure_of : (set : ℕ → Bool) (u : Place) (es : List Line) (f : Formula) → HasClauses p u es f → (cert : CertOf) → AtomsAgree cert.table → Accepts f set no_instance cert → (i : Interp) (s : State) (choices : List Choice) → Fails p set u i s choices → ⊥
    no_failure_of set u es f h cert agree accepted i s choices fails =
        let a = h.encoding in
        let plain = plain_formula a.first a.terms a.named a.rows u.spot a.blocks f h.clauses in
        let v = valued set u es f h i s choices fails.meets fails.state fails.fails in
        let met = meets_units f a.named (units a.first a.terms a.named a.rows u.spot a.blocks f h.clauses) (named a.first a.terms a.named a.rows u.spot a.blocks f h.clauses) v.0 set v.1.1 in
        certs f set no_instance cert (plain_agree a.first a.rows f h.is_encoding.denials plain) agree (λ j cs g. absurd (let bad : ⊥ = cc in bad)) accepted
        v.0 v.1.0 met (λ j cs g. absurd (let bad : ⊥ = cc in bad))

    pub no_failure : (set other : ℕ → Bool) (u : Place) (es : List Line) (cert : CertOf) → HasCertificateOf p set u es cert → ((c : ℕ) → uses cert.nodes c ≡ true → other c ≡ true) → (i : Interp) (s : State) (choices : List Choice) → Fails p other u i s choices → ⊥
    no_failure set other u es cert c us =
        no_failure_of other u es c.formula c.is.clauses cert c.agree (used c.formula set other no_instance cert c.accepted us)

-- Places whose clauses have a certificate, and places that have no clauses.
use Rattle.std.specs.Prelude.{◌≡◌, ℕ, Bool, true, List, Some, slice_get}
use Rattle.bg_base.specs.declared.exact.OutOfRange.{OutOfRange}
use Rattle.bg_ast.specs.Syntax.{Proc, Impl, Prog}
use Rattle.bg_ast.specs.Execution.{Place}
use Rattle.bg_sense.specs.Variables.{procedure_of}
use Rattle.bg_formula.specs.Formulas.{Formula}
use Rattle.bg_formula.specs.Meaning.{AtomsAgree}
use Rattle.bg_cert.specs.declared.cert.Cert.{Cert}
use Rattle.bg_cert.specs.Certs.{CertOf, Accepts, cert_of}
use Rattle.bg_cert.specs.Walks.{no_instance}
use Rattle.bg_formed.specs.Used.{refused}
use Rattle.bg_faithful.specs.Encoded.{Encoding}
use Rattle.bg_block_types.specs.Typed.{incarnations_in}
use Rattle.bg_numbered.specs.Lines.{Line, are_there}
use Rattle.bg_termed.specs.Termed.{terms_in}
use Rattle.bg_task.specs.Cuts.{IsOwn, HasOwnClauses}

-- the place's clauses behind lines, which name what is there, have this certificate under a set of candidates; in its table each row
-- stands with its denial
pub record HasCertificateOf (p : Prog) (set : ℕ → Bool) (t : Place) (lines : List Line) (cert : CertOf) : Type 0 where
  pub formula : Formula
  pub is : HasOwnClauses p t lines formula
  pub there :
      are_there (incarnations_in p t.implementation is.clauses.implementation is.clauses.procedure) (terms_in p t.implementation is.clauses.implementation is.clauses.procedure) lines ≡ true
  pub agree : AtomsAgree cert.table
  pub accepted : Accepts formula set no_instance cert

abbrev pub HasCertificate : Prog → (ℕ → Bool) → Place → List Line → Cert → Type 0
HasCertificate p set t lines cert = HasCertificateOf p set t lines (cert_of cert)

-- the place has no clauses behind these lines: an operation of a relation's linear form leaves the range, the first of those that
-- count for the place
pub record HasOutside (p : Prog) (t : Place) (lines : List Line) (o : OutOfRange) : Type 0 where
  pub implementation : Impl
  pub procedure : Proc
  pub is_there : slice_get p.implementations t.implementation ≡ Some implementation
  pub is_its : procedure_of p implementation.procedure ≡ Some procedure
  pub encoding : Encoding
  pub is_own : IsOwn p t.implementation implementation procedure lines encoding
  pub is_refused : refused t.spot encoding.blocks ≡ Some o

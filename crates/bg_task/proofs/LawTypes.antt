-- What the laws of the crates below say.
use Rattle.std.proofs.Common.{◌≡◌, ℕ, Bool, true, false, List, Option, Some, Ok}
use Rattle.std.specs.Prelude.{◌↔◌, is_some, slice_get}
use Rattle.bg_ast.specs.Values.{Val, Ty}
use Rattle.bg_ast.specs.Syntax.{Proc, Impl, Prog}
use Rattle.bg_ast.specs.Execution.{Interp, State, Choice, Spot}
use Rattle.bg_sense.specs.Types.{are_of}
use Rattle.bg_sense.specs.Eval.{Scope}
use Rattle.bg_sense.specs.Flow.{Failed}
use Rattle.bg_sense.specs.Context.{Loops, Turning}
use Rattle.bg_sense.specs.Variables.{procedure_of}
use Rattle.bg_sense.specs.Run.{context, induction_run}
use Rattle.bg_sense.specs.Interps.{IsInterp}
use Rattle.bg_sense.specs.Claims.{IsState}
use Rattle.bg_sense.specs.Typing.{AreTypedBodies, IsTypedSt}
use Rattle.bg_sense.specs.Typed.{IsTyped}
use Rattle.bg_flow.specs.Core.{frame_decls, routine_of}
use Rattle.bg_flow.specs.Blocks.{blocks_of}
use Rattle.bg_passive.specs.Passive.{PassiveBlock, SomeWalk}
use Rattle.bg_passive.specs.Incarnations.{Arrival, passives, MakesPassive, passive_scope, ValuesFrom}
use Rattle.bg_passive.specs.Arrivals.{arrived}
use Rattle.bg_passive.specs.Equations.{is_well, equations}
use Rattle.bg_block_types.specs.Typed.{blocks_in, incarnations_in, passives_in}
use Rattle.bg_incarnate.specs.Even.{BlocksEven}
use Rattle.bg_formula.specs.Atoms.{AtomOf, IsTruth, at}
use Rattle.bg_formula.specs.Formulas.{Formula, unit_atom}
use Rattle.bg_formula.specs.Meaning.{Valuation, clauses_true, AtomsAgree}
use Rattle.bg_formula.specs.Instances.{Instance, SignedAtom, atoms_of}
use Rattle.bg_cert.specs.Certs.{CertOf, Accepts, HasNoValuation, uses}
use Rattle.bg_forms.specs.Worth.{bools_at}
use Rattle.bg_formed.specs.Formed.{FormBlock}
use Rattle.bg_clause.specs.Tables.{there_in}
use Rattle.bg_clause.specs.Whole.{clauses_of}
use Rattle.bg_atoms.specs.Sorted.{blocks_sorted}
use Rattle.bg_faithful.specs.Encoded.{Encoding}
use Rattle.bg_terms.specs.Flat.{HaveNoBodies}
use Rattle.bg_numbered.specs.Lines.{Line}
use Rattle.bg_termed.specs.Termed.{IsTabled}
use Rattle.bg_termed.specs.Lined.{HasFlats, IsLinedEncoding, lined_behind, lined_sorts}
use Rattle.bg_flat_clauses.specs.Linear.{LinearBlocks}
use Rattle.bg_fits.specs.Valued.{is_over_values}

abbrev pub FunctionLaw : Type 0
FunctionLaw = (p : Prog) → IsTyped p → AreTypedBodies p

abbrev pub BodyLaw : Type 0
BodyLaw =
    (loops : Loops) (p : Prog) (set : ℕ → Bool) (i : Interp) (k : ℕ) (m : Impl) (q : Proc) (s : State) →
    IsTyped p → slice_get p.implementations k ≡ Some m → procedure_of p m.procedure ≡ Some q →
    IsTypedSt (context loops p set i k m q s) m.body

abbrev pub PassiveLaw : Type 0
PassiveLaw =
    (p : Prog) (set : ℕ → Bool) (i : Interp) (k : ℕ) (m : Impl) (q : Proc) (s : State) (spot : Spot) (others : List Ty) (arrivals : List Arrival) →
    slice_get p.implementations k ≡ Some m → procedure_of p m.procedure ≡ Some q →
    AreTypedBodies p → IsTypedSt (context Turning p set i k m q s) m.body → IsInterp p i → IsState p k s →
    MakesPassive p (frame_decls m q) others arrivals (blocks_of (routine_of p k m q)) →
    ((choices : List Choice) × (induction_run p set i k s choices ≡ Failed spot))
    ↔ ((values : List Val) × (ValuesFrom p (frame_decls m q) others s values
    × SomeWalk set spot (passive_scope p i values) (passives arrivals (blocks_of (routine_of p k m q))) 0))

abbrev pub FitLaw : Type 0
FitLaw =
    (p : Prog) (set : ℕ → Bool) (i : Interp) (k : ℕ) (m : Impl) (q : Proc) (s : State) →
    IsTypedSt (context Turning p set i k m q s) m.body →
    MakesPassive p (frame_decls m q)
    (arrived p (frame_decls m q) (blocks_of (routine_of p k m q))).made
    (arrived p (frame_decls m q) (blocks_of (routine_of p k m q))).arrivals
    (blocks_of (routine_of p k m q))

abbrev pub DenyLaw : Type 0
DenyLaw =
    (set : ℕ → Bool) (target : Spot) (values : Scope) (blocks : List PassiveBlock) (k : ℕ) →
    is_well (slice_get (equations set target values blocks) k) ≡ false ↔ SomeWalk set target values blocks k

-- a valuation for typed values under which the equations deny the entry
abbrev pub MetLaw : Type 0
MetLaw =
    (p : Prog) (k : ℕ) (m : Impl) (q : Proc) → IsTyped p → is_over_values p ≡ true →
    slice_get p.implementations k ≡ Some m → procedure_of p m.procedure ≡ Some q →
    (lines : List Line) (a : Encoding) → IsLinedEncoding p k m q lines a →
    (target : Spot) (f : Formula) → clauses_of a.first a.named a.terms a.rows target a.blocks ≡ Ok f →
    (i : Interp) (values : List Val) (set : ℕ → Bool) → IsInterp p i → are_of (incarnations_in p k m q) values ≡ true →
    is_well (slice_get (equations set target (passive_scope p i values) (passives_in p k m q)) 0) ≡ false →
    (v : Valuation) × (((b : ℕ) → bools_at a.named b ≡ true → there_in f.candidates v.truths b ≡ set b)
    × (clauses_true v f.atoms f.clauses ≡ true))

-- a candidate's atom is the truth variable of its number
abbrev pub UnitAtomLaw : Type 0
UnitAtomLaw =
    (first terms : ℕ) (named : List Bool) (rows : List AtomOf) (target : Spot) (blocks : List FormBlock) (f : Formula) → clauses_of first named terms rows target blocks ≡ Ok f →
    (b a : ℕ) → unit_atom f b ≡ Some a → at f.atoms a ≡ Some (IsTruth a)

-- the named candidates have one
abbrev pub NamedUnitLaw : Type 0
NamedUnitLaw =
    (first terms : ℕ) (named : List Bool) (rows : List AtomOf) (target : Spot) (blocks : List FormBlock) (f : Formula) → clauses_of first named terms rows target blocks ≡ Ok f →
    (b : ℕ) → is_some (unit_atom f b) ≡ bools_at named b

abbrev pub CertLaw : Type 0
CertLaw =
    (f : Formula) (set : ℕ → Bool) (adds : Instance → Option (List (List SignedAtom))) (cert : CertOf) →
    AtomsAgree f.atoms → AtomsAgree cert.table → ((i : Instance) (cs : List (List SignedAtom)) → adds i ≡ Some cs → AtomsAgree (atoms_of cs)) → Accepts f set adds cert → HasNoValuation f set adds

abbrev pub UsedLaw : Type 0
UsedLaw =
    (f : Formula) (set other : ℕ → Bool) (adds : Instance → Option (List (List SignedAtom))) (cert : CertOf) →
    Accepts f set adds cert → ((c : ℕ) → uses cert.nodes c ≡ true → other c ≡ true) → Accepts f other adds cert

abbrev pub EvenLaw : Type 0
EvenLaw =
    (p : Prog) (k : ℕ) (m : Impl) (q : Proc) → IsTyped p → is_over_values p ≡ true →
    slice_get p.implementations k ≡ Some m → procedure_of p m.procedure ≡ Some q → BlocksEven (blocks_in p k m q)

abbrev pub SortLaw : Type 0
SortLaw =
    (p : Prog) (k : ℕ) (m : Impl) (q : Proc) → IsTyped p → is_over_values p ≡ true →
    slice_get p.implementations k ≡ Some m → procedure_of p m.procedure ≡ Some q →
    (lines : List Line) → blocks_sorted (lined_sorts p k m q lines) p.candidates (lined_behind p k m q lines) ≡ true

-- ---- laws of programs whose functions have tables, for programs over values

abbrev pub TabledLaw : Type 0
TabledLaw = (p : Prog) → IsTyped p → is_over_values p ≡ true → IsTabled p

abbrev pub LinearLaw : Type 0
LinearLaw =
    (p : Prog) (k : ℕ) (m : Impl) (q : Proc) → IsTyped p → is_over_values p ≡ true →
    slice_get p.implementations k ≡ Some m → procedure_of p m.procedure ≡ Some q → LinearBlocks p.candidates (passives_in p k m q)

abbrev pub FlatsLaw : Type 0
FlatsLaw =
    (p : Prog) (k : ℕ) (m : Impl) (q : Proc) → IsTyped p → is_over_values p ≡ true →
    slice_get p.implementations k ≡ Some m → procedure_of p m.procedure ≡ Some q → HasFlats p k m q

abbrev pub AnyMetLaw : Type 0
AnyMetLaw =
    (p : Prog) (k : ℕ) (m : Impl) (q : Proc) → HaveNoBodies p.functions → HasFlats p k m q →
    (lines : List Line) (a : Encoding) → IsLinedEncoding p k m q lines a →
    (target : Spot) (f : Formula) → clauses_of a.first a.named a.terms a.rows target a.blocks ≡ Ok f →
    (i : Interp) (values : List Val) (set : ℕ → Bool) → IsInterp p i → are_of (incarnations_in p k m q) values ≡ true →
    is_well (slice_get (equations set target (passive_scope p i values) (passives_in p k m q)) 0) ≡ false →
    (v : Valuation) × (((b : ℕ) → bools_at a.named b ≡ true → there_in f.candidates v.truths b ≡ set b)
    × (clauses_true v f.atoms f.clauses ≡ true))

abbrev pub AnySortLaw : Type 0
AnySortLaw =
    (p : Prog) (k : ℕ) (m : Impl) (q : Proc) → HasFlats p k m q → LinearBlocks p.candidates (passives_in p k m q) →
    (lines : List Line) → blocks_sorted (lined_sorts p k m q lines) p.candidates (lined_behind p k m q lines) ≡ true

pub met_law : TabledLaw → FlatsLaw → AnyMetLaw → MetLaw
met_law tabled flats met p k m q t o im pr = met p k m q (tabled p t o).bodies (flats p k m q t o im pr)

pub sort_law : FlatsLaw → LinearLaw → AnySortLaw → SortLaw
sort_law flats linear sorted p k m q t o im pr = sorted p k m q (flats p k m q t o im pr) (linear p k m q t o im pr)

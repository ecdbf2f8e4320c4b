-- What the laws of the crates below say.
use Rattle.std.proofs.Common.{◌≡◌, ℕ, suc, ◌+◌, ◌<◌, ℤ, Bool, true, false, List, [], length, take, map, Option, Some, None, Ok}
use Rattle.std.specs.Prelude.{slice_get, Contains, IsTrue}
use Rattle.bg_ast.specs.Values.{Val, Table, Ty}
use Rattle.bg_ast.specs.Syntax.{Ex, Fun, Proc, Impl, Prog}
use Rattle.bg_ast.specs.Resolved as r
use Rattle.bg_ast.specs.Meaning.{meaning_of}
use Rattle.bg_ast.specs.Execution.{Interp, State, Choice, Spot, Place}
use Rattle.bg_sense.specs.Eval.{body_of, value_at, ev, functions_to}
use Rattle.bg_sense.specs.Tables.{are_tables}
use Rattle.bg_sense.specs.Types.{are_of}
use Rattle.bg_sense.specs.Clauses.{is_kept}
use Rattle.bg_sense.specs.Variables.{procedure_of}
use Rattle.bg_sense.specs.Run.{induction_run}
use Rattle.bg_sense.specs.Places.{places}
use Rattle.bg_sense.specs.Interps.{Meets}
use Rattle.bg_sense.specs.Claims.{IsState, Safe, Fails}
use Rattle.bg_sense.specs.Typed.{IsTyped}
use Rattle.bg_sense.specs.Resolved.{IsResolved}
use Rattle.bg_flow.specs.Core.{frame_decls}
use Rattle.bg_passive.specs.Passive.{PassiveBlock}
use Rattle.bg_passive.specs.Incarnations.{first_state}
use Rattle.bg_passive.specs.Equations.{is_well}
use Rattle.bg_block_types.specs.Typed.{blocks_in, incarnations_in, passives_in}
use Rattle.bg_block_types.specs.TypedFlow.{CodeIsTyped}
use Rattle.bg_formula.specs.Atoms.{AtomOf, at}
use Rattle.bg_formula.specs.Formulas.{Formula, is_whole}
use Rattle.bg_formula.specs.Meaning.{Valuation, signed, clauses_true, MeetsUnits, AtomsAgree}
use Rattle.bg_formula.specs.Instances.{Instance, SignedAtom}
use Rattle.bg_cert.specs.Paths.{decides}
use Rattle.bg_cert.specs.Certs.{CertOf, Accepts, uses}
use Rattle.bg_point.specs.Points.{value_of}
use Rattle.bg_tree.specs.declared.outcome.Leaf.{Leaf}
use Rattle.bg_tree.specs.Ends.{IsLeaf, TruthsAgree}
use Rattle.bg_forms.specs.Worth.{bools_at}
use Rattle.bg_formed.specs.Agree.{AreRows, RowsAgree}
use Rattle.bg_formed.specs.Formed.{FormBlock, blocks_below}
use Rattle.bg_formed.specs.Used.{refused}
use Rattle.bg_formed.specs.Wells.{form_equations}
use Rattle.bg_clause.specs.Tables.{there_in}
use Rattle.bg_clause.specs.Valued.{worth_in}
use Rattle.bg_clause.specs.Whole.{clauses_of}
use Rattle.bg_linear.specs.declared.scalar.Sort.{Sort}
use Rattle.bg_linear.specs.Sorts.{scalar_values, HoldScalars}
use Rattle.bg_faithful.specs.Checks.{BlocksPlaced}
use Rattle.bg_faithful.specs.Encoded.{Encoding, Encodes}
use Rattle.bg_terms.specs.Terms.{Term, IsModel, over}
use Rattle.bg_terms.specs.Alike.{StandFor, HasFlatType, is_scalar, scalar_ty}
use Rattle.bg_terms.specs.Closed.{IsFinished}
use Rattle.bg_terms.specs.Flat.{HaveNoBodies, IsFlat}
use Rattle.bg_terms.specs.Tables.{IsReadOff}
use Rattle.bg_flat.specs.Blocks.{FlatBlocks}
use Rattle.bg_flatten.specs.Flattens.{AreFlattened}
use Rattle.bg_numbered.specs.Indexed.{are_indexed, GiveIndexed}
use Rattle.bg_numbered.specs.Lines.{Line}
use Rattle.bg_read_off.specs.Leaves.{silent}
use Rattle.bg_termed.specs.Lined.{HasFlats, lined_terms, lined_types, lined_sorts, lined_built}
use Rattle.bg_termed.specs.Termed.{count_in, terms_in, flats_in}
use Rattle.bg_places.specs.Placed.{placed, place_in}
use Rattle.bg_fits.specs.Valued.{is_over_values}
use Rattle.bg_blocks.specs.Whole.{AreBlocks}
use Rattle.bg_blocks.specs.declared.block.Block.{Block}
use Rattle.bg_scalar.specs.Choices.{state_of}
use Rattle.bg_replay.specs.Endings.{IsRight, IsReplay}
use Rattle.bg_replay.specs.Views.{set_of}
use Rattle.bg_replay.specs.declared.ending.Ending.{Ending}

abbrev pub SafeLaw : Type 0
SafeLaw =
    (p : Prog) (set : ℕ → Bool) (k : ℕ) → IsTyped p → k < length p.implementations →
    ((t : Place) (i : Interp) (s : State) (choices : List Choice) → Contains (places p) t → t.implementation ≡ k →
    is_kept set t.candidate ≡ true → Fails p set t i s choices → ⊥) →
    Safe p set k

abbrev pub PlaceLaw : Type 0
PlaceLaw = (p : r.Program) → map place_in (placed p) ≡ places (meaning_of p)

abbrev pub WholeLaw : Type 0
WholeLaw =
    (sorts : List Sort) (candidates : ℕ) (blocks : List PassiveBlock) (a : Encoding) (target : Spot) (f : Formula) →
    Encodes sorts candidates blocks a → clauses_of a.first a.named a.terms a.rows target a.blocks ≡ Ok f → is_whole f ≡ true

-- numbers and truth values stand for values
abbrev pub StandInLaw : Type 0
StandInLaw =
    (p : Prog) (k : ℕ) (m : Impl) (q : Proc) (ls : List Line) (numbers : ℕ → ℤ) (truths : ℕ → Bool) →
    are_of (map scalar_ty (lined_types p k m q ls)) (scalar_values numbers truths (lined_sorts p k m q ls)) ≡ true

abbrev pub FirstLaw : Type 0
FirstLaw =
    (p : Prog) (k : ℕ) (m : Impl) (q : Proc) (ls : List Line) (numbers : ℕ → ℤ) (truths : ℕ → Bool) →
    are_of (incarnations_in p k m q) (take (count_in p k m q) (lined_built p k m q ls (scalar_values numbers truths (lined_sorts p k m q ls)))) ≡ true

abbrev pub StartLaw : Type 0
StartLaw =
    (p : Prog) (k : ℕ) (m : Impl) (q : Proc) → IsTyped p → is_over_values p ≡ true →
    slice_get p.implementations k ≡ Some m → procedure_of p m.procedure ≡ Some q →
    (values : List Val) → are_of (incarnations_in p k m q) values ≡ true → IsState p k (first_state p (frame_decls m q) values)

abbrev pub MeetLaw : Type 0
MeetLaw =
    (p : Prog) (i : Interp) → is_over_values p ≡ true → i.constants ≡ [] → IsTrue (are_tables p.functions i.tables) → Meets p i

-- of flat blocks
abbrev pub TermLaw : Type 0
TermLaw =
    (p : Prog) (k : ℕ) (m : Impl) (q : Proc) → IsTyped p → is_over_values p ≡ true →
    slice_get p.implementations k ≡ Some m → procedure_of p m.procedure ≡ Some q → HasFlats p k m q

abbrev pub IncarnationLaw : Type 0
IncarnationLaw =
    (p : Prog) (k : ℕ) (m : Impl) (q : Proc) → IsTyped p → is_over_values p ≡ true →
    slice_get p.implementations k ≡ Some m → procedure_of p m.procedure ≡ Some q → are_indexed (incarnations_in p k m q) ≡ true

abbrev pub ResultLaw : Type 0
ResultLaw = (p : Prog) → IsTyped p → is_over_values p ≡ true → GiveIndexed p.functions

abbrev pub LinedLaw : Type 0
LinedLaw =
    (p : Prog) (k : ℕ) (m : Impl) (q : Proc) → HasFlats p k m q → (ls : List Line) →
    AreFlattened p.functions (incarnations_in p k m q) (passives_in p k m q) (lined_terms p k m q ls) (flats_in p k m q)

abbrev pub OwnLaw : Type 0
OwnLaw =
    (p : Prog) (k : ℕ) (m : Impl) (q : Proc) → HasFlats p k m q → (ls : List Line) →
    FlatBlocks (lined_types p k m q ls) (count_in p k m q) (terms_in p k m q) (passives_in p k m q) (flats_in p k m q)

abbrev pub FlatLaw : Type 0
FlatLaw =
    (i : Interp) (n depth : ℕ) (fs : List Fun) (ts : List Term) (w values : List Val) (e x : Ex) →
    HaveNoBodies fs → IsModel i w n ts → ((j : ℕ) → j < n → value_at w j ≡ value_at values j) → IsFlat n ts e x →
    ev x (over w) ≡ ev e (record { functions = functions_to (suc depth) fs i; constants = i.constants; globals = []; before = []; frame = values })

abbrev pub AlikeLaw : Type 0
AlikeLaw =
    (tys : List Ty) (w scalars : List Val) (x : Ex) (t : Ty) → StandFor tys w scalars → HasFlatType tys x t → is_scalar t ≡ true →
    ev x (over scalars) ≡ ev x (over w)

abbrev pub StandLaw : Type 0
StandLaw =
    (p : Prog) (k : ℕ) (m : Impl) (q : Proc) → HasFlats p k m q → (ls : List Line) (s : List Val) →
    are_of (map scalar_ty (lined_types p k m q ls)) s ≡ true → IsFinished s (count_in p k m q) (lined_terms p k m q ls) (lined_types p k m q ls) →
    StandFor (lined_types p k m q ls) (lined_built p k m q ls s) s

abbrev pub ModelLaw : Type 0
ModelLaw =
    (p : Prog) (k : ℕ) (m : Impl) (q : Proc) → HasFlats p k m q → (ls : List Line) (s : List Val) →
    are_of (map scalar_ty (lined_types p k m q ls)) s ≡ true → IsFinished s (count_in p k m q) (lined_terms p k m q ls) (lined_types p k m q ls) →
    (i : Interp) → IsReadOff i (silent p.functions) (lined_built p k m q ls s) (count_in p k m q) (lined_terms p k m q ls) →
    IsModel i (lined_built p k m q ls s) (count_in p k m q) (terms_in p k m q)

abbrev pub HoldLaw : Type 0
HoldLaw = (sorts : List Sort) (numbers : ℕ → ℤ) (truths : ℕ → Bool) → HoldScalars sorts numbers truths (scalar_values numbers truths sorts)

-- of clauses of blocks of forms
abbrev pub DeniedLaw : Type 0
DeniedLaw =
    (first terms : ℕ) (named : List Bool) (rows : List AtomOf) (target : Spot) (blocks : List FormBlock) (f : Formula) → clauses_of first named terms rows target blocks ≡ Ok f →
    blocks_below (first + length rows) (bools_at named) blocks ≡ true →
    (v : Valuation) → clauses_true v f.atoms f.clauses ≡ true → is_well (slice_get (form_equations (there_in f.candidates v.truths) target (worth_in v f.atoms) blocks) 0) ≡ false

abbrev pub WithinLaw : Type 0
WithinLaw =
    (first terms : ℕ) (named : List Bool) (rows : List AtomOf) (target : Spot) (blocks : List FormBlock) (f : Formula) → clauses_of first named terms rows target blocks ≡ Ok f → refused target blocks ≡ None

abbrev pub RowsLaw : Type 0
RowsLaw =
    (first terms : ℕ) (named : List Bool) (rows : List AtomOf) (target : Spot) (blocks : List FormBlock) (f : Formula) → clauses_of first named terms rows target blocks ≡ Ok f →
    blocks_below (first + length rows) (bools_at named) blocks ≡ true →
    (v : Valuation) → AreRows rows → RowsAgree v.numbers (worth_in v f.atoms) first rows

-- of complete leaves
abbrev pub LeafLaw : Type 0
LeafLaw =
    (targets : ℕ → ℤ) (f : Formula) (set : ℕ → Bool) (leaf : Leaf) (v : Valuation) → is_whole f ≡ true → AtomsAgree f.atoms → IsLeaf targets f set leaf →
    ((x : ℕ) → v.numbers x ≡ value_of leaf.spots.items x) → TruthsAgree v f.atoms leaf.path.items → clauses_true v f.atoms f.clauses ≡ true

abbrev pub UnitLaw : Type 0
UnitLaw =
    (targets : ℕ → ℤ) (f : Formula) (set : ℕ → Bool) (leaf : Leaf) (v : Valuation) → is_whole f ≡ true → AtomsAgree f.atoms → IsLeaf targets f set leaf →
    ((x : ℕ) → v.numbers x ≡ value_of leaf.spots.items x) → TruthsAgree v f.atoms leaf.path.items → MeetsUnits v f set

abbrev pub SignLaw : Type 0
SignLaw =
    (targets : ℕ → ℤ) (f : Formula) (set : ℕ → Bool) (leaf : Leaf) (v : Valuation) → AtomsAgree f.atoms → IsLeaf targets f set leaf →
    ((x : ℕ) → v.numbers x ≡ value_of leaf.spots.items x) → TruthsAgree v f.atoms leaf.path.items →
    (a : ℕ) (s : Bool) → a < length f.atoms → decides a s leaf.path.items ≡ true → signed v (at f.atoms a) s ≡ true

-- of places
abbrev pub SpotLaw : Type 0
SpotLaw =
    (p : Prog) (t u : Place) → IsResolved p →
    Contains (places p) t → Contains (places p) u → t.spot ≡ u.spot → t.candidate ≡ u.candidate

abbrev pub CheckLaw : Type 0
CheckLaw =
    (p : Prog) (k : ℕ) (m : Impl) (q : Proc) → is_over_values p ≡ true →
    slice_get p.implementations k ≡ Some m → procedure_of p m.procedure ≡ Some q → BlocksPlaced p (passives_in p k m q)

abbrev pub InsideLaw : Type 0
InsideLaw =
    (f : Formula) (set : ℕ → Bool) (adds : Instance → Option (List (List SignedAtom))) (cert : CertOf) →
    Accepts f set adds cert → (c : ℕ) → uses cert.nodes c ≡ true → set c ≡ true

abbrev pub CodeLaw : Type 0
CodeLaw =
    (p : Prog) (k : ℕ) (m : Impl) (q : Proc) → IsTyped p →
    slice_get p.implementations k ≡ Some m → procedure_of p m.procedure ≡ Some q → CodeIsTyped p (frame_decls m q) (blocks_in p k m q)

abbrev pub ReplayLaw : Type 0
ReplayLaw =
    (p : r.Program) (set : List Bool) (i : Interp) (number : ℕ) (m : r.Impl) (q : r.Proc) (bs : List Block) (ts : List Table) (gs fs : List Val) (cs : List Choice) (ending : Ending) →
    ((f : ℕ) → body_of (slice_get (meaning_of p).functions f) ≡ None) → i.tables ≡ ts →
    slice_get p.implementations number ≡ Some m → slice_get p.procedures m.procedure ≡ Some q → AreBlocks p number m q bs → IsReplay p bs set number m q ts gs fs cs ending →
    IsRight ending (induction_run (meaning_of p) (set_of set) i number (state_of gs fs) cs)

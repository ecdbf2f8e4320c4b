-- What is known of each place of a program, and when it is right.
use Rattle.std.specs.Prelude.{◌≡◌, ℕ, suc, ◌-◌, ◌≤◌, Bool, true, false, ◌&&◌, List, [], ◌∷◌, Option, Some, None, is_some, length, map, filter, Vec}
use Rattle.std.specs.declared.alloc.Global.{Global}
use Rattle.bg_base.specs.declared.exact.OutOfRange.{OutOfRange}
use Rattle.bg_ast.specs.Syntax.{Prog}
use Rattle.bg_ast.specs.Resolved as r
use Rattle.bg_ast.specs.Meaning.{meaning_of}
use Rattle.bg_ast.specs.Execution.{Place}
use Rattle.bg_sense.specs.Claims.{Safe, Fails}
use Rattle.bg_sense.specs.Flow.{Failed}
use Rattle.bg_cert.specs.Certs.{CertOf}
use Rattle.bg_formula.specs.Formulas.{Formula}
use Rattle.bg_tree.specs.declared.outcome.Budget.{Budget}
use Rattle.bg_tree.specs.declared.outcome.Leaf.{Leaf}
use Rattle.bg_tree.specs.declared.outcome.Why.{Why}
use Rattle.bg_tree.specs.Ends.{IsLeaf}
use Rattle.bg_tree.specs.Trees.{IsCause}
use Rattle.bg_places.specs.Placed.{Placed, placed_impl}
use Rattle.bg_places.specs.Views.{placed_of}
use Rattle.bg_scalar.specs.Choices.{choice_of, state_of}
use Rattle.bg_scalar.specs.Views as view
use Rattle.bg_replay.specs.Said.{Stops, Leaves}
use Rattle.bg_model.specs.Interps.{interp_of}
use Rattle.bg_model.specs.declared.failure.Counterexample.{Counterexample}
use Rattle.bg_sound.specs.Used.{UsesAll}
use Rattle.bg_sound.specs.Told.{is_ordinary}
use Rattle.bg_sound.specs.Chosen.{choices_are_of}
use Rattle.bg_kinds.specs.Views.{ref_in}
use Rattle.bg_wanted.specs.Rows.{LeavesFirst}
use Rattle.bg_numbered.specs.Lines.{Line}
use Rattle.bg_term_table.specs.Lines.{lines_of}
use Rattle.bg_termed.specs.Lined.{lined_terms}
use Rattle.bg_task.specs.Cuts.{HasOwnClauses}
use Rattle.bg_task.specs.Certified.{HasCertificateOf, HasCertificate, HasOutside}
use Rattle.bg_check.specs.LeafRuns.{targets_for, numbers_in, HasLeaf}
use Rattle.bg_check.specs.Rounds.{brought, AreRounds}
use Rattle.bg_check.specs.declared.proof.Proof.{Proof}
use Rattle.bg_check.specs.declared.kept.Kept.{Kept}
use Rattle.bg_check.specs.Kept.{why_of, told_kept}
use Rattle.bg_check.specs.declared.verdict.Round.{Round}
use Rattle.bg_check.specs.declared.verdict.Cause.{Cause}
use Rattle.bg_check.specs.declared.verdict.Cause.TheVariants.{Search, Rounds, Form, Argument, Replay}
use Rattle.bg_check.specs.declared.verdict.Verdict.{Verdict}
use Rattle.bg_check.specs.declared.verdict.Verdict.TheVariants.{Proved, Refuted, Unknown, Left}
use Rattle.bg_check.specs.declared.verdict.Judged.{Judged}
use Rattle.bg_check.specs.Replays.{RunsTo}

-- this is why the place's clauses behind these lines are left unknown within the budget
pub record HasWhy (p : Prog) (set : ℕ → Bool) (t : Place) (ls : List Line) (budget : Budget) (why : Why) : Type 0 where
  pub formula : Formula
  pub is : HasOwnClauses p t ls formula
  pub cause : IsCause (targets_for p t.implementation is.clauses.implementation is.clauses.procedure) formula set budget why

-- the induction run under the counterexample's tables, from its values, with its choices, fails at the place
abbrev pub IsFailure : Prog → (ℕ → Bool) → Place → Counterexample → Type 0
IsFailure p set t cex =
    Fails p set t (interp_of cex) (state_of (view.vals_in cex.globals.items) (view.vals_in cex.frame.items)) (map choice_of cex.choices.items)

-- no choice is left over: without the last one the run lacks a choice
abbrev pub IsUsed : Prog → (ℕ → Bool) → Place → Counterexample → Type 0
IsUsed p set t cex =
    UsesAll p set t (interp_of cex) (state_of (view.vals_in cex.globals.items) (view.vals_in cex.frame.items)) (map choice_of cex.choices.items)

-- at a complete leaf of the place's clauses behind these lines an operation of a term's arguments, the first that does, leaves the
-- range
pub record HasArgument (p : Prog) (set : ℕ → Bool) (t : Place) (ls : List Line) (leaf : Leaf) (o : OutOfRange) : Type 0 where
  pub formula : Formula
  pub is : HasOwnClauses p t ls formula
  pub is_leaf : IsLeaf (targets_for p t.implementation is.clauses.implementation is.clauses.procedure) formula set leaf
  pub leaves : LeavesFirst (lined_terms p t.implementation is.clauses.implementation is.clauses.procedure ls) (numbers_in p t.implementation is.clauses.implementation is.clauses.procedure ls formula leaf) o

-- a round counts as one of the budget's nodes
abbrev pub left_after : List Round → Budget → Budget
left_after rounds budget = record budget { nodes = budget.nodes - length rounds }

-- why a place is left unknown under a set of candidates, behind these lines, where so much of the budget is left
abbrev pub IsUnknown : Budget → Prog → (ℕ → Bool) → Place → List Line → Cause → Type 0
IsUnknown left p set t ls (Search why) = HasWhy p set t ls left why
IsUnknown left p set t ls Rounds = left.nodes ≡ 0
IsUnknown left p set t ls (Form o) = HasOutside p t ls o
IsUnknown left p set t ls (Argument leaf o) = HasArgument p set t ls leaf o
IsUnknown left p set t ls (Replay cex o) =
    HasLeaf p set t ls cex × (IsFailure p set t cex × RunsTo p set t cex (Leaves o))

-- its choices are of the types that stand beside them
abbrev pub HasTypes : Counterexample → Type 0
HasTypes cex = choices_are_of (map ref_in cex.kinds.items) (map choice_of cex.choices.items) ≡ true

-- the run fails at the place, each operation on its way is within the range, no choice is left over, and each is of its type
abbrev pub IsRefuted : Prog → (ℕ → Bool) → Place → Counterexample → Type 0
IsRefuted p set t cex =
    IsFailure p set t cex × (RunsTo p set t cex (Stops (Failed t.spot)) × (IsUsed p set t cex × HasTypes cex))

-- some certificate of the place's clauses behind lines
pub record IsCertified (p : Prog) (set : ℕ → Bool) (t : Place) : Type 0 where
  pub lines : List Line
  pub cert : CertOf
  pub certificate : HasCertificateOf p set t lines cert

-- the kept certificate is one of the place's clauses behind its lines; where none is kept there is one
abbrev pub IsShown : Prog → (ℕ → Bool) → Place → Option Proof → Type 0
IsShown p set t (Some proof) = HasCertificate p set t (lines_of proof.lines.items) proof.cert
IsShown p set t None = IsCertified p set t

-- these are rounds, no more than the budget has nodes, and this is why the place is left unknown behind them
abbrev pub IsBehind : Budget → Prog → (ℕ → Bool) → Place → List Round → Cause → Type 0
IsBehind budget p set t rounds cause =
    (length rounds ≤ budget.nodes) × (AreRounds p set t [] rounds × IsUnknown (left_after rounds budget) p set t (brought rounds) cause)

-- behind some rounds the place is left unknown for some cause, of which this is told
pub record IsLeft (budget : Budget) (p : Prog) (set : ℕ → Bool) (t : Place) (kept : Kept) : Type 0 where
  pub rounds : List Round
  pub cause : Cause
  pub right : IsBehind budget p set t rounds cause
  pub told : why_of (length rounds) cause ≡ told_kept kept

-- a verdict on a place, under a set of candidates
abbrev pub IsRight : Budget → Prog → (ℕ → Bool) → Place → Verdict → Type 0
IsRight budget p set t (Proved proof) = IsShown p set t proof
IsRight budget p set t (Refuted cex) = IsRefuted p set t cex
IsRight budget p set t (Unknown rounds cause) = IsBehind budget p set t rounds.items cause
IsRight budget p set t (Left kept) = IsLeft budget p set t kept

-- the verdict has its certificate or its cause
abbrev pub has_all : Verdict → Bool
has_all (Proved proof) = is_some proof
has_all (Refuted cex) = true
has_all (Unknown rounds cause) = true
has_all (Left kept) = false

-- each of these verdicts has its certificate or its cause
abbrev pub have_all : List Judged → Bool
have_all [] = true
have_all (j ∷ js) = has_all j.verdict && have_all js

abbrev pub placed_at : Judged → Placed
placed_at j = placed_of j.place

-- each verdict is right
abbrev pub AreRightAt : Budget → Prog → (ℕ → Bool) → List Judged → Type 0
AreRightAt budget p set [] = Unit {0}
AreRightAt budget p set (j ∷ js) = IsRight budget p set (placed_at j).place j.verdict × AreRightAt budget p set js

-- one right verdict for each ordinary place of the implementation with this number, in order, and none for another place
pub record AreRightOf (budget : Budget) (p : r.Program) (set : ℕ → Bool) (k : ℕ) (m : r.Impl) (js : List Judged) : Type 0 where
  pub places : map placed_at js ≡ filter is_ordinary (placed_impl p.procedures k m)
  pub right : AreRightAt budget (meaning_of p) set js

-- for each of these implementations, numbered from k on
abbrev pub AreRightFrom : Budget → r.Program → (ℕ → Bool) → ℕ → List r.Impl → List (List Judged) → Type 0
AreRightFrom budget p set k [] [] = Unit {0}
AreRightFrom budget p set k [] (js ∷ os) = ⊥
AreRightFrom budget p set k (m ∷ ms) [] = ⊥
AreRightFrom budget p set k (m ∷ ms) (js ∷ os) = AreRightOf budget p set k m js × AreRightFrom budget p set (suc k) ms os

-- one right verdict for each ordinary place of a program, under a set of candidates
abbrev pub AreRightUnder : (ℕ → Bool) → Budget → r.Program → List (List Judged) → Type 0
AreRightUnder set budget p outcome = AreRightFrom budget p set 0 p.implementations outcome

abbrev pub is_proved : Verdict → Bool
is_proved (Proved proof) = true
is_proved (Refuted cex) = false
is_proved (Unknown rounds cause) = false
is_proved (Left kept) = false

abbrev pub are_proved : List Judged → Bool
are_proved [] = true
are_proved (j ∷ js) = is_proved j.verdict && are_proved js

-- each implementation is safe of which each place that has a verdict is proved
abbrev pub ProvedAreSafe : r.Program → (ℕ → Bool) → ℕ → List (List Judged) → Type 0
ProvedAreSafe p set k [] = Unit {0}
ProvedAreSafe p set k (js ∷ os) = (are_proved js ≡ true → Safe (meaning_of p) set k) × ProvedAreSafe p set (suc k) os

-- the verdicts as lists
abbrev pub judged : List (Vec Judged Global) → List (List Judged)
judged = map (λ v. v.items)

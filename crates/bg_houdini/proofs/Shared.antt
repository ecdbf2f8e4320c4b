-- What is made once of a program may be shared by threads.
use Prim.Native.Nat.{ℕ}
use mathlib.Core.List.{List, [], ◌∷◌}
use denote.Ref.{NamedLft}
use denote.Struct.Tuple.{TupleAt}
use denote.Struct.Field.{shr_ref_field, shr_slice_field, bool-field}
use denote.Param.Send.{IsSync, IsSend, sendable}
use Rattle.std.proofs.Crossing as std
use Rattle.std.proofs.MapsCrossing as maps
use Rattle.std.proofs.option.Option.TheSendSync as option
use Rattle.std.proofs.vec.Vec.TheSendSync as vec
use Rattle.std.specs.contracts.alloc.Global as heap
use Rattle.std.proofs.alloc.Global.TheSendSync as global
use Rattle.bg_base.proofs.pos.Pos.TheSendSync as pos
use Rattle.bg_base.proofs.ids.CandId.TheSendSync as cand
use Rattle.bg_text.proofs.expr.Name.TheSendSync as name
use Rattle.bg_ast.proofs.resolved.Placed.TheSendSync as placed
use Rattle.bg_ast.proofs.resolved.Bracket.TheLaws.TheKnot as knot_expr
use Rattle.bg_ast.proofs.resolved.Stmt.TheLaws.TheKnot as knot_stmt
use Rattle.bg_ast.proofs.resolved.WrittenType.TheLaws.TheKnot as knot_type
use Rattle.bg_ast.specs.contracts.resolved.Expr as expr
use Rattle.bg_ast.specs.contracts.resolved.Clause as clause
use Rattle.bg_ast.specs.contracts.resolved.Guard as guard
use Rattle.bg_ast.specs.contracts.resolved.Indices as indices
use Rattle.bg_ast.specs.contracts.resolved.Target as target
use Rattle.bg_ast.specs.contracts.resolved.Call as call
use Rattle.bg_ast.specs.contracts.resolved.Stmt as stmt
use Rattle.bg_ast.specs.contracts.resolved.WrittenType as written
use Rattle.bg_ast.specs.contracts.resolved.TypeName as type_name
use Rattle.bg_ast.specs.contracts.resolved.Constant as constant
use Rattle.bg_ast.specs.contracts.resolved.Declared as declared
use Rattle.bg_ast.specs.contracts.resolved.Function as function
use Rattle.bg_ast.specs.contracts.resolved.Procedure as procedure
use Rattle.bg_ast.specs.contracts.resolved.Implementation as implementation
use Rattle.bg_ast.specs.contracts.resolved.Resolved as resolved
use Rattle.bg_ast.proofs.resolved.Variable.TheSendSync as variable
use Rattle.bg_ast.specs.contracts.resolved.Variable as variable_row
use Rattle.std.specs.contracts.vec.Vec as vec_row
use Rattle.std.specs.contracts.impls.GlobalAllocator.TheImpl.{ghosts}
use Rattle.bg_places.proofs.place.Group.TheSendSync as group
use Rattle.bg_places.proofs.place.Place.TheSendSync as place
use Rattle.bg_places.specs.contracts.place.Place as place_row
use Rattle.bg_places.proofs.place.Spot.TheSendSync as spot
use Rattle.bg_kinds.proofs.kinds.IndexType.TheSendSync as index_type
use Rattle.bg_kinds.proofs.kinds.Base.TheSendSync as base
use Rattle.bg_kinds.specs.contracts.kinds.Keys as keys
use Rattle.bg_kinds.specs.contracts.kinds.ValueType as kind
use Rattle.bg_linear.proofs.scalar.Sort.TheSendSync as sort
use Rattle.bg_forms.proofs.form.Form.TheLaws.TheKnot as knot_form
use Rattle.bg_blocks.proofs.block.Kept.TheSendSync as kept
use Rattle.bg_blocks.specs.contracts.block.Cmd as cmd
use Rattle.bg_blocks.specs.contracts.block.Exit as exit
use Rattle.bg_blocks.specs.contracts.block.Block as block
use Rattle.bg_atoms.specs.contracts.product.Atoms as atoms
use Rattle.bg_term_table.specs.contracts.table.Head as head
use Rattle.bg_term_table.specs.contracts.table.Term as term
use Rattle.bg_incarnate.specs.contracts.blocks.PassiveCmd as passive_cmd
use Rattle.bg_incarnate.specs.contracts.blocks.Edge as edge
use Rattle.bg_incarnate.specs.contracts.blocks.PassiveBlock as passive_block
use Rattle.bg_task.specs.contracts.prepared.Prepared as prepared
use Rattle.bg_scalar.proofs.value.Value.TheLaws.TheKnot as knot_value
use Rattle.bg_scalar.specs.contracts.value.Value as value
use Rattle.bg_scalar.specs.contracts.table.Table as table
use Rattle.bg_scalar.specs.contracts.choice.Choice as choice
use Rattle.bg_cert.specs.contracts.cert.Cert as cert
use Rattle.bg_tree.specs.contracts.outcome.Leaf as leaf
use Rattle.bg_tree.specs.contracts.outcome.Why as why
use Rattle.bg_model.specs.contracts.failure.Counterexample as counterexample
use Rattle.bg_check.proofs.effort.Effort.TheSendSync as effort
use Rattle.bg_check.proofs.kept.Kept.TheSendSync as told
use Rattle.bg_check.specs.contracts.proof.Proof as proof
use Rattle.bg_check.specs.contracts.verdict.Round as round
use Rattle.bg_check.specs.contracts.verdict.Cause as cause
use Rattle.bg_check.specs.contracts.verdict.Verdict as verdict
use Rattle.bg_check.specs.contracts.verdict.Judged as judged
use Rattle.bg_houdini.specs.contracts.reason.Reason as reason
use Rattle.bg_houdini.specs.contracts.judging.Judging as judging

pub ruleset parts = (pos.the_field_sync, pos.the_sync, cand.the_field_sync, cand.the_sync, name.the_field_sync, name.the_sync, placed.the_field_sync, placed.the_sync, option.the_sync, vec.the_sync, global.the_sync, std.crosses, sendable)

expr_sync : IsSync expr.the_row
expr_sync = search (knot_expr.crosses, parts) depth 60 fits 20000

expr_field : IsSync (expr.the_field).row
expr_field = search (knot_expr.crosses, parts) depth 60 fits 20000

type_sync : IsSync written.the_row
type_sync = search (knot_type.crosses, parts) depth 60 fits 20000

type_field : IsSync (written.the_field).row
type_field = search (knot_type.crosses, parts) depth 60 fits 20000

clause_sync : IsSync clause.the_row
clause_sync = search (expr_field, parts) depth 60 fits 20000

clause_field : IsSync (clause.the_field).row
clause_field = search (expr_field, parts) depth 60 fits 20000

indices_sync : IsSync indices.the_row
indices_sync = search (expr_sync, parts) depth 60 fits 20000

target_sync : IsSync target.the_row
target_sync = search (indices_sync, parts) depth 60 fits 20000

call_sync : IsSync call.the_row
call_sync = search (expr_sync, parts) depth 60 fits 20000

call_field : IsSync (call.the_field).row
call_field = search (expr_sync, parts) depth 60 fits 20000

guard_sync : IsSync guard.the_row
guard_sync = search (expr_field, parts) depth 60 fits 20000

guard_field : IsSync (guard.the_field).row
guard_field = search (expr_field, parts) depth 60 fits 20000

stmt_sync : IsSync stmt.the_row
stmt_sync = search (knot_stmt.crosses, clause_sync, clause_field, target_sync, call_field, guard_field, expr_sync, expr_field, parts) depth 60 fits 20000

declared_sync : IsSync declared.the_row
declared_sync = search (type_field, parts) depth 60 fits 20000

type_name_sync : IsSync type_name.the_row
type_name_sync = search (type_sync, parts) depth 60 fits 20000

constant_sync : IsSync constant.the_row
constant_sync = search (type_field, parts) depth 60 fits 20000

function_sync : IsSync function.the_row
function_sync = search (type_sync, type_field, expr_sync, parts) depth 60 fits 20000

procedure_sync : IsSync procedure.the_row
procedure_sync = search (declared_sync, clause_sync, parts) depth 60 fits 20000

pub implementation_sync : IsSync implementation.the_row
implementation_sync = search (declared_sync, stmt_sync, parts) depth 60 fits 20000

pub resolved_sync : IsSync resolved.the_row
resolved_sync =
    search (type_name_sync, constant_sync, declared_sync, function_sync, expr_sync, procedure_sync, implementation_sync, parts) depth 60 fits 20000

cmd_sync : (a : NamedLft) → IsSync (cmd.the_row a)
cmd_sync a = search (group.the_field_sync, kept.the_field_sync, variable.the_sync, clause_sync, target_sync, call_sync, procedure_sync, expr_sync, parts) depth 60 fits 20000

exit_field : (a : NamedLft) → IsSync ((exit.the_field a).row)
exit_field a = search (guard_sync, parts) depth 60 fits 20000

block_sync : (a : NamedLft) → IsSync (block.the_row a)
block_sync a = search (cmd_sync, exit_field, parts) depth 60 fits 20000

atoms_field : IsSync (atoms.the_field).row
atoms_field = search (knot_form.crosses, knot_expr.crosses, parts) depth 60 fits 20000

keys_sync : IsSync keys.the_row
keys_sync = search (index_type.the_sync, parts) depth 60 fits 20000

keys_field : IsSync (keys.the_field).row
keys_field = search (index_type.the_sync, parts) depth 60 fits 20000

kind_sync : IsSync kind.the_row
kind_sync = search (keys_sync, base.the_field_sync, parts) depth 60 fits 20000

kind_field : IsSync (kind.the_field).row
kind_field = search (keys_sync, base.the_field_sync, parts) depth 60 fits 20000

head_field : IsSync (head.the_field).row
head_field = search (keys_field, kind_field, parts) depth 60 fits 20000

term_sync : IsSync term.the_row
term_sync = search (head_field, expr_sync, parts) depth 60 fits 20000

passive_cmd_sync : IsSync passive_cmd.the_row
passive_cmd_sync = search (spot.the_field_sync, expr_field, parts) depth 60 fits 20000

edge_sync : IsSync edge.the_row
edge_sync = search (passive_cmd_sync, parts) depth 60 fits 20000

passive_block_sync : IsSync passive_block.the_row
passive_block_sync = search (passive_cmd_sync, edge_sync, parts) depth 60 fits 20000

pub prepared_sync : (a : NamedLft) → IsSync (prepared.the_row a)
prepared_sync a = search (block_sync, term_sync, passive_block_sync, kind_sync, sort.the_sync, atoms_field, maps.BTreeMap-sync, parts) depth 60 fits 20000

pub judging_sync : (a : NamedLft) → IsSync (judging.the_row a)
judging_sync a = search (resolved_sync, prepared_sync, place.the_sync, effort.the_field_sync, parts) depth 60 fits 20000

pub place_sync : IsSync place_row.the_row
place_sync = search (place.the_sync, parts) depth 60 fits 20000

-- what the closure of a piece captures
pub captured_sync : (name : List ℕ) (a b c d : NamedLft) → IsSync (TupleAt name ((shr_ref_field a heap.the_row tt).row ∷ (shr_ref_field b (judging.the_row c) tt).row ∷ (shr_slice_field d bool-field.row tt).row ∷ []))
captured_sync name a b c d = search (judging_sync, parts) depth 60 fits 20000

-- what the closure of a piece of places captures
pub among_sync : (name : List ℕ) (a b c d e f : NamedLft) → IsSync (TupleAt name ((shr_ref_field a heap.the_row tt).row ∷ (shr_ref_field b (judging.the_row c) tt).row ∷ (shr_ref_field d (prepared.the_row e) tt).row ∷ (shr_slice_field f bool-field.row tt).row ∷ []))
among_sync name a b c d e f = search (judging_sync, prepared_sync, parts) depth 60 fits 20000

-- what a thread that prepares a piece has made may leave it
pub ruleset leaving = (pos.the_field_send, pos.the_send, cand.the_field_send, cand.the_send, name.the_field_send, name.the_send, placed.the_field_send, placed.the_send, option.the_send, vec.the_send, global.the_send, parts)

cmd_send : (a : NamedLft) → IsSend (cmd.the_row a)
cmd_send a = search (variable.the_sync, group.the_field_send, kept.the_field_send, variable.the_send, clause_sync, target_sync, call_sync, procedure_sync, expr_sync, leaving) depth 60 fits 20000

exit_send : (a : NamedLft) → IsSend ((exit.the_field a).row)
exit_send a = search (guard_sync, leaving) depth 60 fits 20000

block_send : (a : NamedLft) → IsSend (block.the_row a)
block_send a = search (cmd_send, exit_send, leaving) depth 60 fits 20000

atoms_send : IsSend (atoms.the_field).row
atoms_send = search (knot_form.crosses, knot_expr.crosses, leaving) depth 60 fits 20000

expr_send : IsSend expr.the_row
expr_send = search (knot_expr.crosses, leaving) depth 60 fits 20000

expr_field_send : IsSend (expr.the_field).row
expr_field_send = search (knot_expr.crosses, leaving) depth 60 fits 20000

keys_send : IsSend keys.the_row
keys_send = search (index_type.the_send, leaving) depth 60 fits 20000

keys_field_send : IsSend (keys.the_field).row
keys_field_send = search (index_type.the_send, leaving) depth 60 fits 20000

kind_send : IsSend kind.the_row
kind_send = search (keys_send, base.the_field_send, leaving) depth 60 fits 20000

kind_field_send : IsSend (kind.the_field).row
kind_field_send = search (keys_send, base.the_field_send, leaving) depth 60 fits 20000

head_field_send : IsSend (head.the_field).row
head_field_send = search (keys_field_send, kind_field_send, leaving) depth 60 fits 20000

term_send : IsSend term.the_row
term_send = search (head_field_send, expr_send, leaving) depth 60 fits 20000

passive_cmd_send : IsSend passive_cmd.the_row
passive_cmd_send = search (spot.the_field_send, expr_field_send, leaving) depth 60 fits 20000

edge_send : IsSend edge.the_row
edge_send = search (passive_cmd_send, leaving) depth 60 fits 20000

passive_block_send : IsSend passive_block.the_row
passive_block_send = search (passive_cmd_send, edge_send, leaving) depth 60 fits 20000

pub prepared_send : (a : NamedLft) → IsSend (prepared.the_row a)
prepared_send a = search (block_send, term_send, passive_block_send, kind_send, sort.the_send, atoms_send, maps.BTreeMap-send, leaving) depth 60 fits 20000

-- what the closure captures that prepares a piece
pub preparing_sync : (name : List ℕ) (a b c : NamedLft) → IsSync (TupleAt name ((shr_ref_field a heap.the_row tt).row ∷ (shr_ref_field b resolved.the_row tt).row ∷ (shr_slice_field c (vec_row.the_row variable_row.the_row heap.the_row ghosts) tt).row ∷ []))
preparing_sync name a b c = search (resolved_sync, variable.the_sync, parts) depth 60 fits 20000

-- what a thread that judges has found may leave it
value_send : IsSend value.the_row
value_send = search (knot_value.crosses, leaving) depth 60 fits 20000

value_field_send : IsSend (value.the_field).row
value_field_send = search (knot_value.crosses, leaving) depth 60 fits 20000

table_send : IsSend table.the_row
table_send = search (value_send, value_field_send, maps.crosses, leaving) depth 60 fits 20000

choice_send : IsSend choice.the_row
choice_send = search (value_field_send, leaving) depth 60 fits 20000

counterexample_send : IsSend (counterexample.the_field).row
counterexample_send = search (table_send, value_send, kind_send, choice_send, leaving) depth 60 fits 20000

cert_send : IsSend (cert.the_field).row
cert_send = search (leaving) depth 60 fits 20000

leaf_send : IsSend (leaf.the_field).row
leaf_send = search (leaving) depth 60 fits 20000

why_send : IsSend (why.the_field).row
why_send = search (leaving) depth 60 fits 20000

round_send : IsSend round.the_row
round_send = search (leaf_send, leaving) depth 60 fits 20000

cause_send : IsSend (cause.the_field).row
cause_send = search (why_send, leaf_send, counterexample_send, leaving) depth 60 fits 20000

pub proof_send : IsSend proof.the_row
proof_send = search (cert_send, leaving) depth 60 fits 20000

verdict_send : IsSend (verdict.the_field).row
verdict_send = search (proof_send, told.the_field_send, counterexample_send, round_send, cause_send, leaving) depth 60 fits 20000

pub judged_send : IsSend judged.the_row
judged_send = search (place.the_field_send, verdict_send, leaving) depth 60 fits 20000

pub reason_send : IsSend reason.the_row
reason_send = search (told.the_field_send, counterexample_send, round_send, cause_send, leaving) depth 60 fits 20000

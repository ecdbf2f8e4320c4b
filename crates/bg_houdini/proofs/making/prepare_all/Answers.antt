use denote.Exit.{no}
use denote.Param.Send.{param_sync, arg_sync, sendable}
use Rattle.std.proofs.Common.{◌≡◌, ℕ, ◌+◌, ◌*◌, ◌-◌, ◌/◌, ◌%◌, ◌≤◌, min, length, get_or, sym, ap, ◌∙◌, subst, arith}
use Rattle.std.proofs.lemmas.Grind.{div_ceil_times}
use Rattle.std.proofs.lemmas.List.{length-map}
use Rattle.bg_ast.specs.Views.{program_of, impl_of}
use Rattle.bg_task.specs.Prepared.{IsPrepared}
use Rattle.bg_houdini.specs.Checkers.{IsPortion}
use Rattle.bg_houdini.proofs.Once.{if_ok}
use Rattle.bg_houdini.proofs.Portions.{all_portions}
use Rattle.bg_houdini.proofs.Shared.{leaving, implementation_sync, prepared_send, preparing_sync}
use Rattle.bg_houdini.proofs.making.prepare_all.Goals as goal

pub map_chunks-requires-sync-T : goal.map_chunks-requires-sync-T
map_chunks-requires-sync-T g c κs within = search (implementation_sync, sendable)

pub map_chunks-requires-sync-F : goal.map_chunks-requires-sync-F
map_chunks-requires-sync-F g c κs within = param_sync 3 _ (arg_sync _ no _ (preparing_sync _ _ _ _))

pub map_chunks-requires-send-X : goal.map_chunks-requires-send-X
map_chunks-requires-send-X g c κs within = search (prepared_send, leaving, sendable) depth 60 fits 20000

pub returns : goal.returns
returns g c =
    let p = program_of c.args.program.now in
    let ws = c.as_slice-implementations.result.now in
    let size = c.piece_size-size.result in
    let rs = c.in_ok-pieces.pieces.items in
    let same : length ws ≡ length p.implementations = ap length c.as_slice-implementations.ensures.value ∙ sym (length-map c.args.program.now.implementations.items impl_of) in
    let long : length rs ≡ length ws / size + min 1 (length ws % size) = let ok = c.in_ok-pieces.pieces.ok.0 in let e = c.in_ok-pieces.ensures.len in cc in
    let few = (div_ceil_times (length ws) size c.piece_size-size.ensures).0 in
    let enough : length ws ≤ length rs * size = subst (λ (n : ℕ). length ws ≤ n * size) (sym long) few in
    if_ok c.joined.result
    (λ made joins.
    let all = all_portions p size c.piece_size-size.ensures 0 (length ws) rs made.items
    (λ n d l.
    let h = (c.in_ok-pieces.ensures.each n d l).1 in
    if_ok (get_or rs n d)
    (λ v one. subst (λ (first : ℕ). IsPortion p first (min size (length ws - n * size)) v.items) (let z : n * size ≡ 0 + n * size = omega arith in z) (subst (λ (k : ℕ). IsPortion p (n * size) k v.items) h.argument_is.len one))
    h.call)
    enough joins in
    record {
      count_is = all.count_is ∙ same;
      each = λ k w e. let z : 0 + k ≡ k = omega arith in subst (λ (j : ℕ). IsPrepared p j w) z (all.each k w e);
    })
    c.joined.ensures

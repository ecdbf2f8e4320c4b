use denote.Exit.{no}
use denote.Param.Send.{param_sync, arg_sync, sendable}
use Rattle.std.proofs.Common.{◌≡◌, ℕ, ◌+◌, ◌*◌, ◌/◌, ◌%◌, ◌≤◌, min, List, length, take, drop, get_or, true, Vec, refl, sym, ap, ◌∙◌, subst, arith}
use Rattle.std.specs.declared.alloc.Global.{Global}
use Rattle.std.specs.List.{list_all}
use Rattle.std.proofs.lemmas.Grind.{div_ceil_times}
use Rattle.bg_ast.specs.Resolved as r
use Rattle.bg_words.specs.Sets.{has}
use Rattle.bg_check.specs.Verdicts.{AreRightFrom, have_all, judged}
use Rattle.bg_check.specs.declared.verdict.Judged.{Judged}
use Rattle.bg_task.specs.declared.prepared.Prepared.{Prepared}
use Rattle.bg_houdini.specs.Checkers.{ArePrepared, program_in}
use Rattle.bg_houdini.specs.Known.{AreKnownFrom}
use Rattle.bg_houdini.proofs.Once.{if_ok}
use Rattle.bg_houdini.proofs.Pieces.{prepared_chunk, chunk_take, all_right, all_joined, both_judged}
use Rattle.bg_houdini.proofs.Shared.{leaving, captured_sync, judged_send, prepared_sync}
use Rattle.bg_houdini.proofs.ordinary.judge_runs.Goals as goal

pub map_chunks-requires-sync-T : goal.map_chunks-requires-sync-T
map_chunks-requires-sync-T g c κs within = search (prepared_sync, sendable)

pub map_chunks-requires-sync-F : goal.map_chunks-requires-sync-F
map_chunks-requires-sync-F g c κs within = param_sync 3 _ (arg_sync _ no _ (captured_sync _ _ _ _ _))

pub map_chunks-requires-send-X : goal.map_chunks-requires-send-X
map_chunks-requires-send-X g c κs within = search (judged_send, leaving, sendable) depth 60 fits 20000

pub map_chunks-requires-clause-accepts : goal.map_chunks-requires-clause-accepts
map_chunks-requires-clause-accepts g c κs within = λ start p chunk.
    let q = program_in c.args.judging.now in (
      c.requires.judging,
      prepared_chunk q c.as_slice-prepared.result.now c.piece_size-size.result start p.now
          (subst (λ (ws : List Prepared). ArePrepared q (length q.implementations) ws) (sym c.as_slice-prepared.ensures.value) c.requires.judging.prepared) chunk,
    )

pub returns : goal.returns
returns g c =
    let j = c.args.judging.now in
    let q = program_in j in
    let ms = q.implementations in
    let known = c.args.known.now in
    let ws = c.as_slice-prepared.result.now in
    let size = c.piece_size-size.result in
    let rs = c.in_ok-pieces.pieces.items in
    let same : length ws ≡ length ms = ap length c.as_slice-prepared.ensures.value ∙ c.requires.judging.prepared.count_is in
    let long : length rs ≡ length ws / size + min 1 (length ws % size) = let ok = c.in_ok-pieces.pieces.ok.0 in let e = c.in_ok-pieces.ensures.len in cc in
    let few = (div_ceil_times (length ws) size c.piece_size-size.ensures).0 in
    let enough : length ms ≤ length rs * size = subst (λ (n : ℕ). n ≤ length rs * size) same (subst (λ (n : ℕ). length ws ≤ n * size) (sym long) few) in
    if_ok c.joined.result
    (λ made joins.
    record {
      right =
          all_right j.effort.budget q (has known) size c.piece_size-size.ensures 0 ms rs made.items
          (λ n d l.
          let h = (c.in_ok-pieces.ensures.each n d l).1 in
          if_ok {P = λ v. AreKnownFrom j.effort q (has known) (n * size) (take (length h.argument.now) (drop (n * size) ms)) (judged v.items)} (get_or rs n d)
          (λ v h'. subst (λ (first : ℕ). AreRightFrom j.effort.budget q (has known) first (take size (drop (n * size) ms)) (judged v.items)) (let z : n * size ≡ 0 + n * size = omega arith in z) (subst (λ (ns : List r.Impl). AreRightFrom j.effort.budget q (has known) (n * size) ns (judged v.items)) (chunk_take ws ms size (n * size) (length h.argument.now) same h.argument_is.len) h'.right))
          h.call)
          enough joins;
      whole = λ keeps.
          all_joined (λ (vs : List (Vec Judged Global)). list_all have_all (judged vs) ≡ true) refl both_judged rs made.items
          (λ n d l.
          let h = (c.in_ok-pieces.ensures.each n d l).1 in
          if_ok {P = λ v. AreKnownFrom j.effort q (has known) (n * size) (take (length h.argument.now) (drop (n * size) ms)) (judged v.items)} (get_or rs n d) (λ v h'. h'.whole keeps) h.call) joins;
    })
    c.joined.ensures

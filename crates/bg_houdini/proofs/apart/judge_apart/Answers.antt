use denote.Exit.{no}
use denote.Param.Send.{param_sync, arg_sync, sendable}
use Rattle.std.proofs.Common.{◌≡◌, ℕ, ◌+◌, ◌*◌, ◌/◌, ◌%◌, ◌<◌, ◌≤◌, min, List, length, get_or, refl, sym, ap, ◌∙◌, subst, arith}
use Rattle.std.proofs.lemmas.Grind.{div_ceil_times}
use Rattle.std.proofs.lemmas.Option.{slice_get_read}
use Rattle.bg_words.specs.Sets.{has}
use Rattle.bg_places.specs.declared.place.Place.{Place}
use Rattle.bg_places.specs.Placed.{Placed, placed_impl}
use Rattle.bg_places.specs.Views.{placed_in}
use Rattle.bg_task.specs.Prepared.{IsPrepared, ArePrepared}
use Rattle.bg_task.specs.Asked.{AreAsked}
use Rattle.bg_task.proofs.Numbered.{number_impl, number_ordinary}
use Rattle.bg_check.proofs.Judging.{are_prepared, its_asked}
use Rattle.bg_houdini.specs.Known.{AreRightOn}
use Rattle.bg_houdini.specs.Checkers.{program_in, meaning_in}
use Rattle.bg_houdini.proofs.Once.{if_ok}
use Rattle.bg_houdini.proofs.Places.{its_chunk, asked_chunk, all_known}
use Rattle.bg_houdini.proofs.Shared.{leaving, among_sync, judged_send, place_sync}
use Rattle.bg_houdini.proofs.apart.judge_apart.Goals as goal

pub map_chunks-requires-sync-T : goal.map_chunks-requires-sync-T
map_chunks-requires-sync-T g c κs within = search (place_sync, sendable)

pub map_chunks-requires-sync-F : goal.map_chunks-requires-sync-F
map_chunks-requires-sync-F g c κs within = param_sync 3 _ (arg_sync _ no _ (among_sync _ _ _ _ _ _ _))

pub map_chunks-requires-send-X : goal.map_chunks-requires-send-X
map_chunks-requires-send-X g c κs within = search (judged_send, leaving, sendable) depth 60 fits 20000

pub map_chunks-requires-clause-accepts : goal.map_chunks-requires-clause-accepts
map_chunks-requires-clause-accepts g c κs within = λ start piece chunk.
    let j = c.args.judging.now in
    let q = program_in j in
    let ws = j.prepared.items in
    let k = c.args.number in
    let w = c.index-prepared.result.now in
    let set = has c.args.set.now in
    let inside : k < length ws = let count = c.requires.judging.prepared.count_is in let l = c.requires.number in omega (arith, count, l) in
    let h : IsPrepared q k w = c.requires.judging.prepared.each k w (slice_get_read ws (length ws) k w refl inside c.index-prepared.ensures) in
    let m = h.implementation in
    let ps = c.as_slice-places.result.now in
    let listed = c.in_ok-listed.ensures m h.impl_there in
    let same : placed_in ps ≡ placed_in c.in_ok-listed.listed.items = ap placed_in c.as_slice-places.ensures.value in
    let P : List Placed → Type 0 = ArePrepared q w in
    let A : List Placed → Type 0 = AreAsked (meaning_in j) set in
    let its : P (placed_in ps) = subst P (sym (same ∙ listed)) (are_prepared q w k _ h (number_ordinary k (placed_impl q.procedures k m) (number_impl q.procedures k m))) in
    let asked : A (placed_in ps) = subst A (sym (same ∙ listed)) (its_asked q (c.placed_are_places.ensures q) set k m c.requires.judging.resolved h.impl_there) in (
      c.requires.judging,
      (its_chunk q w ps c.piece_size-size.result start piece.now its chunk, asked_chunk (meaning_in j) set ps c.piece_size-size.result start piece.now asked chunk),
    )

pub returns-clause-right : goal.returns-clause-right
returns-clause-right g c =
    let j = c.args.judging.now in
    let q = program_in j in
    let set = has c.args.set.now in
    let ps = c.as_slice-places.result.now in
    let size = c.piece_size-size.result in
    let rs = c.in_ok-pieces.pieces.items in
    let same : placed_in ps ≡ placed_in c.in_ok-listed.listed.items = ap placed_in c.as_slice-places.ensures.value in
    let long : length rs ≡ length ps / size + min 1 (length ps % size) = let ok = c.in_ok-pieces.pieces.ok.0 in let e = c.in_ok-pieces.ensures.len in cc in
    let few = (div_ceil_times (length ps) size c.piece_size-size.ensures).0 in
    let enough : length ps ≤ length rs * size = subst (λ (n : ℕ). length ps ≤ n * size) (sym long) few in
    if_ok c.joined.result
    (λ made joins m there.
    let all = all_known j.effort (meaning_in j) set size c.piece_size-size.ensures ps rs made.items
    (λ n d l.
    let h = (c.in_ok-pieces.ensures.each n d l).1 in
    if_ok (get_or rs n d) (λ v right. subst (λ (qs : List Place). AreRightOn j.effort (meaning_in j) set qs v.items) h.argument_is.value right) h.call)
    enough joins in
    record {
      places = all.places ∙ (same ∙ c.in_ok-listed.ensures m there);
      right = all.right;
    })
    c.joined.ensures

pub returns-clause-whole : goal.returns-clause-whole
returns-clause-whole g c =
    let j = c.args.judging.now in
    let set = has c.args.set.now in
    let ps = c.as_slice-places.result.now in
    let size = c.piece_size-size.result in
    let rs = c.in_ok-pieces.pieces.items in
    let long : length rs ≡ length ps / size + min 1 (length ps % size) = let ok = c.in_ok-pieces.pieces.ok.0 in let e = c.in_ok-pieces.ensures.len in cc in
    let few = (div_ceil_times (length ps) size c.piece_size-size.ensures).0 in
    let enough : length ps ≤ length rs * size = subst (λ (n : ℕ). length ps ≤ n * size) (sym long) few in
    if_ok c.joined.result
    (λ made joins keeps.
    let all = all_known j.effort (meaning_in j) set size c.piece_size-size.ensures ps rs made.items
    (λ n d l.
    let h = (c.in_ok-pieces.ensures.each n d l).1 in
    if_ok (get_or rs n d) (λ v right. subst (λ (qs : List Place). AreRightOn j.effort (meaning_in j) set qs v.items) h.argument_is.value right) h.call)
    enough joins in
    all.whole keeps)
    c.joined.ensures

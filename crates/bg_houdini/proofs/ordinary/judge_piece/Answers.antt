use Rattle.std.proofs.Common.{◌≡◌, ℕ, ◌+◌, ◌<◌, List, [], ◌∷◌, Vec, length, take, drop, refl, sym, ap, ◌∙◌, subst, arith}
use Rattle.std.specs.declared.alloc.Global.{Global}
use Rattle.std.proofs.lemmas.List.{map-append}
use Rattle.std.proofs.lemmas.Option.{slice_get_read}
use Rattle.bg_words.specs.Sets.{has}
use Rattle.bg_check.specs.declared.verdict.Judged.{Judged}
use Rattle.bg_check.specs.Verdicts.{judged}
use Rattle.bg_houdini.specs.Known.{AreKnownFrom}
use Rattle.bg_houdini.specs.Checkers.{program_in}
use Rattle.bg_houdini.proofs.Pieces.{piece_more, row_more}
use Rattle.bg_houdini.proofs.ordinary.judge_piece.Goals as goal

pub judge_ordinary-requires-clause-prepared : goal.judge_ordinary-requires-clause-prepared
judge_ordinary-requires-clause-prepared c =
    let ws = c.args.piece.now in
    let inside : c.loop-k.k < length ws = omega arith in
    c.requires.piece.each c.loop-k.k c.index-piece-k.result (slice_get_read ws (length ws) c.loop-k.k c.index-piece-k.result refl inside c.index-piece-k.is)

pub loop-k-preserved : goal.loop-k-preserved
loop-k-preserved c =
    let j = c.args.judging.now in
    let p = program_in j in
    let low : c.loop-k.k < length c.args.piece.now = omega arith in
    let inside : c.args.first + c.loop-k.k < length p.implementations = let e = c.requires.piece.inside in omega (arith, e, low) in
    let P : List (List Judged) → Type 0 = AreKnownFrom j.effort p (has c.args.set.now) c.args.first (take (c.loop-k.k + 1) (drop c.args.first p.implementations)) in
    subst P (sym (ap judged c.in_ok-push.ensures.items ∙ map-append (λ (v : Vec Judged Global). v.items) c.loop-k.made.items (c.in_ok-one.one ∷ [])))
    (record {
      right = piece_more j.effort.budget p (has c.args.set.now) c.args.first c.loop-k.k (judged c.loop-k.made.items) c.in_ok-one.one.items inside c.loop-k.invariant.right c.in_ok-one.ensures.right;
      whole = λ keeps. row_more (judged c.loop-k.made.items) c.in_ok-one.one.items (c.loop-k.invariant.whole keeps) (c.in_ok-one.ensures.whole keeps);
    })

pub loop-k-init : goal.loop-k-init
loop-k-init c =
    let j = c.args.judging.now in
    subst (λ (vs : List (Vec Judged Global)). AreKnownFrom j.effort (program_in j) (has c.args.set.now) c.args.first [] (judged vs)) (sym c.new-made.ensures.items) (record { right = tt; whole = λ keeps. refl })

pub returns : goal.returns
returns c =
    let j = c.args.judging.now in
    let p = program_in j in
    let whole : c.loop-k.k ≡ length c.args.piece.now = omega arith in
    subst (λ (k : ℕ). AreKnownFrom j.effort p (has c.args.set.now) c.args.first (take k (drop c.args.first p.implementations)) (judged c.loop-k.made.items)) whole c.loop-k.invariant

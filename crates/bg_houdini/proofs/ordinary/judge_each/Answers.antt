use Rattle.std.proofs.Common.{◌≡◌, ℕ, ◌+◌, ◌<◌, ◌≤◌, List, [], ◌∷◌, ◌++◌, Vec, length, take, take_all, refl, sym, ap, ◌∙◌, subst, arith}
use Rattle.std.specs.Prelude.{slice_get, Some}
use Rattle.std.specs.declared.alloc.Global.{Global}
use Rattle.std.proofs.lemmas.List.{map-append}
use Rattle.bg_ast.specs.Resolved as r
use Rattle.bg_words.specs.Sets.{has}
use Rattle.bg_check.specs.declared.verdict.Judged.{Judged}
use Rattle.bg_check.specs.Verdicts.{AreRightOf, judged}
use Rattle.bg_houdini.specs.Known.{AreKnownFrom}
use Rattle.bg_houdini.specs.Checkers.{program_in}
use Rattle.bg_houdini.proofs.Pieces.{piece_more, row_more}
use Rattle.bg_houdini.proofs.ordinary.judge_each.Goals as goal

pub judge_apart-requires-clause-number : goal.judge_apart-requires-clause-number
judge_apart-requires-clause-number g c =
    let count = c.requires.judging.prepared.count_is in
    omega (arith, count)

pub loop-k-preserved : goal.loop-k-preserved
loop-k-preserved g c =
    let j = c.args.judging.now in
    let p = program_in j in
    let k = c.loop-k.k in
    let inside : 0 + k < length p.implementations = let count = c.requires.judging.prepared.count_is in omega (arith, count) in
    let one = c.in_ok-one.one.items in
    let z : k ≡ 0 + k = omega arith in
    let P : List (List Judged) → Type 0 = AreKnownFrom j.effort p (has c.args.known.now) 0 (take (k + 1) p.implementations) in
    subst P (sym (ap judged {y = c.loop-k.made.items ++ (c.in_ok-one.one ∷ [])} c.in_ok-push.ensures.items ∙ map-append (λ (v : Vec Judged Global). v.items) c.loop-k.made.items (c.in_ok-one.one ∷ [])))
    (record {
      right =
          piece_more j.effort.budget p (has c.args.known.now) 0 k (judged c.loop-k.made.items) one inside c.loop-k.invariant.right
          (subst (λ (n : ℕ). (m : r.Impl) → slice_get p.implementations n ≡ Some m → AreRightOf j.effort.budget p (has c.args.known.now) n m one) z c.in_ok-one.ensures.right);
      whole = λ keeps. row_more (judged c.loop-k.made.items) one (c.loop-k.invariant.whole keeps) (c.in_ok-one.ensures.whole keeps);
    })

pub loop-k-init : goal.loop-k-init
loop-k-init g c =
    let j = c.args.judging.now in
    subst (λ (vs : List (Vec Judged Global)). AreKnownFrom j.effort (program_in j) (has c.args.known.now) 0 [] (judged vs)) (sym c.new-made.ensures.items) (record { right = tt; whole = λ keeps. refl })

pub returns : goal.returns
returns g c =
    let j = c.args.judging.now in
    let p = program_in j in
    let whole : length p.implementations ≤ c.loop-k.k = let count = c.requires.judging.prepared.count_is in omega (arith, count) in
    subst (λ (ms : List r.Impl). AreKnownFrom j.effort p (has c.args.known.now) 0 ms (judged c.loop-k.made.items)) (take_all c.loop-k.k p.implementations whole) c.loop-k.invariant

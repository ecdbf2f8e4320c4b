use Rattle.std.proofs.Common.{◌≡◌, ◌<◌, ◌+◌, ◌∙◌, ℕ, Bool, List, [], ◌∷◌, ◌++◌, length, take, ap, arith}
use Rattle.std.proofs.Math.Seq.{take-length}
use Rattle.std.proofs.lemmas.List.{length-append}
use Rattle.bg_houdini.proofs.Truths.{one_truth}
use Rattle.bg_houdini.proofs.sets.truths_of.Goals as goal

pub loop-c-preserved : goal.loop-c-preserved
loop-c-preserved c =
    let inside : c.loop-c.c < length c.args.set.now = omega arith in
    let items = c.push_reserved.ensures.items in
    let kept = c.push_reserved.ensures.capacity in
    let room = c.loop-c.invariant.room in
    record {
      made = ◌∙◌ {A = List Bool} items (◌∙◌ {A = List Bool} (ap (λ (b : Bool). c.loop-c.made.items ++ b ∷ []) c.has.ensures) (one_truth c.loop-c.made.items c.args.set.now c.loop-c.c c.loop-c.invariant.made inside));
      count = ap (λ (xs : List Bool). length xs) items ∙ (length-append c.loop-c.made.items (c.has.result ∷ []) ∙ ap (λ (k : ℕ). k + 1) c.loop-c.invariant.count);
      room = omega (arith, kept, room);
    }

pub returns : goal.returns
returns c =
    let set = c.args.set.now in
    let whole : c.loop-c.c ≡ length set = omega arith in
    ◌∙◌ {A = List Bool} c.loop-c.invariant.made (◌∙◌ {A = List Bool} (ap (λ (k : ℕ). take k set) whole) (take-length set))

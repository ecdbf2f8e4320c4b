use Rattle.std.proofs.Common.{◌≡◌, ◌≤◌, ◌+◌, [], ◌∷◌, ◌++◌, map, drop, length, ap, ◌∙◌, arith}
use Rattle.std.proofs.lemmas.List.{map_push}
use Rattle.bg_ast.specs.Values.{Ty}
use Rattle.bg_ast.specs.Views.{type_name_of}
use Rattle.bg_kinds.specs.Views.{ref_in}
use Rattle.bg_scalar.specs.declared.value.Value.{Value}
use Rattle.bg_scalar.specs.Values as scalar
use Rattle.bg_replay.specs.Holds.{type_at}
use Rattle.bg_certtext.specs.Views.{given_of}
use Rattle.bg_certify.specs.Given.{type_names, value_of}
use Rattle.bg_certify.proofs.Loops.{rest, one_given, none_given, all_given}
use Rattle.bg_certify.proofs.given.givens.Goals as goal
use Rattle.bg_certify.proofs.given.givens.Goals.{then-k-values+in_ok-value+in_ok-push, else-k-values}

pub returns : goal.returns
returns c =
    all_given (map type_name_of c.args.types.now) c.args.constants.now (map ref_in c.args.kinds.now) c.args.values.now c.loop-k.k _ _ (omega (arith, c.loop-k-test.false)) c.loop-k.invariant

pub loop-k-preserved : goal.loop-k-preserved
loop-k-preserved c =
    let types = map type_name_of c.args.types.now in
    let ds = c.args.constants.now in
    let ts = map ref_in c.args.kinds.now in
    let xs = c.args.values.now in
    let k = c.loop-k.k in
    let old = map given_of c.loop-k.made.items in
    elim c.if-k-values.branch [
      | then-k-values+in_ok-value+in_ok-push w ↦
          let items : c.if-k-values.made.items ≡ c.loop-k.made.items ++ (record { name = w.as_slice.result; value = w.in_ok-value.value } ∷ []) = cc (w.in_ok-push.ensures.items) in
          one_given types ds ts xs k _ _ (given_of (record { name = w.as_slice.result; value = w.in_ok-value.value })) old (map given_of c.if-k-values.made.items) (rest types ds ts xs)
          (omega (arith, c.loop-k-test.true)) (omega (arith, w.if-k-values.true)) w.as_slice.ensures.value
          (w.in_ok-value.ensures ∙ (ap (λ (t : Ty). value_of (type_names types) t (scalar.value_of w.index-values-k.result)) w.type_at.ensures ∙ ap (λ (x : Value). value_of (type_names types) (type_at ts k) (scalar.value_of x)) w.index-values-k.is))
          (ap (map given_of) items ∙ map_push given_of c.loop-k.made.items (record { name = w.as_slice.result; value = w.in_ok-value.value })) c.loop-k.invariant
      | else-k-values w ↦
          let out : length xs ≤ k = omega (arith, w.if-k-values.false) in
          ap (λ v. map given_of v.items ++ rest types (drop (k + 1) ds) (drop (k + 1) ts) (drop (k + 1) xs)) w.made-is ∙ none_given types ds ts xs k old (rest types ds ts xs) out c.loop-k.invariant
    ]

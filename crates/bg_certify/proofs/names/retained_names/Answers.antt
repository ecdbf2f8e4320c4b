use Rattle.std.proofs.Common.{◌≡◌, ◌<◌, [], ◌∷◌, ◌++◌, map, length, sym, ap, ◌∙◌, arith}
use Rattle.std.proofs.lemmas.List.{map_push}
use Rattle.bg_text.specs.Views.{id_of}
use Rattle.bg_certify.specs.Names.{names_in}
use Rattle.bg_certify.proofs.Retained.{named, unnamed}
use Rattle.bg_certify.proofs.names.retained_names.Goals as goal
use Rattle.bg_certify.proofs.names.retained_names.Goals.{then-has+in_ok-push, else-has}

pub loop-c-preserved : goal.loop-c-preserved
loop-c-preserved c =
    let bs = c.args.set.now in
    let xs = c.args.names.now in
    let i = c.loop-c.c in
    let whole = names_in bs (map id_of xs) in
    let inside : i < length bs = omega arith in
    elim c.if-has.branch [
      | then-has+in_ok-push w ↦
          let items : c.if-has.made.items ≡ c.loop-c.made.items ++ (w.as_slice.result ∷ []) = cc (w.in_ok-push.ensures.items) in
          let names = ap (map (λ n. n.now)) items ∙ map_push (λ n. n.now) c.loop-c.made.items w.as_slice.result in
          named (map (λ n. n.now) c.loop-c.made.items) (map (λ n. n.now) c.if-has.made.items) whole bs xs i w.as_slice.result.now w.index-names-c.result
          c.requires inside (sym c.has.ensures ∙ w.if-has.true) w.as_slice.ensures.value names c.loop-c.invariant
      | else-has w ↦
          unnamed (map (λ n. n.now) c.loop-c.made.items) (map (λ n. n.now) c.if-has.made.items) whole bs xs i
          c.requires inside (sym c.has.ensures ∙ w.if-has.false) (ap (λ v. map (λ n. n.now) v.items) w.made-is) c.loop-c.invariant
    ]

use Rattle.std.proofs.Common.{◌≡◌, ◌<◌, ◌+◌, ◌∷◌, ◌++◌, map, drop, length, sym, ap, ◌∙◌, arith}
use Rattle.std.proofs.lemmas.List.{map_push, drop_more}
use Rattle.bg_ast.specs.Views.{type_name_of}
use Rattle.bg_certtext.specs.Views as text
use Rattle.bg_certify.proofs.Loops.{there, tables_for, one_function, passed_function, unmarked, untabled, all_functions}
use Rattle.bg_certify.proofs.given.functions.Goals as goal
use Rattle.bg_certify.proofs.given.functions.Goals.{then-not-has_body+in_ok-function_of+in_ok-push, else-not-has_body}

pub returns-then-k-bodies : goal.returns-then-k-bodies
returns-then-k-bodies c =
    unmarked (map type_name_of c.args.types.now) c.args.declared.now c.args.bodies.now c.args.tables.now c.loop-k.k _ _ (omega (arith, c.if-k-bodies.true)) c.loop-k.invariant

pub returns-then-k-tables : goal.returns-then-k-tables
returns-then-k-tables c =
    untabled (map type_name_of c.args.types.now) c.args.declared.now c.args.bodies.now c.args.tables.now c.loop-k.k _ _ (omega (arith, c.if-k-tables.true)) c.loop-k.invariant

pub returns : goal.returns
returns c =
    all_functions (map type_name_of c.args.types.now) c.args.declared.now c.args.bodies.now c.args.tables.now c.loop-k.k _ _ (omega (arith, c.loop-k-test.false)) c.loop-k.invariant

pub loop-k-preserved : goal.loop-k-preserved
loop-k-preserved c =
    let types = map type_name_of c.args.types.now in
    let ds = c.args.declared.now in
    let bs = c.args.bodies.now in
    let ts = c.args.tables.now in
    let k = c.loop-k.k in
    let old = map text.function_of c.loop-k.made.items in
    let whole = tables_for types ds bs ts in
    let in_bs : k < length bs = omega (arith, c.if-k-bodies.false) in
    let in_ts : k < length ts = omega (arith, c.if-k-tables.false) in
    elim c.if-not-has_body.branch [
      | then-not-has_body+in_ok-function_of+in_ok-push w ↦
          let d = w.index-declared-k.result in
          let t = w.index-tables-k.result in
          let hd : drop k ds ≡ d ∷ drop (k + 1) ds = drop_more ds k d c.loop-k-test.true ∙ ap (λ x. x ∷ drop (k + 1) ds) (sym w.index-declared-k.is) in
          let ht : drop k ts ≡ t ∷ drop (k + 1) ts = drop_more ts k t in_ts ∙ ap (λ x. x ∷ drop (k + 1) ts) (sym w.index-tables-k.is) in
          one_function types ds bs ts k d _ t _ old (map text.function_of c.if-not-has_body.made.items) whole hd (drop_more bs k _ in_bs) ht
          w.if-not-has_body.true w.in_ok-function_of.ensures
          (ap (λ v. map text.function_of v.items) w.made-is ∙ (ap (map text.function_of) w.in_ok-push.ensures.items ∙ map_push text.function_of c.loop-k.made.items _)) c.loop-k.invariant
      | else-not-has_body w ↦
          ap (λ v. map text.function_of v.items ++ tables_for types (drop (k + 1) ds) (drop (k + 1) bs) (drop (k + 1) ts)) w.made-is
          ∙ (let d = there ds k c.loop-k-test.true in let t = there ts k in_ts in passed_function types ds bs ts k d.0 _ t.0 old whole d.1 (drop_more bs k _ in_bs) t.1 w.if-not-has_body.false c.loop-k.invariant)
    ]

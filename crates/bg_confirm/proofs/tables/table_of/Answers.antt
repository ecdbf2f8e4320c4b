use Rattle.std.proofs.Common.{ℕ, ◌<◌, ◌-◌, List, length, map, drop, ap, ◌∙◌, arith}
use Rattle.bg_ast.specs.Values.{Ty}
use Rattle.bg_ast.specs.Meaning.{type_in, named_of}
use Rattle.bg_ast.specs.Views.{type_of, type_name_of}
use Rattle.bg_kinds.specs.Views.{ref_in}
use Rattle.bg_kinds.specs.declared.kinds.ValueType.{ValueType}
use Rattle.bg_certtext.specs.declared.text.Entry.{Entry}
use Rattle.bg_certtext.specs.declared.text.Value.{Value}
use Rattle.bg_certtext.specs.Views as text
use Rattle.bg_certtext.specs.Views.{function_of}
use Rattle.bg_confirm.specs.Met.{val_for, vals_for}
use Rattle.bg_confirm.proofs.Entering.{spelt, entered, all_read}
use Rattle.bg_confirm.proofs.tables.table_of.Goals as goal

pub index-entry-requires : goal.index-entry-requires
index-entry-requires c = omega (arith, c.loop-k-test.true, c.loop-k.invariant.0, c.args.given.now.entries.ok.0)

pub loop-k-preserved : goal.loop-k-preserved
loop-k-preserved c =
    let named = named_of (map type_name_of c.args.types.now) in
    let hs = map (type_in named) (map type_of c.args.f.now.params.items) in
    let h = type_in named (type_of c.args.f.now.result) in
    let g = c.args.given.now in
    let k = c.loop-k.k in
    let e = c.index-entry.result.now in
    let at : k - 1 < length g.entries.items = omega (arith, c.loop-k-test.true, c.loop-k.invariant.0) in (
      omega (arith, at),
      entered hs h (text.value_of g.default) g.entries.items (k - 1) e c.in_ok-key.key c.in_ok-value.value c.loop-k.entries.entries c.insert.new.self.entries at (spelt (function_of g) c.requires.spelled)
          (c.in_ok-key.ensures
          ∙ (ap (λ (ts : List ValueType). vals_for (map ref_in ts) (map text.value_of c.deref-in-loop-k.result.now)) c.deref.ensures.value
          ∙ (ap (λ (ts : List Ty). vals_for ts (map text.value_of c.deref-in-loop-k.result.now)) c.in_ok-s.ensures.params
          ∙ (ap (λ (vs : List Value). vals_for hs (map text.value_of vs)) c.deref-in-loop-k.ensures.value
          ∙ ap (λ (x : Entry). vals_for hs (map text.value_of x.key.items)) c.index-entry.ensures))))
          (c.in_ok-value.ensures
          ∙ (ap (λ (t : Ty). val_for t (text.value_of e.value)) (c.as_ref.ensures ∙ c.in_ok-s.ensures.value)
          ∙ ap (λ (x : Entry). val_for h (text.value_of x.value)) c.index-entry.ensures))
          c.in_ok-insert.ensures.entries
          (c.loop-k.invariant.1 ∙ ap (λ (n : ℕ). all_read hs h (drop n g.entries.items)) (omega (arith, c.loop-k-test.true))),
    )

pub loop-k-preserved-in_ok-insert : goal.loop-k-preserved-in_ok-insert
loop-k-preserved-in_ok-insert c =
    let named = named_of (map type_name_of c.args.types.now) in
    let hs = map (type_in named) (map type_of c.args.f.now.params.items) in
    let h = type_in named (type_of c.args.f.now.result) in
    let g = c.args.given.now in
    let k = c.loop-k.k in
    let e = c.index-entry.result.now in
    let at : k - 1 < length g.entries.items = omega (arith, c.loop-k-test.true, c.loop-k.invariant.0) in (
      omega (arith, at),
      entered hs h (text.value_of g.default) g.entries.items (k - 1) e c.in_ok-key.key c.in_ok-value.value c.loop-k.entries.entries c.insert.new.self.entries at (spelt (function_of g) c.requires.spelled)
          (c.in_ok-key.ensures
          ∙ (ap (λ (ts : List ValueType). vals_for (map ref_in ts) (map text.value_of c.deref-in-loop-k.result.now)) c.deref.ensures.value
          ∙ (ap (λ (ts : List Ty). vals_for ts (map text.value_of c.deref-in-loop-k.result.now)) c.in_ok-s.ensures.params
          ∙ (ap (λ (vs : List Value). vals_for hs (map text.value_of vs)) c.deref-in-loop-k.ensures.value
          ∙ ap (λ (x : Entry). vals_for hs (map text.value_of x.key.items)) c.index-entry.ensures))))
          (c.in_ok-value.ensures
          ∙ (ap (λ (t : Ty). val_for t (text.value_of e.value)) (c.as_ref.ensures ∙ c.in_ok-s.ensures.value)
          ∙ ap (λ (x : Entry). val_for h (text.value_of x.value)) c.index-entry.ensures))
          c.in_ok-insert.ensures.entries
          (c.loop-k.invariant.1 ∙ ap (λ (n : ℕ). all_read hs h (drop n g.entries.items)) (omega (arith, c.loop-k-test.true))),
    )

pub loop-k-preserved-in_ok-insert-2 : goal.loop-k-preserved-in_ok-insert-2
loop-k-preserved-in_ok-insert-2 c =
    let named = named_of (map type_name_of c.args.types.now) in
    let hs = map (type_in named) (map type_of c.args.f.now.params.items) in
    let h = type_in named (type_of c.args.f.now.result) in
    let g = c.args.given.now in
    let k = c.loop-k.k in
    let e = c.index-entry.result.now in
    let at : k - 1 < length g.entries.items = omega (arith, c.loop-k-test.true, c.loop-k.invariant.0) in (
      omega (arith, at),
      entered hs h (text.value_of g.default) g.entries.items (k - 1) e c.in_ok-key.key c.in_ok-value.value c.loop-k.entries.entries c.insert.new.self.entries at (spelt (function_of g) c.requires.spelled)
          (c.in_ok-key.ensures
          ∙ (ap (λ (ts : List ValueType). vals_for (map ref_in ts) (map text.value_of c.deref-in-loop-k.result.now)) c.deref.ensures.value
          ∙ (ap (λ (ts : List Ty). vals_for ts (map text.value_of c.deref-in-loop-k.result.now)) c.in_ok-s.ensures.params
          ∙ (ap (λ (vs : List Value). vals_for hs (map text.value_of vs)) c.deref-in-loop-k.ensures.value
          ∙ ap (λ (x : Entry). vals_for hs (map text.value_of x.key.items)) c.index-entry.ensures))))
          (c.in_ok-value.ensures
          ∙ (ap (λ (t : Ty). val_for t (text.value_of e.value)) (c.as_ref.ensures ∙ c.in_ok-s.ensures.value)
          ∙ ap (λ (x : Entry). val_for h (text.value_of x.value)) c.index-entry.ensures))
          c.in_ok-insert.ensures.entries
          (c.loop-k.invariant.1 ∙ ap (λ (n : ℕ). all_read hs h (drop n g.entries.items)) (omega (arith, c.loop-k-test.true))),
    )

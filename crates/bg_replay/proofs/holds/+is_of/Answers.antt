use Rattle.std.proofs.Common.{◌≡◌, ◌&&◌, ◌∙◌, true, false, length, map, refl, sym, ap, arith}
use Rattle.bg_ast.specs.Values.{is_of}
use Rattle.bg_kinds.specs.Views.{base_of, tower, ref_of}
use Rattle.bg_scalar.specs.Values.{value_of}
use Rattle.bg_scalar.specs.Maps.{entry_in}
use Rattle.bg_replay.specs.Holds.{are_entries}
use Rattle.bg_replay.proofs.Entries.{none_of_base, map_of_type}
use Rattle.bg_replay.proofs.holds.+is_of.Goals as goal

pub is_of-returns-in-None : goal.is_of-returns-in-None
is_of-returns-in-None s c =
    none_of_base c.args.t.maps.now c.args.t.base c.in-Map.entries c.in-Map.default c.in-None.ensures.cases
    ∙ ap (λ v. is_of (ref_of c.args.t) (value_of v)) (sym c.in-Map.is)

pub is_of-returns-then-is_of : goal.is_of-returns-then-is_of
is_of-returns-then-is_of s c =
    let es = c.in-Map.entries in
    let d = c.in-Map.default in
    let rest = c.in-Some.maps.now in
    let b = c.args.t.base in
    let t = tower rest (base_of b) in
    let one : is_of t (value_of d.value) ≡ true = ap (λ v. is_of t (value_of v)) (sym c.deref.ensures) ∙ (sym c.is_of.ensures ∙ c.if-is_of.true) in
    let all : c.are_entries.result ≡ are_entries c.len.result t (value_of d.value) (map entry_in es.items) = rw (c.deref-then-is_of-2.ensures, c.deref-then-is_of.ensures.value) at c.are_entries.ensures in
    let n : c.len.result ≡ length c.in-Some.keys.now.keys.items = c.len.ensures ∙ omega (arith, c.in-Some.keys.now.keys.ok.0) in
    all
    ∙ (ap (λ x. x && are_entries c.len.result t (value_of d.value) (map entry_in es.items)) (sym one)
    ∙ (map_of_type c.args.t.maps.now rest c.in-Some.keys.now b es d c.len.result c.in-Some.ensures.cases.0 n
    ∙ ap (λ v. is_of (ref_of c.args.t) (value_of v)) (sym c.in-Map.is)))

pub is_of-returns-else-is_of : goal.is_of-returns-else-is_of
is_of-returns-else-is_of s c =
    let es = c.in-Map.entries in
    let d = c.in-Map.default in
    let rest = c.in-Some.maps.now in
    let b = c.args.t.base in
    let t = tower rest (base_of b) in
    let n = length c.in-Some.keys.now.keys.items in
    let none : is_of t (value_of d.value) ≡ false = ap (λ v. is_of t (value_of v)) (sym c.deref.ensures) ∙ (sym c.is_of.ensures ∙ c.if-is_of.false) in
    c.if-is_of.false
    ∙ (ap (λ x. x && are_entries n t (value_of d.value) (map entry_in es.items)) (sym none)
    ∙ (map_of_type c.args.t.maps.now rest c.in-Some.keys.now b es d n c.in-Some.ensures.cases.0 refl
    ∙ ap (λ v. is_of (ref_of c.args.t) (value_of v)) (sym c.in-Map.is)))

use Rattle.std.proofs.Common.{map, get_or, pos, refl, ap, ◌∙◌, arith, rules}
use Rattle.std.proofs.lemmas.Int.{to_z-of_z}
use Rattle.std.proofs.lemmas.List.{map_push}
use mir.Syntax.{w128}
use mir.Val.{SFits}
use Rattle.bg_ast.specs.Values.{IntKey}
use Rattle.bg_ast.specs.Views.{type_name_of}
use Rattle.bg_kinds.specs.Views.{key_of}
use Rattle.bg_certtext.specs.Views as text
use Rattle.bg_certify.specs.Given.{type_names, part_of, index_of}
use Rattle.bg_certify.proofs.Along.{one_of, all_done}
use Rattle.bg_certify.proofs.values.index_of.Goals as goal

pub loop-i-preserved : goal.loop-i-preserved
loop-i-preserved c =
    let types = type_names (map type_name_of c.args.types.now) in
    let ks = map key_of c.args.keys.now in
    let zs = c.args.key.now in
    let f : SFits w128 (get_or zs c.loop-i.i (pos 0)) = search rules in
    one_of IntKey (part_of types) (index_of types) (λ ts x xs. refl) ks zs c.loop-i.i (pos 0) _ (text.part_of c.part_of-part.result) (map text.part_of c.loop-i.made.items) (map text.part_of c.push.new.self.items) (index_of types ks zs) c.loop-i-test.true
    (ap (map text.part_of) c.in_ok-push.ensures.items ∙ map_push text.part_of c.loop-i.made.items c.part_of-part.result) c.key_at.ensures (simp (to_z-of_z, f) at c.part_of-part.ensures) c.loop-i.invariant

pub returns : goal.returns
returns c =
    let types = type_names (map type_name_of c.args.types.now) in
    let ks = map key_of c.args.keys.now in
    let zs = c.args.key.now in
    all_done IntKey (part_of types) (index_of types) (λ ts. refl) ks zs c.loop-i.i (map text.part_of c.loop-i.made.items) (index_of types ks zs) (omega (arith, c.loop-i-test.false)) c.loop-i.invariant

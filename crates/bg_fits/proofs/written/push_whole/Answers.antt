use Rattle.std.proofs.Common.{◌≡◌, ◌+◌, ◌-◌, suc, length, map, ap, sym, ◌∙◌, arith}
use Rattle.std.proofs.lemmas.List.{length-map}
use Rattle.bg_ast.specs.Meaning.{type_in, named_within}
use Rattle.bg_ast.specs.Views.{type_of, type_name_of}
use Rattle.bg_kinds.specs.Views.{tower}
use Rattle.bg_fits.specs.Bases.{end_in}
use Rattle.bg_fits.specs.declared.written.End.{End}
use Rattle.bg_fits.proofs.Towers.{next_end, no_end}
use Rattle.bg_fits.proofs.written.push_whole.Goals as goal

pub loop-i-init : goal.loop-i-init
loop-i-init c =
    let ds = map type_name_of c.args.types.now in
    let n = length c.args.types.now in
    let many = length-map c.args.types.now type_name_of in
    let whole : n + 1 ≡ suc (length ds) = omega (arith, many) in
    let first : (n + 1) - 0 ≡ n + 1 = omega arith in
    ap (λ j. tower c.push_type.new.maps.items (end_in (named_within j ds) c.in_ok-first.first)) first
    ∙ (c.in_ok-first.ensures ∙ ap (λ j. tower c.args.maps.now.items (type_in (named_within j ds) (type_of c.args.ty.now))) whole)

pub returns-in-Plain : goal.returns-in-Plain
returns-in-Plain c =
    ap (λ (e : End). tower c.loop-i.maps.items (end_in (named_within ((length c.args.types.now + 1) - c.loop-i.i) (map type_name_of c.args.types.now)) e)) (sym c.in-Plain.is)
    ∙ c.loop-i.invariant

pub loop-i-preserved : goal.loop-i-preserved
loop-i-preserved c =
    let ds = map type_name_of c.args.types.now in
    let n = length c.args.types.now in
    next_end n c.loop-i.i c.in-Named.k ds c.loop-i.maps.items c.push_named.new.maps.items c.in_ok-next-in-Named.next _ (omega arith) c.in_ok-next-in-Named.ensures
    (ap (λ (e : End). tower c.loop-i.maps.items (end_in (named_within ((n + 1) - c.loop-i.i) ds) e)) (sym c.in-Named.is) ∙ c.loop-i.invariant)

pub returns : goal.returns
returns c =
    let ds = map type_name_of c.args.types.now in
    no_end (length c.args.types.now) c.loop-i.i ds c.loop-i.maps.items c.loop-i.end _ _ (omega arith) (c.stands.ensures ds) c.loop-i.invariant

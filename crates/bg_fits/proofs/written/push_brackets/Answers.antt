use Rattle.std.proofs.Common.{◌+◌, map, drop, sym, ◌∙◌}
use Rattle.std.proofs.lemmas.List.{at_drop_all}
use Rattle.bg_ast.specs.Meaning.{map_type, named_within}
use Rattle.bg_ast.specs.Views.{indexed_of, index_view, type_name_of}
use Rattle.bg_kinds.specs.Views.{tower}
use Rattle.bg_kinds.proofs.Loops.{dropped}
use Rattle.bg_fits.proofs.Towers.{one_bracket}
use Rattle.bg_fits.proofs.written.push_brackets.Goals as goal

pub loop-bracket-preserved : goal.loop-bracket-preserved
loop-bracket-preserved c t =
    let x = c.bracket-item.result in
    let rest = drop (c.loop-bracket.bracket-index + 1) c.args.brackets.now in
    let at = dropped c.args.brackets.now c.loop-bracket.bracket-index x c.loop-bracket-test.true c.bracket-item.is in
    one_bracket (named_within c.args.left (map type_name_of c.args.types.now)) _ rest x c.loop-bracket.maps.items _ _ _ t at c.in_ok-push.ensures.items c.in_ok-keys_within.ensures c.deref.ensures.value ∙ c.loop-bracket.invariant t

pub returns : goal.returns
returns c t =
    sym (at_drop_all (λ l. tower c.loop-bracket.maps.items (map_type (named_within c.args.left (map type_name_of c.args.types.now)) (indexed_of (map index_view l)) t)) c.args.brackets.now c.loop-bracket.bracket-index c.loop-bracket-test.false) ∙ c.loop-bracket.invariant t

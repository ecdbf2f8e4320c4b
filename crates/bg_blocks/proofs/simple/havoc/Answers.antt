use Rattle.std.proofs.Common.{◌≡◌, [], ◌∷◌, map, sym, subst, ap, ◌∙◌}
use Rattle.std.proofs.lemmas.Result.{on_ok_weaker}
use Rattle.bg_ast.specs.Meaning.{meaning_of, variable_of}
use Rattle.bg_ast.specs.Views.{placed_of}
use Rattle.bg_flow.specs.Core.{Forget, Suppose, Do, plain, still}
use Rattle.bg_blocks.specs.Views.{cmd_of}
use Rattle.bg_blocks.specs.Emitted.{Emits}
use Rattle.bg_sense.specs.Variables.{wheres_at}
use Rattle.bg_blocks.specs.EmittedViews.{state_of, frame_of}
use Rattle.bg_blocks.proofs.Wheres.{no_wheres_at}
use Rattle.bg_blocks.proofs.simple.havoc.Goals as goal

pub returns : goal.returns
returns c =
    on_ok_weaker c.single.result
    (λ h p frame rs n.
    let xs = map variable_of (map placed_of c.args.xs.now) in
    let listed : map (cmd_of p) c.in_ok-cmds.cmds.items ≡ Forget xs ∷ Suppose (plain (wheres_at (still (meaning_of p) (frame_of p rs)) xs) []) ∷ [] =
    c.in_ok-cmds.ensures p ∙ sym (ap (λ l. Forget xs ∷ Suppose (plain l []) ∷ []) (no_wheres_at p rs xs)) in
    subst (λ ks. Emits (Do ks) (state_of p c.args.state.now) (state_of p c.single.new.state)) listed (h p))
    c.single.ensures

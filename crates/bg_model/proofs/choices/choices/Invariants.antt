use Rattle.std.proofs.Common.{◌≡◌, List, map, drop}
use Rattle.bg_ast.specs.Values.{Val}
use Rattle.bg_ast.specs.Resolved.{Program}
use Rattle.bg_blocks.specs.Views.{block_of}
use Rattle.bg_model.specs.Behind.{stretch_of}
use Rattle.bg_model.specs.Turns.{taken}
use Rattle.bg_model.specs.Views.{walk_in, made_by}
use Rattle.bg_model.proofs.choices.choices.Given as goal

abbrev pub invariant-loop-i : goal.invariant-loop-i
invariant-loop-i l =
    (vs : List Val) (p : Program) → made_by vs l.front (taken (walk_in l.trial) vs (map (block_of p) (drop l.i l.blocks)) (map stretch_of (drop l.i l.course.forms.now)) (drop l.i l.course.firsts.now) (drop l.i l.course.turns.now.items) l.skip) ≡ taken (walk_in l.trial) vs (map (block_of p) l.blocks) (map stretch_of l.course.forms.now) l.course.firsts.now l.course.turns.now.items 0

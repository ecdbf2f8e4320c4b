use Rattle.std.proofs.Common.{◌≡◌, ◌++◌, drop, map, filter}
use Rattle.bg_ast.specs.Views.{declared_of}
use Rattle.bg_guess.specs.Lists.{is_seen, frame_of}
use Rattle.bg_guess.proofs.frame.push_seen.Given as goal

abbrev pub invariant-loop-g : goal.invariant-loop-g
invariant-loop-g l =
    l.out.items ++ filter (is_seen (map declared_of l.globals) (frame_of l.f)) (drop l.g-index l.gs)
    ≡ l.fn.out.items ++ filter (is_seen (map declared_of l.globals) (frame_of l.f)) l.gs

use Rattle.std.proofs.Common.{sym, ◌∙◌, append-nil, map, ◌++◌, filter}
use Rattle.std.proofs.lemmas.List.{at_drop_all}
use Rattle.bg_guess.specs.Lists.{is_seen, frame_of}
use Rattle.bg_ast.specs.Views.{declared_of}
use Rattle.bg_guess.proofs.frame.push_seen.Goals as goal

pub returns : goal.returns
returns c =
    let old = c.loop-g.out.items in
    sym (append-nil old) ∙ sym (at_drop_all (λ l. old ++ filter (is_seen (map declared_of c.args.globals.now) (frame_of c.args.f.now)) l) c.args.gs.now c.loop-g.g-index c.loop-g-test.false) ∙ c.loop-g.invariant

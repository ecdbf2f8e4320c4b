use Rattle.std.proofs.Common.{sym, ap, ◌∙◌}
use Rattle.bg_ast.specs.Values.{is_of}
use Rattle.bg_kinds.specs.Views.{ref_of}
use Rattle.bg_scalar.specs.Values.{val_of}
use Rattle.bg_replay.proofs.Bases.{none_of_map}
use Rattle.bg_replay.proofs.holds.is_plain_of.Goals as goal

pub returns-in-None : goal.returns-in-None
returns-in-None c = none_of_map (ref_of c.args.t) c.args.x c.in-None.ensures.is

pub returns-in-Some : goal.returns-in-Some
returns-in-Some c = c.is_in.ensures ∙ ap (λ u. is_of u (val_of c.args.x)) (sym c.in-Some.ensures.is)

use Rattle.std.proofs.Common.{map, ap, sym, Some, ◌∙◌}
use Rattle.bg_text.specs.Views as v
use Rattle.bg_names.specs.Spaces.{names_of}
use Rattle.bg_spaces.specs.Declarations.{function_ids}
use Rattle.bg_names.specs.Views.{found_of}
use Rattle.bg_resolve.proofs.Resolved.{no_fault, some_fault}
use Rattle.bg_resolve.proofs.whole.resolve.Goals as goal

pub returns-in-None : goal.returns-in-None
returns-in-None c =
    let ds = map v.decl_of c.args.decls.now in
    let none = no_fault (names_of (function_ids ds)) ds _ c.in_ok-made.ensures.first (ap (v.option_of found_of) c.in-None.is) in
    (none.0, none.1, c.in_ok-made.ensures.made)

pub returns-in_ok-fault-in-Some : goal.returns-in_ok-fault-in-Some
returns-in_ok-fault-in-Some c =
    let ds = map v.decl_of c.args.decls.now in
    some_fault (names_of (function_ids ds)) ds _ _ c.in_ok-made.ensures.first (ap (v.option_of found_of) c.in-Some.is ∙ ap (λ f. Some f) (sym c.in_ok-fault-in-Some.ensures.ok))

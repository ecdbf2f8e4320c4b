use Rattle.std.proofs.Common.{◌≡◌, ℕ, ◌+◌, List, sym, subst, arith}
use Rattle.bg_ast.specs.Views.{program_of}
use Rattle.bg_task.specs.declared.prepared.Prepared.{Prepared}
use Rattle.bg_houdini.specs.Checkers.{IsPortion}
use Rattle.bg_houdini.proofs.Portions.{none_portion, one_portion}
use Rattle.bg_houdini.proofs.making.prepare_piece.Goals as goal

pub loop-k-preserved : goal.loop-k-preserved
loop-k-preserved c =
    let p = program_of c.args.program.now in
    let P : List Prepared → Type 0 = IsPortion p c.args.first (c.loop-k.k + 1) in
    subst P (sym c.in_ok-push.ensures.items) (one_portion p c.args.first c.loop-k.k c.loop-k.made.items c.in_ok-one.one c.loop-k.invariant c.in_ok-one.ensures)

pub loop-k-init : goal.loop-k-init
loop-k-init c =
    let p = program_of c.args.program.now in
    subst (λ (ws : List Prepared). IsPortion p c.args.first 0 ws) (sym c.new-made.ensures.items) (none_portion p c.args.first)

pub returns : goal.returns
returns c =
    let p = program_of c.args.program.now in
    let whole : c.loop-k.k ≡ c.args.count = omega arith in
    subst (λ (k : ℕ). IsPortion p c.args.first k c.loop-k.made.items) whole c.loop-k.invariant

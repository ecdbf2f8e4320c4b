use Rattle.std.proofs.Common.{sym, ap, subst, ◌∙◌}
use Rattle.std.specs.Prelude.{Some, None, if◌then◌else◌}
use Rattle.bg_numbered.specs.Lines.{is_there}
use Rattle.bg_term_table.specs.Lines.{line_of}
use Rattle.bg_accept.specs.Lines.{if_there}
use Rattle.bg_accept.specs.Read.{IsRead}
use Rattle.bg_accept.proofs.Missing.{then_line, over_whole}
use Rattle.bg_accept.proofs.lines.line_in.Goals as goal

pub returns-in-None-clause-line : goal.returns-in-None-clause-line
returns-in-None-clause-line c =
    λ fs incs ts over.
    sym (subst (IsRead c.in_ok-n.n c.args.stated.now) c.in-None.is c.in_ok-read.ensures incs ts (over_whole fs incs ts c.args.grown.now c.in_ok-n.n over c.in_ok-n.ensures))

pub returns-then-branch-clause-line : goal.returns-then-branch-clause-line
returns-then-branch-clause-line c =
    λ fs incs ts over.
    let l = line_of c.in-Some.line in
    let said = subst (IsRead c.in_ok-n.n c.args.stated.now) c.in-Some.is c.in_ok-read.ensures in
    sym (ap (then_line incs ts) said ∙ ap (λ b. if b then Some l else None) (sym (c.in_ok-grow-in-Some.ensures.there fs incs ts over) ∙ c.if-branch.true))

pub returns-then-branch-clause-over : goal.returns-then-branch-clause-over
returns-then-branch-clause-over c =
    λ fs incs ts over. c.in_ok-grow-in-Some.ensures.over fs incs ts over

pub returns-else-branch-clause-line : goal.returns-else-branch-clause-line
returns-else-branch-clause-line c =
    λ fs incs ts over.
    let l = line_of c.in-Some.line in
    let said = subst (IsRead c.in_ok-n.n c.args.stated.now) c.in-Some.is c.in_ok-read.ensures in
    sym (ap (then_line incs ts) said ∙ ap (λ b. if b then Some l else None) (sym (c.in_ok-grow-in-Some.ensures.there fs incs ts over) ∙ c.if-branch.false))

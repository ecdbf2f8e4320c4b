use Rattle.std.proofs.Common.{sym, ◌∙◌, ap, arith, ◌+◌, subst, None, ℕ}
use Rattle.bg_lex.specs.Bytes.{line_in}
use Rattle.bg_lex.specs.Ends.{comment_end}
use Rattle.bg_lex.specs.Fronts.{Found}
use Rattle.bg_lex.proofs.Bridges.{behind}
use Rattle.bg_lex.proofs.Comments.{line_comment, star_comment, open_comment, lone_slash, opened}
use Rattle.bg_lex.proofs.front.slash.Goals as goal

pub returns-then-bytes-lt2 : goal.returns-then-bytes-lt2
returns-then-bytes-lt2 c =
    lone_slash c.args.bytes.now c.as_slice.result.now c.requires.some c.requires.slash c.as_slice.ensures (λ long. absurd (omega arith)) (λ long. absurd (omega arith))

pub returns-then-second-eq47 : goal.returns-then-second-eq47
returns-then-second-eq47 c =
    subst (λ (n : ℕ). Found c.args.bytes.now None (n + 2)) (sym (c.line_in.ensures ∙ ap line_in (behind 2 c.args.bytes.now)))
    (line_comment c.args.bytes.now c.if-bytes-lt2.false c.requires.slash c.if-second-eq47.true)

pub returns-in-Some : goal.returns-in-Some
returns-in-Some c =
    star_comment c.args.bytes.now c.in-Some.len c.if-bytes-lt2.false c.requires.slash c.if-second-eq42.true (ap (comment_end 0 opened) (sym (behind 2 c.args.bytes.now)) ∙ sym c.in-Some.ensures.end)

pub returns-in-None : goal.returns-in-None
returns-in-None c =
    open_comment c.args.bytes.now c.if-bytes-lt2.false c.requires.slash c.if-second-eq42.true (ap (comment_end 0 opened) (sym (behind 2 c.args.bytes.now)) ∙ sym c.in-None.ensures.end)

pub returns-else-second-eq42 : goal.returns-else-second-eq42
returns-else-second-eq42 c =
    lone_slash c.args.bytes.now c.as_slice-else-second-eq42.result.now c.requires.some c.requires.slash c.as_slice-else-second-eq42.ensures (λ long. c.if-second-eq47.false) (λ long. c.if-second-eq42.false)

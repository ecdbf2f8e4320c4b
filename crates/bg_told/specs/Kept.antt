-- What is told of something that is left unknown.
use Rattle.std.specs.Prelude.{ℕ, List, ◌++◌, codes}
use Rattle.std.specs.Fmt.{decimal, signed_decimal}
use Rattle.bg_base.specs.declared.exact.Op.{Op}
use Rattle.bg_base.specs.declared.exact.Op.TheVariants.{Plus, Minus, Times, Negate}
use Rattle.bg_base.specs.declared.exact.OutOfRange.{OutOfRange}
use Rattle.bg_sound.specs.Told.{Why, Nodes, Rows, Range}
use Rattle.bg_lines.specs.Lines.{line}

abbrev pub operator_text : Op → List ℕ
operator_text Plus = codes "+"
operator_text Minus = codes "-"
operator_text Times = codes "*"
operator_text Negate = codes "neg"

-- an operation that leaves the range, with its operands
abbrev pub operation_text : OutOfRange → List ℕ
operation_text o = operator_text o.op ++ codes " " ++ signed_decimal o.a ++ codes " " ++ signed_decimal o.b

abbrev pub why_text : Why → List ℕ
why_text (Nodes n) = codes "nodes"
why_text (Rows n) = codes "rows"
why_text (Range o) = codes "range"

-- what is kept: the budget of nodes, or the number of rows, or the operation
abbrev pub kept_text : Why → List ℕ
kept_text (Nodes n) = decimal n
kept_text (Rows n) = decimal n
kept_text (Range o) = operation_text o

abbrev pub kept_line : Why → List ℕ
kept_line why = line (codes "    kept " ++ kept_text why)

-- a cause in the place's line, and what is kept in the next one
abbrev pub cause_text : Why → List ℕ
cause_text why = line (codes " " ++ why_text why) ++ kept_line why

-- How many lines are instances, one after the other.
use Rattle.std.proofs.Common.{◌≡◌, ℕ, ◌+◌, ◌<◌, ◌≤◌, List, length, drop, get_or, ap, ◌∙◌, arith, length-append}
use Rattle.std.proofs.lemmas.List.{drop_more, drop_all}
use Rattle.bg_numbered.specs.Lines.{said_by, instances_in}
use Rattle.bg_term_table.specs.Lines.{line_of, lines_of}
use Rattle.bg_term_table.specs.declared.line.Line.{Line}

abbrev pub many : List Line → ℕ
many ls = length (instances_in (lines_of ls))

-- one more line
pub one_said : (ls : List Line) (i n k whole : ℕ) (d : Line) → i < length ls → k ≡ n + length (said_by (line_of (get_or ls i d))) → n + many (drop i ls) ≡ whole → k + many (drop (i + 1) ls) ≡ whole
one_said ls i n k whole d here e h =
    let front = said_by (line_of (get_or ls i d)) in
    let rest = drop (i + 1) ls in
    let a : many (drop i ls) ≡ length front + many rest = ap many (drop_more ls i d here) ∙ length-append front (instances_in (lines_of rest)) in
    omega (arith, a, e, h)

-- no line is left
pub all_said : (ls : List Line) (i n whole : ℕ) → length ls ≤ i → n + many (drop i ls) ≡ whole → n ≡ whole
all_said ls i n whole end h = let a = ap many (drop_all i ls end) in omega (arith, a, h)

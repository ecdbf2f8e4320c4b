-- A place in words.
use Rattle.std.specs.Prelude.{ℕ, List, [], ◌++◌, codes, Option, Some, None}
use Rattle.bg_base.specs.declared.pos.Pos.{Pos}
use Rattle.bg_ast.specs.Execution.{Spot, AtAssert, AtEntry, AfterTurn, AtCall, AtReturn}
use Rattle.bg_places.specs.Placed.{Placed}
use Rattle.bg_lines.specs.Lines.{position_text}

-- what is checked
abbrev pub kind_text : Spot → List ℕ
kind_text (AtAssert k) = codes "assert "
kind_text (AtEntry k) = codes "invariant entry "
kind_text (AfterTurn k) = codes "invariant turn "
kind_text (AtCall s k) = codes "precondition "
kind_text (AtReturn m k) = codes "postcondition "

-- where the call stands whose precondition is checked
abbrev pub call_text : Option Pos → List ℕ
call_text None = []
call_text (Some p) = position_text p ++ codes " of "

-- what is checked, and where: the call's position stands in front of the clause's
abbrev pub place_text : Placed → List ℕ
place_text a = kind_text a.place.spot ++ call_text a.call ++ position_text a.pos

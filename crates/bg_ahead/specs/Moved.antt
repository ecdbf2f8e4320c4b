-- Blocks of forms whose atoms go elsewhere.
use Rattle.std.specs.Prelude.{ℕ, Bool, true, false, List, [], ◌∷◌, ◌++◌, map, slice_get, unwrap_or, Ok, Err}
use Rattle.bg_formula.specs.declared.atom.Literal.{Literal}
use Rattle.bg_forms.specs.Forms.{Form, Plain, Is, NotSo, Both, Same, opposite}
use Rattle.bg_formed.specs.Formed.{Says, FormCmd, Asks, Takes, FormEdge, FormBlock}
use Rattle.bg_ahead.specs.Rows.{itself}

abbrev pub with_sign : Bool → Literal → Literal
with_sign true l = l
with_sign false l = opposite l

-- the literal that atom a goes to; one that goes nowhere stays
abbrev pub moved_atom : List Literal → ℕ → Literal
moved_atom to a = unwrap_or (slice_get to a) (itself a)

abbrev pub moved : List Literal → Literal → Literal
moved to l = with_sign l.sign (moved_atom to l.atom)

abbrev pub moved_form : List Literal → Form → Form
moved_form to (Plain b) = Plain b
moved_form to (Is l) = Is (moved to l)
moved_form to (NotSo f) = NotSo (moved_form to f)
moved_form to (Both f g) = Both (moved_form to f) (moved_form to g)
moved_form to (Same f g) = Same (moved_form to f) (moved_form to g)

abbrev pub moved_says : List Literal → Says → Says
moved_says to (Ok f) = Ok (moved_form to f)
moved_says to (Err o) = Err o

abbrev pub moved_cmd : List Literal → FormCmd → FormCmd
moved_cmd to (Asks s b r) = Asks s b (moved_says to r)
moved_cmd to (Takes b r) = Takes b (moved_says to r)

abbrev pub moved_edge : List Literal → FormEdge → FormEdge
moved_edge to e = record { cmds = map (moved_cmd to) e.cmds; to = e.to }

abbrev pub moved_block : List Literal → FormBlock → FormBlock
moved_block to b = record { cmds = map (moved_cmd to) b.cmds; next = map (moved_edge to) b.next }

abbrev pub moved_blocks : List Literal → List FormBlock → List FormBlock
moved_blocks to bs = map (moved_block to) bs

-- the commands of the first block
abbrev pub first_cmds : List FormBlock → List FormCmd
first_cmds [] = []
first_cmds (b ∷ bs) = b.cmds

-- blocks with more commands in front of those of the first one
abbrev pub behind_cmds : List FormCmd → List FormBlock → List FormBlock
behind_cmds ks [] = []
behind_cmds ks (b ∷ bs) = record { cmds = ks ++ b.cmds; next = b.next } ∷ bs

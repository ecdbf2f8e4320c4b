-- How the code's blocks of forms are read.
use Rattle.std.specs.Prelude.{List, map, Ok, Err, Vec}
use Rattle.std.specs.declared.alloc.Global.{Global}
use Rattle.bg_text.specs.Views.{option_of}
use Rattle.bg_ast.specs.Views.{candidate_of}
use Rattle.bg_places.specs.Views.{spot_of}
use Rattle.bg_forms.specs.Views.{form_in}
use Rattle.bg_formed.specs.declared.blocks.Says as code_says
use Rattle.bg_formed.specs.declared.blocks.Says.TheVariants as says
use Rattle.bg_formed.specs.declared.blocks.FormCmd as code
use Rattle.bg_formed.specs.declared.blocks.FormCmd.TheVariants as cmd
use Rattle.bg_formed.specs.declared.blocks.FormEdge as way
use Rattle.bg_formed.specs.declared.blocks.FormBlock as whole
use Rattle.bg_formed.specs.Formed.{Says, FormCmd, Asks, Takes, FormEdge, FormBlock}

abbrev pub says_of : code_says.Says → Says
says_of (says.Form f) = Ok (form_in f)
says_of (says.Outside e) = Err e

abbrev pub form_cmd_of : code.FormCmd → FormCmd
form_cmd_of (cmd.Claims s b r) = Asks (spot_of s) (option_of candidate_of b) (says_of r)
form_cmd_of (cmd.Supposes b r) = Takes (option_of candidate_of b) (says_of r)

abbrev pub form_cmds_of : List code.FormCmd → List FormCmd
form_cmds_of ks = map form_cmd_of ks

abbrev pub form_edge_of : way.FormEdge → FormEdge
form_edge_of e = record { cmds = form_cmds_of e.cmds.items; to = e.to }

abbrev pub form_block_of : whole.FormBlock → FormBlock
form_block_of b = record { cmds = form_cmds_of b.cmds.items; next = map form_edge_of b.next.items }

abbrev pub blocks_of : Vec whole.FormBlock Global → List FormBlock
blocks_of bs = map form_block_of bs.items

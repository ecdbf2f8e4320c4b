-- The blocks of an implementation.
use Rattle.std.specs.Prelude.{◌≡◌, ℕ, List, [], ◌∷◌, map}
use Rattle.bg_ast.specs.Syntax as s
use Rattle.bg_ast.specs.Resolved as r
use Rattle.bg_ast.specs.Meaning.{meaning_of, named_of, impl_of, proc_of}
use Rattle.bg_ast.specs.Execution.{AtReturn}
use Rattle.bg_flow.specs.Core.{Cmd, Check, Suppose, demands, sayings, each_one, routine_of}
use Rattle.bg_flow.specs.Blocks.{Block, Leap, blocks_of}
use Rattle.bg_blocks.specs.declared.block.Block as whole
use Rattle.bg_blocks.specs.Views.{block_of}

-- at the start the preconditions are assumed
abbrev pub opening : List s.Clause → List Cmd
opening ks = Suppose (sayings each_one ks) ∷ []

-- at the end the postconditions are checked
abbrev pub closing : ℕ → List s.Clause → Block
closing number ks = record { cmds = Check (demands (AtReturn number) ks) ∷ []; exit = Leap [] }

-- the blocks of the implementation with this number, which is one of this procedure
abbrev pub AreBlocks : r.Program → ℕ → r.Impl → r.Proc → List whole.Block → Type 0
AreBlocks p number m q made =
    map (block_of p) made ≡ blocks_of (routine_of (meaning_of p) number (impl_of (named_of p.types) m) (proc_of (named_of p.types) q))

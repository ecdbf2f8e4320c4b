-- What a command has of its block's passive commands and of the incarnations.
use Rattle.std.specs.Prelude.{◌≡◌, ℕ, ◌+◌, List}
use Rattle.bg_ast.specs.Values.{Val}
use Rattle.bg_flow.specs.Core.{Cmd}
use Rattle.bg_passive.specs.ReadBack.{cmd_choices}
use Rattle.bg_model.specs.declared.share.Share.{Share}
use Rattle.bg_model.specs.Fronts.{chosen_from}
use Rattle.bg_model.specs.Turns.{width, next_after}

-- so many passive commands; and of its incarnations, behind so many first ones, so many are chosen, which are the last
pub record IsShare (k : Cmd) (s : Share) : Type 0 where
  pub cmds : width k ≡ s.cmds
  pub next : (n : ℕ) → next_after k n ≡ n + s.skips + s.chooses
  pub chosen : (vs : List Val) (n : ℕ) → cmd_choices k n vs ≡ chosen_from vs (n + s.skips) s.chooses

-- so many passive commands, and no incarnation
abbrev pub plain : ℕ → Share
plain n = record { cmds = n; skips = 0; chooses = 0 }

-- so many passive commands, with an incarnation each
abbrev pub assigned : ℕ → Share
assigned n = record { cmds = n; skips = n; chooses = 0 }

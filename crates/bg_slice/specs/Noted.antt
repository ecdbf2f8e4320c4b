-- Marks of rows and of candidates.
use Rattle.std.specs.Prelude.{ℕ, Bool, ◌||◌, List}
use Rattle.bg_formed.specs.Formed.{FormCmd, FormEdge, FormBlock}
use Rattle.bg_slice.specs.declared.noted.Kept as code
use Rattle.bg_slice.specs.Slices.{names_cmds, names_edges, names_blocks, guards_cmds, guards_edges, guards_blocks}
use Rattle.bg_slice.specs.Marks.{marked}

-- of rows whether they are named, and of candidates whether they guard a command
pub record KeptOf : Type 0 where
  pub rows : List Bool
  pub named : List Bool

abbrev pub kept_in : code.Kept → KeptOf
kept_in m = record { rows = m.rows.items; named = m.named.items }

-- beside what is marked, the rows from atom n on and the candidates with these properties
abbrev pub noted : ℕ → (ℕ → Bool) → (ℕ → Bool) → KeptOf → KeptOf
noted n p q m = record { rows = marked p n m.rows; named = marked q 0 m.named }

-- what commands name
abbrev pub noted_cmds : ℕ → List FormCmd → KeptOf → KeptOf
noted_cmds n ks m = noted n (λ j. names_cmds j ks) (λ c. guards_cmds c ks) m

abbrev pub noted_edges : ℕ → List FormEdge → KeptOf → KeptOf
noted_edges n es m = noted n (λ j. names_edges j es) (λ c. guards_edges c es) m

abbrev pub noted_block : ℕ → FormBlock → KeptOf → KeptOf
noted_block n b m =
    noted n (λ j. names_cmds j b.cmds || names_edges j b.next) (λ c. guards_cmds c b.cmds || guards_edges c b.next) m

abbrev pub noted_blocks : ℕ → List FormBlock → KeptOf → KeptOf
noted_blocks n bs m = noted n (λ j. names_blocks j bs) (λ c. guards_blocks c bs) m

-- Whether each command of blocks says a truth over incarnations of these sorts, and names a candidate that is there.
use Rattle.std.specs.Prelude.{ℕ, Bool, true, ◌&&◌, List, [], ◌∷◌}
use Rattle.bg_passive.specs.Passive.{PassiveCmd, Claims, Supposes, Edge, PassiveBlock}
use Rattle.bg_formed.specs.Formed.{fits_candidate}
use Rattle.bg_linear.specs.declared.scalar.Sort.{Sort}
use Rattle.bg_linear.specs.Sorts.{kind_ex, is_truth}

abbrev pub cmds_sorted : List Sort → ℕ → List PassiveCmd → Bool
cmds_sorted sorts m [] = true
cmds_sorted sorts m (Claims s b e ∷ ks) = fits_candidate m b && (is_truth (kind_ex sorts e) && cmds_sorted sorts m ks)
cmds_sorted sorts m (Supposes b e ∷ ks) = fits_candidate m b && (is_truth (kind_ex sorts e) && cmds_sorted sorts m ks)

abbrev pub edges_sorted : List Sort → ℕ → List Edge → Bool
edges_sorted sorts m [] = true
edges_sorted sorts m (e ∷ es) = cmds_sorted sorts m e.cmds && edges_sorted sorts m es

abbrev pub blocks_sorted : List Sort → ℕ → List PassiveBlock → Bool
blocks_sorted sorts m [] = true
blocks_sorted sorts m (b ∷ bs) = cmds_sorted sorts m b.cmds && (edges_sorted sorts m b.next && blocks_sorted sorts m bs)

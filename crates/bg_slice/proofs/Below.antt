-- What is left names what was named, and each candidate of blocks is one that guards a command of theirs.
use Rattle.std.proofs.Common.{◌≡◌, ℕ, Bool, true, false, List, [], ◌∷◌, refl}
use Rattle.std.specs.Prelude.{◌&&◌, ◌||◌, Option}
use Rattle.bg_ast.specs.Execution.{Spot}
use Rattle.bg_passive.specs.Passive.{spot_eq}
use Rattle.bg_formed.specs.Formed.{Says, FormCmd, Asks, Takes, FormEdge, FormBlock, said, form_below, is_of, cmds_below, edges_below, blocks_below}
use Rattle.bg_formed.specs.Used.{Use, use_cmds, use_later, use_edges, uses}
use Rattle.bg_slice.specs.Slices.{kept, kept_guard, slice_cmds, slice_edges, sliced}
use Rattle.bg_formed.proofs.Below.{and_left, and_right, and_both}

module _ (t : Spot) (n : ℕ) (these : ℕ → Bool) where
  kept_below : (x : Bool) (r : Says) → form_below n (said r) ≡ true → form_below n (said (kept x r)) ≡ true
  kept_below true r h = h
  kept_below false r h = refl

  guard_below : (x : Bool) (b : Option ℕ) → is_of these b ≡ true → is_of these (kept_guard x b) ≡ true
  guard_below true b h = h
  guard_below false b h = refl

  cmds_less : (ks : List FormCmd) (u : Use) → cmds_below n these ks ≡ true → cmds_below n these (slice_cmds t ks u) ≡ true
  cmds_less [] u h = refl
  cmds_less (Asks s b r ∷ ks) u h =
      let more = and_right (is_of these b) (form_below n (said r) && cmds_below n these ks) h in
      and_both (is_of these (kept_guard (spot_eq s t || (use_cmds t ks u).reached) b)) _ (guard_below (spot_eq s t || (use_cmds t ks u).reached) b (and_left (is_of these b) (form_below n (said r) && cmds_below n these ks) h)) (and_both (form_below n (said (kept (spot_eq s t || (use_cmds t ks u).reached) r))) _ (kept_below (spot_eq s t || (use_cmds t ks u).reached) r (and_left (form_below n (said r)) (cmds_below n these ks) more)) (cmds_less ks u (and_right (form_below n (said r)) (cmds_below n these ks) more)))
  cmds_less (Takes b r ∷ ks) u h =
      let more = and_right (is_of these b) (form_below n (said r) && cmds_below n these ks) h in
      and_both (is_of these (kept_guard (use_cmds t ks u).reached b)) _ (guard_below (use_cmds t ks u).reached b (and_left (is_of these b) (form_below n (said r) && cmds_below n these ks) h)) (and_both (form_below n (said (kept (use_cmds t ks u).reached r))) _ (kept_below (use_cmds t ks u).reached r (and_left (form_below n (said r)) (cmds_below n these ks) more)) (cmds_less ks u (and_right (form_below n (said r)) (cmds_below n these ks) more)))

  edges_less : (later : List Use) (es : List FormEdge) → edges_below n these es ≡ true → edges_below n these (slice_edges t later es) ≡ true
  edges_less later [] h = refl
  edges_less later (e ∷ es) h =
      and_both (cmds_below n these (slice_cmds t e.cmds (use_later later e.to))) _ (cmds_less e.cmds (use_later later e.to) (and_left (cmds_below n these e.cmds) (edges_below n these es) h)) (edges_less later es (and_right (cmds_below n these e.cmds) (edges_below n these es) h))

  pub blocks_less : (bs : List FormBlock) → blocks_below n these bs ≡ true → blocks_below n these (sliced t bs) ≡ true
  blocks_less [] h = refl
  blocks_less (b ∷ bs) h =
      let more = and_right (cmds_below n these b.cmds) (edges_below n these b.next && blocks_below n these bs) h in
      and_both (cmds_below n these (slice_cmds t b.cmds (use_edges t (uses t bs) b.next))) _ (cmds_less b.cmds (use_edges t (uses t bs) b.next) (and_left (cmds_below n these b.cmds) (edges_below n these b.next && blocks_below n these bs) h)) (and_both (edges_below n these (slice_edges t (uses t bs) b.next)) _ (edges_less (uses t bs) b.next (and_left (edges_below n these b.next) (blocks_below n these bs) more)) (blocks_less bs (and_right (edges_below n these b.next) (blocks_below n these bs) more)))

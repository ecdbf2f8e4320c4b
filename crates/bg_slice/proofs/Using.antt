-- What is left uses what the whole uses.
use Rattle.std.proofs.Common.{◌≡◌, Bool, true, false, List, [], ◌∷◌, refl, ap, ◌∙◌}
use Rattle.std.specs.Prelude.{◌||◌, if◌then◌else◌}
use Rattle.bg_ast.specs.Execution.{Spot}
use Rattle.bg_passive.specs.Passive.{spot_eq}
use Rattle.bg_formed.specs.Formed.{Says, FormCmd, Asks, Takes, FormEdge, FormBlock}
use Rattle.bg_formed.specs.Used.{Use, refusal_of, first_of, in_front, use_cmds, use_either, use_later, use_edges, use_block, uses, refused}
use Rattle.bg_slice.specs.Slices.{kept, slice_cmds, slice_edges, slice_block, sliced}

-- what stands in front of something that isn't reached is not looked at
front_kept : (r : Says) (u : Use) → in_front (kept u.reached r) u ≡ in_front r u
front_kept r u = on u.reached
  where
    on : (z : Bool) → (if z then record { reached = true; refusal = first_of (refusal_of (kept z r)) u.refusal } else u) ≡ (if z then record { reached = true; refusal = first_of (refusal_of r) u.refusal } else u)
    on true = refl
    on false = refl

asks_kept : (x : Bool) (r : Says) (v : Use) → (if x then record { reached = true; refusal = first_of (refusal_of (kept (x || v.reached) r)) v.refusal } else in_front (kept (x || v.reached) r) v) ≡ (if x then record { reached = true; refusal = first_of (refusal_of r) v.refusal } else in_front r v)
asks_kept true r v = refl
asks_kept false r v = front_kept r v

module _ (t : Spot) where
  pub cmds_use : (ks : List FormCmd) (u : Use) → use_cmds t (slice_cmds t ks u) u ≡ use_cmds t ks u
  cmds_use [] u = refl
  cmds_use (Asks s b r ∷ ks) u =
      ap (λ v. if spot_eq s t then record { reached = true; refusal = first_of (refusal_of (kept (spot_eq s t || (use_cmds t ks u).reached) r)) v.refusal } else in_front (kept (spot_eq s t || (use_cmds t ks u).reached) r) v) (cmds_use ks u)
      ∙ asks_kept (spot_eq s t) r (use_cmds t ks u)
  cmds_use (Takes b r ∷ ks) u =
      ap (in_front (kept (use_cmds t ks u).reached r)) (cmds_use ks u) ∙ front_kept r (use_cmds t ks u)

  pub edges_use : (later : List Use) (es : List FormEdge) → use_edges t later (slice_edges t later es) ≡ use_edges t later es
  edges_use later [] = refl
  edges_use later (e ∷ es) =
      ap (λ u. use_either u (use_edges t later (slice_edges t later es))) (cmds_use e.cmds (use_later later e.to))
      ∙ ap (use_either (use_cmds t e.cmds (use_later later e.to))) (edges_use later es)

  block_use : (later : List Use) (b : FormBlock) → use_block t later (slice_block t later b) ≡ use_block t later b
  block_use later b =
      ap (use_cmds t (slice_cmds t b.cmds (use_edges t later b.next))) (edges_use later b.next)
      ∙ cmds_use b.cmds (use_edges t later b.next)

  pub blocks_use : (bs : List FormBlock) → uses t (sliced t bs) ≡ uses t bs
  blocks_use [] = refl
  blocks_use (b ∷ bs) =
      ap (λ us. use_block t us (slice_block t (uses t bs) b) ∷ us) (blocks_use bs)
      ∙ ap (λ u. u ∷ uses t bs) (block_use (uses t bs) b)

  pub use_alike : (bs : List FormBlock) → refused t (sliced t bs) ≡ refused t bs
  use_alike bs = ap (λ us. (use_later us 0).refusal) (blocks_use bs)

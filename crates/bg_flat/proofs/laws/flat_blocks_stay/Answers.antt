use Rattle.std.proofs.Common.{◌++◌}
use Rattle.bg_ast.specs.Values.{BoolTy}
use Rattle.bg_terms.specs.Typed.{types_with}
use Rattle.bg_flat.proofs.Staying.{blocks_stay}
use Rattle.bg_flat.proofs.laws.flat_blocks_stay.Goals as goal

pub returns : goal.returns
returns c =
    record {
      types =
          λ incs ts us n vs blocks flat.
          blocks_stay (types_with incs ts) (types_with incs (ts ++ us)) n vs vs (λ e x h. (h.0, c.terms_may_come_behind.ensures.typed incs ts us x BoolTy h.1)) blocks flat;
      terms =
          λ tys n ts us blocks flat.
          blocks_stay tys tys n ts (ts ++ us) (λ e x h. (c.terms_may_come_behind.ensures.flat n ts us e x h.0, h.1)) blocks flat;
    }

-- Expressions made flat: their applications, selects and updates come into a table of terms in the order in which they stand, arguments first.
use Rattle.std.specs.Prelude.{◌+◌, List, length}
use Rattle.bg_ast.specs.Values.{Ty}
use Rattle.bg_ast.specs.Syntax.{Ex, Exs, Read, Local, Not, Negative, Binary, Apply, Select, Update, Old, NoMore, More, Fun}
use Rattle.bg_terms.specs.Terms.{Applies, Term}
use Rattle.bg_numbered.specs.Put.{with_term, place_term, with_select, place_select, with_update, place_update}

-- where the terms stand behind incarnations of these types, and functions are these
module _ (fs : List Fun) (incs : List Ty) where
  abbrev mutual
    -- the table behind an expression; of an update the map comes first, then the index, then the new value
    pub behind : Ex → List Term → List Term
    behind (Not e) ts = behind e ts
    behind (Negative e) ts = behind e ts
    behind (Binary op a b) ts = behind b (behind a ts)
    behind (Apply f es) ts = with_term fs (Applies f) (all_numbered es ts) (all_behind es ts)
    behind (Select m es) ts =
        with_select fs incs (numbered m ts) (all_numbered es (behind m ts)) (all_behind es (behind m ts))
    behind (Update m es e) ts =
        with_update fs incs (numbered m ts) (numbered e (all_behind es (behind m ts))) (all_numbered es (behind m ts)) (behind e (all_behind es (behind m ts)))
    behind (Old e) ts = behind e ts
    behind _ ts = ts

    -- the expression made flat; a constant stays as it is
    pub numbered : Ex → List Term → Ex
    numbered (Not e) ts = Not (numbered e ts)
    numbered (Negative e) ts = Negative (numbered e ts)
    numbered (Binary op a b) ts = Binary op (numbered a ts) (numbered b (behind a ts))
    numbered (Apply f es) ts = Read (Local (length incs + place_term (Applies f) (all_numbered es ts) (all_behind es ts)))
    numbered (Select m es) ts =
        Read (Local (length incs + place_select incs (numbered m ts) (all_numbered es (behind m ts)) (all_behind es (behind m ts))))
    numbered (Update m es e) ts =
        Read (Local (length incs + place_update incs (numbered m ts) (numbered e (all_behind es (behind m ts))) (all_numbered es (behind m ts)) (behind e (all_behind es (behind m ts)))))
    numbered (Old e) ts = numbered e ts
    numbered e ts = e

    pub all_behind : Exs → List Term → List Term
    all_behind NoMore ts = ts
    all_behind (More e es) ts = all_behind es (behind e ts)

    pub all_numbered : Exs → List Term → Exs
    all_numbered NoMore ts = NoMore
    all_numbered (More e es) ts = More (numbered e ts) (all_numbered es (behind e ts))

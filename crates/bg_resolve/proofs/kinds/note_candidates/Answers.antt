use Rattle.std.proofs.Common.{◌≡◌, ℕ, ◌+◌, ◌<◌, List, map, flat_map, drop, get_or, length, Option, subst}
use Rattle.bg_text.specs.Views as v
use Rattle.bg_names.specs.Faults.{Fault, better}
use Rattle.bg_resolve.specs.Program.{candidate_faults}
use Rattle.bg_spaces.proofs.Noted.{noted_step}
use Rattle.bg_resolve.proofs.kinds.note_candidates.Goals as goal

-- an item of a list that is another one
noted_in : {A B : Type 0} (f : B → List Fault) (v : A → B) (best new whole : Option Fault) (xs ys : List A) (i : ℕ) (x : A) → ys ≡ xs → i < length ys → x ≡ get_or ys i x → better best (flat_map f (map v (drop i xs))) ≡ whole → new ≡ better best (f (v x)) → better new (flat_map f (map v (drop (i + 1) xs))) ≡ whole
noted_in f v best new whole xs ys i x same lt at known e = noted_step f v best new xs i x whole (subst (λ l. i < length l) same lt) (subst (λ l. x ≡ get_or l i x) same at) known e

pub loop-name-preserved : goal.loop-name-preserved
loop-name-preserved c =
    noted_in (candidate_faults (v.consts_of c.args.c.now)) v.id_of _ _ _ c.args.c.now.formals.names.items _ c.loop-name.name-index c.name-item.result c.deref-name-items.ensures.value c.loop-name-test.true c.name-item.is c.loop-name.invariant (rw (c.fits-holds.ensures, c.deref.ensures.value) at c.note_unless.ensures)

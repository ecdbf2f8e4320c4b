-- Lists of names and entries, joined.
use Rattle.std.proofs.Common.{◌≡◌, ℕ, ◌+◌, Bool, true, false, List, [], ◌∷◌, map, flat_map, refl, ap, ◌∙◌}
use Rattle.std.proofs.lemmas.List.{map-append}
use Rattle.bg_text.specs.Trees as t
use Rattle.bg_text.specs.Views as v
use Rattle.bg_text.specs.declared.tree.Formals.{Formals}
use Rattle.bg_names.proofs.Firsts.{fuse_flat}
use Rattle.bg_names.specs.declared.scope.Meaning.{Meaning}
use Rattle.bg_spaces.specs.Declarations.{Counts, entry_id, numbered, constant_entries, entries_of, entries_from, counts_after, value_ids, value_ids_of, are_candidates, vars_ids, ids_in, group_ids}

numbered-ids : (make : ℕ → Meaning) (n : ℕ) (xs : List t.Id) → map entry_id (numbered make n xs) ≡ xs
numbered-ids make n [] = refl
numbered-ids make n (x ∷ xs) = ap (λ l. x ∷ l) (numbered-ids make (n + 1) xs)

constant-ids : (b : Bool) (k : Counts) (xs : List t.Id) → map entry_id (constant_entries b k xs) ≡ xs
constant-ids false k xs = numbered-ids _ k.constants xs
constant-ids true k xs = numbered-ids _ k.candidates xs

decl-ids : (k : Counts) (d : t.Decl) → map entry_id (entries_of k d) ≡ value_ids_of d
decl-ids k (t.Types p attrs ds) = refl
decl-ids k (t.Constants c) = constant-ids (are_candidates c) k c.group.names
decl-ids k (t.Function f) = refl
decl-ids k (t.Axiom p attrs e) = refl
decl-ids k (t.Globals v) = numbered-ids _ k.globals (vars_ids v)
decl-ids k (t.Procedure q) = refl
decl-ids k (t.Implementation m) = refl

-- the names of the entries are the names of the declarations
pub entries-ids : (k : Counts) (ds : List t.Decl) → map entry_id (entries_from k ds) ≡ value_ids ds
entries-ids k [] = refl
entries-ids k (d ∷ ds) =
    map-append entry_id (entries_of k d) (entries_from (counts_after k d) ds)
    ∙ rw (decl-ids k d, entries-ids (counts_after k d) ds) refl

pub groups-ids : (gs : List Formals) → ids_in (map v.group_of gs) ≡ flat_map (λ g. map v.id_of g.names.items) gs
groups-ids gs = fuse_flat group_ids v.group_of gs

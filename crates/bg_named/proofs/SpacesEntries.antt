-- What the names of values mean: constants, candidates and globals that are declared under these names.
use Rattle.std.proofs.Common.{◌≡◌, ℕ, zero, suc, ◌+◌, Bool, true, false, List, [], ◌∷◌, ◌++◌, map, flat_map, length, drop, Some, None, refl, sym, ap, ◌∙◌, subst, add-one, if◌then◌else◌}
use Rattle.std.specs.Prelude.{slice_get}
use Rattle.std.proofs.lemmas.List.{drop_at, drop-drop}
use Rattle.bg_text.specs.Trees as t
use Rattle.bg_text.specs.Types.{All as Each}
use Rattle.bg_ast.specs.Resolved as r
use Rattle.bg_names.specs.declared.scope.Meaning.{Meaning}
use Rattle.bg_names.specs.declared.scope.Meaning.TheVariants as means
use Rattle.bg_spaces.specs.Declarations.{Counts, Entry, numbered, constant_entries, entries_of, entries_from, counts_after, no_counts, constant_ids_of, candidate_ids_of, global_ids_of, global_ids, are_candidates, vars_ids}
use Rattle.bg_resolve.specs.Program.{named}
use Rattle.bg_named.specs.Numbers.{constant_id, declared_id}
use Rattle.bg_named.proofs.SpacesNames.{constant_names, global_names}

-- what an entry means is declared at that place
abbrev pub MeansHere : r.Program → t.Id → Meaning → Type 0
MeansHere p x (means.Constant k) = slice_get (map constant_id p.constants) k ≡ Some x
MeansHere p x (means.Candidate k) = slice_get p.candidates k ≡ Some x
MeansHere p x (means.Global k) = slice_get (map declared_id p.globals) k ≡ Some x
MeansHere p x (means.Local k) = ⊥
MeansHere p x means.Nothing = ⊥

abbrev pub Means : r.Program → Entry → Type 0
Means p e = MeansHere p e.0 e.1

pub each_append : {A : Type 0} (P : A → Type 0) (xs ys : List A) → Each P xs → Each P ys → Each P (xs ++ ys)
each_append P [] ys h k = k
each_append P (x ∷ xs) ys h k = (h.0, each_append P xs ys h.1 k)

pub each_at : {A : Type 0} (P : A → Type 0) (xs : List A) (i : ℕ) (x : A) → Each P xs → slice_get xs i ≡ Some x → P x
each_at P [] i x h e = absurd (let bad : None ≡ Some x = e in cc)
each_at P (y ∷ ys) zero x h e = let same : y ≡ x = cc in subst P same h.0
each_at P (y ∷ ys) (suc i) x h e = each_at P ys i x h.1 e

drop_next : (gs : List t.Id) (n : ℕ) (x : t.Id) (ys : List t.Id) → drop n gs ≡ x ∷ ys → (slice_get gs n ≡ Some x) × (drop (suc n) gs ≡ ys)
drop_next [] zero x ys h = absurd (let bad : [] ≡ x ∷ ys = h in cc)
drop_next [] (suc n) x ys h = absurd (let bad : [] ≡ x ∷ ys = h in cc)
drop_next (g ∷ gs) zero x ys h = let whole : g ∷ gs ≡ x ∷ ys = h in (cc, cc)
drop_next (g ∷ gs) (suc n) x ys h = drop_next gs n x ys h

-- names with numbers from n on are those from n on
numbered_mean : (p : r.Program) (make : ℕ → Meaning) (all : List t.Id) → ((x : t.Id) (n : ℕ) → slice_get all n ≡ Some x → MeansHere p x (make n)) → (n : ℕ) (xs rest : List t.Id) → drop n all ≡ xs ++ rest → Each (Means p) (numbered make n xs)
numbered_mean p make all h n [] rest e = tt
numbered_mean p make all h n (x ∷ xs) rest e =
    let next = drop_next all n x (xs ++ rest) e in
    let more : drop (n + 1) all ≡ xs ++ rest = rw (add-one n) next.1 in
    (h x n next.0, numbered_mean p make all h (n + 1) xs rest more)

-- from these numbers on, a program declares these
record FromHere (p : r.Program) (k : Counts) (constants candidates globals : List t.Id) : Type 0 where
  constants_here : drop k.constants (map constant_id p.constants) ≡ constants
  candidates_here : drop k.candidates p.candidates ≡ candidates
  globals_here : drop k.globals (map declared_id p.globals) ≡ globals

constants_mean : (p : r.Program) (k : Counts) (b : Bool) (xs cs ds : List t.Id) → drop k.constants (map constant_id p.constants) ≡ (if b then [] else xs) ++ cs → drop k.candidates p.candidates ≡ (if b then xs else []) ++ ds → Each (Means p) (constant_entries b k xs)
constants_mean p k false xs cs ds h e = numbered_mean p (λ n. means.Constant n) (map constant_id p.constants) (λ x n i. i) k.constants xs cs h
constants_mean p k true xs cs ds h e = numbered_mean p (λ n. means.Candidate n) p.candidates (λ x n i. i) k.candidates xs ds e

decl_means : (p : r.Program) (k : Counts) (d : t.Decl) (cs es gs : List t.Id) → FromHere p k (constant_ids_of d ++ cs) (candidate_ids_of d ++ es) (global_ids_of d ++ gs) → Each (Means p) (entries_of k d)
decl_means p k (t.Types q attrs ds) cs es gs h = tt
decl_means p k (t.Constants d) cs es gs h = constants_mean p k (are_candidates d) d.group.names cs es h.constants_here h.candidates_here
decl_means p k (t.Function f) cs es gs h = tt
decl_means p k (t.Axiom q attrs a) cs es gs h = tt
decl_means p k (t.Globals v) cs es gs h = numbered_mean p (λ n. means.Global n) (map declared_id p.globals) (λ x n i. i) k.globals (vars_ids v) gs h.globals_here
decl_means p k (t.Procedure q) cs es gs h = tt
decl_means p k (t.Implementation m) cs es gs h = tt

drop_past : (all : List t.Id) (n : ℕ) (xs rest : List t.Id) → drop n all ≡ xs ++ rest → drop (n + length xs) all ≡ rest
drop_past all n xs rest h =
    sym (drop-drop (length xs) n all) ∙ (ap (λ (l : List t.Id). drop (length xs) l) h ∙ drop_at xs rest (length xs) refl)

entries_mean : (p : r.Program) (k : Counts) (ds : List t.Decl) → FromHere p k (flat_map constant_ids_of ds) (flat_map candidate_ids_of ds) (global_ids ds) → Each (Means p) (entries_from k ds)
entries_mean p k [] h = tt
entries_mean p k (d ∷ ds) h =
    let next : FromHere p (counts_after k d) (flat_map constant_ids_of ds) (flat_map candidate_ids_of ds) (global_ids ds) =
    record {
      constants_here = drop_past (map constant_id p.constants) k.constants (constant_ids_of d) (flat_map constant_ids_of ds) h.constants_here;
      candidates_here = drop_past p.candidates k.candidates (candidate_ids_of d) (flat_map candidate_ids_of ds) h.candidates_here;
      globals_here = drop_past (map declared_id p.globals) k.globals (global_ids_of d) (global_ids ds) h.globals_here;
    } in
    each_append
    (Means p)
    (entries_of k d)
    (entries_from (counts_after k d) ds)
    (decl_means p k d (flat_map constant_ids_of ds) (flat_map candidate_ids_of ds) (global_ids ds) h)
    (entries_mean p (counts_after k d) ds next)

-- each entry's meaning is declared
pub program_means : (ds : List t.Decl) → Each (Means (named ds)) (entries_from no_counts ds)
program_means ds =
    entries_mean
    (named ds)
    no_counts
    ds
    (record { constants_here = constant_names ds; candidates_here = refl; globals_here = global_names ds })

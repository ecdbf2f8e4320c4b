-- A proof closes each path that has what it uses.
use Rattle.std.proofs.Common.{◌≡◌, ℕ, Bool, true, false, not, ◌&&◌, ◌||◌, ◌==◌, cond, List, [], ◌∷◌, ◌++◌, refl, sym, ap, ◌∙◌, subst, append-nil, append_assoc, arith}
use Rattle.std.specs.Prelude.{Option, Some, None, nat_lt}
use Rattle.std.specs.Ordering.{int_eq}
use Rattle.std.proofs.lemmas.Int.{ints}
use Rattle.std.proofs.lemmas.Bool.Decides.{nat_tests}
use Rattle.bg_rows.specs.Rows.{RowOf}
use Rattle.bg_rows.specs.Steps.{row_at}
use Rattle.bg_formula.specs.declared.atom.Literal.{Literal}
use Rattle.bg_formula.specs.Atoms.{AtomOf, at}
use Rattle.bg_formula.specs.Formulas.{Formula, unit_atom}
use Rattle.bg_formula.specs.Meaning.{same}
use Rattle.bg_cert.specs.declared.cert.Decision.{Decision}
use Rattle.bg_cert.specs.declared.cert.Decision.TheVariants.{Atom, AtMost}
use Rattle.bg_cert.specs.Paths.{PathOf, decides, clause_false, names_false, unit_false, row_of_decision, in_front, rows_on, denials}
use Rattle.bg_cert.specs.Certs.{NodeOf, is_there, accepts, root, bare, Accepts}
use Rattle.bg_cert.proofs.Tableless.{bare_accepted}
use Rattle.bg_cert.specs.Walks.{no_instance, path_of}
use Rattle.bg_conflict.specs.Picked.{ArePicked}
use Rattle.bg_conflict.proofs.Numbers.{derives_from}
use Rattle.bg_used.specs.Used.{same_decision, is_in, all_in, without, bump, row_place, place_if, places, Proof, ByClause, ByUnit, ByRows, OnAtom, OnBound, denials_of, denial_of, used, proves, nodes_on}

both : (a b : Bool) → (a && b) ≡ true → (a ≡ true) × (b ≡ true)
both true b h = (refl, h)
both false b h = absurd (cc)

neither : (a b : Bool) → (a || b) ≡ false → (a ≡ false) × (b ≡ false)
neither true b h = absurd (cc)
neither false b h = (refl, h)

-- ---- decisions

same_sign : (s t : Bool) → same s t ≡ true → s ≡ t
same_sign true true h = refl
same_sign true false h = absurd (cc)
same_sign false true h = absurd (cc)
same_sign false false h = refl

same_is : (d e : Decision) → same_decision d e ≡ true → d ≡ e
same_is (Atom a s) (Atom b t) h =
    let p = both (a == b) (same s t) h in
    let x : a ≡ b = let q = p.0 in grind (arith, nat_tests, q) in
    rw (x, same_sign s t p.1) refl
same_is (Atom a s) (AtMost x k t) h = absurd (cc)
same_is (AtMost x k s) (Atom b t) h = absurd (cc)
same_is (AtMost x k s) (AtMost y j t) h =
    let p = both (x == y) (int_eq k j && same s t) h in
    let q = both (int_eq k j) (same s t) p.1 in
    let u : x ≡ y = let z = p.0 in grind (arith, nat_tests, z) in
    let v : k ≡ j = let z = q.0 in grind (arith, ints, z) in
    rw (u, v, same_sign s t q.1) refl

in_append : (d : Decision) (xs ys : List Decision) → is_in d (xs ++ ys) ≡ (is_in d xs || is_in d ys)
in_append d [] ys = refl
in_append d (x ∷ xs) ys = by_same (same_decision d x) (in_append d xs ys)
  where
    by_same : (b : Bool) → is_in d (xs ++ ys) ≡ (is_in d xs || is_in d ys) → (b || is_in d (xs ++ ys)) ≡ ((b || is_in d xs) || is_in d ys)
    by_same true r = refl
    by_same false r = r

all_first : (es gs ds : List Decision) → all_in (es ++ gs) ds ≡ true → (all_in es ds ≡ true) × (all_in gs ds ≡ true)
all_first [] gs ds h = (refl, h)
all_first (e ∷ es) gs ds h =
    let p = both (is_in e ds) (all_in (es ++ gs) ds) h in
    let q = all_first es gs ds p.1 in
    (rw p.0 q.0, q.1)

or_right : (a b : Bool) → b ≡ true → (a || b) ≡ true
or_right true b h = refl
or_right false b h = h

or_left : (a b : Bool) → a ≡ true → (a || b) ≡ true
or_left true b h = refl
or_left false b h = absurd (cc)

and_of : (a b : Bool) → a ≡ true → b ≡ true → (a && b) ≡ true
and_of true b h k = k
and_of false b h k = absurd (cc)

-- what is used without a decision is there with it behind
all_more : (d : Decision) (es ds : List Decision) → all_in (without d es) ds ≡ true → all_in es (ds ++ (d ∷ [])) ≡ true
all_more d [] ds h = refl
all_more d (e ∷ es) ds h = by_same (λ g. all_more d es ds g) (same_decision e d) refl h
  where
    by_same : (all_in (without d es) ds ≡ true → all_in es (ds ++ (d ∷ [])) ≡ true) → (b : Bool) → same_decision e d ≡ b → all_in (cond b (without d es) (e ∷ without d es)) ds ≡ true → (is_in e (ds ++ (d ∷ [])) && all_in es (ds ++ (d ∷ []))) ≡ true
    by_same r true q k =
        and_of (is_in e (ds ++ (d ∷ []))) (all_in es (ds ++ (d ∷ []))) (in_append e ds (d ∷ []) ∙ or_right (is_in e ds) (same_decision e d || false) (or_left (same_decision e d) false q)) (r k)
    by_same r false q k =
        let p = both (is_in e ds) (all_in (without d es) ds) k in
        and_of (is_in e (ds ++ (d ∷ []))) (all_in es (ds ++ (d ∷ []))) (in_append e ds (d ∷ []) ∙ or_left (is_in e ds) (same_decision e d || false) p.0) (r p.1)

same_back : (d e : Decision) → same_decision e d ≡ true → same_decision d e ≡ true
same_back d e h = let q = same_is e d h in rw q (rw q at h)

-- what is used of a path's decisions but the last is there without it
all_fewer : (d : Decision) (es ds : List Decision) → all_in es (ds ++ (d ∷ [])) ≡ true → is_in d es ≡ false → all_in es ds ≡ true
all_fewer d [] ds h n = refl
all_fewer d (e ∷ es) ds h n =
    let p = both (is_in e (ds ++ (d ∷ []))) (all_in es (ds ++ (d ∷ []))) h in
    let m = neither (same_decision d e) (is_in d es) n in
    and_of (is_in e ds) (all_in es ds) (by_or (is_in e ds) (same_decision e d) (sym (in_append e ds (d ∷ [])) ∙ p.0) (by_back (same_decision e d) refl m.0)) (all_fewer d es ds p.1 m.1)
  where
    by_or : (a b : Bool) → (a || (b || false)) ≡ true → b ≡ false → a ≡ true
    by_or true b x y = refl
    by_or false true x y = absurd (cc)
    by_or false false x y = absurd (cc)

    by_back : (b : Bool) → same_decision e d ≡ b → same_decision d e ≡ false → b ≡ false
    by_back false x y = refl
    by_back true x y = absurd (let z = same_back d e x in cc)

-- ---- leaves

in_decides : (a : ℕ) (s : Bool) (ds : List Decision) → is_in (Atom a s) ds ≡ true → decides a s ds ≡ true
in_decides a s [] h = absurd (cc)
in_decides a s (Atom b t ∷ ds) h = by_same (λ g. in_decides a s ds g) (a == b && same s t) h
  where
    by_same : (is_in (Atom a s) ds ≡ true → decides a s ds ≡ true) → (x : Bool) → (x || is_in (Atom a s) ds) ≡ true → (x || decides a s ds) ≡ true
    by_same r true k = refl
    by_same r false k = r k
in_decides a s (AtMost x k t ∷ ds) h = in_decides a s ds h

clause_closed : (ds : List Decision) (c : List Literal) → all_in (denials c) ds ≡ true → clause_false ds c ≡ true
clause_closed ds [] h = refl
clause_closed ds (l ∷ ls) h =
    let p = both (is_in (Atom l.atom (not l.sign)) ds) (all_in (denials ls) ds) h in
    and_of (decides l.atom (not l.sign) ds) (clause_false ds ls) (in_decides l.atom (not l.sign) ds p.0) (clause_closed ds ls p.1)

named_closed : (ds : List Decision) (o : Option (List Literal)) → is_there o ≡ true → all_in (denials_of o) ds ≡ true → names_false ds o ≡ true
named_closed ds None t h = absurd (cc)
named_closed ds (Some c) t h = clause_closed ds c h

unit_closed : (ds : List Decision) (o : Option ℕ) → is_there o ≡ true → all_in (denial_of o) ds ≡ true → unit_false ds o ≡ true
unit_closed ds None t h = absurd (cc)
unit_closed ds (Some a) t h = in_decides a false ds (both (is_in (Atom a false) ds) true h).0

-- ---- derivations

row_there : (xs : List AtomOf) (d : Decision) (r : RowOf) (ds : List Decision) → is_in d ds ≡ true → row_of_decision xs d ≡ Some r → row_at (rows_on xs ds) (row_place (row_of_decision xs) d ds) ≡ Some r
row_there xs d r [] h e = absurd (cc)
row_there xs d r (c ∷ ds) h e = by_same (λ g. row_there xs d r ds g e) (same_decision d c) refl h
  where
    here : (o : Option RowOf) → o ≡ Some r → row_at (in_front o (rows_on xs ds)) 0 ≡ Some r
    here None q = absurd (cc)
    here (Some g) q = q

    behind : (is_in d ds ≡ true → row_at (rows_on xs ds) (row_place (row_of_decision xs) d ds) ≡ Some r) → (o : Option RowOf) → is_in d ds ≡ true → row_at (in_front o (rows_on xs ds)) (bump o (row_place (row_of_decision xs) d ds)) ≡ Some r
    behind v None k = v k
    behind v (Some g) k = v k

    by_same : (is_in d ds ≡ true → row_at (rows_on xs ds) (row_place (row_of_decision xs) d ds) ≡ Some r) → (b : Bool) → same_decision d c ≡ b → (b || is_in d ds) ≡ true → row_at (in_front (row_of_decision xs c) (rows_on xs ds)) (cond b 0 (bump (row_of_decision xs c) (row_place (row_of_decision xs) d ds))) ≡ Some r
    by_same v true q k = here (row_of_decision xs c) (subst (λ (z : Decision). row_of_decision xs z ≡ Some r) (same_is d c q) e)
    by_same v false q k = behind v (row_of_decision xs c) k

are_picked : (xs : List AtomOf) (es ds : List Decision) → all_in es ds ≡ true → ArePicked (rows_on xs ds) (places (row_of_decision xs) es ds) (rows_on xs es)
are_picked xs [] ds h = tt
are_picked xs (e ∷ es) ds h = by_row (are_picked xs es ds (both (is_in e ds) (all_in es ds) h).1) (row_of_decision xs e) refl
  where
    by_row : ArePicked (rows_on xs ds) (places (row_of_decision xs) es ds) (rows_on xs es) → (o : Option RowOf) → row_of_decision xs e ≡ o → ArePicked (rows_on xs ds) (place_if o (row_place (row_of_decision xs) e ds) (places (row_of_decision xs) es ds)) (in_front o (rows_on xs es))
    by_row v None q = v
    by_row v (Some r) q = (row_there xs e r ds (both (is_in e ds) (all_in es ds) h).0 q, v)

-- ---- proofs

closes_first : (x y : Bool) → x ≡ true → (x && y) ≡ y
closes_first true y h = refl
closes_first false y h = absurd (cc)

pub closed_where_used : (f : Formula) (set : ℕ → Bool) (p : Proof) (ds : List Decision) (ps : List PathOf) (rest : List NodeOf) → proves f set p ≡ true → all_in (used f p) ds ≡ true → accepts f set no_instance (path_of f ds ∷ ps) (nodes_on f ds p ++ rest) ≡ accepts f set no_instance ps rest
closed_where_used f set (ByClause c) ds ps rest h u = closes_first _ _ (named_closed ds (at f.clauses c) h u)
closed_where_used f set (ByUnit c) ds ps rest h u =
    let k = both (set c) (is_there (unit_atom f c)) h in
    closes_first _ _ (and_of (set c) (unit_false ds (unit_atom f c)) k.0 (unit_closed ds (unit_atom f c) k.1 u))
closed_where_used f set (ByRows es ss) ds ps rest h u =
    closes_first _ _ (derives_from (rows_on f.atoms ds) (places (row_of_decision f.atoms) es ds) (rows_on f.atoms es) [] false ss (are_picked f.atoms es ds u) h)
closed_where_used f set (OnAtom a p q) ds ps rest h u =
    let k = both (is_there (at f.atoms a)) (proves f set p && proves f set q) h in
    let l = both (proves f set p) (proves f set q) k.1 in
    let w = all_first (without (Atom a true) (used f p)) (without (Atom a false) (used f q)) ds u in
    closes_first _ _ k.0
    ∙ ap (accepts f set no_instance (path_of f (ds ++ (Atom a true ∷ [])) ∷ path_of f (ds ++ (Atom a false ∷ [])) ∷ ps)) (append_assoc (nodes_on f (ds ++ (Atom a true ∷ [])) p) (nodes_on f (ds ++ (Atom a false ∷ [])) q) rest)
    ∙ closed_where_used f set p (ds ++ (Atom a true ∷ [])) (path_of f (ds ++ (Atom a false ∷ [])) ∷ ps) (nodes_on f (ds ++ (Atom a false ∷ [])) q ++ rest) l.0 (all_more (Atom a true) (used f p) ds w.0)
    ∙ closed_where_used f set q (ds ++ (Atom a false ∷ [])) ps rest l.1 (all_more (Atom a false) (used f q) ds w.1)
closed_where_used f set (OnBound x b p q) ds ps rest h u =
    let k = both (nat_lt x f.terms) (proves f set p && proves f set q) h in
    let l = both (proves f set p) (proves f set q) k.1 in
    let w = all_first (without (AtMost x b true) (used f p)) (without (AtMost x b false) (used f q)) ds u in
    closes_first _ _ k.0
    ∙ ap (accepts f set no_instance (path_of f (ds ++ (AtMost x b true ∷ [])) ∷ path_of f (ds ++ (AtMost x b false ∷ [])) ∷ ps)) (append_assoc (nodes_on f (ds ++ (AtMost x b true ∷ [])) p) (nodes_on f (ds ++ (AtMost x b false ∷ [])) q) rest)
    ∙ closed_where_used f set p (ds ++ (AtMost x b true ∷ [])) (path_of f (ds ++ (AtMost x b false ∷ [])) ∷ ps) (nodes_on f (ds ++ (AtMost x b false ∷ [])) q ++ rest) l.0 (all_more (AtMost x b true) (used f p) ds w.0)
    ∙ closed_where_used f set q (ds ++ (AtMost x b false ∷ [])) ps rest l.1 (all_more (AtMost x b false) (used f q) ds w.1)

pub left_out : (f : Formula) (set : ℕ → Bool) (p : Proof) (ds : List Decision) (d : Decision) (ps : List PathOf) (rest : List NodeOf) → proves f set p ≡ true → all_in (used f p) (ds ++ (d ∷ [])) ≡ true → is_in d (used f p) ≡ false → accepts f set no_instance (path_of f ds ∷ ps) (nodes_on f ds p ++ rest) ≡ accepts f set no_instance ps rest
left_out f set p ds d ps rest h u n = closed_where_used f set p ds ps rest h (all_fewer d (used f p) ds u n)

pub at_root : (f : Formula) (set : ℕ → Bool) (p : Proof) → proves f set p ≡ true → all_in (used f p) [] ≡ true → Accepts f set no_instance (bare (nodes_on f [] p))
at_root f set p h u =
    bare_accepted f set no_instance (nodes_on f [] p) (ap (accepts f set no_instance (root f ∷ [])) (sym (append-nil (nodes_on f [] p))) ∙ closed_where_used f set p [] [] [] h u)

-- What a node tells, and what the loop over the nodes keeps.
use Rattle.std.proofs.Common.{◌≡◌, ℕ, ◌+◌, ◌<◌, Bool, true, false, ◌&&◌, List, [], ◌∷◌, ◌++◌, map, drop, length, get_or, refl, sym, ap, subst, ◌∙◌, drop-cons, add-one, length-append}
use Rattle.std.proofs.lemmas.List.{map-append}
use Rattle.std.specs.Prelude.{Result, Ok, Err, IfOk, Some, Vec}
use Rattle.std.specs.declared.alloc.Global.{Global}
use Rattle.bg_formula.specs.declared.atom.Literal.{Literal}
use Rattle.bg_formula.specs.Formulas.{Formula}
use Rattle.bg_formula.specs.Atoms.{at, view_linear}
use Rattle.bg_cert.specs.declared.cert.Decision.{Decision}
use Rattle.bg_cert.specs.declared.cert.Named.{Named}
use Rattle.bg_cert.specs.declared.cert.Node.TheVariants.{Split, Lemma}
use Rattle.bg_cert.specs.Paths.{PathOf, denials, with_denied, with_lemma}
use Rattle.bg_cert.specs.Walks.{no_instance}
use Rattle.bg_cert.proofs.Literals.{all_are_below, length_map}
use Rattle.bg_cert.specs.declared.cert.Node.{Node}
use Rattle.bg_cert.specs.declared.cert.Cert.{Cert}
use Rattle.bg_cert.specs.declared.tour.Tour.{Tour}
use Rattle.bg_cert.specs.Certs.{NodeOf, Splits, Bounds, Cuts, Learns, Adds, IsClause, IsUnit, IsKnown, Derives, node_of, accepts, all_there, lemma_of}
use Rattle.bg_cert.specs.Tours.{Tells, TellsLeaf, literals_of, lemma_at, path_in, stack_of, others_of, decided_on, known_on, atoms_on, all_below}

abbrev is_leaf : NodeOf → Bool
is_leaf (IsClause c) = true
is_leaf (IsUnit c) = true
is_leaf (IsKnown i) = true
is_leaf (Derives steps) = true
is_leaf n = false

leaf_tells : (f : Formula) (set : ℕ → Bool) (cert : Cert) (old new : Tour) (n : NodeOf) (done : Bool) → old.is_open ≡ true → is_leaf n ≡ true → TellsLeaf f set cert old new n done → Tells f set cert old new n done
leaf_tells f set cert old new (IsClause c) done o l t rest = rw o (t rest)
leaf_tells f set cert old new (IsUnit c) done o l t rest = rw o (t rest)
leaf_tells f set cert old new (IsKnown i) done o l t rest = rw o (t rest)
leaf_tells f set cert old new (Derives steps) done o l t rest = rw o (t rest)
leaf_tells f set cert old new (Splits a) done o l t rest = absurd (cc)
leaf_tells f set cert old new (Bounds x k) done o l t rest = absurd (cc)
leaf_tells f set cert old new (Cuts r) done o l t rest = absurd (cc)
leaf_tells f set cert old new (Learns ls) done o l t rest = absurd (cc)
leaf_tells f set cert old new (Adds i) done o l t rest = absurd (cc)

pub map_ok : {A E : Type 0} (P Q : A → Type 0) (r : Result A E) → ((a : A) → P a → Q a) → IfOk r P → IfOk r Q
map_ok P Q (Ok a) f h = f a h
map_ok P Q (Err e) f h = h

pub leaf_told : {E : Type 0} (f : Formula) (set : ℕ → Bool) (cert : Cert) (old new : Tour) (n : Node) (r : Result Bool E) → old.is_open ≡ true → is_leaf (node_of n) ≡ true → IfOk r (λ done. TellsLeaf f set cert old new (node_of n) done) → IfOk r (λ done. Tells f set cert old new (node_of n) done)
leaf_told f set cert old new n r o l h =
    map_ok (λ done. TellsLeaf f set cert old new (node_of n) done) (λ done. Tells f set cert old new (node_of n) done) r (λ done t. leaf_tells f set cert old new (node_of n) done o l t) h

-- what a lemma tells
lemma_tells : (f : Formula) (set : ℕ → Bool) (cert : Cert) (old new : Tour) (v : Vec Named Global) (k : ℕ) (done : Bool) → old.is_open ≡ true → at cert.nodes.items k ≡ Some (Lemma v) → atoms_on old ≡ length f.atoms + length cert.table.items → done ≡ all_below (atoms_on old) (lemma_of (length f.atoms) v.items) → (done ≡ true → (path : List Decision → List ℕ → PathOf) → stack_of path new ≡ path (decided_on old ++ denials (lemma_of (length f.atoms) v.items)) (known_on old) ∷ path (decided_on old) (known_on old ++ (k ∷ [])) ∷ others_of path old) → Tells f set cert old new (Learns v.items) done
lemma_tells f set cert old new v k done o at_k sized below stack rest =
    let L = lemma_of (length f.atoms) v.items in
    let path = path_in f cert in
    let p = path (decided_on old) (known_on old) in
    let m : length p.atoms ≡ atoms_on old = length-append f.atoms (map view_linear cert.table.items) ∙ ap (λ n. length f.atoms + n) (length_map view_linear cert.table.items) ∙ sym sized in
    let there : all_there p.atoms L ≡ done = all_are_below p.atoms L ∙ ap (λ n. all_below n L) m ∙ sym below in
    let one : lemma_at (length f.atoms) cert.nodes.items k ≡ L = ap (λ n. lemma_of (length f.atoms) (literals_of n)) at_k in
    let known : with_lemma p L ≡ path (decided_on old) (known_on old ++ (k ∷ [])) =
    ap (λ ls. record p { lemmas = ls }) (ap (λ l. p.lemmas ++ (l ∷ [])) (sym one) ∙ sym (map-append (lemma_at (length f.atoms) cert.nodes.items) (known_on old) (k ∷ []))) in
    rw o (ap (λ b. b && accepts f set no_instance (with_denied p L ∷ with_lemma p L ∷ others_of path old) rest) there
    ∙ by_done done (λ e. ap (λ q. accepts f set no_instance (with_denied p L ∷ q ∷ others_of path old) rest) known ∙ ap (λ ps. accepts f set no_instance ps rest) (sym (stack e path))))
  where
    by_done : (b : Bool) {x y : Bool} → (b ≡ true → x ≡ y) → (b && x) ≡ (b && y)
    by_done true h = h refl
    by_done false h = refl

pub lemma_told : {E : Type 0} (f : Formula) (set : ℕ → Bool) (cert : Cert) (old new : Tour) (n : Node) (v : Vec Named Global) (L : List Literal) (k : ℕ) (r : Result Bool E) → n ≡ Lemma v → L ≡ lemma_of (length f.atoms) v.items → old.is_open ≡ true → at cert.nodes.items k ≡ Some n → atoms_on old ≡ length f.atoms + length cert.table.items → IfOk r (λ done. done ≡ all_below (atoms_on old) L) → IfOk r (λ done. done ≡ true → (path : List Decision → List ℕ → PathOf) → stack_of path new ≡ path (decided_on old ++ denials L) (known_on old) ∷ path (decided_on old) (known_on old ++ (k ∷ [])) ∷ others_of path old) → IfOk r (λ done. Tells f set cert old new (node_of n) done)
lemma_told f set cert old new n v L k (Ok done) e l o at_k sized below stack =
    subst (λ m. Tells f set cert old new (node_of m) done) (sym e) (lemma_tells f set cert old new v k done o (at_k ∙ ap Some e) sized (below ∙ ap (all_below (atoms_on old)) l) (λ t path. stack t path ∙ ap (λ x. path (decided_on old ++ denials x) (known_on old) ∷ path (decided_on old) (known_on old ++ (k ∷ [])) ∷ others_of path old) l))
lemma_told f set cert old new n v L k (Err x) e l o at_k sized below stack = stack

-- the nodes from one on
pub nodes_from : (ns : List Node) (i : ℕ) (d : Node) → i < length ns → map node_of (drop i ns) ≡ node_of (get_or ns i d) ∷ map node_of (drop (i + 1) ns)
nodes_from ns i d h = rw (drop-cons ns i d h, add-one) refl

first_is : (g : List NodeOf → Bool) (ns : List Node) (i : ℕ) (d : Node) → i < length ns → d ≡ get_or ns i d → g (map node_of (drop i ns)) ≡ g (node_of d ∷ map node_of (drop (i + 1) ns))
first_is g ns i d h e = ap g (nodes_from ns i d h ∙ ap (λ n. node_of n ∷ map node_of (drop (i + 1) ns)) (sym e))

pub refuses : (g : List NodeOf → Bool) (ns : List Node) (i : ℕ) (d : Node) → i < length ns → d ≡ get_or ns i d → (done x : Bool) → g (node_of d ∷ map node_of (drop (i + 1) ns)) ≡ (done && x) → done ≡ false → (r : Bool) → g (map node_of (drop i ns)) ≡ r → false ≡ r
refuses g ns i d h e done x t f r k = sym (sym k ∙ first_is g ns i d h e ∙ t ∙ ap (λ b. b && x) f)

pub goes_on : (g : List NodeOf → Bool) (ns : List Node) (i : ℕ) (d : Node) → i < length ns → d ≡ get_or ns i d → (done x : Bool) → g (node_of d ∷ map node_of (drop (i + 1) ns)) ≡ (done && x) → done ≡ true → (r : Bool) → g (map node_of (drop i ns)) ≡ r → x ≡ r
goes_on g ns i d h e done x t f r k = sym (sym k ∙ first_is g ns i d h e ∙ t ∙ ap (λ b. b && x) f)

-- no node may stand where no path is open
pub past_end : (f : Formula) (set : ℕ → Bool) (ps : List PathOf) (ns : List Node) (i : ℕ) → i < length ns → ps ≡ [] → (r : Bool) → accepts f set no_instance ps (map node_of (drop i ns)) ≡ r → false ≡ r
past_end f set ps ns i h e r k =
    sym (sym k ∙ ap (λ qs. accepts f set no_instance qs (map node_of (drop i ns))) e ∙ ap (accepts f set no_instance []) (nodes_from ns i (Split 0) h))

-- Nodes that are seen, of which the lemmas alone are kept.
use Rattle.std.proofs.Common.{◌≡◌, ℕ, zero, suc, ◌≤◌, ◌<◌, Bool, true, false, not, ◌&&◌, cond, List, [], ◌∷◌, ◌++◌, map, take, length, get_or, refl, sym, ap, ◌∙◌, arith, append_assoc}
use Rattle.std.specs.Prelude.{All, Vec}
use Rattle.std.specs.declared.alloc.Global.{Global}
use Rattle.bg_formula.specs.declared.atom.Linear.{Linear}
use Rattle.bg_formula.specs.Formulas.{Formula, rows_below}
use Rattle.bg_formula.specs.Atoms.{at, view_linear}
use Rattle.bg_cert.specs.declared.cert.Decision.{Decision}
use Rattle.bg_cert.specs.declared.cert.Node.{Node}
use Rattle.bg_cert.specs.declared.cert.Cert.{Cert}
use Rattle.bg_cert.specs.declared.tour.Turn.{Turn}
use Rattle.bg_cert.specs.declared.tour.Turn.TheVariants.{Decides, Learns}
use Rattle.bg_cert.specs.declared.tour.Later.{Later}
use Rattle.bg_cert.specs.declared.tour.Tour.{Tour}
use Rattle.bg_cert.specs.Paths.{PathOf}
use Rattle.bg_cert.specs.Certs.{NodeOf, accepts, cert_of, lemma_of, root_with}
use Rattle.bg_cert.specs.Walks.{no_instance}
use Rattle.bg_cert.specs.Tours.{literals_of, lemma_at, path_in, learned_by, decided_by, later_path, below, stack_of, others_of, decided_on, known_on, Tells}
use Rattle.bg_cert.specs.Written.{IsClosed, TurnBelow, KnowsBelow, Seen}
use Rattle.bg_cert.proofs.Sound.{table_agrees}

all_none : {A : Type 0} (P : A → Type 0) → All P []
all_none P k d l = absurd (omega (arith, l))

all_cons : {A : Type 0} (P : A → Type 0) (x : A) (xs : List A) → P x → All P xs → All P (x ∷ xs)
all_cons P x xs p h zero d l = p
all_cons P x xs p h (suc k) d l = h k d (omega (arith, l))

all_head : {A : Type 0} (P : A → Type 0) (x : A) (xs : List A) → All P (x ∷ xs) → P x
all_head P x xs h = h 0 x (omega arith)

all_tail : {A : Type 0} (P : A → Type 0) (x : A) (xs : List A) → All P (x ∷ xs) → All P xs
all_tail P x xs h k d l = h (suc k) d (omega (arith, l))

all_map : {A : Type 0} (P Q : A → Type 0) → ((x : A) → P x → Q x) → (xs : List A) → All P xs → All Q xs
all_map P Q f xs h k d l = f (get_or xs k d) (h k d l)

at_kept : {A : Type 0} (xs ys : List A) (k : ℕ) → k < length xs → at (xs ++ ys) k ≡ at xs k
at_kept [] ys k h = absurd (omega arith)
at_kept (x ∷ xs) ys zero h = refl
at_kept (x ∷ xs) ys (suc k) h = at_kept xs ys k (omega arith)

-- lemmas that are there stay where nodes come behind
lemmas_kept : (n : ℕ) (xs ys : List Node) (known : List ℕ) → All (λ k. k < length xs) known → map (lemma_at n (xs ++ ys)) known ≡ map (lemma_at n xs) known
lemmas_kept n xs ys [] h = refl
lemmas_kept n xs ys (k ∷ known) h =
    let P : ℕ → Type 0 = λ i. i < length xs in
    ap (λ l. lemma_of n (literals_of l) ∷ map (lemma_at n (xs ++ ys)) known) (at_kept xs ys k (all_head P k known h))
    ∙ ap (λ ls. lemma_at n xs k ∷ ls) (lemmas_kept n xs ys known (all_tail P k known h))

path_kept : (f : Formula) (few many : Cert) (more : List Node) → many.table ≡ few.table → many.nodes.items ≡ few.nodes.items ++ more → (ds : List Decision) (known : List ℕ) → All (λ k. k < length few.nodes.items) known → path_in f many ds known ≡ path_in f few ds known
path_kept f few many more t e ds known h =
    let n = length f.atoms in
    rw (t, e) (ap (λ ls. record (path_in f few ds known) { lemmas = ls }) (lemmas_kept n few.nodes.items more known h))

all_take : (P : ℕ → Type 0) (n : ℕ) (xs : List ℕ) → All P xs → All P (take n xs)
all_take P zero xs h = all_none P
all_take P (suc n) [] h = all_none P
all_take P (suc n) (x ∷ xs) h = all_cons P x (take n xs) (all_head P x xs h) (all_take P n xs (all_tail P x xs h))

all_both : (P : ℕ → Type 0) (xs ys : List ℕ) → All P xs → All P ys → All P (xs ++ ys)
all_both P [] ys h g = g
all_both P (x ∷ xs) ys h g = all_cons P x (xs ++ ys) (all_head P x xs h) (all_both P xs ys (all_tail P x xs h) g)

turn_known : (m : ℕ) (turn : Turn) → TurnBelow m turn → All (λ k. k < m) (learned_by turn)
turn_known m (Decides d) h = all_none (λ k. k < m)
turn_known m (Learns k) h = all_cons (λ i. i < m) k [] h (all_none (λ i. i < m))

below_kept : (p q : List Decision → List ℕ → PathOf) (m : ℕ) → ((ds : List Decision) (known : List ℕ) → All (λ k. k < m) known → p ds known ≡ q ds known) → (trail : List Decision) (known : List ℕ) → All (λ k. k < m) known → (ws : List Later) → All (λ w. TurnBelow m w.turn) ws → (others : List PathOf) → below p trail known ws others ≡ below q trail known ws others
below_kept p q m e trail known h [] g others = refl
below_kept p q m e trail known h (w ∷ ws) g others =
    let P : ℕ → Type 0 = λ k. k < m in
    let Q : Later → Type 0 = λ u. TurnBelow m u.turn in
    ap (λ u. below p trail known ws (u ∷ others)) (e (take w.depth trail ++ decided_by w.turn) (take w.known known ++ learned_by w.turn) (all_both P (take w.known known) (learned_by w.turn) (all_take P w.known known h) (turn_known m w.turn (all_head Q w ws g))))
    ∙ below_kept p q m e trail known h ws (all_tail Q w ws g) (later_path q trail known w ∷ others)

stack_kept : (f : Formula) (few many : Cert) (more : List Node) → many.table ≡ few.table → many.nodes.items ≡ few.nodes.items ++ more → (t : Tour) → KnowsBelow (length few.nodes.items) t → stack_of (path_in f many) t ≡ stack_of (path_in f few) t
stack_kept f few many more e g t h =
    let same = path_kept f few many more e g in
    ap (λ p. cond t.is_open (p ∷ below (path_in f many) (decided_on t) (known_on t) t.waiting.items []) []) (same (decided_on t) (known_on t) h.known)
    ∙ ap (λ ps. cond t.is_open (path_in f few (decided_on t) (known_on t) ∷ ps) []) (below_kept (path_in f many) (path_in f few) (length few.nodes.items) same (decided_on t) (known_on t) h.known t.waiting.items h.waiting [])

turn_more : (m n : ℕ) → m ≤ n → (turn : Turn) → TurnBelow m turn → TurnBelow n turn
turn_more m n le (Decides d) h = tt
turn_more m n le (Learns k) h = omega arith

pub knows_more : (m n : ℕ) → m ≤ n → (t : Tour) → KnowsBelow m t → KnowsBelow n t
knows_more m n le t h =
    record {
      known = all_map (λ k. k < m) (λ k. k < n) (λ k b. omega (arith, b, le)) (known_on t) h.known;
      waiting = all_map (λ (w : Later). TurnBelow m w.turn) (λ w. TurnBelow n w.turn) (λ w b. turn_more m n le w.turn b) t.waiting.items h.waiting;
    }

-- one node more is seen: what is kept before it, with it, and after it
pub seen_more : (f : Formula) (set : ℕ → Bool) (before at_it after : Cert) (old new : Tour) (n : NodeOf) (more gone : List Node) → at_it.table ≡ before.table → at_it.table ≡ after.table → at_it.nodes.items ≡ before.nodes.items ++ more → at_it.nodes.items ≡ after.nodes.items ++ gone → KnowsBelow (length before.nodes.items) old → KnowsBelow (length after.nodes.items) new → Tells f set at_it old new n true → Seen f set before old → Seen f set after new
seen_more f set before at_it after old new n more gone t u e g h k tells s =
    record {
      nodes = s.nodes ++ (n ∷ []);
      told = λ rest.
          let roots = ap (λ ls. accepts f set no_instance (root_with f ls ∷ []) ((s.nodes ++ (n ∷ [])) ++ rest)) (ap (λ x. (cert_of (record before { table = x })).table) (sym u ∙ t)) in
          roots
          ∙ ap (accepts f set no_instance (root_with f (cert_of before).table ∷ [])) (append_assoc s.nodes (n ∷ []) rest)
          ∙ s.told (n ∷ rest)
          ∙ ap (λ ps. accepts f set no_instance ps (n ∷ rest)) (sym (stack_kept f before at_it more t e old h))
          ∙ tells rest
          ∙ ap (λ ps. accepts f set no_instance ps rest) (stack_kept f after at_it gone u g new k);
    }

-- where no path is open, the nodes that are seen are a certificate
pub closed_by : (f : Formula) (set : ℕ → Bool) (table : Vec Linear Global) (kept : Cert) (t : Tour) → kept.table ≡ table → rows_below f.terms (map view_linear table.items) ≡ true → not t.is_open ≡ true → Seen f set kept t → IsClosed f set
closed_by f set table kept t e below o s =
    let shut : t.is_open ≡ false = by_open t.is_open o in
    let none : stack_of (path_in f kept) t ≡ [] = ap (λ b. cond b (path_in f kept (decided_on t) (known_on t) ∷ others_of (path_in f kept) t) []) shut in
    let rows : rows_below f.terms (map view_linear kept.table.items) ≡ true = ap (λ v. rows_below f.terms (map view_linear v.items)) e ∙ below in
    let tree : accepts f set no_instance (root_with f (cert_of kept).table ∷ []) (s.nodes ++ []) ≡ true = s.told [] ∙ ap (λ ps. accepts f set no_instance ps []) none in
    record {
      cert = record { table = (cert_of kept).table; nodes = s.nodes ++ [] };
      agree = table_agrees kept.table.items;
      accepted = ap (λ b. b && accepts f set no_instance (root_with f (cert_of kept).table ∷ []) (s.nodes ++ [])) rows ∙ tree;
    }
  where
    by_open : (b : Bool) → not b ≡ true → b ≡ false
    by_open true h = absurd (let bad : false ≡ true = h in cc)
    by_open false h = refl

-- The checker's state, as the paths that are open.
use Rattle.std.specs.Prelude.{◌≡◌, ℕ, ◌≤◌, Bool, true, ◌&&◌, cond, List, [], ◌∷◌, ◌++◌, map, take, length, Option, Some, None, nat_lt, if◌then◌else◌}
use Rattle.bg_formula.specs.declared.atom.Literal.{Literal}
use Rattle.bg_formula.specs.Formulas.{Formula}
use Rattle.bg_formula.specs.Atoms.{at}
use Rattle.bg_cert.specs.declared.cert.Decision.{Decision}
use Rattle.bg_cert.specs.declared.cert.Named.{Named}
use Rattle.bg_cert.specs.declared.cert.Node.{Node}
use Rattle.bg_cert.specs.declared.cert.Cert.{Cert}
use Rattle.bg_cert.specs.declared.cert.Node.TheVariants.{Lemma}
use Rattle.bg_cert.specs.declared.tour.Turn.{Turn}
use Rattle.bg_cert.specs.declared.tour.Turn.TheVariants.{Decides, Learns}
use Rattle.bg_cert.specs.declared.tour.Later.{Later}
use Rattle.bg_cert.specs.declared.tour.Tour.{Tour}
use Rattle.bg_cert.specs.Paths.{PathOf}
use Rattle.bg_cert.specs.Counts.{Fits}
use Rattle.bg_cert.specs.Certs.{NodeOf, accepts, closes, cert_of, lemma_of}
use Rattle.bg_cert.specs.Walks.{no_instance}

-- the literals of a node that is a lemma; another has none
abbrev pub literals_of : Option Node → List Named
literals_of (Some (Lemma ls)) = ls.items
literals_of _ = []

-- the lemma of a node's number
abbrev pub lemma_at : ℕ → List Node → ℕ → List Literal
lemma_at n nodes k = lemma_of n (literals_of (at nodes k))

-- the path of a certificate's tree that made these decisions and knows the lemmas of these nodes
abbrev pub path_in : Formula → Cert → List Decision → List ℕ → PathOf
path_in f cert trail known =
    record {
      atoms = f.atoms ++ (cert_of cert).table;
      clauses = f.clauses;
      decided = trail;
      lemmas = map (lemma_at (length f.atoms) cert.nodes.items) known;
    }

-- what a turn adds
abbrev pub decided_by : Turn → List Decision
decided_by (Decides d) = d ∷ []
decided_by (Learns k) = []

abbrev pub learned_by : Turn → List ℕ
learned_by (Decides d) = []
learned_by (Learns k) = k ∷ []

abbrev pub later_path : (List Decision → List ℕ → PathOf) → List Decision → List ℕ → Later → PathOf
later_path path trail known w =
    path (take w.depth trail ++ decided_by w.turn) (take w.known known ++ learned_by w.turn)

-- the paths that wait, the last one first, in front of others
abbrev pub below : (List Decision → List ℕ → PathOf) → List Decision → List ℕ → List Later → List PathOf → List PathOf
below path trail known [] others = others
below path trail known (w ∷ ws) others = below path trail known ws (later_path path trail known w ∷ others)

abbrev pub decided_on : Tour → List Decision
decided_on t = t.trail.decisions.items

abbrev pub known_on : Tour → List ℕ
known_on t = t.lemmas.items

abbrev pub atoms_on : Tour → ℕ
atoms_on t = length t.trail.counts.items

-- the paths that wait behind the open one
abbrev pub others_of : (List Decision → List ℕ → PathOf) → Tour → List PathOf
others_of path t = below path (decided_on t) (known_on t) t.waiting.items []

-- the paths that are open, the next one first
abbrev pub stack_of : (List Decision → List ℕ → PathOf) → Tour → List PathOf
stack_of path t = cond t.is_open (path (decided_on t) (known_on t) ∷ others_of path t) []

-- depths and numbers of lemmas do not fall
abbrev pub Rising : ℕ → ℕ → List Later → Type 0
Rising low few [] = Unit {0}
Rising low few (w ∷ ws) = (low ≤ w.depth) × (few ≤ w.known) × Rising w.depth w.known ws

abbrev pub AtMostDeep : ℕ → ℕ → List Later → Type 0
AtMostDeep high many [] = Unit {0}
AtMostDeep high many (w ∷ ws) = (w.depth ≤ high) × (w.known ≤ many) × AtMostDeep high many ws

abbrev pub FitsTurn : ℕ → Turn → Type 0
FitsTurn n (Decides d) = Fits n d
FitsTurn n (Learns k) = Unit {0}

abbrev pub AllFit : ℕ → List Later → Type 0
AllFit n [] = Unit {0}
AllFit n (w ∷ ws) = FitsTurn n w.turn × AllFit n ws

pub record IsTour (t : Tour) : Type 0 where
  pub rising : Rising 0 0 t.waiting.items
  pub within : AtMostDeep (length (decided_on t)) (length (known_on t)) t.waiting.items
  pub fits : AllFit (atoms_on t) t.waiting.items

-- what a leaf tells of the certificates that begin with it
abbrev pub TellsLeaf : Formula → (ℕ → Bool) → Cert → Tour → Tour → NodeOf → Bool → Type 0
TellsLeaf f set cert old new n done =
    (rest : List NodeOf) →
    (closes f set (path_in f cert (decided_on old) (known_on old)) n && accepts f set no_instance (others_of (path_in f cert) old) rest)
    ≡ (done && accepts f set no_instance (stack_of (path_in f cert) new) rest)

-- what a node tells of the certificates that begin with it
abbrev pub Tells : Formula → (ℕ → Bool) → Cert → Tour → Tour → NodeOf → Bool → Type 0
Tells f set cert old new n done =
    (rest : List NodeOf) →
    accepts f set no_instance (stack_of (path_in f cert) old) (n ∷ rest) ≡ (done && accepts f set no_instance (stack_of (path_in f cert) new) rest)

-- the place of a literal's atom among the first m, if it is there
abbrev pub place_in : ℕ → Literal → Option ℕ
place_in m l = if nat_lt l.atom m then Some l.atom else None

-- each literal's atom is one of the first m
abbrev pub all_below : ℕ → List Literal → Bool
all_below m [] = true
all_below m (l ∷ ls) = nat_lt l.atom m && all_below m ls

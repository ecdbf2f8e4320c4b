-- How the search keeps count.
use Rattle.std.specs.Prelude.{◌≡◌, ℕ, ◌+◌, ◌<◌, Bool, true, false, not, cond, List, [], ◌∷◌, ◌++◌, ◌⊎◌, reverse}
use Rattle.bg_formula.specs.Formulas.{Formula}
use Rattle.bg_cert.specs.Paths.{PathOf}
use Rattle.bg_cert.specs.Causes.{any_false, units_of}
use Rattle.bg_tree.specs.declared.book.Head.{Head}
use Rattle.bg_tree.specs.declared.book.Head.TheVariants.{First, Next, Paid, Due}
use Rattle.bg_tree.specs.declared.book.Book.{Book}
use Rattle.bg_tree.specs.Counts.{Beside, Alone, After, cost, passed}

abbrev pub beside : Head → Beside
beside First = Alone
beside Next = After true
beside Paid = After false
beside Due = After false

-- the paths that wait are second children of nodes whose first children have nodes below them
abbrev pub waits : List Bool → List Beside
waits [] = []
waits (b ∷ bs) = After false ∷ waits bs

abbrev pub besides : List PathOf → Book → List Beside
besides [] b = []
besides (p ∷ ps) b = beside b.head ∷ waits b.owed.items

abbrev pub one : Bool → ℕ
one b = cond b 1 0

abbrev pub paid : List Bool → ℕ
paid [] = 0
paid (b ∷ bs) = one b + paid bs

abbrev pub paid_at : Head → ℕ
paid_at First = 0
paid_at Next = 0
paid_at Paid = 1
paid_at Due = 0

-- how many nodes may count yet, with those paid for
abbrev pub value : Book → ℕ
value b = b.left + (paid_at b.head + paid b.owed.items)

-- the second child of a node that isn't paid for is false, that of another one isn't
abbrev pub IsOwed : Formula → (ℕ → Bool) → PathOf → Bool → Type 0
IsOwed f set p b = any_false p.decided (p.clauses ++ units_of f set) ≡ not b

abbrev pub HeadOwed : Formula → (ℕ → Bool) → PathOf → Head → Type 0
HeadOwed f set p First = Unit {0}
HeadOwed f set p Next = Unit {0}
HeadOwed f set p Paid = IsOwed f set p true
HeadOwed f set p Due = IsOwed f set p false

abbrev pub AllOwed : Formula → (ℕ → Bool) → List PathOf → List Bool → Type 0
AllOwed f set [] [] = Unit {0}
AllOwed f set [] (b ∷ bs) = ⊥
AllOwed f set (p ∷ ps) [] = ⊥
AllOwed f set (p ∷ ps) (b ∷ bs) = IsOwed f set p b × AllOwed f set ps bs

-- a node can count yet where a second child's sibling is a closed leaf, or will be
abbrev pub HasRoom : Head → List Bool → ℕ → Type 0
HasRoom Next bs n = 0 < n
HasRoom First (b ∷ bs) n = 0 < n + one b
HasRoom _ bs n = Unit {0}

abbrev pub IsBook : Formula → (ℕ → Bool) → List PathOf → Book → Type 0
IsBook f set [] b = (b.head ≡ First) × (b.owed.items ≡ [])
IsBook f set (p ∷ ps) b = HeadOwed f set p b.head × (AllOwed f set ps (reverse b.owed.items) × HasRoom b.head (reverse b.owed.items) b.left)

-- a second child behind a first one that is no closed leaf
abbrev pub is_late : Head → Bool
is_late First = false
is_late Next = false
is_late Paid = true
is_late Due = true

abbrev pub is_paid : Head → Bool
is_paid First = false
is_paid Next = false
is_paid Paid = true
is_paid Due = false

abbrev pub IsLate : List PathOf → Head → Type 0
IsLate [] h = Unit {0}
IsLate (p ∷ ps) h = is_late h ≡ true

abbrev pub head_of : Bool → Head
head_of true = Paid
head_of false = Due

-- the next path's node is taken from those owed
pub record IsTaken (old new : Book) : Type 0 where
  pub left : new.left ≡ old.left
  pub taken : ((old.owed.items ≡ []) × (new.owed.items ≡ []) × (new.head ≡ First)) ⊎ ((b : Bool) × (old.owed.items ≡ new.owed.items ++ (b ∷ [])) × (new.head ≡ head_of b))

-- a first child that is a closed leaf spares the payment
abbrev pub spares : Head → Bool → Bool
spares First c = c
spares _ c = false

abbrev pub spared : Head → Head
spared First = First
spared Next = Next
spared Paid = Next
spared Due = Next

-- a path's part is made: what the next paths' nodes are
pub record Passes (old : Book) (c : Bool) (new : Book) : Type 0 where
  pub counts : cost (beside old.head) c + value new ≡ value old
  pub stack : (f : Formula) (set : ℕ → Bool) (ps : List PathOf) → AllOwed f set ps (reverse old.owed.items) → IsBook f set ps new × (passed (beside old.head) c (waits old.owed.items) ≡ besides ps new)
  pub late : (f : Formula) (set : ℕ → Bool) (ps : List PathOf) → AllOwed f set ps (reverse old.owed.items) → (is_late old.head ≡ true) ⊎ (c ≡ false) → IsLate ps new.head
  pub same : (old.head ≡ Due) ⊎ (c ≡ false) → new.left ≡ old.left

-- Clauses of forms, with names for the parts that stand in a clause with others.
use Rattle.std.specs.Prelude.{ℕ, suc, Bool, true, false, not, ◌==◌, ◌&&◌, ◌||◌, if◌then◌else◌, List, [], ◌∷◌, ◌++◌}
use Rattle.bg_formula.specs.declared.atom.Literal.{Literal}
use Rattle.bg_formula.specs.Meaning.{same}
use Rattle.bg_forms.specs.Forms.{Form, Plain, Is, NotSo, Both, Same, opposite}

abbrev pub names : ℕ → Literal
names n = record { atom = n; sign = true }

abbrev pub denies : ℕ → Literal
denies n = record { atom = n; sign = false }

-- the literal that stands for a form: a literal for itself, and for any other one the denial of a new name
abbrev pub name_of : Form → ℕ → Literal
name_of (Is l) n = l
name_of f n = denies n

-- the next free name behind that of a form
abbrev pub next_of : Form → ℕ → ℕ
next_of (Is l) n = n
next_of f n = suc n

-- the next free name behind those of what tells in both ways what a form is worth
abbrev pub after_defined : Form → ℕ → ℕ
after_defined (Plain b) n = n
after_defined (Is l) n = n
after_defined (NotSo f) n = after_defined f n
after_defined (Both f g) n = after_defined g (after_defined f (next_of g (next_of f n)))
after_defined (Same f g) n = after_defined g (after_defined f (next_of g (next_of f n)))

-- the next free name behind those of clauses that say that a form is worth s
abbrev pub after_as : Bool → Form → ℕ → ℕ
after_as s (Plain b) n = n
after_as s (Is l) n = n
after_as s (NotSo f) n = after_as (not s) f n
after_as s (Both f g) n =
    if s then after_as true g (after_as true f n) else after_as false g (after_as false f (next_of f n))
after_as s (Same f g) n = after_defined g (after_defined f (next_of g (next_of f n)))

-- the next free name behind those of a form that is true
abbrev pub after : Form → ℕ → ℕ
after f n = after_as true f n

abbrev pub literal_eq : Literal → Literal → Bool
literal_eq k l = k.atom == l.atom && same k.sign l.sign

abbrev pub is_among : List Literal → Literal → Bool
is_among [] l = false
is_among (k ∷ ks) l = literal_eq k l || is_among ks l

-- some literal stands beside its denial
abbrev pub clashes : List Literal → Bool
clashes [] = false
clashes (l ∷ ls) = is_among ls (opposite l) || clashes ls

-- each literal once
abbrev pub distinct : List Literal → List Literal
distinct [] = []
distinct (l ∷ ls) = if is_among ls l then distinct ls else l ∷ distinct ls

-- the clause of these literals, if it says anything
abbrev pub clause_of : List Literal → List (List Literal)
clause_of ls = if clashes ls then [] else distinct ls ∷ []

-- the literal, or its denial where s is false
abbrev pub signed_as : Bool → Literal → Literal
signed_as s l = if s then l else opposite l

-- clauses that say that one of the literals ls is true or that k and l are worth the same
abbrev pub equal_clauses : List Literal → Literal → Literal → List (List Literal)
equal_clauses ls k l =
    clause_of (ls ++ opposite k ∷ l ∷ []) ++ clause_of (ls ++ k ∷ opposite l ∷ [])

-- clauses that say that k is worth what both l and m are worth
abbrev pub both_clauses : Literal → Literal → Literal → List (List Literal)
both_clauses k l m =
    clause_of (opposite k ∷ l ∷ [])
    ++ (clause_of (opposite k ∷ m ∷ []) ++ clause_of (k ∷ opposite l ∷ opposite m ∷ []))

-- clauses that say that k is worth whether l and m are worth the same
abbrev pub same_clauses : Literal → Literal → Literal → List (List Literal)
same_clauses k l m = equal_clauses (opposite k ∷ []) l m ++ equal_clauses (k ∷ []) l (opposite m)

-- clauses that say in both ways that the literal k is worth what the form is, where the names from n on are free
abbrev pub defined : Literal → Form → ℕ → List (List Literal)
defined k (Plain b) n = clause_of (signed_as b k ∷ [])
defined k (Is l) n = equal_clauses [] k l
defined k (NotSo f) n = defined (opposite k) f n
defined k (Both f g) n =
    let m = next_of f n in
    let a = next_of g m in
    both_clauses k (name_of f n) (name_of g m)
    ++ (defined (name_of f n) f a ++ defined (name_of g m) g (after_defined f a))
defined k (Same f g) n =
    let m = next_of f n in
    let a = next_of g m in
    same_clauses k (name_of f n) (name_of g m)
    ++ (defined (name_of f n) f a ++ defined (name_of g m) g (after_defined f a))

-- clauses that say that one of the literals is true or the form is worth s, where the names from n on are free
abbrev pub emitted_as : Bool → List Literal → Form → ℕ → List (List Literal)
emitted_as s ls (Plain b) n = if same b s then [] else clause_of ls
emitted_as s ls (Is l) n = clause_of (ls ++ signed_as s l ∷ [])
emitted_as s ls (NotSo f) n = emitted_as (not s) ls f n
emitted_as s ls (Both f g) n =
    if s then emitted_as true ls f n ++ emitted_as true ls g (after_as true f n)
    else emitted_as false (name_of f n ∷ []) f (next_of f n)
    ++ emitted_as false (ls ++ opposite (name_of f n) ∷ []) g (after_as false f (next_of f n))
emitted_as s ls (Same f g) n =
    let m = next_of f n in
    let a = next_of g m in
    equal_clauses ls (name_of f n) (signed_as s (name_of g m))
    ++ (defined (name_of f n) f a ++ defined (name_of g m) g (after_defined f a))

-- clauses that say that one of the literals or the form is true
abbrev pub emitted : List Literal → Form → ℕ → List (List Literal)
emitted ls f n = emitted_as true ls f n

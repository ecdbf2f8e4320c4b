-- Reading from left to right, with one token of sight.
use Rattle.std.specs.Prelude.{◌≡◌, ℕ, zero, suc, List, [], ◌∷◌, Bool, true, false, Option, Some, None, ◌++◌, Result, Ok, Err}
use Rattle.bg_base.specs.declared.pos.Pos.{Pos}
use Rattle.bg_text.specs.declared.token.Kind.{Kind}
use Rattle.bg_text.specs.Tokens.{Tok}
use Rattle.bg_reader.specs.Kinds.{is_kind}
use Rattle.bg_reader.specs.declared.refusal.Refusal.{Refusal}
use Rattle.bg_reader.specs.declared.refusal.Refusal.TheVariants as refusal

-- A value and the tokens behind it; the tokens from the first on with which nothing begins; the tokens from the bracket on
-- that is one too many; or a list with more parts than were to be read.
pub data Read (A : Type 0) : Type 0 where
  Got : A → List Tok → Read A
  Bad : List Tok → Read A
  Deep : List Tok → Read A
  Out : Read A

abbrev pub Reader : Type 0 → Type 0
Reader A = List Tok → Read A

abbrev pub with_read : {A B : Type 0} → (A → B) → Read A → Read B
with_read f (Got a x) = Got (f a) x
with_read f (Bad x) = Bad x
with_read f (Deep x) = Deep x
with_read f Out = Out

abbrev pub and_read : {A B : Type 0} → Read A → (A → Reader B) → Read B
and_read (Got a x) k = k a x
and_read (Bad x) k = Bad x
and_read (Deep x) k = Deep x
and_read Out k = Out

-- a part and then another
abbrev pub both : {A B : Type 0} → Reader A → Reader B → Reader (A × B)
both P Q ts = and_read (P ts) (λ a x. with_read (λ b. (a, b)) (Q x))

abbrev pub peeked : {B : Type 0} → Option B → List Tok → Option (B × List Tok)
peeked (Some b) rest = Some (b, rest)
peeked None rest = None

-- what g says of the next token, and the tokens behind it
abbrev pub peek : {B : Type 0} → (Tok → Option B) → List Tok → Option (B × List Tok)
peek g [] = None
peek g (t ∷ ts) = peeked (g t) ts

abbrev pub branch_on : {A B : Type 0} → Option (B × List Tok) → (B → Reader A) → Read A → Read A
branch_on (Some p) P q = P p.0 p.1
branch_on None P q = q

-- a token that g takes and P behind it, else Q
abbrev pub branch : {A B : Type 0} → (Tok → Option B) → (B → Reader A) → Reader A → Reader A
branch g P Q ts = branch_on (peek g ts) P (Q ts)

-- the same for a bracket that is one too many
abbrev pub sink : {A B : Type 0} → (Tok → Option B) → Reader A → Reader A
sink g Q ts = branch_on (peek g ts) (λ b rest. Deep ts) (Q ts)

-- one token, which must stand
abbrev pub one : {A : Type 0} → (Tok → Option A) → Reader A
one f ts = branch_on (peek f ts) Got (Bad ts)

-- a bracket that is one too many, where it must stand
abbrev pub sunk : {A B : Type 0} → (Tok → Option B) → Reader A
sunk g ts = branch_on (peek g ts) (λ b rest. Deep ts) (Bad ts)

-- a token that g takes, where it must stand, and P behind it
abbrev pub must : {A B : Type 0} → (Tok → Option B) → Reader A → Reader (B × A)
must g P ts = branch_on (peek g ts) (λ b rest. with_read (λ a. (b, a)) (P rest)) (Bad ts)

-- nothing
abbrev pub nothing : {A : Type 0} → A → Reader A
nothing a ts = Got a ts

-- parts, as long as g takes the next token
abbrev pub many : {A B : Type 0} → (Tok → Option B) → (B → Reader A) → ℕ → Reader (List A)
many g P zero = branch g (λ b ts. Out) (nothing [])
many g P (suc n) = branch g (λ b ts. with_read (λ v. v.0 ∷ v.1) (both (P b) (many g P n) ts)) (nothing [])

-- the parts so far, in front of those to come
abbrev pub joined : {A : Type 0} → List A → Read (List A) → Read (List A)
joined front r = with_read (λ vs. front ++ vs) r

abbrev pub if_true : {A : Type 0} → Bool → A → Option A
if_true true a = Some a
if_true false a = None

-- the position of a token of the kind
abbrev pub a_sign : Kind → Tok → Option Pos
a_sign k t = if_true (is_kind k t.kind) t.pos

-- the position and the text of a token of the kind
abbrev pub a_text : Kind → Tok → Option (Pos × List ℕ)
a_text k t = if_true (is_kind k t.kind) (t.pos, t.text)

-- What a function refused is what reading refuses, unless memory ran out; from says which tokens stand from a place on.
abbrev pub Refuses : {Y : Type 0} → (ℕ → List Tok) → Refusal → Read Y → Type 0
Refuses from (refusal.Syntax i) r = r ≡ Bad (from i)
Refuses from (refusal.TooDeep i) r = r ≡ Deep (from i)
Refuses from refusal.Memory r = Unit {0}

-- What a function returned, seen by a view, is what reading gives, unless memory ran out.
abbrev pub Gives : {X Y : Type 0} → (X → Y) → (ℕ → List Tok) → Result (X × ℕ) Refusal → Read Y → Type 0
Gives look from (Ok v) r = r ≡ Got (look v.0) (from v.1)
Gives look from (Err e) r = Refuses from e r

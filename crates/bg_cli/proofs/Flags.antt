-- A flag that a getter reads is the one that its text writes.
use Rattle.std.proofs.Common.{◌≡◌, ◌≢◌, ◌==◌, Bool, true, false, [], ◌∷◌, Option, Some, None, unwrap_or, codes, refl, ap, ap₂, sym}
use Rattle.std.proofs.lemmas.Bool.{eqb-true}
use Rattle.std.specs.contracts.prelude.BoolFromStr.TheImpl as bool
use Rattle.clap.specs.Words.{ReadsOne}
use Rattle.clap.specs.Walk.{Text}
use Rattle.clap.proofs.WalkLemmas.{both}
use Rattle.bg_cli.specs.Cli.{is_same, is_set}

are_same : (a b : Text) → is_same a b ≡ true → a ≡ b
are_same [] [] h = refl
are_same [] (b ∷ bs) h = absurd (let bad : ⊥ = cc in bad)
are_same (a ∷ as') [] h = absurd (let bad : ⊥ = cc in bad)
are_same (a ∷ as') (b ∷ bs) h =
    let k = both (a == b) (is_same as' bs) h in
    ap₂ (λ x xs. x ∷ xs) (eqb-true a b k.0) (are_same as' bs k.1)

others : (t : Text) (x : Bool) → t ≢ codes "true" → is_same t (codes "true") ≡ x → x ≡ false
others t true differ e = absurd (differ (are_same t (codes "true") e))
others t false differ e = refl

reads : (t : Text) (r : Option Bool) → ReadsOne bool.from_str_gives-value.it t r → unwrap_or r false ≡ is_set (Some t)
reads t (Some true) h = sym (ap (λ x. is_same x (codes "true")) h)
reads t (Some false) h = sym (ap (λ x. is_same x (codes "true")) h)
reads t None h = sym (others t (is_same t (codes "true")) h.1.0 refl)

pub reads_flag : (o : Option Text) (r : Option Bool) → (o ≡ None → r ≡ None) → ((t : Text) → o ≡ Some t → ReadsOne bool.from_str_gives-value.it t r) → unwrap_or r false ≡ is_set o
reads_flag None r none some = ap (λ x. unwrap_or x false) (none refl)
reads_flag (Some t) r none some = reads t r (some t refl)

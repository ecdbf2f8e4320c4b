-- Each first byte of a sign, with its table.
use Rattle.std.proofs.Common.{◌≡◌, ℕ, ◌<◌, List, [], ◌∷◌, length, get_or, false, Some, None, refl, sym, subst, arith}
use Rattle.std.specs.Prelude.{◌==◌, codes}
use Rattle.std.proofs.lemmas.Bool.{eqb-true, cond_both}
use Rattle.bg_text.specs.declared.token.Kind.TheVariants as kinds
use Rattle.bg_text.specs.Pieces.{piece_of, is_ident, is_space, is_digit, sign_of, signs}
use Rattle.bg_lex.specs.Signs.{sign_in, one, sign_at, colon_signs, equals_signs, less_signs, greater_signs, bang_signs, ampersand_signs, bar_signs, plus_signs, star_signs}
use Rattle.bg_lex.proofs.Words.{word_piece, begins, entries, none_enter, none_enters}
use Rattle.bg_lex.proofs.Signs.{Covers, as_signs, at_most, descends, is_plain, SignAt, table_right}

module _ (bs : List ℕ) where
  at_40 : SignAt (40 ∷ bs) (one (Some kinds.Open))
  unfolding is_space is_digit is_ident entries begins as_signs Covers at_most descends is_plain word_piece
  at_40 =
      table_right 40 ((codes "(", Some kinds.Open) ∷ [])
      (record { down = (refl, tt); up = (refl, tt); longer_first = refl; no_number = refl })
      refl (λ q. refl) bs _ refl

  at_41 : SignAt (41 ∷ bs) (one (Some kinds.Close))
  unfolding is_space is_digit is_ident entries begins as_signs Covers at_most descends is_plain word_piece
  at_41 =
      table_right 41 ((codes ")", Some kinds.Close) ∷ [])
      (record { down = (refl, tt); up = (refl, tt); longer_first = refl; no_number = refl })
      refl (λ q. refl) bs _ refl

  at_91 : SignAt (91 ∷ bs) (one (Some kinds.OpenBracket))
  unfolding is_space is_digit is_ident entries begins as_signs Covers at_most descends is_plain word_piece
  at_91 =
      table_right 91 ((codes "[", Some kinds.OpenBracket) ∷ [])
      (record { down = (refl, tt); up = (refl, tt); longer_first = refl; no_number = refl })
      refl (λ q. refl) bs _ refl

  at_93 : SignAt (93 ∷ bs) (one (Some kinds.CloseBracket))
  unfolding is_space is_digit is_ident entries begins as_signs Covers at_most descends is_plain word_piece
  at_93 =
      table_right 93 ((codes "]", Some kinds.CloseBracket) ∷ [])
      (record { down = (refl, tt); up = (refl, tt); longer_first = refl; no_number = refl })
      refl (λ q. refl) bs _ refl

  at_123 : SignAt (123 ∷ bs) (one (Some kinds.OpenBrace))
  unfolding is_space is_digit is_ident entries begins as_signs Covers at_most descends is_plain word_piece
  at_123 =
      table_right 123 ((codes "{", Some kinds.OpenBrace) ∷ [])
      (record { down = (refl, tt); up = (refl, tt); longer_first = refl; no_number = refl })
      refl (λ q. refl) bs _ refl

  at_125 : SignAt (125 ∷ bs) (one (Some kinds.CloseBrace))
  unfolding is_space is_digit is_ident entries begins as_signs Covers at_most descends is_plain word_piece
  at_125 =
      table_right 125 ((codes "}", Some kinds.CloseBrace) ∷ [])
      (record { down = (refl, tt); up = (refl, tt); longer_first = refl; no_number = refl })
      refl (λ q. refl) bs _ refl

  at_44 : SignAt (44 ∷ bs) (one (Some kinds.Comma))
  unfolding is_space is_digit is_ident entries begins as_signs Covers at_most descends is_plain word_piece
  at_44 =
      table_right 44 ((codes ",", Some kinds.Comma) ∷ [])
      (record { down = (refl, tt); up = (refl, tt); longer_first = refl; no_number = refl })
      refl (λ q. refl) bs _ refl

  at_59 : SignAt (59 ∷ bs) (one (Some kinds.Semicolon))
  unfolding is_space is_digit is_ident entries begins as_signs Covers at_most descends is_plain word_piece
  at_59 =
      table_right 59 ((codes ";", Some kinds.Semicolon) ∷ [])
      (record { down = (refl, tt); up = (refl, tt); longer_first = refl; no_number = refl })
      refl (λ q. refl) bs _ refl

  at_45 : SignAt (45 ∷ bs) (one (Some kinds.Minus))
  unfolding is_space is_digit is_ident entries begins as_signs Covers at_most descends is_plain word_piece
  at_45 =
      table_right 45 ((codes "-", Some kinds.Minus) ∷ [])
      (record { down = (refl, tt); up = (refl, tt); longer_first = refl; no_number = refl })
      refl (λ q. refl) bs _ refl

  at_37 : SignAt (37 ∷ bs) (one None)
  unfolding is_space is_digit is_ident entries begins as_signs Covers at_most descends is_plain word_piece
  at_37 =
      table_right 37 ((codes "%", None) ∷ [])
      (record { down = (refl, tt); up = (refl, tt); longer_first = refl; no_number = refl })
      refl (λ q. refl) bs _ refl

  at_92 : SignAt (92 ∷ bs) (one None)
  unfolding is_space is_digit is_ident entries begins as_signs Covers at_most descends is_plain word_piece
  at_92 =
      table_right 92 (((92 ∷ []), None) ∷ [])
      (record { down = (refl, tt); up = (refl, tt); longer_first = refl; no_number = refl })
      refl (λ q. refl) bs _ refl

  at_58 : SignAt (58 ∷ bs) (sign_in colon_signs (one (Some kinds.Colon)) (58 ∷ bs))
  unfolding is_space is_digit is_ident entries begins as_signs Covers at_most descends is_plain word_piece
  at_58 =
      table_right 58 ((codes ":=", Some kinds.Becomes) ∷ (codes "::", None) ∷ (codes ":", Some kinds.Colon) ∷ [])
      (record { down = (refl, (refl, (refl, tt))); up = (refl, (refl, (refl, tt))); longer_first = refl; no_number = refl })
      refl (λ q. refl) bs _ refl

  at_61 : SignAt (61 ∷ bs) (sign_in equals_signs (one (Some kinds.Sets)) (61 ∷ bs))
  unfolding is_space is_digit is_ident entries begins as_signs Covers at_most descends is_plain word_piece
  at_61 =
      table_right 61 ((codes "==>", Some kinds.Implies) ∷ (codes "==", Some kinds.Equal) ∷ (codes "=", Some kinds.Sets) ∷ [])
      (record { down = (refl, (refl, (refl, tt))); up = (refl, (refl, (refl, tt))); longer_first = refl; no_number = refl })
      refl (λ q. refl) bs _ refl

  at_60 : SignAt (60 ∷ bs) (sign_in less_signs (one (Some kinds.Less)) (60 ∷ bs))
  unfolding is_space is_digit is_ident entries begins as_signs Covers at_most descends is_plain word_piece
  at_60 =
      table_right 60 ((codes "<==>", Some kinds.Iff) ∷ (codes "<==", Some kinds.Explies) ∷ (codes "<=", Some kinds.AtMost) ∷ (codes "<:", None) ∷ (codes "<", Some kinds.Less) ∷ [])
      (record { down = (refl, (refl, (refl, (refl, (refl, tt))))); up = (refl, (refl, (refl, (refl, (refl, tt))))); longer_first = refl; no_number = refl })
      refl (λ q. refl) bs _ refl

  at_62 : SignAt (62 ∷ bs) (sign_in greater_signs (one (Some kinds.Greater)) (62 ∷ bs))
  unfolding is_space is_digit is_ident entries begins as_signs Covers at_most descends is_plain word_piece
  at_62 =
      table_right 62 ((codes ">=", Some kinds.AtLeast) ∷ (codes ">", Some kinds.Greater) ∷ [])
      (record { down = (refl, (refl, tt)); up = (refl, (refl, tt)); longer_first = refl; no_number = refl })
      refl (λ q. refl) bs _ refl

  at_33 : SignAt (33 ∷ bs) (sign_in bang_signs (one (Some kinds.Not)) (33 ∷ bs))
  unfolding is_space is_digit is_ident entries begins as_signs Covers at_most descends is_plain word_piece
  at_33 =
      table_right 33 ((codes "!=", Some kinds.Unequal) ∷ (codes "!", Some kinds.Not) ∷ [])
      (record { down = (refl, (refl, tt)); up = (refl, (refl, tt)); longer_first = refl; no_number = refl })
      refl (λ q. refl) bs _ refl

  at_38 : SignAt (38 ∷ bs) (sign_in ampersand_signs None (38 ∷ bs))
  unfolding is_space is_digit is_ident entries begins as_signs Covers at_most descends is_plain word_piece
  at_38 =
      table_right 38 ((codes "&&", Some kinds.And) ∷ [])
      (record { down = (refl, tt); up = (refl, tt); longer_first = refl; no_number = refl })
      refl (λ q. refl) bs _ refl

  at_124 : SignAt (124 ∷ bs) (sign_in bar_signs None (124 ∷ bs))
  unfolding is_space is_digit is_ident entries begins as_signs Covers at_most descends is_plain word_piece
  at_124 =
      table_right 124 ((codes "||", Some kinds.Or) ∷ [])
      (record { down = (refl, tt); up = (refl, tt); longer_first = refl; no_number = refl })
      refl (λ q. refl) bs _ refl

  at_43 : SignAt (43 ∷ bs) (sign_in plus_signs (one (Some kinds.Plus)) (43 ∷ bs))
  unfolding is_space is_digit is_ident entries begins as_signs Covers at_most descends is_plain word_piece
  at_43 =
      table_right 43 ((codes "++", None) ∷ (codes "+", Some kinds.Plus) ∷ [])
      (record { down = (refl, (refl, tt)); up = (refl, (refl, tt)); longer_first = refl; no_number = refl })
      refl (λ q. refl) bs _ refl

  at_42 : SignAt (42 ∷ bs) (sign_in star_signs (one (Some kinds.Times)) (42 ∷ bs))
  unfolding is_space is_digit is_ident entries begins as_signs Covers at_most descends is_plain word_piece
  at_42 =
      table_right 42 ((codes "**", None) ∷ (codes "*", Some kinds.Times) ∷ [])
      (record { down = (refl, (refl, tt)); up = (refl, (refl, tt)); longer_first = refl; no_number = refl })
      refl (λ q. refl) bs _ refl

  other_shape : (b : ℕ) → is_space b ≡ false → is_digit b ≡ false → is_ident b ≡ false → (b == 34) ≡ false → (b == 47) ≡ false → (q : List ℕ) → piece_of (b ∷ q) ≡ sign_of signs (b ∷ q)
  other_shape b s d i quote slash q = rw (s, d, i, quote, slash) refl

  at_other : (b : ℕ) → is_space b ≡ false → is_digit b ≡ false → is_ident b ≡ false → (b == 34) ≡ false → (b == 47) ≡ false → (b == 40) ≡ false → (b == 41) ≡ false → (b == 91) ≡ false → (b == 93) ≡ false → (b == 123) ≡ false → (b == 125) ≡ false → (b == 44) ≡ false → (b == 59) ≡ false → (b == 45) ≡ false → (b == 37) ≡ false → (b == 92) ≡ false → (b == 58) ≡ false → (b == 61) ≡ false → (b == 60) ≡ false → (b == 62) ≡ false → (b == 33) ≡ false → (b == 38) ≡ false → (b == 124) ≡ false → (b == 43) ≡ false → (b == 42) ≡ false → SignAt (b ∷ bs) None
  unfolding as_signs Covers descends is_plain none_enter begins
  at_other b s d i quote slash n40 n41 n91 n93 n123 n125 n44 n59 n45 n37 n92 n58 n61 n60 n62 n33 n38 n124 n43 n42 =
      let empty : entries b signs ≡ [] = none_enters b signs (rw (slash, n40, n41, n91, n93, n123, n125, n44, n59, n45, n37, n92, n58, n61, n60, n62, n33, n38, n124, n43, n42) refl) in
      table_right b [] (record { down = tt; up = subst (λ es. Covers es []) (sym empty) tt; longer_first = refl; no_number = refl }) slash (other_shape b s d i quote slash) bs None refl

  dispatch : (b : ℕ) → is_space b ≡ false → is_digit b ≡ false → is_ident b ≡ false → (b == 34) ≡ false → (b == 47) ≡ false → SignAt (b ∷ bs) (sign_at (b ∷ bs))
  dispatch b s d i quote slash =
      cond_both (b == 40) _ _ (SignAt (b ∷ bs)) (λ e. subst (λ b. SignAt (b ∷ bs) (one (Some kinds.Open))) (sym (eqb-true b 40 e)) at_40) (λ n40.
      cond_both (b == 41) _ _ (SignAt (b ∷ bs)) (λ e. subst (λ b. SignAt (b ∷ bs) (one (Some kinds.Close))) (sym (eqb-true b 41 e)) at_41) (λ n41.
      cond_both (b == 91) _ _ (SignAt (b ∷ bs)) (λ e. subst (λ b. SignAt (b ∷ bs) (one (Some kinds.OpenBracket))) (sym (eqb-true b 91 e)) at_91) (λ n91.
      cond_both (b == 93) _ _ (SignAt (b ∷ bs)) (λ e. subst (λ b. SignAt (b ∷ bs) (one (Some kinds.CloseBracket))) (sym (eqb-true b 93 e)) at_93) (λ n93.
      cond_both (b == 123) _ _ (SignAt (b ∷ bs)) (λ e. subst (λ b. SignAt (b ∷ bs) (one (Some kinds.OpenBrace))) (sym (eqb-true b 123 e)) at_123) (λ n123.
      cond_both (b == 125) _ _ (SignAt (b ∷ bs)) (λ e. subst (λ b. SignAt (b ∷ bs) (one (Some kinds.CloseBrace))) (sym (eqb-true b 125 e)) at_125) (λ n125.
      cond_both (b == 44) _ _ (SignAt (b ∷ bs)) (λ e. subst (λ b. SignAt (b ∷ bs) (one (Some kinds.Comma))) (sym (eqb-true b 44 e)) at_44) (λ n44.
      cond_both (b == 59) _ _ (SignAt (b ∷ bs)) (λ e. subst (λ b. SignAt (b ∷ bs) (one (Some kinds.Semicolon))) (sym (eqb-true b 59 e)) at_59) (λ n59.
      cond_both (b == 45) _ _ (SignAt (b ∷ bs)) (λ e. subst (λ b. SignAt (b ∷ bs) (one (Some kinds.Minus))) (sym (eqb-true b 45 e)) at_45) (λ n45.
      cond_both (b == 37) _ _ (SignAt (b ∷ bs)) (λ e. subst (λ b. SignAt (b ∷ bs) (one None)) (sym (eqb-true b 37 e)) at_37) (λ n37.
      cond_both (b == 92) _ _ (SignAt (b ∷ bs)) (λ e. subst (λ b. SignAt (b ∷ bs) (one None)) (sym (eqb-true b 92 e)) at_92) (λ n92.
      cond_both (b == 58) _ _ (SignAt (b ∷ bs)) (λ e. subst (λ b. SignAt (b ∷ bs) (sign_in colon_signs (one (Some kinds.Colon)) (b ∷ bs))) (sym (eqb-true b 58 e)) at_58) (λ n58.
      cond_both (b == 61) _ _ (SignAt (b ∷ bs)) (λ e. subst (λ b. SignAt (b ∷ bs) (sign_in equals_signs (one (Some kinds.Sets)) (b ∷ bs))) (sym (eqb-true b 61 e)) at_61) (λ n61.
      cond_both (b == 60) _ _ (SignAt (b ∷ bs)) (λ e. subst (λ b. SignAt (b ∷ bs) (sign_in less_signs (one (Some kinds.Less)) (b ∷ bs))) (sym (eqb-true b 60 e)) at_60) (λ n60.
      cond_both (b == 62) _ _ (SignAt (b ∷ bs)) (λ e. subst (λ b. SignAt (b ∷ bs) (sign_in greater_signs (one (Some kinds.Greater)) (b ∷ bs))) (sym (eqb-true b 62 e)) at_62) (λ n62.
      cond_both (b == 33) _ _ (SignAt (b ∷ bs)) (λ e. subst (λ b. SignAt (b ∷ bs) (sign_in bang_signs (one (Some kinds.Not)) (b ∷ bs))) (sym (eqb-true b 33 e)) at_33) (λ n33.
      cond_both (b == 38) _ _ (SignAt (b ∷ bs)) (λ e. subst (λ b. SignAt (b ∷ bs) (sign_in ampersand_signs None (b ∷ bs))) (sym (eqb-true b 38 e)) at_38) (λ n38.
      cond_both (b == 124) _ _ (SignAt (b ∷ bs)) (λ e. subst (λ b. SignAt (b ∷ bs) (sign_in bar_signs None (b ∷ bs))) (sym (eqb-true b 124 e)) at_124) (λ n124.
      cond_both (b == 43) _ _ (SignAt (b ∷ bs)) (λ e. subst (λ b. SignAt (b ∷ bs) (sign_in plus_signs (one (Some kinds.Plus)) (b ∷ bs))) (sym (eqb-true b 43 e)) at_43) (λ n43.
      cond_both (b == 42) _ _ (SignAt (b ∷ bs)) (λ e. subst (λ b. SignAt (b ∷ bs) (sign_in star_signs (one (Some kinds.Times)) (b ∷ bs))) (sym (eqb-true b 42 e)) at_42) (λ n42.
      at_other b s d i quote slash n40 n41 n91 n93 n123 n125 n44 n59 n45 n37 n92 n58 n61 n60 n62 n33 n38 n124 n43 n42))))))))))))))))))))

-- the longest sign is what the tables give
pub sign_right : (bytes : List ℕ) → 0 < length bytes → is_space (get_or bytes 0 0) ≡ false → is_digit (get_or bytes 0 0) ≡ false → is_ident (get_or bytes 0 0) ≡ false → (get_or bytes 0 0 == 34) ≡ false → (get_or bytes 0 0 == 47) ≡ false → SignAt bytes (sign_at bytes)
sign_right [] some s d i quote slash = absurd (omega arith)
sign_right (b ∷ bs) some s d i quote slash = dispatch bs b s d i quote slash

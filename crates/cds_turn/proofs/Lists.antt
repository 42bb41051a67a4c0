-- Of two beginnings of one list the longer begins with the shorter.
use Rattle.std.proofs.Common.{◌≡◌, ◌≤◌, Bool, true, false, List, [], ◌∷◌, ◌++◌, length, length-append, append_assoc, append-nil, sym, ap, ◌∙◌, refl, arith, nat_lt, cond, ◌⊎◌, inl, inr, ⊎_elim, subst}
use Rattle.std.proofs.lemmas.Bool.{ltb-true, ltb-false}
use Rattle.cds_turn.specs.Line.{Extends}
use Rattle.cds_turn.specs.Moves.{longer}

module _ {C : Type 0} where
  pub extends_itself : (l : List C) → Extends l l
  extends_itself l = ([], refl)

  pub extends_more : (added l seen : List C) → Extends l seen → Extends (added ++ l) seen
  extends_more added l seen e = (added ++ e.0, ap (λ m. added ++ m) e.1 ∙ sym (append_assoc added e.0 seen))

  pub extends_nothing : (l : List C) → Extends l []
  extends_nothing l = (l, sym (append-nil l))

  pub ends_split : (x y a b : List C) → x ++ a ≡ y ++ b → length b ≤ length a → Extends a b
  ends_split [] y a b e le = (y, e)
  ends_split (p ∷ x) [] a b e le = let n = ap length e in let m = length-append x a in absurd (omega arith)
  ends_split (p ∷ x) (q ∷ y) a b e le = let same : x ++ a ≡ y ++ b = cc in ends_split x y a b same le

  pub begins : (l a b : List C) → Extends l a → Extends l b → length b ≤ length a → Extends a b
  begins l a b e f le = ends_split e.0 f.0 a b (sym e.1 ∙ f.1) le

  chosen : (xs ys : List C) (b : Bool) → nat_lt (length xs) (length ys) ≡ b
      → (length xs ≤ length (cond b ys xs)) × (length ys ≤ length (cond b ys xs)) × ((cond b ys xs ≡ xs) ⊎ (cond b ys xs ≡ ys))
  chosen xs ys true e = let lt = ltb-true (length xs) (length ys) e in (omega arith, omega arith, inr refl)
  chosen xs ys false e = let le = ltb-false (length xs) (length ys) e in (omega arith, omega arith, inl refl)

  -- the longer of two lists is one of them, and no shorter than either
  pub longer_is : (xs ys : List C) → (length xs ≤ length (longer xs ys)) × (length ys ≤ length (longer xs ys)) × ((longer xs ys ≡ xs) ⊎ (longer xs ys ≡ ys))
  longer_is xs ys = chosen xs ys (nat_lt (length xs) (length ys)) refl

  -- a list that begins with another that is no shorter is the other
  pub whole : (list seen : List C) → Extends list seen → length list ≤ length seen → list ≡ seen
  whole list seen e le = let n = ap length e.1 in let m = length-append e.0 seen in e.1 ∙ ap (λ z. z ++ seen) (empty e.0 (omega arith))
    where
      empty : (xs : List C) → length xs ≡ 0 → xs ≡ []
      empty [] same = refl
      empty (x ∷ xs) same = absurd (omega arith)

  -- the longer of two beginnings of a list of which one is all of it is all of it
  pub longer_whole : (list a b : List C) → Extends list a → Extends list b → (a ≡ list) ⊎ (b ≡ list) → longer a b ≡ list
  longer_whole list a b ea eb one = let long = longer_is a b in
      let enough : length list ≤ length (longer a b) = ⊎_elim (λ (e : a ≡ list). let n = ap length e in let h = long.0 in omega arith) (λ (e : b ≡ list). let n = ap length e in let h = long.1 in omega arith) one in
      sym (whole list (longer a b) (⊎_elim (λ e. subst (λ (m : List C). Extends list m) (sym e) ea) (λ e. subst (λ (m : List C). Extends list m) (sym e) eb) long.2) enough)

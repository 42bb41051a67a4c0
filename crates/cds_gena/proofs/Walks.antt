-- What a map's `retain` leaves, where the closure keeps no state: the entries that pass a test, each with the value that it was given.
use Rattle.std.proofs.Common.{◌≡◌, Bool, true, false, cond, filter, map, List, [], ◌∷◌, refl, ap, subst, ◌∙◌}
use Rattle.std.specs.Map.Calls.{RetainsPairs}

module _ {K X F : Type 0} (T : F → K → X → Bool → X → F → Type 0) (test : K × X → Bool) (change : K × X → K × X) (f : F)
    (says : (k : K) (v : X) (b : Bool) (w : X) (g : F) → T f k v b w g → (b ≡ test (k, v)) × (b ≡ true → (k, w) ≡ change (k, v)) × (g ≡ f)) where
  pub walked : (es kept : List (K × X)) → RetainsPairs T f es kept → kept ≡ map change (filter test es)
  walked [] kept h = h
  walked (e ∷ es) kept h =
      let s = says e.0 e.1 h.0 h.1 h.2 h.4 in
      let rest = walked es h.3 (subst (λ g. RetainsPairs T g es h.3) s.2 h.5) in
      h.6 ∙ by h.0 h.1 s.0 s.1 h.3 rest
    where
      by : (b : Bool) (w : X) → b ≡ test e → (b ≡ true → (e.0, w) ≡ change e) → (left : List (K × X)) → left ≡ map change (filter test es)
          → cond b ((e.0, w) ∷ left) left ≡ map change (cond (test e) (e ∷ filter test es) (filter test es))
      by true w is made left rest = (λ i. made refl i ∷ rest i) ∙ (λ i. map change (cond (is i) (e ∷ filter test es) (filter test es)))
      by false w is made left rest = rest ∙ (λ i. map change (cond (is i) (e ∷ filter test es) (filter test es)))

  -- where all pass
  pub all-walked : (es kept : List (K × X)) → ((e : K × X) → test e ≡ true) → RetainsPairs T f es kept → kept ≡ map change es
  all-walked es kept all h = walked es kept h ∙ ap (map change) (everyone es)
    where
      everyone : (xs : List (K × X)) → filter test xs ≡ xs
      everyone [] = refl
      everyone (x ∷ xs) = (λ i. cond (all x i) (x ∷ filter test xs) (filter test xs)) ∙ ap (λ l. x ∷ l) (everyone xs)

-- The first refused element of a list is one, and a walk from the front finds it.
use Rattle.std.proofs.Common.{◌≡◌, Bool, true, false, cond, List, [], ◌∷◌, ◌++◌, length, Option, Some, None, refl, sym, ap, ◌∙◌, subst, true≢false, append_assoc, append-nil, inl, inr, ◌⊎◌, arith, length-append}
use Rattle.cds_object.specs.First.{NoneRefused, IsFirstRefused}

-- the elements before the first refused one, behind those that were passed
abbrev pub walk : {X : Type 0} → (List X → X → Bool) → List X → List X → Option (List X)
walk refuses before [] = None
walk refuses before (x ∷ rest) = cond (refuses before x) (Some before) (walk refuses (before ++ x ∷ []) rest)

-- two ways to split one list
abbrev Splits : {X : Type 0} → List X → List X → List X → List X → X → X → Type 0
Splits {X} b c r s x y = ((b ≡ c) × (x ≡ y)) ⊎ (((more : List X) × (c ≡ b ++ x ∷ more)) ⊎ ((more : List X) × (b ≡ c ++ y ∷ more)))

splits : {X : Type 0} (b c r s : List X) (x y : X) → b ++ x ∷ r ≡ c ++ y ∷ s → Splits b c r s x y
splits [] [] r s x y e = inl (refl, cc)
splits [] (z ∷ c) r s x y e = inr (inl (c, cc))
splits (z ∷ b) [] r s x y e = inr (inr (b, cc))
splits (z ∷ b) (w ∷ c) r s x y e = by (splits b c r s x y (cc)) (cc) where
  by : Splits b c r s x y → z ≡ w → Splits (z ∷ b) (w ∷ c) r s x y
  by (inl same) first =
      let bodies = same.0 in
      let ends = same.1 in
      inl (cc, ends)
  by (inr (inl apart)) first =
      let body = apart.1 in
      inr (inl (apart.0, cc))
  by (inr (inr apart)) first =
      let body = apart.1 in
      inr (inr (apart.0, cc))

contrary : (b : Bool) → b ≡ true → b ≡ false → ⊥
contrary b p q = true≢false (sym p ∙ q)

one_first : {X : Type 0} (refuses : List X → X → Bool) (xs b c r s : List X) (x y : X) → IsFirstRefused refuses xs b x r → IsFirstRefused refuses xs c y s → b ≡ c
one_first refuses xs b c r s x y one two = by (splits b c r s x y (sym one.split ∙ two.split)) where
  by : Splits b c r s x y → b ≡ c
  by (inl same) = same.0
  by (inr (inl apart)) = absurd (contrary (refuses b x) one.refused (two.none_before b apart.0 x apart.1))
  by (inr (inr apart)) = absurd (contrary (refuses c y) two.refused (one.none_before c apart.0 y apart.1))

none_push : {X : Type 0} (refuses : List X → X → Bool) (before : List X) (x : X) → NoneRefused refuses before → refuses before x ≡ false → NoneRefused refuses (before ++ x ∷ [])
none_push {X} refuses before x none fine front behind y e = by (splits before front [] behind x y e) where
  by : Splits before front [] behind x y → refuses front y ≡ false
  by (inl same) = sym (ap (λ b. refuses b x) same.0 ∙ ap (refuses front) same.1) ∙ fine
  by (inr (inl apart)) =
      let long : length (before ++ x ∷ []) ≡ length (front ++ y ∷ behind) = ap length e in
      let longer : length front ≡ length (before ++ x ∷ apart.0) = ap length apart.1 in
      absurd (omega (arith, length-append before (x ∷ []), length-append front (y ∷ behind), length-append before (x ∷ apart.0)))
  by (inr (inr apart)) = none front apart.0 y apart.1

-- where the walk stops, the first refused element is
abbrev Found : {X : Type 0} → (List X → X → Bool) → List X → List X → Type 0
Found {X} refuses xs b = (x : X) × (r : List X) × IsFirstRefused refuses xs b x r

found : {X : Type 0} (refuses : List X → X → Bool) (before rest b : List X) → NoneRefused refuses before → walk refuses before rest ≡ Some b → Found refuses (before ++ rest) b
found refuses before [] b none e = absurd (cc)
found {X} refuses before (x ∷ rest) b none e = by (refuses before x) refl e (found refuses (before ++ x ∷ []) rest b) where
  by : (t : Bool) → refuses before x ≡ t → cond t (Some before) (walk refuses (before ++ x ∷ []) rest) ≡ Some b
      → (NoneRefused refuses (before ++ x ∷ []) → walk refuses (before ++ x ∷ []) rest ≡ Some b → Found refuses ((before ++ x ∷ []) ++ rest) b) → Found refuses (before ++ x ∷ rest) b
  by true is e more =
      let same : before ≡ b = cc in
      subst (Found refuses (before ++ x ∷ rest)) same (x, rest, record { split = refl; refused = is; none_before = none })
  by false is e more = subst (λ (xs : List X). Found refuses xs b) (append_assoc before (x ∷ []) rest) (more (none_push refuses before x none is) e)

none_found : {X : Type 0} (refuses : List X → X → Bool) (before rest : List X) → NoneRefused refuses before → walk refuses before rest ≡ None → NoneRefused refuses (before ++ rest)
none_found {X} refuses before [] none e = subst (NoneRefused refuses) (sym (append-nil before)) none
none_found {X} refuses before (x ∷ rest) none e = by (refuses before x) refl e (none_found refuses (before ++ x ∷ []) rest) where
  by : (t : Bool) → refuses before x ≡ t → cond t (Some before) (walk refuses (before ++ x ∷ []) rest) ≡ None
      → (NoneRefused refuses (before ++ x ∷ []) → walk refuses (before ++ x ∷ []) rest ≡ None → NoneRefused refuses ((before ++ x ∷ []) ++ rest)) → NoneRefused refuses (before ++ x ∷ rest)
  by true is e more = absurd (cc)
  by false is e more = subst (NoneRefused refuses) (append_assoc before (x ∷ []) rest) (more (none_push refuses before x none is) e)

nothing_before : {X : Type 0} (refuses : List X → X → Bool) → NoneRefused refuses []
nothing_before refuses [] behind y e = absurd (cc)
nothing_before refuses (z ∷ front) behind y e = absurd (cc)

pub walk_finds : {X : Type 0} (refuses : List X → X → Bool) (xs b : List X) → walk refuses [] xs ≡ Some b → (x : X) × (r : List X) × IsFirstRefused refuses xs b x r
walk_finds refuses xs b e = found refuses [] xs b (nothing_before refuses) e

pub walk_passes : {X : Type 0} (refuses : List X → X → Bool) (xs : List X) → walk refuses [] xs ≡ None → NoneRefused refuses xs
walk_passes refuses xs e = none_found refuses [] xs (nothing_before refuses) e

pub found_by_walk : {X : Type 0} (refuses : List X → X → Bool) (xs b : List X) (x : X) (r : List X) → IsFirstRefused refuses xs b x r → walk refuses [] xs ≡ Some b
found_by_walk {X} refuses xs b x r first = by (walk refuses [] xs) refl where
  by : (o : Option (List X)) → walk refuses [] xs ≡ o → walk refuses [] xs ≡ Some b
  by None e = absurd (contrary (refuses b x) first.refused (walk_passes refuses xs e b r x first.split))
  by (Some c) e = let is = walk_finds refuses xs c e in e ∙ ap Some (one_first refuses xs c b is.1 r is.0 x is.2 first)

pub passed_by_walk : {X : Type 0} (refuses : List X → X → Bool) (xs : List X) → NoneRefused refuses xs → walk refuses [] xs ≡ None
passed_by_walk {X} refuses xs none = by (walk refuses [] xs) refl where
  by : (o : Option (List X)) → walk refuses [] xs ≡ o → walk refuses [] xs ≡ None
  by None e = e
  by (Some b) e = let is = walk_finds refuses xs b e in absurd (contrary (refuses b is.0) is.2.refused (none b is.1 is.0 is.2.split))

-- All names but the last are those of the parent.
use Rattle.std.proofs.Common.{◌≡◌, ◌∙◌, ap, sym, refl, arith, ℕ, ◌-◌, ◌≤◌, suc, List, [], ◌∷◌, length, take, rules}
use Rattle.std.proofs.lemmas.List.{take_all}
use Rattle.cds_object.specs.Path.{parent_of}
use Rattle.cds_object.proofs.path.Path.parent.Goals as goal

front_is_parent : (p : List (List ℕ)) → take (length p - 1) p ≡ parent_of p
front_is_parent [] = refl
front_is_parent (name ∷ []) = refl
front_is_parent (name ∷ next ∷ names) =
    let outer : suc (suc (length names)) - 1 ≡ suc (length names) = omega arith in
    let inner : suc (length names) - 1 ≡ length names = omega arith in
    ap (λ n. take n (name ∷ next ∷ names)) outer ∙ ap (λ n. name ∷ take n (next ∷ names)) (sym inner) ∙ ap (λ rest. name ∷ rest) (front_is_parent (next ∷ names))

whole : (p folders names : List (List ℕ)) (above at : ℕ) → names ≡ take at folders → length folders ≤ at → folders ≡ take above p → above ≡ length p - 1 → names ≡ parent_of p
whole p folders names above at n past f a =
    n ∙ take_all at folders past ∙ f ∙ ap (λ k. take k p) a ∙ front_is_parent p

pub returns : goal.returns
returns c =
    whole c.args.self.now c.split_at.result.0.now c.loop-name.names c.saturating_sub-above.result c.loop-name.name-index
    c.loop-name.invariant c.loop-name-test.false (c.split_at.ensures.front ∙ ap (take c.saturating_sub-above.result) (search rules))
    (search rules)

-- Places: when two are one, and the order that they stand in.
use Rattle.std.proofs.Common.{◌≡◌, ℕ, true, false, List, [], ◌∷◌, Less, Equal, refl, sym, ap, ◌∙◌, is_eq}
use Rattle.std.specs.Ordering.{nat_cmp, ordering_then, ordering_reverse}
use Rattle.std.specs.Cmp.{IsTotalOrder, tied_itself, both_ways, Equal-is}
use Rattle.std.specs.Cmp.Lexicographic.{slice_cmp, lists_total, lists_ties, texts_ties, pointwise_decides, bytes_decides, nat_list_cmp_total}
use Rattle.std.specs.BTreeMap.{is_at}
use Rattle.cds_object.specs.Path.{path_cmp, same_path, parent_of}

pub same_path_decides : (p q : List (List ℕ)) → (same_path p q ≡ true → p ≡ q) × (p ≡ q → same_path p q ≡ true)
same_path_decides = pointwise_decides bytes_decides

pub same_path_is : (p q : List (List ℕ)) → same_path p q ≡ true → p ≡ q
same_path_is p q = (same_path_decides p q).0

pub same_path_itself : (p : List (List ℕ)) → same_path p p ≡ true
same_path_itself p = (same_path_decides p p).1 refl

pub paths_total : IsTotalOrder path_cmp
paths_total = lists_total nat_list_cmp_total

-- a look-up compares places as the order does, and the order's ties are the places that are one
pub same_path_at : (p q : List (List ℕ)) → same_path p q ≡ is_at (path_cmp p) q
same_path_at = lists_ties (slice_cmp nat_cmp) texts_ties

pub path_cmp_Equal : (p q : List (List ℕ)) → path_cmp p q ≡ Equal → p ≡ q
path_cmp_Equal p q tie = same_path_is p q (same_path_at p q ∙ ap is_eq tie)

pub same_path_Equal : (p q : List (List ℕ)) → same_path p q ≡ true → path_cmp p q ≡ Equal
same_path_Equal p q same = (Equal-is (path_cmp p q)).0 (sym (same_path_at p q) ∙ same)

-- places in order are two, either way round
pub same_path_Less : (p q : List (List ℕ)) → path_cmp p q ≡ Less → same_path p q ≡ false
same_path_Less p q less = same_path_at p q ∙ ap is_eq less

pub same_path_Greater : (p q : List (List ℕ)) → path_cmp p q ≡ Less → same_path q p ≡ false
same_path_Greater p q less = same_path_at q p ∙ ap is_eq (paths_total.antisymm q p ∙ ap ordering_reverse less)

pub same_path_swap : (p q : List (List ℕ)) → same_path p q ≡ same_path q p
same_path_swap p q =
    both_ways (same_path p q) (same_path q p)
    (λ e. (same_path_decides q p).1 (sym (same_path_is p q e)))
    (λ e. (same_path_decides p q).1 (sym (same_path_is q p e)))

-- what holds an object stands before it
pub parent_before : (name : List ℕ) (names : List (List ℕ)) → path_cmp (parent_of (name ∷ names)) (name ∷ names) ≡ Less
parent_before name [] = refl
parent_before name (next ∷ names) =
    ap (λ r. ordering_then r (path_cmp (parent_of (next ∷ names)) (next ∷ names))) (tied_itself nat_list_cmp_total name) ∙ parent_before next names

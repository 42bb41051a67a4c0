-- Places are put in one order, and are equal exactly if neither comes before the other.
use Rattle.std.specs.Prelude.{◌≡◌, ℕ, List, refl}
use Rattle.std.specs.Ordering.{eq_by_cmp, as_partial_cmp, nat_cmp}
use Rattle.std.specs.Cmp.{IsTotalOrder, IsEquivalence, IsPartialEquivalence, IsPartialOrder, partial_equiv_from_equiv, partial_order_from_agreeing_total}
use Rattle.std.specs.Cmp.Lexicographic.{slice_cmp, nat_list_cmp_total, nat_list_eq_equiv, texts_ties, lists_total, lists_ties, lists_equiv}
use Rattle.cds_object.specs.Path.{path_cmp, same_path}

pub paths_total : IsTotalOrder path_cmp
paths_total = lists_total nat_list_cmp_total

pub paths_tie : (a b : List (List ℕ)) → same_path a b ≡ eq_by_cmp path_cmp a b
paths_tie = lists_ties (slice_cmp nat_cmp) texts_ties

pub paths_equal : IsEquivalence same_path
paths_equal = lists_equiv nat_list_eq_equiv

pub paths_agree : IsPartialEquivalence same_path
paths_agree = partial_equiv_from_equiv paths_equal

pub paths_in_part : IsPartialOrder same_path (as_partial_cmp path_cmp)
paths_in_part = partial_order_from_agreeing_total path_cmp paths_total (λ a b. refl) paths_tie

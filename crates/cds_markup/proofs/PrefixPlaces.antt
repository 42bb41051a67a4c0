-- An index of declarations, from the last to the first.
use Rattle.std.proofs.Common.{◌≡◌, ◌<◌, ◌+◌, ℕ, zero, suc, Bool, true, false, cond, List, [], ◌∷◌, length, drop, get_or, Some, slice_get, find, refl, sym, ◌∙◌, ap, add-one, drop-cons, arith}
use Rattle.std.specs.Str.{bytes_eq}
use Rattle.std.specs.Map.{lookup}
use Rattle.std.specs.BTreeMap.{BTreeMap, get, is_at}
use Rattle.std.specs.Ordering.{nat_cmp}
use Rattle.std.specs.Cmp.Lexicographic.{slice_cmp}
use Rattle.std.specs.declared.cmp.Ordering.{Ordering}
use Rattle.std.proofs.lemmas.Map.Text.{is_eq-slice_cmp}
use Rattle.cds_markup.specs.Namespaces.{declared, declared_as}
use Rattle.cds_markup.specs.Prefixes.{said_at, Indexes, PutsPlace}
use Rattle.cds_markup.specs.declared.tag.Declaration.{Declaration}

abbrev order : List ℕ → List ℕ → Ordering
order = slice_cmp nat_cmp

-- the map is asked in its own order, which finds the same texts
pub puts_place : (old new : BTreeMap (List ℕ) ℕ) (key prefix : List ℕ) (place : ℕ) → key ≡ prefix
    → ((p : List ℕ) → get order new p ≡ cond (is_at (order key) p) (Some place) (get order old p)) → PutsPlace old new prefix place
puts_place old new key prefix place is adds p =
    adds p ∙ ap (λ (b : Bool). cond b (Some place) (get order old p)) (is_eq-slice_cmp key p ∙ ap (λ k. bytes_eq k p) is)

-- no declaration yet
pub none_indexed : (listed : List Declaration) (index : BTreeMap (List ℕ) ℕ) → index.entries ≡ [] → Indexes listed [] index
none_indexed listed index none p = ap (λ es. said_at listed (lookup (is_at (order p)) es)) none

got : (xs : List Declaration) (i : ℕ) (d : Declaration) → i < length xs → slice_get xs i ≡ Some (get_or xs i d)
got [] i d less = absurd (omega (arith, less))
got (x ∷ xs) zero d less = refl
got (x ∷ xs) (suc i) d less = got xs i d (omega (arith, less))

-- one declaration before those
pub one_indexed : (listed : List Declaration) (at : ℕ) (d : Declaration) (old new : BTreeMap (List ℕ) ℕ) → at < length listed → d ≡ get_or listed at d
    → Indexes listed (drop (at + 1) listed) old → PutsPlace old new d.prefix at → Indexes listed (drop at listed) new
one_indexed listed at d old new less is others puts p =
    let rest = drop (at + 1) listed in
    let front : drop at listed ≡ d ∷ rest = drop-cons listed at d less ∙ ap (λ x. x ∷ drop (suc at) listed) (sym is) ∙ ap (λ n. d ∷ drop n listed) (sym (add-one at)) in
    let here : slice_get listed at ≡ Some d = got listed at d less ∙ ap (λ x. Some x) (sym is) in
    ap (said_at listed) (puts p) ∙ by (bytes_eq d.prefix p) here (others p) ∙ ap (λ ds. declared ds p) (sym front)
  where
    by : (b : Bool) → slice_get listed at ≡ Some d → said_at listed (get order old p) ≡ declared (drop (at + 1) listed) p
        → said_at listed (cond b (Some at) (get order old p)) ≡ declared_as (cond b (Some d) (find (λ e. bytes_eq e.prefix p) (drop (at + 1) listed)))
    by true here more = ap declared_as here
    by false here more = more

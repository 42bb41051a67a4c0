-- Rows that are like others: what keeps them so.
use Rattle.std.proofs.Common.{◌≡◌, Bool, true, false, cond, ◌||◌, List, [], ◌∷◌, ◌++◌, map, filter, refl, sym, ap, ◌∙◌, subst}
use Rattle.std.specs.List.{AllByRecursion, list_any}
use Rattle.cds_object.specs.Object.{ObjectRow}
use Rattle.cds_catalog.specs.Catalog.{PlacedRow}
use Rattle.cds_follow.specs.Copy.{KnownRow}
use Rattle.cds_follow.specs.StepLaws.{IsLike, AreLike}

-- rows without their places
abbrev pub unplaced : List PlacedRow → List ObjectRow
unplaced rows = map (λ (placed : PlacedRow). placed.1) rows

pub like-map : (f : KnownRow → KnownRow) (g : PlacedRow → PlacedRow) (P : PlacedRow → Type 0)
    → ((known : KnownRow) (placed : PlacedRow) → P placed → IsLike known placed.1 → IsLike (f known) (g placed).1)
    → (knowns : List KnownRow) (rows : List PlacedRow) → AllByRecursion P rows → AreLike knowns (unplaced rows) → AreLike (map f knowns) (unplaced (map g rows))
like-map f g P step [] [] all like = tt
like-map f g P step [] (row ∷ rows) all like = absurd like
like-map f g P step (known ∷ knowns) [] all like = absurd like
like-map f g P step (known ∷ knowns) (row ∷ rows) all like = (step known row all.0 like.0, like-map f g P step knowns rows all.1 like.1)

pub like-filter : (p : KnownRow → Bool) (q : PlacedRow → Bool) (P : PlacedRow → Type 0)
    → ((known : KnownRow) (placed : PlacedRow) → P placed → IsLike known placed.1 → p known ≡ q placed)
    → (knowns : List KnownRow) (rows : List PlacedRow) → AllByRecursion P rows → AreLike knowns (unplaced rows) → AreLike (filter p knowns) (unplaced (filter q rows))
like-filter p q P same [] [] all like = tt
like-filter p q P same [] (row ∷ rows) all like = absurd like
like-filter p q P same (known ∷ knowns) [] all like = absurd like
like-filter p q P same (known ∷ knowns) (row ∷ rows) all like =
    by (q row) (same known row all.0 like.0) (like-filter p q P same knowns rows all.1 like.1)
  where
    by : (b : Bool) → p known ≡ b → AreLike (filter p knowns) (unplaced (filter q rows))
        → AreLike (cond (p known) (known ∷ filter p knowns) (filter p knowns)) (unplaced (cond b (row ∷ filter q rows) (filter q rows)))
    by true e rest = subst (λ (b : Bool). AreLike (cond b (known ∷ filter p knowns) (filter p knowns)) (unplaced (row ∷ filter q rows))) (sym e) (like.0, rest)
    by false e rest = subst (λ (b : Bool). AreLike (cond b (known ∷ filter p knowns) (filter p knowns)) (unplaced (filter q rows))) (sym e) rest

pub like-any : (p : KnownRow → Bool) (q : PlacedRow → Bool) (P : PlacedRow → Type 0)
    → ((known : KnownRow) (placed : PlacedRow) → P placed → IsLike known placed.1 → p known ≡ q placed)
    → (knowns : List KnownRow) (rows : List PlacedRow) → AllByRecursion P rows → AreLike knowns (unplaced rows) → list_any p knowns ≡ list_any q rows
like-any p q P same [] [] all like = refl
like-any p q P same [] (row ∷ rows) all like = absurd like
like-any p q P same (known ∷ knowns) [] all like = absurd like
like-any p q P same (known ∷ knowns) (row ∷ rows) all like =
    (λ i. same known row all.0 like.0 i || list_any p knowns) ∙ ap (λ (b : Bool). q row || b) (like-any p q P same knowns rows all.1 like.1)

pub like-push : (knowns : List KnownRow) (rows : List PlacedRow) (known : KnownRow) (row : PlacedRow)
    → AreLike knowns (unplaced rows) → IsLike known row.1 → AreLike (knowns ++ known ∷ []) (unplaced (rows ++ row ∷ []))
like-push [] [] known row like new = (new, tt)
like-push [] (other ∷ rows) known row like new = absurd like
like-push (one ∷ knowns) [] known row like new = absurd like
like-push (one ∷ knowns) (other ∷ rows) known row like new = (like.0, like-push knowns rows known row like.1 new)

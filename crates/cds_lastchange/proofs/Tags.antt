-- The tag of an empty element has between its `<` and its end what the start tag has.
use Rattle.std.proofs.Common.{◌≡◌, ℕ, List, [], ◌∷◌, ◌++◌, codes, refl, sym, subst}
use Rattle.std.proofs.lemmas.List.{append_cancel_right}
use Rattle.cds_markup.specs.declared.tag.Tag.{Tag}
use Rattle.cds_markup.specs.Grammar.{IsTag, IsEmptyTag, IsStartTag}
use Rattle.cds_markup.proofs.Public.{start-parts}

-- the tag of an empty element has the same between
pub empty-of : (inside : List ℕ) (t : Tag) → IsStartTag (60 ∷ (inside ++ 62 ∷ [])) t → IsEmptyTag (60 ∷ (inside ++ codes "/>")) t
empty-of inside t g =
    let b = start-parts (60 ∷ (inside ++ 62 ∷ [])) t g in
    let same : inside ≡ b.0 = append_cancel_right inside b.0 (62 ∷ []) (tails (inside ++ 62 ∷ []) (b.0 ++ 62 ∷ []) b.1) in
    record {
      front = codes "<";
      back = inside ++ codes "/>";
      what = tt;
      spelled = refl;
      first = refl;
      second = record { front = inside; back = codes "/>"; what = t; spelled = refl; first = subst (λ xs. IsTag xs t) (sym same) b.2; second = record { front = codes "/>"; back = []; what = tt; spelled = refl; first = refl; second = (refl, refl) } };
    }
  where
    tails : (xs ys : List ℕ) → 60 ∷ xs ≡ 60 ∷ ys → xs ≡ ys
    tails xs ys e = cc

use Rattle.std.proofs.Common.{ℕ, leb, cond, [], ◌∷◌, refl, ◌∙◌}
use Rattle.std.proofs.lemmas.Simd.{zip2_splat, zip2_of_maps, splat_is_map}
use Rattle.cds_base.specs.Runs.{stands_for_itself}
use Rattle.cds_base.proofs.Lanes.{first_lane}
use Rattle.cds_base.proofs.text.runs.LettersClass.front.Goals as goal

pub returns : goal.returns
returns c =
    let v = c.args.lanes in
    let long = c.fits-lanes.0 in
    let outside = zip2_of_maps {X = ℕ} {Y = ℕ} (λ a b. cond (leb a b) 255 0) _ _ v (splat_is_map v 32 96 long) (zip2_splat _ v 32 32 long) in
    c.first_set.ensures ∙ first_lane stands_for_itself _ (38 ∷ 60 ∷ 62 ∷ 34 ∷ 39 ∷ 93 ∷ 45 ∷ []) v _ c.fits-lanes outside refl

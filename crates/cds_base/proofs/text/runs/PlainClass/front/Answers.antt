use Rattle.std.proofs.Common.{not, [], ◌∷◌, refl, ◌∙◌}
use Rattle.std.proofs.lemmas.Simd.{zip2_splat}
use Rattle.cds_base.specs.Escape.{is_replaced}
use Rattle.cds_base.proofs.Lanes.{first_lane}
use Rattle.cds_base.proofs.text.runs.PlainClass.front.Goals as goal

pub returns : goal.returns
returns c =
    let v = c.args.lanes in
    let amp = zip2_splat _ v 32 38 c.fits-lanes.0 in
    c.first_set.ensures ∙ first_lane (λ byte. not (is_replaced byte)) _ (60 ∷ 62 ∷ 34 ∷ 39 ∷ 9 ∷ 10 ∷ 13 ∷ []) v _ c.fits-lanes amp refl

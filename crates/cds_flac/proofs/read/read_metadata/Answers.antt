-- The parts, one after another.
use Rattle.std.proofs.Common.{Ok, sym, ap, ◌∙◌}
use Rattle.cds_flac.specs.Reading.{further_blocks}
use Rattle.cds_flac.proofs.Whole.{no_marker, no_head, no_sound, no_blocks, all}
use Rattle.cds_flac.proofs.Steps.{judged-same, agrees-exit}
use Rattle.cds_flac.proofs.read.read_metadata.Goals as goal

pub returns-in_err-read_marker-clause-told : goal.returns-in_err-read_marker-clause-told
returns-in_err-read_marker-clause-told g c = λ bytes told.
    agrees-exit _ c.from_residual.result _ c.in_err-read_marker.field-0.0 c.from_residual.ensures.1
    (no_marker bytes _ (c.in_err-read_marker.ensures.told bytes told))

pub returns-in_err-head-clause-told : goal.returns-in_err-head-clause-told
returns-in_err-head-clause-told g c = λ bytes told.
    let marker = c.in_ok-read_marker.ensures.told bytes told in
    agrees-exit _ c.from_residual-in_err-head.result _ c.in_err-head.field-0.0 c.from_residual-in_err-head.ensures.1
    (no_head bytes _ marker.0 marker.1 _ (c.in_err-head.ensures.told marker.0 marker.2))

pub returns-in_err-bits-clause-told : goal.returns-in_err-bits-clause-told
returns-in_err-bits-clause-told g c = λ bytes told.
    let marker = c.in_ok-read_marker.ensures.told bytes told in
    let head = c.in_ok-head.ensures.told marker.0 marker.2 in
    agrees-exit _ c.from_residual-in_err-bits.result _ c.in_err-bits.field-0.0 c.from_residual-in_err-bits.ensures.1
    (no_sound bytes _ marker.0 marker.1 c.in_ok-head.head head.0 head.1 _ (c.in_err-bits.ensures.told head.0 head.2))

pub returns-in_err-found-clause-told : goal.returns-in_err-found-clause-told
returns-in_err-found-clause-told g c = λ bytes told.
    let marker = c.in_ok-read_marker.ensures.told bytes told in
    let head = c.in_ok-head.ensures.told marker.0 marker.2 in
    let sound = c.in_ok-bits.ensures.told head.0 head.2 in
    agrees-exit _ c.from_residual-in_err-found.result _ c.in_err-found.field-0.0 c.from_residual-in_err-found.ensures.1
    (no_blocks bytes _ marker.0 marker.1 c.in_ok-head.head head.0 head.1 c.in_ok-bits.bits sound.0 sound.1 _
    (judged-same _ (ap (λ last. further_blocks last 42 sound.0) (sym c.is_last_head.ensures)) (c.in_err-found.ensures.told sound.0 sound.2)))

pub returns-clause-told : goal.returns-clause-told
returns-clause-told g c = λ bytes told.
    let marker = c.in_ok-read_marker.ensures.told bytes told in
    let head = c.in_ok-head.ensures.told marker.0 marker.2 in
    let sound = c.in_ok-bits.ensures.told head.0 head.2 in
    let blocks = c.in_ok-found.ensures.told sound.0 sound.2 in (
      blocks.0,
      all bytes _ marker.0 marker.1 c.in_ok-head.head head.0 head.1 c.in_ok-bits.bits sound.0 sound.1 c.in_ok-found.found blocks.0
          (ap (λ last. further_blocks last 42 sound.0) (sym c.is_last_head.ensures) ∙ blocks.1)
          ∙ ap (λ info. Ok (info, blocks.0)) (sym c.make_info.ensures.value),
      blocks.2,
    )

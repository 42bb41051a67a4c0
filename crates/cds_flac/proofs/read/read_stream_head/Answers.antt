-- The type decides first, then the length.
use Rattle.std.proofs.Common.{◌≡◌, sym, ◌∙◌}
use Rattle.cds_flac.specs.Step.{big_number}
use Rattle.cds_flac.specs.Reading.{stream_head, stream_of_length, kind_of}
use Rattle.cds_flac.proofs.Heads.{stream-behind, stream-forbidden, stream-other, stream-right, stream-length, stream-no_length}
use Rattle.cds_flac.proofs.Steps.{after-ok, judged-after, judged-same, agrees-exit}
use Rattle.cds_flac.proofs.read.read_stream_head.Goals as goal

pub returns-in_err-head-clause-told : goal.returns-in_err-head-clause-told
unfolding stream_head
returns-in_err-head-clause-told g c = λ bytes told.
    agrees-exit _ c.from_residual.result _ c.in_err-head.field-0.0 c.from_residual.ensures.1 (judged-after (big_number 4 1 bytes) _ _ (c.in_err-head.ensures.told bytes told))

pub returns-then-kind-eq127-clause-told : goal.returns-then-kind-eq127-clause-told
returns-then-kind-eq127-clause-told g c = λ bytes told.
    let head = c.in_ok-head.ensures.told bytes told in
    let kind : kind_of c.in_ok-head.head ≡ 127 = sym c.kind_of_head-kind.ensures.value ∙ c.if-kind-eq127.true in
    stream-behind bytes head.0 c.in_ok-head.head head.1 ∙ stream-forbidden c.in_ok-head.head head.0 kind

pub returns-then-kind-ne0-clause-told : goal.returns-then-kind-ne0-clause-told
returns-then-kind-ne0-clause-told g c = λ bytes told.
    let head = c.in_ok-head.ensures.told bytes told in
    stream-behind bytes head.0 c.in_ok-head.head head.1
    ∙ stream-other c.in_ok-head.head head.0
    (λ e. c.if-kind-eq127.false (c.kind_of_head-kind.ensures.value ∙ e))
    (λ e. c.if-kind-ne0.true (c.kind_of_head-kind.ensures.value ∙ e))

pub returns-in_err-length-clause-told : goal.returns-in_err-length-clause-told
returns-in_err-length-clause-told g c = λ bytes told.
    let head = c.in_ok-head.ensures.told bytes told in
    let kind : kind_of c.in_ok-head.head ≡ 0 = sym c.kind_of_head-kind.ensures.value ∙ c.if-kind-ne0.false in
    agrees-exit _ c.from_residual-in_err-length.result _ c.in_err-length.field-0.0 c.from_residual-in_err-length.ensures.1
    (judged-same _ (stream-behind bytes head.0 c.in_ok-head.head head.1 ∙ stream-right c.in_ok-head.head head.0 kind)
    (judged-after (big_number 5 3 head.0) _ _ (c.in_err-length.ensures.told head.0 head.2)))

pub returns-then-length-ne34-clause-told : goal.returns-then-length-ne34-clause-told
returns-then-length-ne34-clause-told g c = λ bytes told.
    let head = c.in_ok-head.ensures.told bytes told in
    let length = c.in_ok-length.ensures.told head.0 head.2 in
    let kind : kind_of c.in_ok-head.head ≡ 0 = sym c.kind_of_head-kind.ensures.value ∙ c.if-kind-ne0.false in
    stream-behind bytes head.0 c.in_ok-head.head head.1
    ∙ stream-right c.in_ok-head.head head.0 kind
    ∙ after-ok (λ n rest. stream_of_length c.in_ok-head.head n rest) length.1
    ∙ stream-no_length c.in_ok-head.head length.0 c.in_ok-length.length c.if-length-ne34.true

pub returns-clause-told : goal.returns-clause-told
returns-clause-told g c = λ bytes told.
    let head = c.in_ok-head.ensures.told bytes told in
    let length = c.in_ok-length.ensures.told head.0 head.2 in
    let kind : kind_of c.in_ok-head.head ≡ 0 = sym c.kind_of_head-kind.ensures.value ∙ c.if-kind-ne0.false in (
      length.0,
      stream-behind bytes head.0 c.in_ok-head.head head.1
          ∙ stream-right c.in_ok-head.head head.0 kind
          ∙ after-ok (λ n rest. stream_of_length c.in_ok-head.head n rest) length.1
          ∙ stream-length c.in_ok-head.head length.0 c.in_ok-length.length c.if-length-ne34.false,
      length.2,
    )

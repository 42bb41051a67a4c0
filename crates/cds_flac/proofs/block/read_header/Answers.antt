-- The type decides first, then the length.
use Rattle.std.proofs.Common.{◌≡◌, ℕ, ◌+◌, Ok, sym, ap, ◌∙◌, arith}
use Rattle.std.proofs.Common.{Bool}
use Rattle.cds_flac.specs.declared.block.Header.{Header}
use Rattle.cds_flac.specs.Step.{big_number}
use Rattle.cds_flac.specs.Reading.{header_at, header_of_length, kind_of}
use Rattle.cds_flac.proofs.Heads.{header-behind, header-forbidden, header-allowed, header-too_long, header-within}
use Rattle.cds_flac.proofs.Steps.{after-ok, judged-after, judged-same, agrees-exit}
use Rattle.cds_flac.proofs.block.read_header.Goals as goal

pub returns-in_err-head-clause-told : goal.returns-in_err-head-clause-told
unfolding header_at
returns-in_err-head-clause-told g c = λ bytes told.
    agrees-exit _ c.from_residual.result _ c.in_err-head.field-0.0 c.from_residual.ensures.1 (judged-after (big_number c.args.at 1 bytes) _ _ (c.in_err-head.ensures.told bytes told))

pub returns-then-kind-eq-FORBIDDEN-clause-told : goal.returns-then-kind-eq-FORBIDDEN-clause-told
returns-then-kind-eq-FORBIDDEN-clause-told g c = λ bytes told.
    let head = c.in_ok-head.ensures.told bytes told in
    let kind : kind_of c.in_ok-head.head ≡ 127 = sym c.kind_of_head-kind.ensures.value ∙ c.if-kind-eq-FORBIDDEN.true in
    header-behind c.args.at bytes head.0 c.in_ok-head.head head.1 ∙ header-forbidden c.args.at c.in_ok-head.head head.0 kind

pub returns-in_err-length-clause-told : goal.returns-in_err-length-clause-told
returns-in_err-length-clause-told g c = λ bytes told.
    let head = c.in_ok-head.ensures.told bytes told in
    agrees-exit _ c.from_residual-in_err-length.result _ c.in_err-length.field-0.0 c.from_residual-in_err-length.ensures.1
    (judged-same _
    (header-behind c.args.at bytes head.0 c.in_ok-head.head head.1
    ∙ header-allowed c.args.at c.in_ok-head.head head.0 (λ e. c.if-kind-eq-FORBIDDEN.false (c.kind_of_head-kind.ensures.value ∙ e)))
    (judged-after (big_number (c.args.at + 1) 3 head.0) _ _ (c.in_err-length.ensures.told head.0 head.2)))

pub returns-then-at-length-gt-INPUT_LIMIT-clause-told : goal.returns-then-at-length-gt-INPUT_LIMIT-clause-told
returns-then-at-length-gt-INPUT_LIMIT-clause-told g c = λ bytes told.
    let head = c.in_ok-head.ensures.told bytes told in
    let length = c.in_ok-length.ensures.told head.0 head.2 in
    header-behind c.args.at bytes head.0 c.in_ok-head.head head.1
    ∙ header-allowed c.args.at c.in_ok-head.head head.0 (λ e. c.if-kind-eq-FORBIDDEN.false (c.kind_of_head-kind.ensures.value ∙ e))
    ∙ after-ok (λ n rest. header_of_length c.args.at c.in_ok-head.head n rest) length.1
    ∙ header-too_long c.args.at c.in_ok-head.head length.0 c.in_ok-length.length (omega arith)

same_header : (l m : Bool) (j k n : ℕ) → l ≡ m → j ≡ k → ◌≡◌ {A = Header} record { last = l; kind = j; length = n } record { last = m; kind = k; length = n }
same_header l m j k n e f = cc

pub returns-clause-told : goal.returns-clause-told
returns-clause-told g c = λ bytes told.
    let head = c.in_ok-head.ensures.told bytes told in
    let length = c.in_ok-length.ensures.told head.0 head.2 in
    let n = c.in_ok-length.length in (
      length.0,
      header-behind c.args.at bytes head.0 c.in_ok-head.head head.1
          ∙ header-allowed c.args.at c.in_ok-head.head head.0 (λ e. c.if-kind-eq-FORBIDDEN.false (c.kind_of_head-kind.ensures.value ∙ e))
          ∙ after-ok (λ n rest. header_of_length c.args.at c.in_ok-head.head n rest) length.1
          ∙ header-within c.args.at c.in_ok-head.head length.0 n (omega arith)
          ∙ ap (λ (h : Header). Ok (h, length.0)) (same_header _ _ _ _ n (sym c.is_last_head.ensures) (sym c.kind_of_head-kind.ensures.value)),
      length.2,
    )

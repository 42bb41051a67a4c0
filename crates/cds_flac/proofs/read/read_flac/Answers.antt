-- The reading in order and the stated form say the same.
use Rattle.cds_flac.specs.Form.{ReadAs}
use Rattle.cds_flac.specs.Refused.{RefusedAs, RefusesWhatIs}
use Rattle.cds_flac.proofs.WholeForm.{form-was, handed_on, never_refused, says_one}
use Rattle.cds_flac.proofs.RefusedWhole.{refused-as}
use Rattle.cds_flac.proofs.FaultBlocks.{refuses-refusal, refuses-value}
use Rattle.cds_flac.proofs.read.read_flac.Goals as goal

pub returns-in_err-info-clause-all : goal.returns-in_err-info-clause-all
returns-in_err-info-clause-all g c = λ bytes told rest info is.
    handed_on (ReadAs info) c.from_residual.result c.in_err-info.field-0.0 c.from_residual.ensures.1
    (never_refused bytes rest info _ (c.in_err-info.ensures.told bytes told) is)

pub returns-clause-form : goal.returns-clause-form
returns-clause-form g c = λ bytes told.
    let read = c.in_ok-info.ensures.told bytes told in
    (read.0, form-was bytes (c.in_ok-info.info, read.0) read.1, read.2)

pub returns-clause-all : goal.returns-clause-all
returns-clause-all g c = λ bytes told rest info is.
    let read = c.in_ok-info.ensures.told bytes told in
    says_one bytes read.0 rest c.in_ok-info.info info read.1 is

pub returns-in_err-info-clause-refused : goal.returns-in_err-info-clause-refused
returns-in_err-info-clause-refused g c = λ bytes told.
    handed_on (RefusedAs bytes) c.from_residual.result c.in_err-info.field-0.0 c.from_residual.ensures.1
    (refused-as bytes _ (c.in_err-info.ensures.told bytes told))

pub returns-in_err-info-clause-all_refused : goal.returns-in_err-info-clause-all_refused
returns-in_err-info-clause-all_refused g c = λ bytes told.
    handed_on (RefusesWhatIs bytes) c.from_residual.result c.in_err-info.field-0.0 c.from_residual.ensures.1
    (refuses-refusal bytes _ (c.in_err-info.ensures.told bytes told))

pub returns-clause-all_refused : goal.returns-clause-all_refused
returns-clause-all_refused g c = λ bytes told.
    let read = c.in_ok-info.ensures.told bytes told in
    refuses-value bytes read.0 c.in_ok-info.info read.1

-- The law of the written form is this clause at the element.
use Rattle.cds_markup.proofs.DraftsForm.{written-is-read}
use Rattle.cds_markup.proofs.write.write_document.Goals as goal

pub returns-in_err-put_element-clause-read_back : goal.returns-in_err-put_element-clause-read_back
returns-in_err-put_element-clause-read_back c = written-is-read c.args.element.now

pub returns-in_err-extend_from_slice-clause-read_back : goal.returns-in_err-extend_from_slice-clause-read_back
returns-in_err-extend_from_slice-clause-read_back c = written-is-read c.args.element.now

pub returns-clause-read_back : goal.returns-clause-read_back
returns-clause-read_back c = written-is-read c.args.element.now

use Rattle.std.proofs.Common.{◌≡◌, ◌≢◌, ℕ}
use Rattle.cds_markup.specs.declared.error.MarkupError.{MarkupError}
use Rattle.cds_didl.specs.declared.error.DidlError.{DidlError}
use Rattle.cds_didl.specs.declared.error.DidlError.TheVariants.{Markup, NotDidl, BadValue, Mem}
use Rattle.cds_exchange.proofs.OneReading.{rows-none}
use Rattle.cds_exchange.proofs.reply.rows_in.Goals as goal

markup-differs : (refusal : DidlError) (cause : MarkupError) → refusal ≡ Markup cause → refusal ≢ Mem
markup-differs refusal cause is e = cc

other-differs : (refusal : DidlError) (at : ℕ) → refusal ≡ NotDidl at → refusal ≢ Mem
other-differs refusal at is e = cc

bad-differs : (refusal : DidlError) (at : ℕ) → refusal ≡ BadValue at → refusal ≢ Mem
bad-differs refusal at is e = cc

pub returns-in-Err-Markup : goal.returns-in-Err-Markup
returns-in-Err-Markup c =
    rows-none c.args.page.now c.in-Err-Markup.field-0 (markup-differs c.in-Err-Markup.field-0 c.in-Err-Markup.field-0-0 c.in-Err-Markup.field-0-is) c.in-Err-Markup.ensures

pub returns-in-Err-NotDidl : goal.returns-in-Err-NotDidl
returns-in-Err-NotDidl c =
    rows-none c.args.page.now c.in-Err-NotDidl.field-0 (other-differs c.in-Err-NotDidl.field-0 c.in-Err-NotDidl.field-0-0 c.in-Err-NotDidl.field-0-is) c.in-Err-NotDidl.ensures

pub returns-in-Err-BadValue : goal.returns-in-Err-BadValue
returns-in-Err-BadValue c =
    rows-none c.args.page.now c.in-Err-BadValue.field-0 (bad-differs c.in-Err-BadValue.field-0 c.in-Err-BadValue.field-0-0 c.in-Err-BadValue.field-0-is) c.in-Err-BadValue.ensures

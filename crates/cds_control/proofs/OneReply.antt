-- A control request has one reply.
use Rattle.std.proofs.Common.{◌≡◌, ◌≢◌, List, ℕ, Result, Ok, Err, sym, ◌∙◌, subst}
use Rattle.cds_soap.specs.declared.action.Asked.{Asked}
use Rattle.cds_soap.specs.declared.error.SoapError.{SoapError}
use Rattle.cds_soap.specs.declared.error.SoapError.TheVariants as error
use Rattle.cds_soap.specs.Laws.{OneAsk}
use Rattle.cds_control.specs.Published.{Published}
use Rattle.cds_control.specs.Replies.{IsReplyTo}
use Rattle.cds_control.specs.Laws.{one_reply}

one-text : (published : Published) (host : List ℕ) (read : Result Asked SoapError) (one other : List ℕ) → IsReplyTo published host read one
    → IsReplyTo published host read other → one ≡ other
one-text published host (Ok asked) one other is also = is ∙ sym also
one-text published host (Err (error.Markup refusal)) one other is also = is ∙ sym also
one-text published host (Err error.InvalidAction) one other is also = is ∙ sym also
one-text published host (Err error.InvalidArgs) one other is also = is ∙ sym also
one-text published host (Err error.NotAnswer) one other is also = absurd is
one-text published host (Err error.Mem) one other is also = absurd is

-- want of memory stands in no reply
had-memory : (published : Published) (host text : List ℕ) (read : Result Asked SoapError) → IsReplyTo published host read text → read ≢ Err error.Mem
had-memory published host text read is e = subst (λ r. IsReplyTo published host r text) e is

pub one-control : OneAsk → one_reply
one-control ask published host m one other is also =
    let same : is.0 ≡ also.0 =
    ask m is.0 also.0 is.1 also.1 (had-memory published host one is.0 is.2) (had-memory published host other also.0 also.2) in
    one-text published host also.0 one other (subst (λ r. IsReplyTo published host r one) same is.2) also.2

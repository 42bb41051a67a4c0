use Rattle.std.proofs.Common.{sym, ap, subst, ◌∙◌, option_copied}
use Rattle.cds_http.specs.Written.{CanBeWritten}
use Rattle.cds_soap.specs.Shell.{front_of, back_of}
use Rattle.cds_soap.proofs.Fields.{answer-fields-written}
use Rattle.cds_soap.proofs.Shells.{answer-joined}
use Rattle.cds_soap.proofs.answer_text.write_answer.Goals as goal

pub write_reply_head-requires : goal.write_reply_head-requires
write_reply_head-requires c = subst CanBeWritten (sym c.in_ok-fields.ensures) (answer-fields-written (option_copied c.args.token) c.requires.token)

pub returns-clause-ok : goal.returns-clause-ok
returns-clause-ok c =
    let given = c.args.answer.now in
    let front = c.in_ok-front.ensures ∙ ap (λ k. front_of k c.args.version given) c.name.ensures in
    let back = c.in_ok-back.ensures ∙ ap (λ k. back_of k given) c.name-2.ensures in
    answer-joined c.args.action.now c.args.version given (option_copied c.args.token) c.args.out.now.items c.append_reply.new.out.items c.new-head.result.items c.as_slice.result.now
    c.as_bytes.result.now c.as_str.result.now c.page_of-page.result.now c.as_bytes-2.result.now c.as_str-2.result.now c.in_ok-fields.fields c.status_of.result c.in_ok-count.count
    c.append_reply.result c.append_reply.ensures.ok (c.as_slice.ensures.value ∙ c.in_ok-write_reply_head.ensures.ok) c.new-head.ensures.items c.status_of.ensures c.in_ok-fields.ensures
    (c.as_bytes.ensures.value ∙ front) (c.as_str.ensures.value ∙ front) c.page_of-page.ensures (c.as_bytes-2.ensures.value ∙ back) (c.as_str-2.ensures.value ∙ back) c.in_ok-count.ensures

use Rattle.std.proofs.Common.{ap, ◌∙◌, sym, subst, List, All, map}
use Rattle.httparse.specs.declared.spans.HeaderSpan.{HeaderSpan}
use Rattle.httparse.specs.Spans.{header_bytes}
use Rattle.cds_http.specs.Head.{kept_fields, CanBeKept}
use Rattle.cds_http.proofs.HeadForms.{covered, reply_holds}
use Rattle.cds_http.proofs.head.reply_head.Goals as goal

pub read_fields-requires-clause-sound : goal.read_fields-requires-clause-sound
read_fields-requires-clause-sound c =
    let h = c.requires.covers.0 in
    let at = c.requires.covers.1 in
    let section = c.requires.within.section in
    subst (All (λ h. CanBeKept (header_bytes c.args.text.now h))) (sym c.split_at.ensures.front)
    (covered c.args.text.now _ c.args.spans.len h.fields at.reads.0.fields at.fields section.headers_fit section.len_fits c.requires.short)

pub returns : goal.returns
returns c =
    let h = c.requires.covers.0 in
    let at = c.requires.covers.1 in
    reply_holds c.args.text.now c.args.headers.now c.args.spans h c.in_ok-fields.fields at
    (c.in_ok-fields.ensures ∙ ap (λ (l : List HeaderSpan). kept_fields (map (header_bytes c.args.text.now) l)) c.split_at.ensures.front)

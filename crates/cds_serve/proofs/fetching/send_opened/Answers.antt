-- A file was opened and came back, or could not be opened, or memory ran out.
use Rattle.std.proofs.Common.{◌++◌, take, List, ℕ, sym, subst, inl, arith, string_bytes}
use Rattle.cds_serve.specs.declared.fetching.Fate.{Fate}
use Rattle.cds_serve.specs.declared.fetching.Fate.TheVariants.{Sent}
use Rattle.cds_serve.specs.Fetched.{OpensAt}
use Rattle.cds_serve.proofs.Fetches.{asked-in-vain, asks-once, came-back, came-faults, rose-home, unasked, unopened, writes-as, writes-of}
use Rattle.cds_serve.proofs.fetching.send_opened.Goals as goal

pub returns-in-Ok-clause-opened : goal.returns-in-Ok-clause-opened
returns-in-Ok-clause-opened g c =
    let old = g.F.Folder.told c.args.folder.now in
    let new = g.F.Folder.told c.done.new.self in
    let faults = (g.F.File.Source.told c.send_file.new.file).faults in
    let opened = c.in-Ok.ensures.opened in
    let returned = c.done.ensures.returned in
    let before = g.C.Sink.told c.args.conn.now in
    let after = g.C.Sink.told c.send_file.new.conn in
    let at = c.args.prepared.now.at in
    let count = c.args.prepared.now.count in
    subst (λ (p : List ℕ). OpensAt p at count c.args.prepared.now.head.items Sent old new before after) c.as_str.ensures.value
    (subst (λ (h : List ℕ). OpensAt c.as_str.result.now at count h Sent old new before after) c.as_slice.ensures.value (
      λ d given. writes-of at count c.as_slice.result.now _ _ _ before after (c.in-Ok.ensures.bytes d given)
          (λ bytes told. writes-as _ _ (c.as_slice.result.now ++ take count bytes) before after
          (λ rose. rose-home old.file_faults new.file_faults _ faults c.in-Ok.ensures.no_faults rose (came-faults _ faults old _ new opened returned))
          (c.send_file.ensures.sent bytes told)),
      asks-once _ faults old _ new opened returned (omega (arith, c.open_at.ensures.never_falls, c.done.ensures.never_falls)),
      came-back _ faults old _ new opened returned,
    ))

pub returns-in-Err-Failed-clause-opened : goal.returns-in-Err-Failed-clause-opened
returns-in-Err-Failed-clause-opened g c =
    let old = g.F.Folder.told c.args.folder.now in
    let new = g.F.Folder.told c.open_at.new.self in
    subst (λ (p : List ℕ). OpensAt p c.args.prepared.now.at c.args.prepared.now.count c.args.prepared.now.head.items c.answer_with.result old new
    (g.C.Sink.told c.args.conn.now) (g.C.Sink.told c.answer_with.new.conn)) c.as_str.ensures.value
    (unopened _ c.args.prepared.now.at c.args.prepared.now.count c.args.prepared.now.head.items c.empty_text.result c.answer_with.result old new _ _
    c.empty_text.ensures c.answer_with.ensures.answered c.answer_with.ensures.starved
    (asked-in-vain _ old new (rw c.in-Err-Failed.field-0-is at c.in-Err-Failed.ensures.others_stay) c.open_at.ensures.never_falls)
    (rw c.in-Err-Failed.field-0-is at c.in-Err-Failed.ensures.rose))

pub returns-in-Err-Mem-clause-opened : goal.returns-in-Err-Mem-clause-opened
returns-in-Err-Mem-clause-opened g c =
    subst (λ (f : Fate). OpensAt (string_bytes c.args.prepared.now.path) c.args.prepared.now.at c.args.prepared.now.count c.args.prepared.now.head.items f
    (g.F.Folder.told c.args.folder.now) (g.F.Folder.told c.open_at.new.self) (g.C.Sink.told c.args.conn.now) (g.C.Sink.told c.starved.new.conn))
    (sym c.starved.ensures.fate)
    (c.starved.ensures.written, inl (unasked _ _ (rw c.in-Err-Mem.field-0-is at c.in-Err-Mem.ensures.others_stay) (rw c.in-Err-Mem.field-0-is at c.in-Err-Mem.ensures.rose)))

use Rattle.std.proofs.Common.{◌≡◌, [], ◌++◌, codes, OnOk, subst}
use Rattle.cds_http.specs.Written.{written_request}
use Rattle.cds_gena.specs.Written.{target_of}
use Rattle.cds_gena.proofs.request.write_unsubscribe.Goals as goal

pub returns-clause-ok : goal.returns-clause-ok
returns-clause-ok c =
    subst (λ f. OnOk c.put_request.result (c.put_request.new.out.items ≡ c.args.out.now.items ++ written_request (codes "UNSUBSCRIBE") (target_of c.args.url.now) f []))
    c.in_ok-fields.ensures.fields c.put_request.ensures.ok

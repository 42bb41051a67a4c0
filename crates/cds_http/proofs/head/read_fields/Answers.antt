use Rattle.std.proofs.Common.{arith, ap, ◌∙◌, List, ℕ, length}
use Rattle.http_header.specs.HeaderMap.{append, value_count}
use Rattle.http_header.specs.Token.{lowercase}
use Rattle.cds_http.proofs.FieldForms.{kept_shared, length-append_field, value_count-append}
use Rattle.cds_http.proofs.head.read_fields.Goals as goal

pub loop-header-preserved : goal.loop-header-preserved
loop-header-preserved c =
    let v = c.in_ok-value.value in
    let now = c.in_ok-add_field.ensures.ok ∙ ap (λ (n : List ℕ). append c.loop-header.fields n v) c.in_ok-name.ensures in
    record {
      kept = kept_shared c.args.text.now c.in_ok-shared.shared c.args.headers.now c.loop-header.header-index _ c.loop-header.fields c.add_field.new.fields
          c.of.result.now v (omega arith) c.in_ok-shared.ensures c.of.ensures c.in_ok-value.ensures c.loop-header.invariant.kept now;
      names = omega (arith, ap length now, length-append_field c.loop-header.fields (lowercase c.of.result.now) v, c.loop-header.invariant.names);
      values = omega (arith, ap value_count now, value_count-append c.loop-header.fields (lowercase c.of.result.now) v, c.loop-header.invariant.values);
    }

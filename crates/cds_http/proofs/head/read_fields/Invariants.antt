use Rattle.std.proofs.Common.{◌≡◌, ◌≤◌, length, map, take}
use Rattle.httparse.specs.Spans.{header_bytes}
use Rattle.http_header.specs.HeaderMap.{value_count}
use Rattle.cds_http.specs.Head.{kept_fields}
use Rattle.cds_http.proofs.head.read_fields.Given as goal

abbrev pub invariant-loop-header : goal.invariant-loop-header
invariant-loop-header l = record {
  kept : l.fields ≡ kept_fields (map (header_bytes l.text) (take l.header-index l.headers));
  names : length l.fields ≤ l.header-index;
  values : value_count l.fields ≤ l.header-index;
}

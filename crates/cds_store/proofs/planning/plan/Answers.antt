use Rattle.std.proofs.Common.{◌≡◌, ◌∙◌, ◌+◌, ◌≤◌, sym, ap, None, true, false, length, reverse, nat_lt, [], arith}
use Rattle.cds_catalog.specs.Library.{map_of, found}
use Rattle.cds_catalog.specs.Scans.{bad_record, NoNumbers}
use Rattle.cds_store.specs.Rows.{put_places}
use Rattle.cds_store.proofs.Answering.{few_changes, scan_accepted, scan_spent, changes_shown}
use Rattle.cds_store.proofs.planning.plan.Goals as goal

pub overflow_cast-needed : goal.overflow_cast-needed
overflow_cast-needed c =
    let good : bad_record c.args.records.now ≡ None = ap bad_record (sym c.as_slice.ensures) ∙ sym c.in_ok-line.ensures ∙ c.in_default.is in
    let room : length c.args.records.now ≤ 65535 = omega arith in
    let made : reverse c.in_ok-changes.changes.items ≡ found (put_places [] c.args.catalog.now.rows) (map_of c.args.records.now) =
    c.in_ok-changes.ensures
    ∙ ap (λ r. found (put_places [] r) (map_of c.as_slice-2.result.now)) c.rows.ensures
    ∙ ap (λ r. found (put_places [] c.args.catalog.now.rows) (map_of r)) c.as_slice-2.ensures in
    let few = few_changes c.args.catalog.now c.requires.stands.history c.args.records.now c.in_ok-changes.changes.items
    c.requires.stands.stands c.requires.rows good room made in
    omega arith

pub returns-then-is_spent-clause-refused : goal.returns-then-is_spent-clause-refused
returns-then-is_spent-clause-refused c = λ history stands.
    let good : bad_record c.args.records.now ≡ None = ap bad_record (sym c.as_slice.ensures) ∙ sym c.in_ok-line.ensures ∙ c.in_default.is in
    let room : length c.args.records.now ≤ 65535 = omega arith in
    let made : reverse c.in_ok-changes.changes.items ≡ found (put_places [] c.args.catalog.now.rows) (map_of c.args.records.now) =
    c.in_ok-changes.ensures
    ∙ ap (λ r. found (put_places [] r) (map_of c.as_slice-2.result.now)) c.rows.ensures
    ∙ ap (λ r. found (put_places [] c.args.catalog.now.rows) (map_of r)) c.as_slice-2.ensures in
    let many : length c.in_ok-changes.changes.items ≡ c.len-needed.result = omega arith in
    let spent : nat_lt 4294967295 (c.args.catalog.now.number + length c.in_ok-changes.changes.items) ≡ true =
    ap (λ n. nat_lt 4294967295 (c.args.catalog.now.number + n)) many
    ∙ ap (λ n. nat_lt 4294967295 (n + c.len-needed.result)) (sym c.number.ensures)
    ∙ sym c.is_spent.ensures ∙ c.if-is_spent.true in
    scan_spent c.args.catalog.now history c.args.records.now c.in_ok-changes.changes.items stands good room made spent ∙ ap NoNumbers many

pub returns-clause-made : goal.returns-clause-made
returns-clause-made c = λ history stands.
    let good : bad_record c.args.records.now ≡ None = ap bad_record (sym c.as_slice.ensures) ∙ sym c.in_ok-line.ensures ∙ c.in_default.is in
    let room : length c.args.records.now ≤ 65535 = omega arith in
    let made : reverse c.in_ok-changes.changes.items ≡ found (put_places [] c.args.catalog.now.rows) (map_of c.args.records.now) =
    c.in_ok-changes.ensures
    ∙ ap (λ r. found (put_places [] r) (map_of c.as_slice-2.result.now)) c.rows.ensures
    ∙ ap (λ r. found (put_places [] c.args.catalog.now.rows) (map_of r)) c.as_slice-2.ensures in
    let many : length c.in_ok-changes.changes.items ≡ c.len-needed.result = omega arith in
    let spent : nat_lt 4294967295 (c.args.catalog.now.number + length c.in_ok-changes.changes.items) ≡ false =
    ap (λ n. nat_lt 4294967295 (c.args.catalog.now.number + n)) many
    ∙ ap (λ n. nat_lt 4294967295 (n + c.len-needed.result)) (sym c.number.ensures)
    ∙ sym c.is_spent.ensures ∙ c.if-is_spent.false in (
      scan_accepted c.args.catalog.now history c.args.records.now c.in_ok-changes.changes.items stands good room made spent,
      changes_shown c.args.catalog.now history c.args.records.now c.in_ok-changes.changes.items stands made,
    )

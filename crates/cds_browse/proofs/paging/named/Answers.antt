use Rattle.std.proofs.Common.{◌≡◌, ◌^◌, true, false, Some, None, sym, ◌∙◌}
use Rattle.std.specs.Str.{bytes_eq}
use Rattle.std.specs.Fmt.{decimal}
use Rattle.cds_base.specs.Number.{number_below}
use Rattle.cds_browse.proofs.Named.{none_named, named_by, not_named}
use Rattle.cds_browse.proofs.paging.named.Goals as goal

pub returns-in_default : goal.returns-in_default
returns-in_default g c =
    let read : number_below (2 ^ 32) c.args.text.now ≡ None = cc in
    sym (none_named c.args.text.now (g.V.View.rows c.args.view.now) c.view_facts.ensures.fit read)

pub returns-then-branch : goal.returns-then-branch
returns-then-branch g c =
    let read : number_below (2 ^ 32) c.args.text.now ≡ Some c.in-Some.id = cc in
    let is : bytes_eq c.args.text.now (decimal c.in-Some.id) ≡ true = sym c.in_ok-is_decimal_of.ensures ∙ c.if-branch.true in
    c.get.ensures ∙ sym (named_by c.args.text.now c.in-Some.id (g.V.View.rows c.args.view.now) c.view_facts.ensures.fit read is)

pub returns-else-branch : goal.returns-else-branch
returns-else-branch g c =
    let read : number_below (2 ^ 32) c.args.text.now ≡ Some c.in-Some.id = cc in
    let is : bytes_eq c.args.text.now (decimal c.in-Some.id) ≡ false = sym c.in_ok-is_decimal_of.ensures ∙ c.if-branch.false in
    sym (not_named c.args.text.now c.in-Some.id (g.V.View.rows c.args.view.now) c.view_facts.ensures.fit read is)

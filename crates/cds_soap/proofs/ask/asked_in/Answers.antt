use Rattle.std.proofs.Common.{◌≡◌, Some, sym, ◌∙◌}
use Rattle.cds_soap.specs.Found.{named_by, found_as}
use Rattle.cds_soap.proofs.Naming.{none-mapped, some-mapped}
use Rattle.cds_soap.proofs.Looking.{looked-none, looked-found}
use Rattle.cds_soap.proofs.ask.asked_in.Goals as goal

pub returns-in-None : goal.returns-in-None
returns-in-None c = looked-none c.args.message.now c.args.seen.now c.requires.seen (none-mapped _ _ _ c.in_ok-found.ensures c.in-None.is)

pub returns-in-Some-2 : goal.returns-in-Some-2
returns-in-Some-2 c =
    let found = c.in-Some.found in
    let some : named_by c.args.message.now.fields c.args.seen.now ≡ Some (found_as found.name found.version found.call.now) = some-mapped _ _ _ _ c.in_ok-found.ensures c.in-Some.is in
    let looked = looked-found c.args.message.now c.args.seen.now found.call.now found.name found.version c.requires.seen some in (
      looked.element,
      looked.document,
      record { action_name = found.name; call = looked.call; names = looked.names; arguments = looked.given ∙ sym c.in_ok-action.ensures ∙ c.in-Some-2.is },
    )

pub returns-in-None-2 : goal.returns-in-None-2
returns-in-None-2 c =
    let found = c.in-Some.found in
    let some : named_by c.args.message.now.fields c.args.seen.now ≡ Some (found_as found.name found.version found.call.now) = some-mapped _ _ _ _ c.in_ok-found.ensures c.in-Some.is in
    let looked = looked-found c.args.message.now c.args.seen.now found.call.now found.name found.version c.requires.seen some in
    record {
      element = looked.element;
      document = looked.document;
      action_name = found.name;
      version = found.version;
      call = looked.call;
      names = looked.names;
      arguments = looked.given ∙ sym c.in_ok-action.ensures ∙ c.in-None-2.is;
    }

-- The action for each ask of a replica (UPnP ContentDirectory:4 on GetServiceResetToken, GetSystemUpdateID and Browse).
use Rattle.std.specs.Prelude.{ℕ, List, [], codes}
use Rattle.std.specs.Fmt.{decimal}
use Rattle.cds_load.specs.declared.exchange.Ask.{Ask}
use Rattle.cds_load.specs.declared.exchange.Ask.TheVariants.{Token, Number, Metadata, Children}
use Rattle.cds_load.specs.Server.{page_size}
use Rattle.cds_soap.specs.declared.action.Action.{Action}
use Rattle.cds_soap.specs.declared.action.Action.TheVariants as action
use Rattle.cds_soap.specs.declared.action.BrowseRequest.{BrowseRequest}

-- Browse of an object by its id in plain decimal: every property, at most 256 rows from a place on, and no sort
-- criteria.
abbrev pub browse_of : ℕ → List ℕ → ℕ → BrowseRequest
browse_of id flag start = record {
  object = decimal id;
  flag = flag;
  filter = codes "*";
  start = start;
  count = page_size;
  sort = [];
}

abbrev pub action_of : Ask → Action
action_of Token = action.GetServiceResetToken
action_of Number = action.GetSystemUpdateId
action_of (Metadata id) = action.Browse (browse_of id (codes "BrowseMetadata") 0)
action_of (Children id start) = action.Browse (browse_of id (codes "BrowseDirectChildren") start)

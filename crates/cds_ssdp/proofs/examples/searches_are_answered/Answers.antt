use Rattle.std.proofs.Common.{ℕ, List, [], ◌++◌, codes, Some, refl, arith}
use Rattle.std.specs.Fmt.{digits}
use Rattle.uuid.specs.Text.{by_index}
use Rattle.httparse.specs.Grammar.{print_request, trim_ows}
use Rattle.cds_ssdp.specs.Targets.{device_name, root_device, device_type, service_type}
use Rattle.cds_ssdp.specs.Replies.{first_lines, start_lines, last_lines, reply_text}
use Rattle.cds_ssdp.specs.Search.{Searches}
use Rattle.cds_ssdp.specs.Examples.{service_search}
use Rattle.cds_ssdp.proofs.Literal.{message_of, head_for, search-there}
use Rattle.cds_ssdp.proofs.examples.searches_are_answered.Goals as goal

abbrev service : List ℕ → List ℕ
service version = codes "urn:schemas-upnp-org:service:ContentDirectory:" ++ version

second : (rest : List ℕ) → Searches (service_search (codes "2") ++ rest) (service (codes "2"))
unfolding print_request trim_ows
second rest = let there = search-there (service (codes "2")) rest refl (omega arith) in (message_of (head_for (service (codes "2"))), there.0, there.1, refl)

fifth : Searches (service_search (codes "5")) (service (codes "5"))
unfolding print_request trim_ows
fifth = let there = search-there (service (codes "5")) [] refl (omega arith) in (message_of (head_for (service (codes "5"))), there.0, there.1, refl)

pub returns : goal.returns
unfolding digits by_index device_name root_device device_type service_type first_lines start_lines last_lines reply_text
returns c = (
  second [],
  (Some (service (codes "2")), second [], refl),
  (Some (service (codes "2")), second (codes "more"), refl),
  fifth,
  (Some (service (codes "5")), fifth, refl),
)

-- What is written of a request about a subscription, and of the reply to one that is granted, is read as it was written.
use Rattle.std.specs.Prelude.{◌≡◌, ◌≢◌, ◌≤◌, ◌<◌, ◌^◌, ℕ, Bool, IsTrue, List, [], ◌++◌, codes, length, Some, None, Ok}
use Rattle.url.specs.Parts.{Parts, IsValid}
use Rattle.cds_http.specs.declared.message.Side.TheVariants.{Request, Reply}
use Rattle.cds_http.specs.declared.message.Start.TheVariants.{Request as of_request, Reply as of_reply}
use Rattle.cds_http.specs.declared.message.Message.{Message}
use Rattle.cds_http.specs.Known.{Whole}
use Rattle.cds_http.specs.Head.{head_limit}
use Rattle.cds_http.specs.Decided.{Decides}
use Rattle.cds_http.specs.Written.{request_text, written_reply}
use Rattle.cds_gena.specs.declared.gena.Gena.{Gena}
use Rattle.cds_gena.specs.declared.gena.Gena.TheVariants.{Subscribe, Renew, Unsubscribe}
use Rattle.cds_gena.specs.declared.sid.Sid.{Sid}
use Rattle.cds_gena.specs.declared.lease.Lease.{Lease}
use Rattle.cds_gena.specs.Asked.{asks_of_subscription, field_of, gena_of, is_deliverable, least_seconds, most_seconds}
use Rattle.cds_gena.specs.Leased.{lease_in}
use Rattle.cds_gena.specs.Written.{host_of, target_of, subscribe_fields, renewal_fields, unsubscribe_fields, lease_fields, subscribe_text, renewal_text, unsubscribe_text}

-- bytes, at the end of the connection or before it, are a request with this method to an address and then more; the
-- request asks for this
pub record AreAsked (ended : Bool) (bytes method : List ℕ) (url : Parts) (gena : Gena) (more : List ℕ) : Type 0 where
  pub message : Message
  pub whole : Decides ended Request bytes (Whole message more)
  pub start : message.start ≡ of_request method (target_of url)
  pub host : field_of (codes "host") message.fields ≡ Some (host_of url)
  pub of_subscription : IsTrue (asks_of_subscription message.start)
  pub asks : gena_of message ≡ Ok gena

-- a written request is read so, whatever comes after it, if its addresses are `http` URLs with a host and its head is
-- within the limit of a head: a new subscription
abbrev pub subscribes_are_read : Type 0
subscribes_are_read =
    (url callback : Parts) (more : List ℕ) (ended : Bool)
    → IsValid url → IsTrue (is_deliverable url) → IsValid callback → IsTrue (is_deliverable callback)
    → length (request_text (codes "SUBSCRIBE") (target_of url) (subscribe_fields url callback) 0) ≤ head_limit
    → AreAsked ended (subscribe_text url callback ++ more) (codes "SUBSCRIBE") url (Subscribe callback 1800) more

-- a renewal
abbrev pub renewals_are_read : Type 0
renewals_are_read =
    (url : Parts) (sid : Sid) (more : List ℕ) (ended : Bool) → IsValid url → IsTrue (is_deliverable url) → sid.0 < 2 ^ 128
    → length (request_text (codes "SUBSCRIBE") (target_of url) (renewal_fields url sid.0) 0) ≤ head_limit
    → AreAsked ended (renewal_text url sid.0 ++ more) (codes "SUBSCRIBE") url (Renew sid 1800) more

-- and an end
abbrev pub unsubscribes_are_read : Type 0
unsubscribes_are_read =
    (url : Parts) (sid : Sid) (more : List ℕ) (ended : Bool) → IsValid url → IsTrue (is_deliverable url) → sid.0 < 2 ^ 128
    → length (request_text (codes "UNSUBSCRIBE") (target_of url) (unsubscribe_fields url sid.0) 0) ≤ head_limit
    → AreAsked ended (unsubscribe_text url sid.0 ++ more) (codes "UNSUBSCRIBE") url (Unsubscribe sid) more

-- bytes, at the end of the connection or before it, are a reply and then more; the reply grants this
pub record AreGranting (ended : Bool) (bytes : List ℕ) (lease : Lease) (more : List ℕ) : Type 0 where
  pub message : Message
  pub whole : Decides ended Reply bytes (Whole message more)
  pub grants : lease_in message ≡ Some lease

-- a written reply to a subscription that is granted is read so, whatever comes after it
abbrev pub leases_are_read : Type 0
leases_are_read =
    (sid : Sid) (seconds : ℕ) (more : List ℕ) (ended : Bool) → sid.0 < 2 ^ 128 → least_seconds ≤ seconds → seconds ≤ most_seconds
    → AreGranting ended (written_reply 200 (lease_fields sid.0 seconds) [] ++ more) (record { sid = sid; seconds = seconds }) more

-- a reply with another status grants nothing
abbrev pub others_grant_nothing : Type 0
others_grant_nothing = (message : Message) (status : ℕ) → message.start ≡ of_reply status → status ≢ 200 → lease_in message ≡ None

-- What bytes that begin with a message say of it, before the connection has ended or at its end.
use Rattle.std.specs.Prelude.{◌≡◌, ℕ, Bool, List, Result, Ok, Err}
use Rattle.cds_http.specs.declared.error.HttpError.{HttpError}
use Rattle.cds_http.specs.declared.message.Side.{Side}
use Rattle.cds_http.specs.declared.message.Message.{Message}
use Rattle.cds_http.specs.declared.framing.Framing.{Framing}
use Rattle.cds_http.specs.declared.head.Head.{Head}
use Rattle.cds_http.specs.Known.{Known, Refused, Then, map_known}
use Rattle.cds_http.specs.Head.{HeadKnown}
use Rattle.cds_http.specs.Framing.{framing_of}
use Rattle.cds_http.specs.Chunks.{BodyKnown}

-- A head with a body.
abbrev pub with_body : Head → List ℕ → Message
with_body head body = record { start = head.start; fields = head.fields; body = body }

abbrev pub with_head : Head → Known (List ℕ) → Known Message
with_head head known = map_known (with_body head) known

-- What follows a head. The fields of the head give the rule for the body.
abbrev pub FramedKnown : Bool → Result Framing HttpError → Head → List ℕ → Known Message → Type 0
FramedKnown ended (Err e) head rest known = known ≡ Refused e
FramedKnown ended (Ok framing) head rest known = (body : Known (List ℕ)) × BodyKnown ended framing rest body × (known ≡ with_head head body)

abbrev pub AfterHead : Bool → Side → Head → List ℕ → Known Message → Type 0
AfterHead ended side head rest known = FramedKnown ended (framing_of side head.fields) head rest known

abbrev pub Decides : Bool → Side → List ℕ → Known Message → Type 0
Decides ended side bytes known = (head : Known Head) × HeadKnown side bytes head × Then head (AfterHead ended side) known

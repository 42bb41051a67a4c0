-- Laws of what a connection is answered and of how a listening server makes names.
use Rattle.std.specs.Prelude.{◌≡◌, ◌↔◌, ◌+◌, ◌*◌, ◌%◌, ◌^◌, ◌<◌, ℕ, List, Some}
use Rattle.cds_http.specs.declared.message.Message.{Message}
use Rattle.cds_commands.specs.Commands.{Command, Start}
use Rattle.cds_commands.specs.Names.{name_of}
use Rattle.cds_control.specs.Replies.{empty_reply}
use Rattle.cds_server.specs.Replies.{IsReply}
use Rattle.cds_server.specs.Route.{request_status}
use Rattle.cds_serve.specs.Life.{start_at}

-- If a request is answered with a status and no turn, the server would give the same reply, at each moment and after each list of
-- commands.
abbrev pub free_answers_are_replies : Type 0
free_answers_are_replies = (start : Start) (commands : List Command) (now : ℕ) (m : Message) (status : ℕ) (text : List ℕ) →
    request_status m.start ≡ Some status → IsReply start commands now m text ↔ (text ≡ empty_reply status)

-- A name has 128 bits. The upper 48 are the moment's lowest; the lower 48 are the port and the number of the grant. Between them
-- stand the version 8 and the variant of a UUID (RFC 9562). No other bit is set.
abbrev pub names_are_of_the_start : Type 0
names_are_of_the_start = (moment port number : ℕ) → port < 2 ^ 16 →
    name_of (start_at moment port) number ≡ moment % 2 ^ 48 * 2 ^ 80 + 8 * 2 ^ 76 + 2 ^ 63 + port * 2 ^ 32 + number

-- If grants number fewer than 2^32, a name tells the moment modulo 2^48, the port and the number.
abbrev pub names_tell_the_server : Type 0
names_tell_the_server = (moment other port beside number count : ℕ) → port < 2 ^ 16 → beside < 2 ^ 16 → number < 2 ^ 32 → count < 2 ^ 32 →
    name_of (start_at moment port) number ≡ name_of (start_at other beside) count →
    (moment % 2 ^ 48 ≡ other % 2 ^ 48) × (port ≡ beside) × (number ≡ count)

-- Small cases, evaluated from the definitions.
use Rattle.std.specs.Prelude.{◌≡◌, ◌+◌, ◌^◌, codes, Some, None}
use Rattle.cds_http.specs.declared.error.HttpError.TheVariants.{BadHead, HeadTooLong, TooLong}
use Rattle.cds_http.specs.Known.{Needs, Refused}
use Rattle.cds_commands.specs.Names.{name_of}
use Rattle.cds_gena.specs.SidText.{sid_text}
use Rattle.cds_server.specs.Route.{status_at}
use Rattle.cds_serve.specs.Answered.{free_answer}
use Rattle.cds_http.specs.declared.message.Start.TheVariants as line
use Rattle.cds_serve.specs.Life.{first_word, life_text, second_word, share_of}
use Rattle.cds_serve.specs.Target.{target_of}
use Rattle.cds_serve.specs.declared.target.Document.TheVariants.{Device, Service}
use Rattle.cds_serve.specs.declared.target.FreeAnswer.TheVariants.{Document, Status}
use Rattle.cds_serve.specs.declared.target.Target.TheVariants.{File, Free, Server}

-- what is evaluated:
-- - the lines of a server that served two connections and scanned once;
-- - the shares of its workers;
-- - the first boot word of the moment 2^48 + 1, which is that of the moment 1;
-- - the name of the first subscription, at the moment 1 and the port 49152
abbrev pub LivesAreWritten : Type 0
LivesAreWritten =
    (life_text 49152 2 (record { accepted = 1; refused = 0; memory = 0 }) ≡ codes "serving 49152\nserved 2 scans 1 refused 0 memory 0\n")
    × (share_of 0 0 ≡ 0)
    × (share_of 2 0 ≡ 1)
    × (share_of 2 1 ≡ 1)
    × (share_of 2 2 ≡ 0)
    × (share_of 2 3 ≡ 0)
    × (share_of 4294967295 0 ≡ 1073741824)
    × (share_of 4294967295 2 ≡ 1073741824)
    × (share_of 4294967295 3 ≡ 1073741823)
    × (first_word (2 ^ 48 + 1) ≡ 65536)
    × (sid_text (name_of (record { high = first_word 1; low = second_word 49152; first = 0; wrap = 4294967295 }) 1) ≡ codes "uuid:00000000-0001-8000-8000-c00000000001")

-- the requests that are answered without a turn: target and method are compared whole and as they stand
abbrev pub RequestsAreFree : Type 0
RequestsAreFree =
    (status_at (codes "/control") (codes "POST") ≡ None)
    × (status_at (codes "/event") (codes "SUBSCRIBE") ≡ None)
    × (status_at (codes "/event") (codes "UNSUBSCRIBE") ≡ None)
    × (status_at (codes "/control") (codes "GET") ≡ Some 405)
    × (status_at (codes "/control") (codes "SUBSCRIBE") ≡ Some 405)
    × (status_at (codes "/event") (codes "POST") ≡ Some 405)
    × (status_at (codes "/event") (codes "subscribe") ≡ Some 405)
    × (status_at (codes "/control?x") (codes "POST") ≡ Some 404)
    × (status_at (codes "/") (codes "GET") ≡ Some 404)
    × (free_answer Needs ≡ Some (Status 400))
    × (free_answer (Refused BadHead) ≡ Some (Status 400))
    × (free_answer (Refused HeadTooLong) ≡ Some (Status 400))
    × (free_answer (Refused TooLong) ≡ Some (Status 413))

-- where messages go by their targets; an id is a number in plain decimal below 2^32
abbrev pub TargetsAreRead : Type 0
TargetsAreRead =
    (target_of (line.Request (codes "GET") (codes "/media/7")) ≡ File 7)
    × (target_of (line.Request (codes "POST") (codes "/media/7")) ≡ File 7)
    × (target_of (line.Request (codes "GET") (codes "/media/0")) ≡ File 0)
    × (target_of (line.Request (codes "GET") (codes "/media/4294967295")) ≡ File 4294967295)
    × (target_of (line.Request (codes "GET") (codes "/media/4294967296")) ≡ Free (Status 404))
    × (target_of (line.Request (codes "GET") (codes "/media/007")) ≡ Free (Status 404))
    × (target_of (line.Request (codes "GET") (codes "/media/")) ≡ Free (Status 404))
    × (target_of (line.Request (codes "GET") (codes "/media/7?x")) ≡ Free (Status 404))
    × (target_of (line.Request (codes "GET") (codes "/device.xml")) ≡ Free (Document Device))
    × (target_of (line.Request (codes "GET") (codes "/cds.xml")) ≡ Free (Document Service))
    × (target_of (line.Request (codes "HEAD") (codes "/device.xml")) ≡ Free (Status 405))
    × (target_of (line.Request (codes "POST") (codes "/control")) ≡ Server)

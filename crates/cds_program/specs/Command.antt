-- Which words are a command's, and the texts of those that write one (this project's profile).
use Rattle.std.specs.Prelude.{◌≡◌, ◌⊎◌, ◌≤◌, ◌^◌, ℕ, cond, nat_le, ◌&&◌, List, [], ◌∷◌, ◌++◌, Option, Some, None, codes}
use Rattle.std.specs.Option.{option_and_then}
use Rattle.cds_base.specs.Number.{plain_below}
use Rattle.uuid.specs.Text.{parsed}
use Rattle.cds_announce.specs.Ended.{first_uuid}
use Rattle.cds_object.specs.Content.{same_text}
use Rattle.cds_program.specs.declared.command.Command.{Command}
use Rattle.cds_program.specs.declared.command.Command.TheVariants.{Replay, Summary, Generate, Check, Scan, Serve, Announce, Help, Version}

abbrev pub command_named : List ℕ → Option Command
command_named word =
    cond (same_text word (codes "replay")) (Some Replay)
    (cond (same_text word (codes "summary")) (Some Summary)
    (cond (same_text word (codes "check")) (Some Check)
    (cond (same_text word (codes "--help")) (Some Help)
    (cond (same_text word (codes "--version")) (Some Version) None))))

-- to generate a script, if a seed and a number of tracks are given
abbrev pub generation_of : Option ℕ → Option ℕ → Option Command
generation_of (Some seed) (Some tracks) = Some (Generate seed tracks)
generation_of (Some seed) None = None
generation_of None tracks = None

-- a generated library has 1 to 10,000 tracks
abbrev pub tracks_said : List ℕ → Option ℕ
tracks_said word = option_and_then (λ n. cond (nat_le 1 n && nat_le n 10000) (Some n) None) (plain_below (2 ^ 64) word)

-- to serve, if a port and a number of connections are given
abbrev pub service_of : Option ℕ → Option ℕ → Option Command
service_of (Some port) (Some requests) = Some (Serve port requests)
service_of (Some port) None = None
service_of None requests = None

-- to announce a device, if a port, a number of datagrams and a UUID are given
abbrev pub announcement_of : Option ℕ → Option ℕ → Option (List ℕ) → Option Command
announcement_of (Some port) (Some count) (Some uuid) = Some (Announce port count uuid)
announcement_of (Some port) (Some count) None = None
announcement_of (Some port) None uuid = None
announcement_of None count uuid = None

-- to serve or to announce, by the name of the command
abbrev pub service_named : List ℕ → List ℕ → List ℕ → Option Command
service_named word port many =
    cond (same_text word (codes "serve")) (service_of (plain_below (2 ^ 16) port) (plain_below (2 ^ 32) many))
    (cond (same_text word (codes "announce")) (announcement_of (plain_below (2 ^ 16) port) (plain_below (2 ^ 32) many) (Some first_uuid)) None)

-- a command is one word alone, except for four. A folder follows `scan`. A seed and a number of tracks follow `generate`. A port,
-- a folder and a number of connections follow `serve`. A port, a location and a number of datagrams follow `announce`, and maybe a
-- UUID. The numbers are in plain decimal
abbrev pub command_of : List (List ℕ) → Option Command
command_of [] = None
command_of (word ∷ []) = command_named word
command_of (word ∷ folder ∷ []) = cond (same_text word (codes "scan")) (Some Scan) None
command_of (word ∷ seed ∷ tracks ∷ []) = cond (same_text word (codes "generate")) (generation_of (plain_below (2 ^ 64) seed) (tracks_said tracks)) None
command_of (word ∷ port ∷ place ∷ many ∷ []) = service_named word port many
command_of (word ∷ port ∷ place ∷ many ∷ uuid ∷ []) =
    cond (same_text word (codes "announce")) (announcement_of (plain_below (2 ^ 16) port) (plain_below (2 ^ 32) many) (parsed uuid)) None
command_of (word ∷ port ∷ place ∷ many ∷ uuid ∷ more ∷ words) = None

-- the folder that the words of `scan` name
abbrev pub folder_in : List (List ℕ) → List ℕ
folder_in (word ∷ folder ∷ words) = folder
folder_in words = []

-- the folder that the words of `serve` name, and the location that those of `announce` name
abbrev pub place_in : List (List ℕ) → List ℕ
place_in (word ∷ port ∷ folder ∷ words) = folder
place_in (word ∷ port ∷ []) = []
place_in (word ∷ []) = []
place_in [] = []

-- the commands that take what the source gives
abbrev pub TakesInput : Option Command → Type 0
TakesInput command = (command ≡ Some Replay) ⊎ ((command ≡ Some Summary) ⊎ (command ≡ Some Check))

-- the commands that play a script
abbrev pub PlaysScript : Option Command → Type 0
PlaysScript command = (command ≡ Some Replay) ⊎ (command ≡ Some Summary)

-- the command that generates a script
abbrev pub Generates : Option Command → Type 0
Generates command = (seed : ℕ) × ((tracks : ℕ) × (command ≡ Some (Generate seed tracks)))

-- a number of tracks that a generated library may have, if a command names one
abbrev pub FewTracks : Option Command → Type 0
FewTracks (Some (Generate seed tracks)) = (1 ≤ tracks) × (tracks ≤ 10000)
FewTracks (Some command) = Unit {0}
FewTracks None = Unit {0}

-- the command that serves
abbrev pub Serves : Option Command → Type 0
Serves command = (port : ℕ) × ((requests : ℕ) × (command ≡ Some (Serve port requests)))

-- the command that announces a device
abbrev pub Announces : Option Command → Type 0
Announces command = (port : ℕ) × ((count : ℕ) × ((uuid : List ℕ) × (command ≡ Some (Announce port count uuid))))

-- what is written if the words are no command's
abbrev pub usage_text : List ℕ
usage_text = codes "usage: cds COMMAND\n"

-- what `--version` writes
abbrev pub version_text : List ℕ
version_text = codes "cds 0.1.0\n"

-- what `--help` writes: the commands and the exit statuses
abbrev pub help_text : List ℕ
help_text =
    codes "usage: cds COMMAND\n\n"
    ++ codes "Commands:\n"
    ++ codes "  replay       play the script on standard input and write its report\n"
    ++ codes "  summary      play the script on standard input and write how many lines its report has\n"
    ++ codes "  generate SEED TRACKS\n"
    ++ codes "               write a script of 40 scans of a library with TRACKS tracks, from 1 to\n"
    ++ codes "               10000, which the number SEED, below 2^64, determines\n"
    ++ codes "  check        read a StateEvent on standard input and write its one written form\n"
    ++ codes "  scan FOLDER  scan a folder of FLAC files and write its catalog and the refused files\n"
    ++ codes "  serve PORT FOLDER REQUESTS\n"
    ++ codes "               serve a folder of FLAC files over HTTP until REQUESTS connections came;\n"
    ++ codes "               with 4294967295 it goes on until it is interrupted\n"
    ++ codes "  announce PORT LOCATION COUNT [UUID]\n"
    ++ codes "               answer searches for a server among COUNT datagrams that come to PORT;\n"
    ++ codes "               LOCATION is the http address of its description, which has the UUID\n"
    ++ codes "  --help       write this page\n"
    ++ codes "  --version    write the version\n\n"
    ++ codes "Exit status:\n"
    ++ codes "  0  the input was read to its end and the whole output was written\n"
    ++ codes "  1  a line of the script is outside the grammar\n"
    ++ codes "  2  standard input, or the folder, could not be read\n"
    ++ codes "  3  standard output could not be written\n"
    ++ codes "  4  memory ran out\n"
    ++ codes "  5  the words are no command, or LOCATION is no such address\n"
    ++ codes "  6  the input, or a line of a script, is too long, or the folder has too much\n"
    ++ codes "  7  the port, a connection, a datagram or a thread could not be had\n"
    ++ codes "  8  the input of check is no StateEvent\n"

-- Scripts whose reports are evaluated from the definitions, from bytes to status and text: those that need no subscription,
-- and those that end at a line.
use Rattle.std.specs.Prelude.{◌≡◌, ℕ, zero, suc, List, [], ◌++◌, codes}
use Rattle.cds_script.specs.Report.{script_ending}

-- what a script leaves
abbrev pub Leaves : List ℕ → ℕ → List ℕ → Type 0
Leaves script status text = script_ending script ≡ record { status = status; text = text }

-- the root's row in a library that began at 0, with its children, its containerUpdateID and its deleted children
abbrev pub root_line : List ℕ → List ℕ → List ℕ → List ℕ
root_line children update deleted =
    codes "<container id=\"0\" parentID=\"-1\" restricted=\"1\" searchable=\"1\" childCount=\"" ++ children
    ++ codes "\"><dc:title>root</dc:title><upnp:class>object.container</upnp:class><upnp:objectUpdateID>0</upnp:objectUpdateID><upnp:containerUpdateID>"
    ++ update ++ codes "</upnp:containerUpdateID><upnp:totalDeletedChildCount>" ++ deleted
    ++ codes "</upnp:totalDeletedChildCount></container>\n"

-- a track under the root, of which neither the duration nor the rate is known
abbrev pub small_item : List ℕ → List ℕ → List ℕ → List ℕ → List ℕ → List ℕ → List ℕ
small_item id title update size bits channels =
    codes "<item id=\"" ++ id ++ codes "\" parentID=\"0\" restricted=\"1\"><dc:title>" ++ title
    ++ codes "</dc:title><upnp:class>object.item.audioItem.musicTrack</upnp:class><upnp:objectUpdateID>" ++ update
    ++ codes "</upnp:objectUpdateID><res protocolInfo=\"http-get:*:audio/flac:*\" size=\"" ++ size
    ++ codes "\" bitsPerSample=\"" ++ bits ++ codes "\" nrAudioChannels=\"" ++ channels ++ codes "\">/media/" ++ id ++ codes "</res></item>\n"

-- a line, or a byte, this many times
abbrev pub times : ℕ → List ℕ → List ℕ
times zero line = []
times (suc n) line = line ++ times n line

abbrev pub empty_script : Type 0
empty_script = Leaves [] 0 []

abbrev pub ask_before_any_load : Type 0
ask_before_any_load = Leaves (codes "ask\n") 0 (codes "behind load\n")

-- a folder with a track, one scan and a whole load
abbrev pub folder_with_a_track : Type 0
folder_with_a_track = Leaves
    (codes "folder Rock\ntrack Rock/a.flac 1000 44100 2 16 441000\nscan\nload\n" ++ times 8 (codes "read\n") ++ codes "ask\n")
    0
    (codes "scan 2\n" ++ times 8 (codes "read ok\n") ++ codes "stands 2\n"
    ++ root_line (codes "1") (codes "1") (codes "0")
    ++ codes "<container id=\"1\" parentID=\"0\" restricted=\"1\" searchable=\"1\" childCount=\"1\"><dc:title>Rock</dc:title><upnp:class>object.container</upnp:class><upnp:objectUpdateID>1</upnp:objectUpdateID><upnp:containerUpdateID>2</upnp:containerUpdateID><upnp:totalDeletedChildCount>0</upnp:totalDeletedChildCount></container>\n"
    ++ codes "<item id=\"2\" parentID=\"1\" restricted=\"1\"><dc:title>a</dc:title><upnp:class>object.item.audioItem.musicTrack</upnp:class><upnp:objectUpdateID>2</upnp:objectUpdateID><res protocolInfo=\"http-get:*:audio/flac:*\" size=\"1000\" duration=\"0:00:10.000\" sampleFrequency=\"44100\" bitsPerSample=\"16\" nrAudioChannels=\"2\">/media/2</res></item>\n")

-- two scans of an empty library
abbrev pub empty_library : Type 0
empty_library = Leaves (codes "scan\nscan\nload\n" ++ times 6 (codes "read\n") ++ codes "ask") 0
    (codes "scan 0\nscan 0\n" ++ times 6 (codes "read ok\n") ++ codes "stands 0\n" ++ root_line (codes "0") (codes "0") (codes "0"))

-- a scan in the middle of a load: the load begins again, and never tells a catalog that did not stand
abbrev pub scan_during_a_load : Type 0
scan_during_a_load = Leaves
    (codes "load\n" ++ times 4 (codes "read\n") ++ codes "track a.flac 10 0 2 16 0\nscan\nread\nread\nask\n" ++ times 6 (codes "read\n") ++ codes "ask\n") 0
    (times 4 (codes "read ok\n") ++ codes "scan 1\nread ok\nread ok\nbehind load\n" ++ times 6 (codes "read ok\n") ++ codes "stands 1\n"
    ++ root_line (codes "1") (codes "1") (codes "0")
    ++ small_item (codes "1") (codes "a") (codes "1") (codes "10") (codes "16") (codes "2"))

-- a track that becomes a folder
abbrev pub track_becomes_a_folder : Type 0
track_becomes_a_folder = Leaves
    (codes "track x.flac 1 0 1 8 0\ntrack y.flac 1 0 1 8 0\nscan\nfolder x.flac\ntrack y.flac 1 0 1 8 0\nscan\nload\n" ++ times 8 (codes "read\n") ++ codes "ask\n") 0
    (codes "scan 2\nscan 4\n" ++ times 8 (codes "read ok\n") ++ codes "stands 4\n"
    ++ root_line (codes "2") (codes "4") (codes "1")
    ++ small_item (codes "2") (codes "y") (codes "2") (codes "1") (codes "8") (codes "1")
    ++ codes "<container id=\"3\" parentID=\"0\" restricted=\"1\" searchable=\"1\" childCount=\"0\"><dc:title>x.flac</dc:title><upnp:class>object.container</upnp:class><upnp:objectUpdateID>4</upnp:objectUpdateID><upnp:containerUpdateID>4</upnp:containerUpdateID><upnp:totalDeletedChildCount>0</upnp:totalDeletedChildCount></container>\n")

-- a track without the folder that holds it
abbrev pub track_without_its_folder : Type 0
track_without_its_folder = Leaves (codes "track R/a.flac 1 0 1 8 0\nscan\n") 0 (codes "scan bad 1\n")

-- numbers that would pass the last one are refused, with how many changes there would be; the records are used up
abbrev pub numbers_end : Type 0
numbers_end = Leaves
    (codes "first 4294967293\ntrack a.flac 10 0 2 16 0\ntrack b.flac 10 0 2 16 0\ntrack c.flac 10 0 2 16 0\nscan\ntrack b.flac 10 0 2 16 0\ntrack c.flac 10 0 2 16 0\nscan\n") 0
    (codes "scan spent 3\nscan 4294967295\n")

-- a note that was not sent cannot be delivered; nor can a note of number 0
abbrev pub note_never_sent : Type 0
note_never_sent =
    Leaves (codes "deliver 1\n") 1 (codes "error line 1\n")
    × Leaves (codes "subscribe\ndeliver 0\n") 1 (codes "note 1 seq 0 at 0\nerror line 2\n")
    × Leaves (codes "subscribe\ndeliver 2\n") 1 (codes "note 1 seq 0 at 0\nerror line 2\n")

-- moments never fall, and have 64 bits
abbrev pub moments_rise : Type 0
moments_rise =
    Leaves (codes "at 5\nat 5\n") 0 []
    × Leaves (codes "at 5\nat 4\n") 1 (codes "error line 2\n")
    × Leaves (codes "at 18446744073709551615\n") 0 []
    × Leaves (codes "at 18446744073709551616\n") 1 (codes "error line 1\n")
    × Leaves (codes "at 05\n") 1 (codes "error line 1\n")

-- the first number comes before all else that does something
abbrev pub first_number_first : Type 0
first_number_first =
    Leaves (codes "# a comment\n\nfirst 7\nscan\n") 0 (codes "scan 7\n")
    × Leaves (codes "first 0\nscan\n") 0 (codes "scan 0\n")
    × Leaves (codes "ask\nfirst 1\n") 1 (codes "behind load\nerror line 2\n")
    × Leaves (codes "first 1\nfirst 1\n") 1 (codes "error line 2\n")
    × Leaves (codes "first 4294967296\n") 1 (codes "error line 1\n")

-- the wrap comes once, before all else that does something but the first number. It is at least 256
abbrev pub wrap_first : Type 0
wrap_first =
    Leaves (codes "wrap 256\nscan\n") 0 (codes "scan 0\n")
    × Leaves (codes "first 7\n# a comment\nwrap 256\nscan\n") 0 (codes "scan 7\n")
    × Leaves (codes "wrap 256\nsubscribe\naccept\ndeliver 1\n") 0 (codes "note 1 seq 0 at 0\naccept 200\ndeliver 1 took\n")
    × Leaves (codes "wrap 255\n") 1 (codes "error line 1\n")
    × Leaves (codes "wrap 4294967295\n") 0 []
    × Leaves (codes "wrap 4294967296\n") 1 (codes "error line 1\n")
    × Leaves (codes "wrap 256\nwrap 256\n") 1 (codes "error line 2\n")
    × Leaves (codes "wrap 256\nfirst 1\n") 1 (codes "error line 2\n")
    × Leaves (codes "ask\nwrap 256\n") 1 (codes "behind load\nerror line 2\n")

-- a line that is outside the grammar ends the script, by its number; empty lines and comments count
abbrev pub broken_line : Type 0
broken_line = Leaves (codes "# a comment\n\nask\nfolder ../x\nask\n") 1 (codes "behind load\nerror line 4\n")

-- a line of 4,096 bytes does nothing if it begins with `#`; one more byte passes the limit
abbrev pub longest_line : Type 0
longest_line = Leaves (times 4096 (codes "#")) 0 [] × Leaves (times 4097 (codes "#")) 6 (codes "error limit\n")

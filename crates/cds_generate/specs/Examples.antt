-- Scripts that are evaluated from the definition. The texts, lengths and checksums were made apart, by `bench/generate.py`.
use Rattle.std.specs.Prelude.{◌≡◌, ℕ, ◌+◌, ◌*◌, ◌%◌, ◌^◌, List, [], ◌∷◌, ◌++◌, length, codes}
use Rattle.cds_generate.specs.Generated.{script_of, generated}

-- the first three steps of a library of one track, and the closing
abbrev pub one_track : Type 0
one_track = script_of 3 7 1 ≡
    codes "load\nread\nread\nread\nread\nread\nread\nsubscribe\naccept\ndeliver 1\nfolder f0\n"
    ++ codes "track f0/t0.flac 1000000 44100 2 16 441000\ntag TITLE Title%200\nscan\nat 250\ndeliver 2\nread\nread\n"
    ++ codes "folder f0\ntrack f0/t0.flac 1000002 44100 2 16 441000\ntag TITLE Title%200\nscan\nat 500\ndeliver 3\nread\n"
    ++ codes "read\nread\nread\nfolder f0\ntrack f0/t0.flac 1000004 44100 2 16 441000\ntag TITLE Title%200\nscan\nat 750\n"
    ++ codes "deliver 4\nread\nread\nread\nread\nread\nread\nask\n"

-- a note that is late, and a new subscription
abbrev pub late_note : Type 0
late_note = script_of 5 2 1 ≡
    codes "load\nread\nread\nread\nread\nread\nread\nsubscribe\naccept\ndeliver 1\nfolder f0\n"
    ++ codes "track f0/t0.flac 1000000 44100 2 16 441000\ntag TITLE Title%200\nscan\nat 250\nunsubscribe\nsubscribe\n"
    ++ codes "accept\ndeliver 3\nread\nread\nread\nread\nread\nread\nread\nread\nread\nread\nfolder f0\n"
    ++ codes "track f0/t0.flac 1000002 44100 2 16 441000\ntag TITLE Title%200\nscan\nat 500\ndeliver 4\nread\nread\nread\n"
    ++ codes "read\nfolder f0\ntrack f0/t0.flac 1000004 44100 2 16 441000\ntag TITLE Title%200\nscan\nat 750\ndeliver 5\n"
    ++ codes "read\nread\nread\nread\nfolder f0\ntrack f0/t0.flac 1000006 44100 2 16 441000\ntag TITLE Title%200\nscan\n"
    ++ codes "at 1000\nread\nread\nread\nread\nfolder f0\ntrack f0/t0.flac 1000008 44100 2 16 441000\ntag TITLE Title%200\n"
    ++ codes "scan\nat 1250\ndeliver 7\ndeliver 6\nread\nread\nread\nread\nread\nread\nask\n"

-- a checksum of bytes, after those that gave n
abbrev pub checksum : ℕ → List ℕ → ℕ
checksum n [] = n
checksum n (byte ∷ bytes) = checksum ((n * 31 + byte) % 2 ^ 32) bytes

-- a script has this many bytes, and this checksum
abbrev pub IsSummed : List ℕ → ℕ → ℕ → Type 0
IsSummed script size sum = (length script ≡ size) × (checksum 0 script ≡ sum)

-- the whole script of twelve tracks
abbrev pub twelve_tracks : Type 0
twelve_tracks = IsSummed (generated 7 12) 24188 3779349337

-- the whole script of sixty tracks, with the greatest seed
abbrev pub greatest_seed : Type 0
greatest_seed = IsSummed (generated 18446744073709551615 60) 137843 1210308278

-- Summaries that are evaluated from the definition.
use Rattle.std.specs.Prelude.{◌≡◌, [], ◌++◌, codes}
use Rattle.cds_summary.specs.Summary.{summary_text, summary_ending}

-- an empty report
abbrev pub no_lines : Type 0
no_lines = summary_text [] ≡
    codes "lines 0\naccept 0\nbehind 0\ndeliver 0\ngap 0\nnote 0\nread 0\nreadfault 0\nrenew 0\nscan 0\nstands 0\nunsubscribe 0\n"

-- each word alone and with others, and lines that only seem to begin with one. A row counts as a line and as no word
abbrev pub every_word : Type 0
every_word = summary_text
    (codes "accept 200\nbehind load\nbehind read 7\ndeliver 3 held 1\ngap 1\nnote 2 seq 1 at 1\nread ok\nread 701\n"
    ++ codes "readfault\nrenew 200\nscan 2\nscan bad 1\nstands 2\n<item id=\"1\"><dc:title>scan 3</dc:title></item>\nunsubscribe 412\n"
    ++ codes "reads 1\n scan 1\n\nscanning\nread")
    ≡ codes "lines 20\naccept 1\nbehind 2\ndeliver 1\ngap 1\nnote 1\nread 3\nreadfault 1\nrenew 1\nscan 2\nstands 1\nunsubscribe 1\n"

-- a script that ends well, with two asks and a row for each
abbrev pub rows_are_lines : Type 0
rows_are_lines = summary_ending (codes "scan\nscan\nload\nread\nread\nread\nread\nread\nread\nask\nread\nask\n")
    ≡ record {
      status = 0;
      text = codes "lines 13\naccept 0\nbehind 0\ndeliver 0\ngap 0\nnote 0\nread 7\nreadfault 0\nrenew 0\nscan 2\nstands 2\nunsubscribe 0\n";
    }

-- a script with a line outside the grammar, of which only the last line is written
abbrev pub broken_script : Type 0
broken_script = summary_ending (codes "scan\nask\n\nreed\nscan\n") ≡ record { status = 1; text = codes "error line 4\n" }

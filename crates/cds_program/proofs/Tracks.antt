-- The number of tracks that a command names is one that a generated library may have.
use Rattle.std.proofs.Common.{◌≡◌, ◌≤◌, ◌^◌, ℕ, Bool, true, false, cond, ◌&&◌, List, [], ◌∷◌, Option, Some, None, IfSome, codes, refl, subst, arith}
use Rattle.std.specs.Prelude.{nat_le}
use Rattle.std.specs.Option.{option_and_then}
use Rattle.std.proofs.lemmas.Bool.{and_parts}
use Rattle.std.proofs.lemmas.Bool.Decides.{nat_tests}
use Rattle.cds_base.specs.Number.{plain_below}
use Rattle.cds_object.specs.Content.{same_text}
use Rattle.uuid.specs.Text.{parsed}
use Rattle.cds_announce.specs.Ended.{first_uuid}
use Rattle.cds_program.specs.Command.{FewTracks, announcement_of, command_named, command_of, generation_of, service_named, service_of, tracks_said}
use Rattle.cds_program.specs.declared.command.Command.{Command}
use Rattle.cds_program.specs.declared.command.Command.TheVariants.{Replay, Summary, Generate, Check, Scan, Help, Version}

-- the number of a word
abbrev Few : ℕ → Type 0
Few n = (1 ≤ n) × (n ≤ 10000)

few-by : (n : ℕ) (b : Bool) → (nat_le 1 n && nat_le n 10000) ≡ b → IfSome (cond b (Some n) None) Few
few-by n true is =
    let parts = and_parts (nat_le 1 n) (nat_le n 10000) is in (
      grind (arith, nat_tests),
      grind (arith, nat_tests),
    )
few-by n false is = tt

few-said : (word : List ℕ) → IfSome (tracks_said word) Few
few-said word = by (plain_below (2 ^ 64) word)
  where
    by : (o : Option ℕ) → IfSome (option_and_then (λ n. cond (nat_le 1 n && nat_le n 10000) (Some n) None) o) Few
    by None = tt
    by (Some n) = few-by n (nat_le 1 n && nat_le n 10000) refl

-- of a command
few-generation : (seed tracks : Option ℕ) → IfSome tracks Few → FewTracks (generation_of seed tracks)
few-generation (Some seed) (Some tracks) few = few
few-generation (Some seed) None few = tt {0}
few-generation None tracks few = tt {0}

few-service : (port requests : Option ℕ) → FewTracks (service_of port requests)
few-service (Some port) (Some requests) = tt {0}
few-service (Some port) None = tt {0}
few-service None requests = tt {0}

few-announcement : (port count : Option ℕ) (uuid : Option (List ℕ)) → FewTracks (announcement_of port count uuid)
few-announcement (Some port) (Some count) (Some uuid) = tt {0}
few-announcement (Some port) (Some count) None = tt {0}
few-announcement (Some port) None uuid = tt {0}
few-announcement None count uuid = tt {0}

few-one : (replay summary check help version : Bool)
    → FewTracks (cond replay (Some Replay) (cond summary (Some Summary) (cond check (Some Check) (cond help (Some Help) (cond version (Some Version) None)))))
few-one true summary check help version = tt {0}
few-one false true check help version = tt {0}
few-one false false true help version = tt {0}
few-one false false false true version = tt {0}
few-one false false false false true = tt {0}
few-one false false false false false = tt {0}

few-where : (is : Bool) (command : Option Command) → FewTracks command → FewTracks (cond is command None)
few-where true command few = few
few-where false command few = tt {0}

few-either : (is is_other : Bool) (one other : Option Command) → FewTracks one → FewTracks other → FewTracks (cond is one (cond is_other other None))
few-either true is_other one other first second = first
few-either false true one other first second = second
few-either false false one other first second = tt {0}

few-named : (word : List ℕ) → FewTracks (command_named word)
few-named word =
    few-one (same_text word (codes "replay")) (same_text word (codes "summary")) (same_text word (codes "check")) (same_text word (codes "--help"))
    (same_text word (codes "--version"))

few-library : (word seed tracks : List ℕ) → FewTracks (command_of (word ∷ seed ∷ tracks ∷ []))
few-library word seed tracks =
    few-where (same_text word (codes "generate")) (generation_of (plain_below (2 ^ 64) seed) (tracks_said tracks))
    (few-generation (plain_below (2 ^ 64) seed) (tracks_said tracks) (few-said tracks))

few-port : (word port many : List ℕ) → FewTracks (service_named word port many)
few-port word port many =
    let a = plain_below (2 ^ 16) port in
    let b = plain_below (2 ^ 32) many in
    few-either (same_text word (codes "serve")) (same_text word (codes "announce")) (service_of a b) (announcement_of a b (Some first_uuid)) (few-service a b)
    (few-announcement a b (Some first_uuid))

few-uuid : (word port place many uuid : List ℕ) → FewTracks (command_of (word ∷ port ∷ place ∷ many ∷ uuid ∷ []))
few-uuid word port place many uuid =
    let a = plain_below (2 ^ 16) port in
    let b = plain_below (2 ^ 32) many in
    few-where (same_text word (codes "announce")) (announcement_of a b (parsed uuid)) (few-announcement a b (parsed uuid))

few : (words : List (List ℕ)) → FewTracks (command_of words)
few [] = tt {0}
few (word ∷ []) = few-named word
few (word ∷ folder ∷ []) = few-where (same_text word (codes "scan")) (Some Scan) (tt {0})
few (word ∷ seed ∷ tracks ∷ []) = few-library word seed tracks
few (word ∷ port ∷ place ∷ many ∷ []) = few-port word port many
few (word ∷ port ∷ place ∷ many ∷ uuid ∷ []) = few-uuid word port place many uuid
few (word ∷ port ∷ place ∷ many ∷ uuid ∷ more ∷ words) = tt {0}

pub few-tracks : (words : List (List ℕ)) (seed tracks : ℕ) → command_of words ≡ Some (Generate seed tracks) → (1 ≤ tracks) × (tracks ≤ 10000)
few-tracks words seed tracks is = subst FewTracks is (few words)

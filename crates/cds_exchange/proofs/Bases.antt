-- A HOST in its form makes a base.
use Rattle.std.proofs.Common.{◌≡◌, ℕ, ◌≤◌, nat_le, true, ◌&&◌, List, [], ◌∷◌, ◌++◌, length, codes, refl, arith, length-append}
use Rattle.std.specs.List.{list_all}
use Rattle.std.proofs.lemmas.Bool.Decides.{nat_tests}
use Rattle.cds_soap.specs.Laws.{is_host_byte}
use Rattle.cds_base.proofs.Plain.{is_plain, ArePlain, allowed-plain, plain-append, and-both, and-first, and-second}
use Rattle.cds_exchange.specs.Laws.{HostsMakeBases}

byte-plain : (b : ℕ) → is_host_byte b ≡ true → is_plain b ≡ true
byte-plain b e = grind (arith, nat_tests)

host-plain : (text : List ℕ) → list_all is_host_byte text ≡ true → ArePlain text
host-plain [] e = refl
host-plain (b ∷ rest) e =
    and-both (is_plain b) (list_all is_plain rest) (byte-plain b (and-first (is_host_byte b) (list_all is_host_byte rest) e))
    (host-plain rest (and-second (is_host_byte b) (list_all is_host_byte rest) e))

within : (n m : ℕ) → nat_le n m ≡ true → n ≤ m
within n m e = grind (arith, nat_tests)

pub hosts-make-bases : HostsMakeBases
hosts-make-bases host is =
    let few = nat_le (length host) 255 in
    let front = list_all is_host_byte host && nat_le 1 (length host) in
    let all = and-first (list_all is_host_byte host) (nat_le 1 (length host)) (and-first front few is) in
    let short = within (length host) 255 (and-second front few is) in
    let long = length-append (codes "http://") host in
    let seven : length (codes "http://") ≡ 7 = refl in
    record { allowed = allowed-plain (codes "http://" ++ host) (plain-append (codes "http://") host refl (host-plain host all)); short = omega (arith, short, long, seven) }

-- A datagram is one search, has one answer, and tells of one thing.
use Rattle.std.proofs.Common.{◌≡◌, ℕ, List, ◌++◌, Option, Some, None, refl, sym, ap, ◌∙◌}
use Rattle.cds_http.specs.declared.message.Side.TheVariants.{Request, Reply}
use Rattle.cds_ssdp.specs.Search.{AsksFor, asked_by, replies_to}
use Rattle.cds_ssdp.specs.Finding.{found_in}
use Rattle.cds_ssdp.specs.Laws.{OneAnswer, OneFound, OneSearch}
use Rattle.cds_ssdp.proofs.Begun.{one-message}

some-same : {A : Type 0} (a b : A) → Some a ≡ Some b → a ≡ b
some-same a b e = cc

pub one-search : OneSearch
one-search datagram one other (m, n, is, asks) (l, k, too, asks_too) =
    some-same one other (sym asks ∙ ap asked_by (one-message Request datagram m l n k is too) ∙ asks_too)

pub one-found : OneFound
one-found datagram one other (m, n, is, tells) (l, k, too, tells_too) =
    some-same one other (sym tells ∙ ap found_in (one-message Reply datagram m l n k is too) ∙ tells_too)

one-asked : (datagram : List ℕ) (one other : Option (List ℕ)) → AsksFor datagram one → AsksFor datagram other → one ≡ other
one-asked datagram (Some a) (Some b) is too = ap Some (one-search datagram a b is too)
one-asked datagram (Some a) None is too = absurd (too a is)
one-asked datagram None (Some b) is too = absurd (is b too)
one-asked datagram None None is too = refl

pub one-answer : OneAnswer
one-answer device datagram before one other (a, asks, is) (b, asks_too, too) =
    is ∙ ap (λ o. before ++ replies_to device o) (one-asked datagram a b asks asks_too) ∙ sym too

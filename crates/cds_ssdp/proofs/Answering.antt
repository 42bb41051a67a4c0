-- What is made of a datagram by the message with which it begins.
use Rattle.std.proofs.Common.{◌≡◌, ℕ, List, [], ◌∷◌, ◌++◌, Option, Some, None, Result, Ok, Err, OnOk, IfOk, refl, sym, ap, ◌∙◌}
use Rattle.cds_http.specs.declared.message.Side.TheVariants.{Request, Reply}
use Rattle.cds_http.specs.declared.message.Message.{Message}
use Rattle.cds_ssdp.specs.declared.finding.Found.{Found}
use Rattle.cds_ssdp.specs.Messages.{IsMessageIn}
use Rattle.cds_ssdp.specs.Search.{AsksFor, asked_by}
use Rattle.cds_ssdp.specs.Finding.{IsFoundIn, found_in}
use Rattle.cds_ssdp.proofs.Begun.{one-message}

none-some : {A : Type 0} (a : A) → None ≡ Some a → ⊥
none-some a e = cc

-- ---- searches

pub asks-for : (datagram : List ℕ) (message : Message) → IsMessageIn Request datagram (Some message) → AsksFor datagram (asked_by message)
asks-for datagram message is = by (asked_by message) refl
  where
    by : (asked : Option (List ℕ)) → asked_by message ≡ asked → AsksFor datagram asked
    by (Some asked) e = (message, is.0, is.1, e)
    by None e = λ asked (other, n, too, asks).
        none-some asked (sym e ∙ ap asked_by (one-message Request datagram message other is.0 n is.1 too) ∙ asks)

pub asks-nothing : (datagram : List ℕ) → IsMessageIn Request datagram None → AsksFor datagram None
asks-nothing datagram is = λ asked (other, n, too, asks). is other n too

pub on-ok : {A E : Type 0} (r : Result A E) (P Q : Type 0) → (P → Q) → OnOk r P → OnOk r Q
on-ok (Ok a) P Q f p = f p
on-ok (Err e) P Q f p = tt

-- four replies, one after the other
pub four : (m0 m1 m2 m3 m4 : List (List ℕ)) (a b c d : List ℕ) → m0 ≡ [] → m1 ≡ m0 ++ a ∷ [] → m2 ≡ m1 ++ b ∷ [] → m3 ≡ m2 ++ c ∷ [] → m4 ≡ m3 ++ d ∷ []
    → m4 ≡ a ∷ b ∷ c ∷ d ∷ []
four m0 m1 m2 m3 m4 a b c d none one two three last =
    last ∙ ap (λ m. m ++ d ∷ []) (three ∙ ap (λ m. m ++ c ∷ []) (two ∙ ap (λ m. m ++ b ∷ []) (one ∙ ap (λ m. m ++ a ∷ []) none)))

-- ---- answers to searches

tells : (datagram : List ℕ) (message : Message) → IsMessageIn Reply datagram (Some message) → (found : Option Found) → found ≡ found_in message
    → IsFoundIn datagram found
tells datagram message is (Some found) e = (message, is.0, is.1, sym e)
tells datagram message is None e = λ found (other, n, too, says).
    none-some found (e ∙ ap found_in (one-message Reply datagram message other is.0 n is.1 too) ∙ says)

pub tells-all : {E : Type 0} (datagram : List ℕ) (message : Message) (r : Result (Option Found) E) → IsMessageIn Reply datagram (Some message)
    → IfOk r (λ found. found ≡ found_in message) → IfOk r (λ found. IsFoundIn datagram found)
tells-all datagram message (Ok found) is e = tells datagram message is found e
tells-all datagram message (Err e) is none = tt

pub tells-nothing : (datagram : List ℕ) → IsMessageIn Reply datagram None → IsFoundIn datagram None
tells-nothing datagram is = λ found (other, n, too, says). is other n too

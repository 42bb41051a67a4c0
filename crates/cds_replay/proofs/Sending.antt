-- Notes that were sent are those that they were, whatever body is added, and new notes have the new body.
use Rattle.std.proofs.Common.{◌≡◌, ◌+◌, ◌<◌, ℕ, zero, suc, List, [], ◌∷◌, ◌++◌, map, length, Option, Some, None, Bool, refl, ap, sym, subst, ◌∙◌, arith, length-append}
use Rattle.std.specs.Prelude.{unwrap_or, slice_get, nat_eq, false, cond, ◌-◌}
use Rattle.std.specs.List.{AllByRecursion}
use Rattle.cds_catalog.proofs.StepsFind.{each-append, each-map, each-weaker}
use Rattle.cds_gena.specs.declared.address.Address.{Address}
use Rattle.cds_gena.specs.Subscribed.{IsDelivered}
use Rattle.cds_replay.specs.declared.sent.KeptNote.{KeptNote}
use Rattle.cds_replay.specs.Sending.{SentNote, note_at, IsKept, AreKept, kept_note, sent_to, sent_of, carries, is_request_of}

-- ---- places of longer lists

got-before : {X : Type 0} (xs ys : List X) (at : ℕ) → at < length xs → slice_get (xs ++ ys) at ≡ slice_get xs at
got-before [] ys at l = let no : ⊥ = omega (arith, l) in absurd no
got-before (x ∷ xs) ys zero l = refl
got-before (x ∷ xs) ys (suc at) l = got-before xs ys at (omega (arith, l))

got-last : {X : Type 0} (xs : List X) (x : X) → slice_get (xs ++ x ∷ []) (length xs) ≡ Some x
got-last [] x = refl
got-last (y ∷ xs) x = got-last xs x

map-append : {X Y : Type 0} (f : X → Y) (xs ys : List X) → map f (xs ++ ys) ≡ map f xs ++ map f ys
map-append f [] ys = refl
map-append f (x ∷ xs) ys = ap (λ l. f x ∷ l) (map-append f xs ys)

-- ---- the notes before

module _ (bodies : List (List ℕ)) (body : List ℕ) where
  abbrev more : List (List ℕ)
  more = bodies ++ body ∷ []

  one-longer : length more ≡ length bodies + 1
  one-longer = let e = length-append bodies (body ∷ []) in omega (arith, e)

  still-kept : (kept : KeptNote) → IsKept (length bodies) kept → IsKept (length more) kept
  still-kept kept is = let e = one-longer in let l = is.body in record { body = omega (arith, e, l); delivered = is.delivered }

  same-note : (kept : KeptNote) → IsKept (length bodies) kept → note_at more kept ≡ note_at bodies kept
  same-note kept is = λ i. record { to = kept.to; number = kept.number; body = unwrap_or (got-before bodies (body ∷ []) kept.body is.body i) [] }

  same-notes : (kept : List KeptNote) → AreKept bodies kept → map (note_at more) kept ≡ map (note_at bodies) kept
  same-notes [] is = refl
  same-notes (k ∷ kept) is = λ i. same-note k is.0 i ∷ same-notes kept is.1 i

  -- ---- the notes of a new body

  new-notes : (number : ℕ) (to : List Address) → map (note_at more) (map (kept_note number (length bodies)) to) ≡ map (sent_to number body) to
  new-notes number [] = refl
  new-notes number (a ∷ to) =
      λ i. record { to = a; number = number; body = unwrap_or (got-last bodies body i) [] } ∷ new-notes number to i

  pub all-kept : (number : ℕ) (kept : List KeptNote) (to : List Address) → AreKept bodies kept → AllByRecursion IsDelivered to →
      AreKept more (kept ++ map (kept_note number (length bodies)) to)
  all-kept number kept to is delivered =
      each-append (IsKept (length more)) kept (map (kept_note number (length bodies)) to)
      (each-weaker (IsKept (length bodies)) (IsKept (length more)) still-kept kept is)
      (each-map (IsKept (length more)) (kept_note number (length bodies)) to
      (each-weaker IsDelivered (λ (a : Address). IsKept (length more) (kept_note number (length bodies) a))
      (λ a d. let e = one-longer in record { body = omega (arith, e); delivered = d }) to delivered))

  pub all-told : (number : ℕ) (kept : List KeptNote) (to : List Address) → AreKept bodies kept →
      map (note_at more) (kept ++ map (kept_note number (length bodies)) to) ≡ map (note_at bodies) kept ++ map (sent_to number body) to
  all-told number kept to is =
      map-append (note_at more) kept (map (kept_note number (length bodies)) to)
      ∙ (λ i. same-notes kept is i ++ new-notes number to i)

-- ---- the note of a number

sent-at : (bodies : List (List ℕ)) (kept : List KeptNote) (n : ℕ) (k : KeptNote) → slice_get kept n ≡ Some k →
    slice_get (map (note_at bodies) kept) n ≡ Some (note_at bodies k)
sent-at bodies [] n k is = absurd (cc)
sent-at bodies (x ∷ kept) zero k is = let e : x ≡ k = cc in ap (λ one. Some (note_at bodies one)) e
sent-at bodies (x ∷ kept) (suc n) k is = sent-at bodies kept n k is

pub request-of : (bodies : List (List ℕ)) (kept : List KeptNote) (sent : List SentNote) (number : ℕ) (k : KeptNote) (body request : List ℕ) →
    map (note_at bodies) kept ≡ sent → nat_eq number 0 ≡ false → slice_get kept (number - 1) ≡ Some k → slice_get bodies k.body ≡ Some body →
    carries k.to body request → is_request_of (sent_of number sent) (Some request)
request-of bodies kept sent number k body request is past at here goes =
    subst (λ (o : Option SentNote). is_request_of o (Some request)) (sym found) goes
  where
    found : sent_of number sent ≡ Some (sent_to k.number body k.to)
    found =
        ap (λ (b : Bool). cond b None (slice_get sent (number - 1))) past
        ∙ ap (λ (l : List SentNote). slice_get l (number - 1)) (sym is)
        ∙ sent-at bodies kept (number - 1) k at
        ∙ ap (λ (o : Option (List ℕ)). Some (sent_to k.number (unwrap_or o []) k.to)) here

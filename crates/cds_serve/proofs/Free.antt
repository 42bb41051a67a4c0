-- A request that is answered with a status and no turn gets the same reply from the server.
use Rattle.std.proofs.Common.{◌≡◌, ◌&&◌, ◌||◌, ℕ, Bool, true, false, cond, Some, None, refl, sym, ◌∙◌, ap, subst, true≢false}
use Rattle.std.specs.Prelude.{codes, bytes_eq}
use Rattle.std.proofs.lemmas.Slice.Eq.{bytes_eq-Decides}
use Rattle.http_header.specs.HeaderMap.{Entries}
use Rattle.http_header.specs.FieldValue.{FieldValue}
use Rattle.cds_http.specs.declared.message.Start.{Start as Line}
use Rattle.cds_http.specs.declared.message.Start.TheVariants.{Request, Reply}
use Rattle.cds_gena.specs.Asked.{field_of}
use Rattle.cds_server.specs.Route.{Answers, Goes, Route, Subscribes, Way, control_at, request_status, route_by, status_unless}
use Rattle.cds_server.specs.Replies.{IsReplyOf}
use Rattle.cds_serve.specs.Laws.{free_answers_are_replies}

some-is : (a b : ℕ) → Some a ≡ Some b → a ≡ b
some-is a b e = cc

none-is : (a : ℕ) → None ≡ Some a → ⊥
none-is a e = absurd (cc)

-- by whether the target is that of control or that of events, and whether it takes the method
by-tests : (control events posts asks : Bool) (way : Way) (status : ℕ) → (control ≡ true → events ≡ true → ⊥)
    → cond control (status_unless posts) (cond events (status_unless asks) (Some 404)) ≡ Some status
    → cond (events && asks) Subscribes (Goes (cond control (cond posts way (Answers 405)) (Answers (cond events 405 404)))) ≡ Goes (Answers status)
by-tests true true posts asks way status apart k = absurd (apart refl refl)
by-tests true false true asks way status apart k = absurd (none-is status k)
by-tests true false false asks way status apart k = ap (λ n. Goes (Answers n)) (some-is 405 status k)
by-tests false true posts true way status apart k = absurd (none-is status k)
by-tests false true posts false way status apart k = ap (λ n. Goes (Answers n)) (some-is 405 status k)
by-tests false false posts asks way status apart k = ap (λ n. Goes (Answers n)) (some-is 404 status k)

free-way : (line : Line) (fields : Entries FieldValue) (status : ℕ) → request_status line ≡ Some status → route_by line fields ≡ Goes (Answers status)
free-way (Request method target) fields status k =
    by-tests (bytes_eq target (codes "/control")) (bytes_eq target (codes "/event")) (bytes_eq method (codes "POST"))
    (bytes_eq method (codes "SUBSCRIBE") || bytes_eq method (codes "UNSUBSCRIBE")) (control_at (field_of (codes "host") fields)) status apart k
  where
    apart : bytes_eq target (codes "/control") ≡ true → bytes_eq target (codes "/event") ≡ true → ⊥
    apart one other =
        true≢false (sym ((bytes_eq-Decides (codes "/control") (codes "/event")).1
        (sym ((bytes_eq-Decides target (codes "/control")).0 one) ∙ (bytes_eq-Decides target (codes "/event")).0 other)))
free-way (Reply code) fields status k = ap (λ n. Goes (Answers n)) (some-is 400 status k)

pub free-replies : free_answers_are_replies
free-replies start commands now m status text k =
    let way = free-way m.start m.fields status k in (
      subst (λ (w : Route). IsReplyOf start commands now m w text) way,
      subst (λ (w : Route). IsReplyOf start commands now m w text) (sym way),
    )

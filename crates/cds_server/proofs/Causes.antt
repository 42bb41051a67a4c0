-- Why a message gets its reply.
use Rattle.std.proofs.Common.{◌≡◌, ◌≢◌, ◌⊎◌, inl, inr, ◌&&◌, ◌||◌, ℕ, Bool, true, false, cond, List, Option, Some, None, refl, sym, ◌∙◌, ap, subst, true≢false}
use Rattle.std.specs.Prelude.{codes, bytes_eq}
use Rattle.std.proofs.lemmas.Slice.Eq.{bytes_eq-Decides}
use Rattle.cds_http.specs.declared.message.Start.{Start}
use Rattle.cds_http.specs.declared.message.Start.TheVariants.{Request, Reply}
use Rattle.cds_http.specs.declared.message.Message.{Message}
use Rattle.cds_gena.specs.Asked.{field_of}
use Rattle.cds_soap.specs.Laws.{is_host}
use Rattle.cds_control.specs.Published.{Published}
use Rattle.cds_control.specs.Laws.{HasCause, HasNoDocument}
use Rattle.cds_control.specs.Replies.{empty_reply}
use Rattle.cds_control.proofs.Causes.{causes as control-causes}
use Rattle.cds_server.specs.Route.{Answers, Controls, Subscribes, Goes, asks_events, control_at, control_by, way_by}
use Rattle.cds_server.specs.Published.{published_by}
use Rattle.cds_server.specs.Replies.{IsReplyBy, IsReplyOf}
use Rattle.cds_server.specs.Laws.{AsksControl, AsksOfSubscription, IsAt, HasEventCause, IsBad, GoesElsewhere, GoesOtherwise, replies_have_causes}
use Rattle.cds_server.proofs.EventCauses.{event-cause}

some-is : (a b : List ℕ) → Some a ≡ Some b → a ≡ b
some-is a b e = cc

none-is : (a : List ℕ) → None ≡ Some a → ⊥
none-is a e = absurd (cc)

-- a request asks of a subscription exactly at the target of events by one of its methods
asks-target : (method target : List ℕ) → target ≡ codes "/event" → asks_events (Request method target) ≡ false → (method ≢ codes "SUBSCRIBE") × (method ≢ codes "UNSUBSCRIBE")
asks-target method target at unasked = ((λ e. apart (inl ((bytes_eq-Decides method (codes "SUBSCRIBE")).1 e))), (λ e. apart (inr ((bytes_eq-Decides method (codes "UNSUBSCRIBE")).1 e))))
  where
    there : bytes_eq target (codes "/event") ≡ true
    there = (bytes_eq-Decides target (codes "/event")).1 at

    one : (a b c : Bool) → a ≡ true → (b ≡ true) ⊎ (c ≡ true) → a && (b || c) ≡ true
    one true true c e m = refl
    one true false true e m = refl
    one true false false e (inl k) = k
    one true false false e (inr k) = k
    one false b c e m = absurd (true≢false (sym e))

    apart : (bytes_eq method (codes "SUBSCRIBE") ≡ true) ⊎ (bytes_eq method (codes "UNSUBSCRIBE") ≡ true) → ⊥
    apart m = true≢false (sym (one (bytes_eq target (codes "/event")) (bytes_eq method (codes "SUBSCRIBE")) (bytes_eq method (codes "UNSUBSCRIBE")) there m) ∙ unasked)

asks-is : (m : Message) (s : Start) → m.start ≡ s → asks_events s ≡ true → AsksOfSubscription m
asks-is m (Request method target) e asked_so = by (bytes_eq target (codes "/event")) (bytes_eq method (codes "SUBSCRIBE")) (bytes_eq method (codes "UNSUBSCRIBE")) refl refl refl asked_so
  where
    at : bytes_eq target (codes "/event") ≡ true → m.start ≡ Request method (codes "/event")
    at t = e ∙ ap (Request method) ((bytes_eq-Decides target (codes "/event")).0 t)

    by : (a b c : Bool) → bytes_eq target (codes "/event") ≡ a → bytes_eq method (codes "SUBSCRIBE") ≡ b → bytes_eq method (codes "UNSUBSCRIBE") ≡ c
        → a && (b || c) ≡ true → AsksOfSubscription m
    by true true c t one two k = (method, at t, inl ((bytes_eq-Decides method (codes "SUBSCRIBE")).0 one))
    by true false true t one two k = (method, at t, inr ((bytes_eq-Decides method (codes "UNSUBSCRIBE")).0 two))
    by true false false t one two k = absurd (true≢false (sym k))
    by false b c t one two k = absurd (true≢false (sym k))
asks-is m (Reply status) e asked_so = absurd (true≢false (sym asked_so))

pub causes : replies_have_causes
causes start commands now m text is = by_asks (asks_events m.start) refl is
  where
    published : Published
    published = published_by start commands

    Owed : Type 0
    Owed =
        ((text ≡ empty_reply 404) × GoesElsewhere m) ⊎ ((text ≡ empty_reply 405) × GoesOtherwise m) ⊎ ((text ≡ empty_reply 400) × IsBad m)
        ⊎ (AsksControl m × ((host : List ℕ) × IsAt m host) × HasCause published m text)
        ⊎ (AsksOfSubscription m × HasEventCause start commands now m text)

    by_read : AsksControl m → (host : List ℕ) → IsAt m host → ((text ≡ empty_reply 400) × HasNoDocument m) ⊎ HasCause published m text → Owed
    by_read asks host at (inl (is, none)) = inr (inr (inl (is, inr (asks, inr none))))
    by_read asks host at (inr cause) = inr (inr (inr (inl (asks, (host, at), cause))))

    by_form : AsksControl m → (host : List ℕ) → field_of (codes "host") m.fields ≡ Some host → (b : Bool) → is_host host ≡ b
        → IsReplyBy published m (cond b (Controls host) (Answers 400)) text → Owed
    by_form asks host e true t is = by_read asks host (e, t) (control-causes published host m text is)
    by_form asks host e false t is =
        inr (inr (inl (is, inr (asks, inl (λ other at. true≢false (sym at.1 ∙ ap is_host (some-is _ _ (sym at.0 ∙ e)) ∙ t))))))

    by_host : AsksControl m → (o : Option (List ℕ)) → field_of (codes "host") m.fields ≡ o → IsReplyBy published m (control_at o) text → Owed
    by_host asks None e is = inr (inr (inl (is, inr (asks, inl (λ other at. none-is other (sym e ∙ at.0))))))
    by_host asks (Some host) e is = by_form asks host e (is_host host) refl is

    by_method : (method target : List ℕ) → m.start ≡ Request method target → target ≡ codes "/control" → (b : Bool) → bytes_eq method (codes "POST") ≡ b
        → IsReplyBy published m (cond b (control_at (field_of (codes "host") m.fields)) (Answers 405)) text → Owed
    by_method method target e same true t is =
        by_host (e ∙ (λ i. Request ((bytes_eq-Decides method (codes "POST")).0 t i) (same i))) (field_of (codes "host") m.fields) refl is
    by_method method target e same false t is =
        inr (inl (is, (method, inl (e ∙ ap (Request method) same, λ post. true≢false (sym ((bytes_eq-Decides method (codes "POST")).1 post) ∙ t)))))

    by_event : (method target : List ℕ) → m.start ≡ Request method target → asks_events (Request method target) ≡ false → (target ≢ codes "/control") → (b : Bool)
        → bytes_eq target (codes "/event") ≡ b → text ≡ empty_reply (cond b 405 404) → Owed
    by_event method target e unasked away true t is =
        let same : target ≡ codes "/event" = (bytes_eq-Decides target (codes "/event")).0 t in
        let apart = asks-target method target same unasked in
        inr (inl (is, (method, inr (e ∙ ap (Request method) same, apart.0, apart.1))))
    by_event method target e unasked away false t is =
        inl (is, (method, target, e, away, λ same. true≢false (sym ((bytes_eq-Decides target (codes "/event")).1 same) ∙ t)))

    by_target : (method target : List ℕ) → m.start ≡ Request method target → asks_events (Request method target) ≡ false → (b : Bool)
        → bytes_eq target (codes "/control") ≡ b
        → IsReplyBy published m (cond b (control_by method m.fields) (Answers (cond (bytes_eq target (codes "/event")) 405 404))) text → Owed
    by_target method target e unasked true t is =
        by_method method target e ((bytes_eq-Decides target (codes "/control")).0 t) (bytes_eq method (codes "POST")) refl is
    by_target method target e unasked false t is =
        by_event method target e unasked (λ same. true≢false (sym ((bytes_eq-Decides target (codes "/control")).1 same) ∙ t)) (bytes_eq target (codes "/event")) refl is

    by_start : (s : Start) → m.start ≡ s → asks_events s ≡ false → IsReplyBy published m (way_by s m.fields) text → Owed
    by_start (Request method target) e unasked is = by_target method target e unasked (bytes_eq target (codes "/control")) refl is
    by_start (Reply status) e unasked is = inr (inr (inl (is, inl (status, e))))

    by_asks : (b : Bool) → asks_events m.start ≡ b → IsReplyOf start commands now m (cond b Subscribes (Goes (way_by m.start m.fields))) text → Owed
    by_asks true e is = inr (inr (inr (inr (asks-is m m.start refl e, event-cause start commands now m text (ap (λ b. cond b Subscribes (Goes (way_by m.start m.fields))) e) is))))
    by_asks false e is = by_start m.start refl e is

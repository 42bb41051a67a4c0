-- What is written of an answer in an envelope is a document that holds the answer.
use Rattle.std.proofs.Common.{◌≡◌, ◌==◌, ℕ, ◌≤◌, ◌<◌, ◌^◌, nat_le, Bool, true, false, cond, Some, option_map, List, [], ◌∷◌, ◌++◌, codes, length, refl, sym, ap, subst, ◌∙◌, arith, append_assoc, append-nil}
use Rattle.std.specs.Fmt.{decimal}
use Rattle.std.specs.Option.{option_and_then}
use Rattle.std.proofs.lemmas.Bool.Decides.{Decides-eqb}
use Rattle.cds_base.specs.declared.limits.TheConstants.{INPUT_LIMIT}
use Rattle.cds_base.specs.Characters.{AreAllowed}
use Rattle.cds_object.specs.Writing.{text_element, number_element}
use Rattle.cds_markup.specs.declared.tag.Tag.{Tag}
use Rattle.cds_markup.specs.Document.{Meaning, Meanings, Element, End, ChildThen, most_open, Doc}
use Rattle.cds_markup.specs.Drafts.{Draft, Tagged, Drafts, Done, DraftThen, drafted, drafted_in, draft_says, drafts_say, CanBeDraft, CanBeDrafted, draft_depth, version_declared}
use Rattle.cds_markup.proofs.Public.{small-name, without-prefix, drafts-are-read}
use Rattle.cds_markup.proofs.WrittenTags.{behind-prefix}
use Rattle.cds_http.specs.declared.message.Start.TheVariants.{Reply as of_reply}
use Rattle.cds_soap.specs.declared.action.ActionName.{ActionName}
use Rattle.cds_soap.specs.declared.action.ActionName.TheVariants as name
use Rattle.cds_soap.specs.declared.answer.Answer.{Answer}
use Rattle.cds_soap.specs.declared.answer.Answer.TheVariants as answer
use Rattle.cds_soap.specs.Names.{IsVersion, response_to, service_type}
use Rattle.cds_soap.specs.Envelope.{envelope_space, where_of_envelope, in_envelope, ◌>>=◌}
use Rattle.cds_soap.specs.Given.{text_given, number_in, page_given, results_given}
use Rattle.cds_soap.specs.Answered.{control_space, code_in, Results, Says}
use Rattle.cds_soap.specs.Written.{description, fault_front, fault_end, fault_text, text_result, answer_inside, answer_body, answer_status, is_known_code, Fits}
use Rattle.cds_soap.specs.Laws.{IsAllowedAnswer}
use Rattle.cds_soap.proofs.Naming.{true-both, same-bytes}
use Rattle.cds_base.proofs.Plain.{allowed-printed}
use Rattle.cds_soap.proofs.Printed.{decimal-read}
use Rattle.cds_soap.proofs.Envelopes.{named, attribute, plain_tag, text_draft, text-written, number-written, said_name, text_said, alone, number-one, AName, text-can, number-can, service_draft, service-written, envelope_draft, envelope-written, Around, envelope_said, envelope-says, envelope-holds, Inner, service_said, service-says, name-s, service-can, envelope-can}

-- ---- drafts of answers

abbrev pub page_inside : List ℕ → ℕ → ℕ → ℕ → Drafts
page_inside result returned total update =
    DraftThen (text_draft (codes "Result") result)
    (DraftThen (text_draft (codes "NumberReturned") (decimal returned))
    (DraftThen (text_draft (codes "TotalMatches") (decimal total)) (DraftThen (text_draft (codes "UpdateID") (decimal update)) Done)))

abbrev pub one_inside : List ℕ → List ℕ → Drafts
one_inside local text = DraftThen (text_draft local text) Done

abbrev fault_tag : Tag
fault_tag = record { name = named (codes "s") (codes "Fault"); attrs = [] }

abbrev error_tag : Tag
error_tag = record { name = named [] (codes "UPnPError"); attrs = attribute [] (codes "xmlns") control_space ∷ [] }

abbrev error_draft : List ℕ → List ℕ → Draft
error_draft code text = Tagged error_tag (DraftThen (text_draft (codes "errorCode") code) (DraftThen (text_draft (codes "errorDescription") text) Done))

abbrev fault_draft : List ℕ → List ℕ → Draft
fault_draft code text =
    Tagged fault_tag
    (DraftThen (text_draft (codes "faultcode") (codes "s:Client"))
    (DraftThen (text_draft (codes "faultstring") (codes "UPnPError"))
    (DraftThen (Tagged (plain_tag (codes "detail")) (DraftThen (error_draft code text) Done)) Done)))

abbrev pub answer_draft : ActionName → ℕ → Answer → Draft
answer_draft n version (answer.Page result returned total update) = service_draft version (response_to n) (page_inside result returned total update)
answer_draft n version (answer.Number number) = service_draft version (response_to n) (one_inside (codes "Id") (decimal number))
answer_draft n version (answer.Text text) = service_draft version (response_to n) (one_inside (text_result n) text)
answer_draft n version (answer.Fault code) = fault_draft (decimal code) (description code)

-- ---- known codes

no : false ≡ true → ⊥
no e = cc

known-step : (code k : ℕ) (b : Bool) (x y : List ℕ) → (code == k) ≡ b → k ≤ 710 → (nat_le 1 (length y) ≡ true → code ≤ 710) → nat_le 1 (length (cond b x y)) ≡ true → code ≤ 710
known-step code k true x y e low more h = let same = (Decides-eqb code k).0 e in omega (arith, same, low)
known-step code k false x y e low more h = more h

known-small : (code : ℕ) → is_known_code code ≡ true → code ≤ 710
known-small code h =
    known-step code 401 (code == 401) (codes "Invalid Action") _ refl (omega arith)
    (known-step code 402 (code == 402) (codes "Invalid Args") _ refl (omega arith)
    (known-step code 603 (code == 603) (codes "Out of Memory") _ refl (omega arith)
    (known-step code 701 (code == 701) (codes "No such object") _ refl (omega arith)
    (known-step code 708 (code == 708) (codes "Unsupported or invalid search criteria") _ refl (omega arith)
    (known-step code 709 (code == 709) (codes "Unsupported or invalid sort criteria") _ refl (omega arith)
    (known-step code 710 (code == 710) (codes "No such container") [] refl (omega arith) none)))))) h where
      none : nat_le 1 0 ≡ true → code ≤ 710
      none e = absurd (no e)

pick : (P : List ℕ → Type 0) (b : Bool) (x y : List ℕ) → P x → P y → P (cond b x y)
pick P true x y p q = p
pick P false x y p q = q

description-allowed : (code : ℕ) → AreAllowed (description code)
description-allowed code =
    let P : List ℕ → Type 0 = λ text. AreAllowed text in
    pick P (code == 401) _ _ (allowed-printed (codes "Invalid Action") refl)
    (pick P (code == 402) _ _ (allowed-printed (codes "Invalid Args") refl)
    (pick P (code == 603) _ _ (allowed-printed (codes "Out of Memory") refl)
    (pick P (code == 701) _ _ (allowed-printed (codes "No such object") refl)
    (pick P (code == 708) _ _ (allowed-printed (codes "Unsupported or invalid search criteria") refl)
    (pick P (code == 709) _ _ (allowed-printed (codes "Unsupported or invalid sort criteria") refl)
    (pick P (code == 710) _ _ (allowed-printed (codes "No such container") refl) (allowed-printed [] refl)))))))

pub code-known : (n : ActionName) (code : ℕ) → Fits n (answer.Fault code) → code ≤ 710
code-known name.Browse code h = known-small code h
code-known name.Search code h = known-small code h
code-known name.GetSystemUpdateId code h = known-small code h
code-known name.GetServiceResetToken code h = known-small code h
code-known name.GetSearchCapabilities code h = known-small code h
code-known name.GetSortCapabilities code h = known-small code h

-- ---- how answers are written

four-shape : (a b c d : List ℕ) → ((a ++ b) ++ c) ++ d ≡ a ++ (b ++ (c ++ (d ++ [])))
four-shape a b c d = simp (append_assoc, append-nil)

abbrev both : List ℕ → List ℕ → List ℕ → List ℕ → List ℕ
both a b c d = ((a ++ b) ++ c) ++ d

page-written : (result : List ℕ) (returned total update : ℕ) → returned < 2 ^ 32 → total < 2 ^ 32 → update < 2 ^ 32
    → both (text_element (codes "Result") result) (number_element (codes "NumberReturned") returned) (number_element (codes "TotalMatches") total) (number_element (codes "UpdateID") update)
    ≡ drafted_in (page_inside result returned total update)
page-written result returned total update r t u =
    (λ i. both (text-written (codes "Result") result i) (number-written (codes "NumberReturned") returned r i) (number-written (codes "TotalMatches") total t i)
    (number-written (codes "UpdateID") update u i))
    ∙ four-shape (drafted (text_draft (codes "Result") result)) (drafted (text_draft (codes "NumberReturned") (decimal returned)))
    (drafted (text_draft (codes "TotalMatches") (decimal total))) (drafted (text_draft (codes "UpdateID") (decimal update)))

number-inside : (local : List ℕ) (n : ℕ) → n < 2 ^ 32 → number_element local n ≡ drafted_in (one_inside local (decimal n))
number-inside local n h = number-written local n h ∙ sym (append-nil (drafted (text_draft local (decimal n))))

text-inside : (local text : List ℕ) → text_element local text ≡ drafted_in (one_inside local text)
text-inside local text = text-written local text ∙ sym (append-nil (drafted (text_draft local text)))

fault-shape : (f a b d u c e x y z : List ℕ)
    → ((f ++ (a ++ (b ++ (d ++ u)))) ++ c ++ e) ++ (x ++ (y ++ z)) ≡ f ++ ((a ++ (b ++ ((d ++ (((u ++ ((c ++ (e ++ [])) ++ x)) ++ []) ++ y)) ++ []))) ++ z)
fault-shape f a b d u c e x y z = simp (append_assoc, append-nil)

fault-written : (code : ℕ) → code < 2 ^ 32 → fault_text code ≡ drafted (fault_draft (decimal code) (description code))
unfolding fault_text fault_front fault_end control_space
fault-written code h =
    (λ i. ((fault_front ++ number-written (codes "errorCode") code h i) ++ text-written (codes "errorDescription") (description code) i) ++ fault_end)
    ∙ fault-shape (codes "<s:Fault>") (codes "<faultcode>s:Client</faultcode>") (codes "<faultstring>UPnPError</faultstring>") (codes "<detail>")
    (codes "<UPnPError xmlns=\"urn:schemas-upnp-org:control-1-0\">") (drafted (text_draft (codes "errorCode") (decimal code)))
    (drafted (text_draft (codes "errorDescription") (description code))) (codes "</UPnPError>") (codes "</detail>") (codes "</s:Fault>")

inside-written : (n : ActionName) (version : ℕ) (given : Answer) → IsVersion version → Fits n given → IsAllowedAnswer given → answer_inside n version given ≡ drafted (answer_draft n version given)
inside-written n version (answer.Page result returned total update) is fit (a, r, t, u) =
    service-written version (response_to n) _ (page_inside result returned total update) is (page-written result returned total update r t u)
inside-written n version (answer.Number number) is fit h =
    service-written version (response_to n) (number_element (codes "Id") number) (one_inside (codes "Id") (decimal number)) is (number-inside (codes "Id") number h)
inside-written n version (answer.Text text) is fit h =
    service-written version (response_to n) (text_element (text_result n) text) (one_inside (text_result n) text) is (text-inside (text_result n) text)
inside-written n version (answer.Fault code) is fit h = let low = code-known n code fit in fault-written code (omega (arith, low))

-- ---- what they say

abbrev page_meant : List ℕ → ℕ → ℕ → ℕ → Meanings
page_meant result returned total update =
    ChildThen (text_said [] (codes "Result") result)
    (ChildThen (text_said [] (codes "NumberReturned") (decimal returned))
    (ChildThen (text_said [] (codes "TotalMatches") (decimal total)) (ChildThen (text_said [] (codes "UpdateID") (decimal update)) End)))

abbrev one_meant : List ℕ → List ℕ → Meanings
one_meant local text = ChildThen (text_said [] local text) End

abbrev error_said : List ℕ → List ℕ → Meaning
error_said code text =
    Element (said_name control_space (codes "UPnPError")) []
    (ChildThen (text_said control_space (codes "errorCode") code) (ChildThen (text_said control_space (codes "errorDescription") text) End))

abbrev fault_said : List ℕ → List ℕ → Meaning
fault_said code text =
    Element (said_name envelope_space (codes "Fault")) []
    (ChildThen (text_said [] (codes "faultcode") (codes "s:Client"))
    (ChildThen (text_said [] (codes "faultstring") (codes "UPnPError"))
    (ChildThen (Element (said_name [] (codes "detail")) [] (ChildThen (error_said code text) End)) End)))

abbrev pub answer_said : ActionName → ℕ → Answer → Meaning
answer_said n version (answer.Page result returned total update) = service_said version (response_to n) (page_meant result returned total update)
answer_said n version (answer.Number number) = service_said version (response_to n) (one_meant (codes "Id") (decimal number))
answer_said n version (answer.Text text) = service_said version (response_to n) (one_meant (text_result n) text)
answer_said n version (answer.Fault code) = fault_said (decimal code) (description code)

page-says : (version : ℕ) (local result : List ℕ) (returned total update : ℕ) → drafts_say (Inner version local) (page_inside result returned total update) ≡ Some (page_meant result returned total update)
unfolding envelope_space
page-says version local result returned total update = refl

one-says : (version : ℕ) (around local text : List ℕ) → drafts_say (Inner version around) (one_inside local text) ≡ Some (one_meant local text)
unfolding envelope_space
one-says version around local text = refl

fault-says : (code text : List ℕ) → draft_says Around (fault_draft code text) ≡ Some (fault_said code text)
unfolding envelope_space control_space
fault-says code text = refl

inside-says : (n : ActionName) (version : ℕ) (given : Answer) → IsVersion version → draft_says Around (answer_draft n version given) ≡ Some (answer_said n version given)
inside-says n version (answer.Page result returned total update) is =
    service-says version (response_to n) (page_inside result returned total update) (page_meant result returned total update) is (page-says version (response_to n) result returned total update)
inside-says n version (answer.Number number) is =
    service-says version (response_to n) (one_inside (codes "Id") (decimal number)) (one_meant (codes "Id") (decimal number)) is (one-says version (response_to n) (codes "Id") (decimal number))
inside-says n version (answer.Text text) is =
    service-says version (response_to n) (one_inside (text_result n) text) (one_meant (text_result n) text) is (one-says version (response_to n) (text_result n) text)
inside-says n version (answer.Fault code) is = fault-says (decimal code) (description code)

-- ---- that they can be written

response-name : (n : ActionName) → AName (response_to n)
response-name name.Browse = small-name 66 (codes "rowseResponse") refl refl
response-name name.Search = small-name 83 (codes "earchResponse") refl refl
response-name name.GetSystemUpdateId = small-name 71 (codes "etSystemUpdateIDResponse") refl refl
response-name name.GetServiceResetToken = small-name 71 (codes "etServiceResetTokenResponse") refl refl
response-name name.GetSearchCapabilities = small-name 71 (codes "etSearchCapabilitiesResponse") refl refl
response-name name.GetSortCapabilities = small-name 71 (codes "etSortCapabilitiesResponse") refl refl

text-name : (n : ActionName) (text : List ℕ) → Fits n (answer.Text text) → AName (text_result n)
text-name name.Browse text fit = absurd (no fit)
text-name name.Search text fit = absurd (no fit)
text-name name.GetSystemUpdateId text fit = absurd (no fit)
text-name name.GetServiceResetToken text fit = small-name 82 (codes "esetToken") refl refl
text-name name.GetSearchCapabilities text fit = small-name 83 (codes "earchCaps") refl refl
text-name name.GetSortCapabilities text fit = small-name 83 (codes "ortCaps") refl refl

control-allowed : AreAllowed control_space
unfolding control_space
control-allowed = allowed-printed control_space refl

fault-can : (code : ℕ) → code < 2 ^ 32 → CanBeDraft (fault_draft (decimal code) (description code))
fault-can code h = (
  record { name = behind-prefix 115 [] (codes "Fault") name-s (small-name 70 (codes "ault") refl refl); attrs = tt },
  (
    text-can (codes "faultcode") (codes "s:Client") (small-name 102 (codes "aultcode") refl refl) (allowed-printed (codes "s:Client") refl),
    (
      text-can (codes "faultstring") (codes "UPnPError") (small-name 102 (codes "aultstring") refl refl) (allowed-printed (codes "UPnPError") refl),
      (
        (
          record { name = without-prefix (codes "detail") (small-name 100 (codes "etail") refl refl); attrs = tt },
          (
            (
              record {
                name = without-prefix (codes "UPnPError") (small-name 85 (codes "PnPError") refl refl);
                attrs = (record { name = without-prefix (codes "xmlns") (small-name 120 (codes "mlns") refl refl); value = control-allowed }, tt);
              },
              (
                number-can (codes "errorCode") code (small-name 101 (codes "rrorCode") refl refl) h,
                (text-can (codes "errorDescription") (description code) (small-name 101 (codes "rrorDescription") refl refl) (description-allowed code), tt),
              ),
            ),
            tt,
          ),
        ),
        tt,
      ),
    ),
  ),
)

inside-can : (n : ActionName) (version : ℕ) (given : Answer) → IsVersion version → Fits n given → IsAllowedAnswer given → CanBeDraft (answer_draft n version given)
inside-can n version (answer.Page result returned total update) is fit (a, r, t, u) =
    service-can version (response_to n) (page_inside result returned total update) is (response-name n) (
      text-can (codes "Result") result (small-name 82 (codes "esult") refl refl) a,
      (
        number-can (codes "NumberReturned") returned (small-name 78 (codes "umberReturned") refl refl) r,
        (
          number-can (codes "TotalMatches") total (small-name 84 (codes "otalMatches") refl refl) t,
          (number-can (codes "UpdateID") update (small-name 85 (codes "pdateID") refl refl) u, tt),
        ),
      ),
    )
inside-can n version (answer.Number number) is fit h =
    service-can version (response_to n) (one_inside (codes "Id") (decimal number)) is (response-name n) (number-can (codes "Id") number (small-name 73 (codes "d") refl refl) h, tt)
inside-can n version (answer.Text text) is fit h =
    service-can version (response_to n) (one_inside (text_result n) text) is (response-name n) (text-can (text_result n) text (text-name n text fit) h, tt)
inside-can n version (answer.Fault code) is fit h = let low = code-known n code fit in fault-can code (omega (arith, low))

inside-deep : (n : ActionName) (version : ℕ) (given : Answer) → draft_depth (envelope_draft (answer_draft n version given)) ≤ most_open
inside-deep n version (answer.Page result returned total update) = omega arith
inside-deep n version (answer.Number number) = omega arith
inside-deep n version (answer.Text text) = omega arith
inside-deep n version (answer.Fault code) = omega arith

-- ---- so the body is a document

pub answer-document : (n : ActionName) (version : ℕ) (given : Answer) → IsVersion version → Fits n given → IsAllowedAnswer given → length (answer_body n version given) ≤ INPUT_LIMIT
    → Doc (answer_body n version given) (envelope_said (answer_said n version given))
answer-document n version given is fit allowed short =
    let draft = envelope_draft (answer_draft n version given) in
    let said = envelope_said (answer_said n version given) in
    let same : answer_body n version given ≡ version_declared ++ drafted draft =
    envelope-written (answer_inside n version given) (answer_draft n version given) (inside-written n version given is fit allowed) in
    let can : CanBeDrafted version_declared draft = record {
      can_be = envelope-can (answer_draft n version given) (inside-can n version given is fit allowed);
      within = inside-deep n version given;
      short = subst (λ (b : List ℕ). length b ≤ INPUT_LIMIT) same short;
    } in
    subst (λ (b : List ℕ). Doc b said) (sym same)
    (drafts-are-read.1 draft said can (envelope-says (answer_draft n version given) (answer_said n version given) (inside-says n version given is)))

-- ---- that holds the answer

page-read : (version : ℕ) (local result : List ℕ) (returned total update : ℕ) → returned < 2 ^ 32 → total < 2 ^ 32 → update < 2 ^ 32
    → page_given (service_said version local (page_meant result returned total update)) ≡ Some (answer.Page result returned total update)
unfolding page_given
page-read version local result returned total update r t u =
    let element = service_said version local (page_meant result returned total update) in
    let one : text_given (codes "Result") element ≡ Some result = ap Some (alone result) in
    let two = number-one (codes "NumberReturned") returned element r (ap Some (alone (decimal returned))) in
    let three = number-one (codes "TotalMatches") total element t (ap Some (alone (decimal total))) in
    let four = number-one (codes "UpdateID") update element u (ap Some (alone (decimal update))) in
    λ i. one i >>= (λ a. two i >>= (λ b. three i >>= (λ c. four i >>= (λ d. Some (answer.Page a b c d)))))

results-read : (n : ActionName) (version : ℕ) (given : Answer) → Fits n given → IsAllowedAnswer given → answer_status given ≡ 200 → results_given n (answer_said n version given) ≡ Some given
results-read name.Browse version (answer.Page result returned total update) fit (a, r, t, u) e = page-read version (response_to name.Browse) result returned total update r t u
results-read name.Search version (answer.Page result returned total update) fit (a, r, t, u) e = page-read version (response_to name.Search) result returned total update r t u
results-read name.GetSystemUpdateId version (answer.Number number) fit h e =
    let element = service_said version (response_to name.GetSystemUpdateId) (one_meant (codes "Id") (decimal number)) in
    ap (option_map answer.Number) (number-one (codes "Id") number element h (ap Some (alone (decimal number))))
results-read name.GetServiceResetToken version (answer.Text text) fit h e = ap (λ t. Some (answer.Text t)) (alone text)
results-read name.GetSearchCapabilities version (answer.Text text) fit h e = ap (λ t. Some (answer.Text t)) (alone text)
results-read name.GetSortCapabilities version (answer.Text text) fit h e = ap (λ t. Some (answer.Text t)) (alone text)
results-read name.Browse version (answer.Number number) fit h e = absurd (no fit)
results-read name.Browse version (answer.Text text) fit h e = absurd (no fit)
results-read name.Search version (answer.Number number) fit h e = absurd (no fit)
results-read name.Search version (answer.Text text) fit h e = absurd (no fit)
results-read name.GetSystemUpdateId version (answer.Page result returned total update) fit h e = absurd (no fit)
results-read name.GetSystemUpdateId version (answer.Text text) fit h e = absurd (no fit)
results-read name.GetServiceResetToken version (answer.Page result returned total update) fit h e = absurd (no fit)
results-read name.GetServiceResetToken version (answer.Number number) fit h e = absurd (no fit)
results-read name.GetSearchCapabilities version (answer.Page result returned total update) fit h e = absurd (no fit)
results-read name.GetSearchCapabilities version (answer.Number number) fit h e = absurd (no fit)
results-read name.GetSortCapabilities version (answer.Page result returned total update) fit h e = absurd (no fit)
results-read name.GetSortCapabilities version (answer.Number number) fit h e = absurd (no fit)
results-read n version (answer.Fault code) fit h e = absurd (omega (arith, e))

results-are : (n : ActionName) (version : ℕ) (given : Answer) (inside : Meanings) → IsVersion version → results_given n (service_said version (response_to n) inside) ≡ Some given
    → Results (envelope_said (service_said version (response_to n) inside)) n given
results-are n version given inside is e = record {
  version = version;
  spoken = is;
  response = service_said version (response_to n) inside;
  inside = envelope-holds (service_said version (response_to n) inside);
  named = true-both _ _ (same-bytes (service_type version) (service_type version) refl) (same-bytes (response_to n) (response_to n) refl);
  results = e;
}

code-read : (code : ℕ) (text : List ℕ) → code < 2 ^ 32 → code < 2 ^ 16 → code_in (fault_said (decimal code) text) ≡ Some code
unfolding code_in control_space
code-read code text wide low = ap (number_in (2 ^ 16)) (alone (decimal code)) ∙ decimal-read (2 ^ 16) code wide low

fault-is : (said : Meaning) (code text : List ℕ) → in_envelope said ≡ Some (fault_said code text) → option_and_then (where_of_envelope (codes "Fault")) (in_envelope said) ≡ Some (fault_said code text)
unfolding envelope_space
fault-is said code text e = ap (option_and_then (where_of_envelope (codes "Fault"))) e

pub answer-says : (n : ActionName) (version : ℕ) (given : Answer) → IsVersion version → Fits n given → IsAllowedAnswer given
    → Says (of_reply (answer_status given)) (envelope_said (answer_said n version given)) n given
answer-says n version (answer.Page result returned total update) is fit h =
    (refl, results-are n version (answer.Page result returned total update) (page_meant result returned total update) is (results-read n version (answer.Page result returned total update) fit h refl))
answer-says n version (answer.Number number) is fit h =
    (refl, results-are n version (answer.Number number) (one_meant (codes "Id") (decimal number)) is (results-read n version (answer.Number number) fit h refl))
answer-says n version (answer.Text text) is fit h =
    (refl, results-are n version (answer.Text text) (one_meant (text_result n) text) is (results-read n version (answer.Text text) fit h refl))
answer-says n version (answer.Fault code) is fit h =
    let low = code-known n code fit in
    let said = fault_said (decimal code) (description code) in (
      refl,
      record {
        fault = said;
        inside = fault-is (envelope_said said) (decimal code) (description code) (envelope-holds said);
        code_is = code-read code (description code) (omega (arith, low)) (omega (arith, low));
      },
    )

-- How long the bodies of requests and answers are at most.
use Rattle.std.proofs.Common.{◌≡◌, ◌==◌, ℕ, zero, suc, ◌+◌, ◌*◌, ◌≤◌, ◌<◌, ◌^◌, Bool, true, false, cond, List, [], ◌++◌, length, codes, refl, ap, ◌∙◌, arith, length-append}
use Rattle.std.specs.Fmt.{decimal, digits}
use Rattle.std.proofs.lemmas.Fmt.{length-decimal-le}
use Rattle.cds_base.specs.Escape.{escaped}
use Rattle.cds_base.proofs.Wide.{wide, wide-append}
use Rattle.cds_object.specs.Writing.{text_element, number_element}
use Rattle.cds_soap.specs.declared.action.ActionName.{ActionName}
use Rattle.cds_soap.specs.declared.action.ActionName.TheVariants as name
use Rattle.cds_soap.specs.declared.action.Action.{Action}
use Rattle.cds_soap.specs.declared.action.Action.TheVariants as action
use Rattle.cds_soap.specs.declared.answer.Answer.{Answer}
use Rattle.cds_soap.specs.declared.answer.Answer.TheVariants as answer
use Rattle.cds_soap.specs.Names.{name_of_action, named_as, response_to, IsVersion, service_front, service_type}
use Rattle.cds_soap.specs.Written.{envelope_start, envelope_end, enveloped, service_start, service_end, in_service, slice_text, browse_text, search_text, arguments_text, request_body, description, fault_front, fault_end, fault_text, text_result, answer_inside, answer_body, Fits}
use Rattle.cds_soap.specs.Laws.{IsAllowedAction, IsAllowedAnswer, action_texts, answer_texts, BodiesAreShort}
use Rattle.cds_soap.proofs.AnswerBodies.{code-known}
use Rattle.cds_soap.proofs.Visible.{within}

-- ---- elements

length-around : (name inside : List ℕ) → length (codes "<" ++ name ++ codes ">" ++ inside ++ codes "</" ++ name ++ codes ">") ≡ 2 * length name + length inside + 5
length-around name inside =
    let a = length-append (codes "<" ++ name ++ codes ">" ++ inside ++ codes "</" ++ name) (codes ">") in
    let b = length-append (codes "<" ++ name ++ codes ">" ++ inside ++ codes "</") name in
    let c = length-append (codes "<" ++ name ++ codes ">" ++ inside) (codes "</") in
    let d = length-append (codes "<" ++ name ++ codes ">") inside in
    let e = length-append (codes "<" ++ name) (codes ">") in
    let f = length-append (codes "<") name in
    let g : length (codes "<") ≡ 1 = refl in
    let h : length (codes ">") ≡ 1 = refl in
    let i : length (codes "</") ≡ 2 = refl in
    omega (arith, a, b, c, d, e, f, g, h, i)

length-text : (name text : List ℕ) → length (text_element name text) ≡ 2 * length name + wide text + 5
unfolding text_element
length-text name text = length-around name (escaped text)

short-number : (name : List ℕ) (n : ℕ) → n < 2 ^ 32 → length (number_element name n) ≤ 2 * length name + 15
unfolding number_element
short-number name n h =
    let all = length-around name (decimal n) in
    let ten = length-decimal-le 10 n (omega arith) (omega (arith, h)) (omega (arith, h)) in
    omega (arith, all, ten)

-- ---- envelopes

short-type : (version : ℕ) → IsVersion version → length (service_type version) ≤ 60
unfolding service_type service_front digits
short-type zero is = absurd (omega (arith, is.0))
short-type (suc zero) is = within (length (service_type 1)) 60 refl
short-type (suc (suc zero)) is = within (length (service_type 2)) 60 refl
short-type (suc (suc (suc zero))) is = within (length (service_type 3)) 60 refl
short-type (suc (suc (suc (suc zero)))) is = within (length (service_type 4)) 60 refl
short-type (suc (suc (suc (suc (suc n))))) is = absurd (omega (arith, is.1))

short-service : (version : ℕ) (local inside : List ℕ) → IsVersion version → length local ≤ 40 → length (in_service version local inside) ≤ length inside + 170
unfolding service_start service_end
short-service version local inside is few =
    let a = length-append (service_start version local ++ inside) (service_end local) in
    let b = length-append (service_start version local) inside in
    let c = length-append (codes "<u:" ++ local ++ codes " xmlns:u=\"" ++ service_type version) (codes "\">") in
    let d = length-append (codes "<u:" ++ local ++ codes " xmlns:u=\"") (service_type version) in
    let e = length-append (codes "<u:" ++ local) (codes " xmlns:u=\"") in
    let f = length-append (codes "<u:") local in
    let g = length-append (codes "</u:" ++ local) (codes ">") in
    let h = length-append (codes "</u:") local in
    let i : length (codes "<u:") ≡ 3 = refl in
    let j : length (codes " xmlns:u=\"") ≡ 10 = refl in
    let k : length (codes "\">") ≡ 2 = refl in
    let l : length (codes "</u:") ≡ 4 = refl in
    let m : length (codes ">") ≡ 1 = refl in
    let o = short-type version is in
    omega (arith, a, b, c, d, e, f, g, h, i, j, k, l, m, o, few)

short-envelope : (inside : List ℕ) → length (enveloped inside) ≤ length inside + 220
unfolding envelope_start envelope_end
short-envelope inside =
    let a = length-append (envelope_start ++ inside) envelope_end in
    let b = length-append envelope_start inside in
    let c = within (length envelope_start) 190 refl in
    let d = within (length envelope_end) 30 refl in
    omega (arith, a, b, c, d)

short-name : (n : ActionName) → length (named_as n) ≤ 30
short-name name.Browse = within 6 30 refl
short-name name.Search = within 6 30 refl
short-name name.GetSystemUpdateId = within 17 30 refl
short-name name.GetServiceResetToken = within 20 30 refl
short-name name.GetSearchCapabilities = within 21 30 refl
short-name name.GetSortCapabilities = within 19 30 refl

short-response : (n : ActionName) → length (response_to n) ≤ 40
short-response n =
    let a = length-append (named_as n) (codes "Response") in
    let b = short-name n in
    let c : length (codes "Response") ≡ 8 = refl in
    omega (arith, a, b, c)

-- ---- answers

-- a text that a test picks
short-pick : (b : Bool) (x y : List ℕ) → wide x ≤ 40 → wide y ≤ 40 → wide (cond b x y) ≤ 40
short-pick true x y h k = h
short-pick false x y h k = k

short-description : (code : ℕ) → wide (description code) ≤ 40
short-description code =
    short-pick (code == 401) (codes "Invalid Action") _ (within (wide (codes "Invalid Action")) 40 refl)
    (short-pick (code == 402) (codes "Invalid Args") _ (within (wide (codes "Invalid Args")) 40 refl)
    (short-pick (code == 603) (codes "Out of Memory") _ (within (wide (codes "Out of Memory")) 40 refl)
    (short-pick (code == 701) (codes "No such object") _ (within (wide (codes "No such object")) 40 refl)
    (short-pick (code == 708) (codes "Unsupported or invalid search criteria") _ (within (wide (codes "Unsupported or invalid search criteria")) 40 refl)
    (short-pick (code == 709) (codes "Unsupported or invalid sort criteria") _ (within (wide (codes "Unsupported or invalid sort criteria")) 40 refl)
    (short-pick (code == 710) (codes "No such container") [] (within (wide (codes "No such container")) 40 refl) (within 0 40 refl)))))))

short-text-result : (n : ActionName) → length (text_result n) ≤ 30
short-text-result name.Browse = within 0 30 refl
short-text-result name.Search = within 0 30 refl
short-text-result name.GetSystemUpdateId = within 0 30 refl
short-text-result name.GetServiceResetToken = within 10 30 refl
short-text-result name.GetSearchCapabilities = within 10 30 refl
short-text-result name.GetSortCapabilities = within 8 30 refl

short-fault : (code : ℕ) → code < 2 ^ 32 → length (fault_text code) ≤ 500
unfolding fault_text fault_front fault_end
short-fault code h =
    let number = number_element (codes "errorCode") code in
    let text = text_element (codes "errorDescription") (description code) in
    let a = length-append (fault_front ++ number ++ text) fault_end in
    let b = length-append (fault_front ++ number) text in
    let c = length-append fault_front number in
    let d = within (length fault_front) 200 refl in
    let e = within (length fault_end) 50 refl in
    let f = short-number (codes "errorCode") code h in
    let g = length-text (codes "errorDescription") (description code) in
    let i = short-description code in
    let j : length (codes "errorCode") ≡ 9 = refl in
    let k : length (codes "errorDescription") ≡ 16 = refl in
    omega (arith, a, b, c, d, e, f, g, i, j, k)

abbrev page_text : List ℕ → ℕ → ℕ → ℕ → List ℕ
page_text result returned total update =
    text_element (codes "Result") result ++ number_element (codes "NumberReturned") returned ++ number_element (codes "TotalMatches") total
    ++ number_element (codes "UpdateID") update

short-page : (result : List ℕ) (returned total update : ℕ) → returned < 2 ^ 32 → total < 2 ^ 32 → update < 2 ^ 32
    → length (page_text result returned total update) ≤ wide result + 200
short-page result returned total update r t u =
    let one = text_element (codes "Result") result in
    let two = number_element (codes "NumberReturned") returned in
    let three = number_element (codes "TotalMatches") total in
    let four = number_element (codes "UpdateID") update in
    let a = length-append (one ++ two ++ three) four in
    let b = length-append (one ++ two) three in
    let c = length-append one two in
    let d = length-text (codes "Result") result in
    let e = short-number (codes "NumberReturned") returned r in
    let f = short-number (codes "TotalMatches") total t in
    let g = short-number (codes "UpdateID") update u in
    let h : length (codes "Result") ≡ 6 = refl in
    let i : length (codes "NumberReturned") ≡ 14 = refl in
    let j : length (codes "TotalMatches") ≡ 12 = refl in
    let k : length (codes "UpdateID") ≡ 8 = refl in
    omega (arith, a, b, c, d, e, f, g, h, i, j, k)

short-inside : (n : ActionName) (version : ℕ) (given : Answer) → IsVersion version → Fits n given → IsAllowedAnswer given → length (answer_inside n version given) ≤ wide (answer_texts given) + 500
short-inside n version (answer.Page result returned total update) is fit (a, r, t, u) =
    let inside = short-page result returned total update r t u in
    let all = short-service version (response_to n) (page_text result returned total update) is (short-response n) in
    omega (arith, inside, all)
short-inside n version (answer.Number number) is fit h =
    let inside = short-number (codes "Id") number h in
    let id : length (codes "Id") ≡ 2 = refl in
    let all = short-service version (response_to n) (number_element (codes "Id") number) is (short-response n) in
    omega (arith, inside, id, all)
short-inside n version (answer.Text text) is fit h =
    let inside = length-text (text_result n) text in
    let few = short-text-result n in
    let all = short-service version (response_to n) (text_element (text_result n) text) is (short-response n) in
    omega (arith, inside, few, all)
short-inside n version (answer.Fault code) is fit h =
    let low = code-known n code fit in
    let all = short-fault code (omega (arith, low)) in
    omega (arith, all)

answer-short : (n : ActionName) (version : ℕ) (given : Answer) → IsVersion version → Fits n given → IsAllowedAnswer given → length (answer_body n version given) ≤ wide (answer_texts given) + 1024
answer-short n version given is fit allowed =
    let inside = short-inside n version given is fit allowed in
    let all = short-envelope (answer_inside n version given) in
    omega (arith, inside, all)

-- ---- requests

four-wide : (a b c d : List ℕ) → wide (a ++ b ++ c ++ d) ≡ wide a + wide b + wide c + wide d
four-wide a b c d =
    let p = wide-append (a ++ b ++ c) d in
    let q = wide-append (a ++ b) c in
    let r = wide-append a b in
    omega (arith, p, q, r)

short-given : (one two first second filter : List ℕ) (start count : ℕ) (sort : List ℕ) → length one ≤ 20 → length two ≤ 20 → start < 2 ^ 32 → count < 2 ^ 32
    → length ((text_element one first ++ text_element two second) ++ slice_text filter start count sort) ≤ wide (first ++ second ++ filter ++ sort) + 300
unfolding slice_text
short-given one two first second filter start count sort few some s n =
    let x = text_element one first in
    let y = text_element two second in
    let f = text_element (codes "Filter") filter in
    let b = number_element (codes "StartingIndex") start in
    let c = number_element (codes "RequestedCount") count in
    let o = text_element (codes "SortCriteria") sort in
    let p1 = length-append (x ++ y) (f ++ b ++ c ++ o) in
    let p2 = length-append x y in
    let p3 = length-append (f ++ b ++ c) o in
    let p4 = length-append (f ++ b) c in
    let p5 = length-append f b in
    let q1 = length-text one first in
    let q2 = length-text two second in
    let q3 = length-text (codes "Filter") filter in
    let q4 = short-number (codes "StartingIndex") start s in
    let q5 = short-number (codes "RequestedCount") count n in
    let q6 = length-text (codes "SortCriteria") sort in
    let r1 : length (codes "Filter") ≡ 6 = refl in
    let r2 : length (codes "StartingIndex") ≡ 13 = refl in
    let r3 : length (codes "RequestedCount") ≡ 14 = refl in
    let r4 : length (codes "SortCriteria") ≡ 12 = refl in
    let all = four-wide first second filter sort in
    omega (arith, p1, p2, p3, p4, p5, q1, q2, q3, q4, q5, q6, r1, r2, r3, r4, all, few, some)

short-arguments : (asked : Action) → IsAllowedAction asked → length (arguments_text asked) ≤ wide (action_texts asked) + 300
unfolding browse_text search_text
short-arguments (action.Browse r) is =
    short-given (codes "ObjectID") (codes "BrowseFlag") r.object r.flag r.filter r.start r.count r.sort (within 8 20 refl) (within 10 20 refl) is.start is.count
short-arguments (action.Search r) is =
    short-given (codes "ContainerID") (codes "SearchCriteria") r.container r.criteria r.filter r.start r.count r.sort (within 11 20 refl) (within 14 20 refl) is.start is.count
short-arguments action.GetSystemUpdateId is = within 0 300 refl
short-arguments action.GetServiceResetToken is = within 0 300 refl
short-arguments action.GetSearchCapabilities is = within 0 300 refl
short-arguments action.GetSortCapabilities is = within 0 300 refl

request-short : (version : ℕ) (asked : Action) → IsVersion version → IsAllowedAction asked → length (request_body version asked) ≤ wide (action_texts asked) + 1024
request-short version asked is allowed =
    let n = name_of_action asked in
    let few = short-name n in
    let inside = short-arguments asked allowed in
    let element = short-service version (named_as n) (arguments_text asked) is (omega (arith, few)) in
    let all = short-envelope (in_service version (named_as n) (arguments_text asked)) in
    omega (arith, inside, element, all)

pub bodies-are-short : BodiesAreShort
bodies-are-short = record { request = request-short; answer = λ asked. answer-short (name_of_action asked) }

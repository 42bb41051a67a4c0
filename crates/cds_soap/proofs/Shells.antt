-- The body of an answer is what stands round its page, with the page escaped between.
use Rattle.std.proofs.Common.{◌≡◌, ℕ, Option, Result, Ok, Err, OnOk, List, [], ◌++◌, length, codes, refl, sym, ap, ◌∙◌, append_assoc}
use Rattle.cds_base.specs.Escape.{escaped}
use Rattle.cds_object.specs.Writing.{text_element, number_element}
use Rattle.cds_soap.specs.declared.action.ActionName.{ActionName}
use Rattle.cds_soap.specs.declared.answer.Answer.{Answer}
use Rattle.cds_soap.specs.declared.answer.Answer.TheVariants as answer
use Rattle.cds_base.specs.declared.mem.Mem.{Mem}
use Rattle.cds_http.specs.declared.fields.Field.{Field}
use Rattle.cds_http.specs.Written.{reply_text}
use Rattle.cds_soap.specs.declared.action.Action.{Action}
use Rattle.cds_soap.specs.Names.{name_of_action, response_to}
use Rattle.cds_soap.specs.Written.{envelope_start, envelope_end, service_start, service_end, answer_body, answer_status, answer_fields, written_answer}
use Rattle.cds_soap.specs.Shell.{page_of, page_front, page_back, in_response, front_of, back_of}

cut : (a x b c d : List ℕ) → (((a ++ x) ++ b) ++ c) ++ d ≡ a ++ (x ++ ((b ++ c) ++ d))
cut a x b c d = simp append_assoc

result-cut : (text : List ℕ) → text_element (codes "Result") text ≡ codes "<Result>" ++ (escaped text ++ codes "</Result>")
unfolding text_element
result-cut text = cut (codes "<Result>") (escaped text) (codes "</") (codes "Result") (codes ">")

page-joined : (es ss a r b n t u se ee : List ℕ) →
    (es ++ (ss ++ a)) ++ (r ++ (((((b ++ n) ++ t) ++ u) ++ se) ++ ee)) ≡ (es ++ ((ss ++ ((((a ++ (r ++ b)) ++ n) ++ t) ++ u)) ++ se)) ++ ee
page-joined es ss a r b n t u se ee = simp append_assoc

pub shell-body : (n : ActionName) (version : ℕ) (given : Answer) → front_of n version given ++ (escaped (page_of given) ++ back_of n given) ≡ answer_body n version given
unfolding page_front page_back in_response
shell-body n version (answer.Page result returned total update) =
    let ss = service_start version (response_to n) in
    let se = service_end (response_to n) in
    let r = number_element (codes "NumberReturned") returned in
    let t = number_element (codes "TotalMatches") total in
    let u = number_element (codes "UpdateID") update in
    page-joined envelope_start ss (codes "<Result>") (escaped result) (codes "</Result>") r t u se envelope_end
    ∙ ap (λ x. (envelope_start ++ ((ss ++ (((x ++ r) ++ t) ++ u)) ++ se)) ++ envelope_end) (sym (result-cut result))
shell-body n version (answer.Number number) = refl
shell-body n version (answer.Text text) = refl
shell-body n version (answer.Fault code) = refl

-- a reply is its head and its body
join-body : (n : ActionName) (version : ℕ) (given : Answer) (front page back : List ℕ) → front ≡ front_of n version given → page ≡ page_of given → back ≡ back_of n given
    → front ++ (escaped page ++ back) ≡ answer_body n version given
join-body n version given front page back f p b =
    ap (λ x. x ++ (escaped page ++ back)) f ∙ ap (λ x. front_of n version given ++ (escaped x ++ back)) p
    ∙ ap (λ x. front_of n version given ++ (escaped (page_of given) ++ x)) b ∙ shell-body n version given

join-head : (n : ActionName) (version : ℕ) (given : Answer) (token : Option (List ℕ)) (empty head inside : List ℕ) (fields : List Field) (status count : ℕ)
    → head ≡ empty ++ reply_text status fields count → empty ≡ [] → status ≡ answer_status given → fields ≡ answer_fields token → count ≡ length inside
    → inside ≡ answer_body n version given → head ≡ reply_text (answer_status given) (answer_fields token) (length (answer_body n version given))
join-head n version given token empty head inside fields status count h e s f c b =
    h ∙ ap (λ x. x ++ reply_text status fields count) e ∙ ap (λ x. reply_text x fields count) s ∙ ap (λ x. reply_text (answer_status given) x count) f
    ∙ ap (reply_text (answer_status given) (answer_fields token)) (c ∙ ap length b)

pub answer-joined : (action : Action) (version : ℕ) (given : Answer) (token : Option (List ℕ)) (old new empty head front front_again page back back_again : List ℕ) (fields : List Field) (status count : ℕ) (r : Result (Unit {0}) Mem)
    → OnOk r (new ≡ old ++ (head ++ (front ++ (escaped page ++ back)))) → head ≡ empty ++ reply_text status fields count → empty ≡ [] → status ≡ answer_status given → fields ≡ answer_fields token
    → front ≡ front_of (name_of_action action) version given → front_again ≡ front_of (name_of_action action) version given → page ≡ page_of given
    → back ≡ back_of (name_of_action action) given → back_again ≡ back_of (name_of_action action) given → count ≡ length (front_again ++ (escaped page ++ back_again))
    → OnOk r (new ≡ old ++ written_answer action version given token)
answer-joined action version given token old new empty head front front_again page back back_again fields status count (Ok x) is h e s f fr fra p b ba c =
    let n = name_of_action action in
    let inside = join-body n version given front page back fr p b in
    let again = join-body n version given front_again page back_again fra p ba in
    let front_of_reply = join-head n version given token empty head (front_again ++ (escaped page ++ back_again)) fields status count h e s f c again in
    is ∙ ap (λ x. old ++ (x ++ (front ++ (escaped page ++ back)))) front_of_reply
    ∙ ap (λ x. old ++ (reply_text (answer_status given) (answer_fields token) (length (answer_body n version given)) ++ x)) inside
answer-joined action version given token old new empty head front front_again page back back_again fields status count (Err x) is h e s f fr fra p b ba c = tt

-- The body of an answer around its page.
use Rattle.std.specs.Prelude.{ℕ, List, [], ◌++◌, codes}
use Rattle.cds_object.specs.Writing.{text_element, number_element}
use Rattle.cds_soap.specs.declared.action.ActionName.{ActionName}
use Rattle.cds_soap.specs.declared.answer.Answer.{Answer}
use Rattle.cds_soap.specs.declared.answer.Answer.TheVariants as answer
use Rattle.cds_soap.specs.Names.{response_to}
use Rattle.cds_soap.specs.Written.{envelope_start, envelope_end, service_start, service_end, fault_text, text_result}

-- The page of an answer, or nothing if it has none.
abbrev pub page_of : Answer → List ℕ
page_of (answer.Page result returned total update) = result
page_of other = []

-- What stands before the page, and after it.
unfoldable pub page_front : ActionName → ℕ → List ℕ
page_front action_name version = service_start version (response_to action_name) ++ codes "<Result>"

unfoldable pub page_back : ActionName → ℕ → ℕ → ℕ → List ℕ
page_back action_name returned total update =
    codes "</Result>" ++ number_element (codes "NumberReturned") returned ++ number_element (codes "TotalMatches") total
    ++ number_element (codes "UpdateID") update ++ service_end (response_to action_name)

unfoldable pub in_response : ActionName → ℕ → List ℕ → List ℕ
in_response action_name version inside = service_start version (response_to action_name) ++ inside ++ service_end (response_to action_name)

abbrev pub front_inside : ActionName → ℕ → Answer → List ℕ
front_inside action_name version (answer.Page result returned total update) = page_front action_name version
front_inside action_name version (answer.Number number) = in_response action_name version (number_element (codes "Id") number)
front_inside action_name version (answer.Text text) = in_response action_name version (text_element (text_result action_name) text)
front_inside action_name version (answer.Fault code) = fault_text code

abbrev pub back_inside : ActionName → Answer → List ℕ
back_inside action_name (answer.Page result returned total update) = page_back action_name returned total update
back_inside action_name other = []

abbrev pub front_of : ActionName → ℕ → Answer → List ℕ
front_of action_name version given = envelope_start ++ front_inside action_name version given

abbrev pub back_of : ActionName → Answer → List ℕ
back_of action_name given = back_inside action_name given ++ envelope_end

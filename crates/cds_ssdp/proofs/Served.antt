-- What is described is what is served.
use Rattle.std.proofs.Common.{◌≡◌, ℕ, true, refl}
use Rattle.cds_soap.specs.declared.action.ActionName.{ActionName}
use Rattle.cds_soap.specs.declared.action.ActionName.TheVariants as name
use Rattle.cds_soap.specs.declared.answer.Answer.{Answer}
use Rattle.cds_soap.specs.declared.answer.Answer.TheVariants as answer
use Rattle.cds_soap.specs.Names.{response_to, service_front}
use Rattle.cds_soap.specs.Names.{service_type as service_in_control}
use Rattle.cds_soap.specs.Written.{answer_inside, in_service}
use Rattle.cds_ssdp.specs.Service.{IsDescribed, is_result, results_of, results_text}
use Rattle.cds_ssdp.specs.Targets.{service_type}

by-type : (version : ℕ) → service_type version ≡ service_in_control version
unfolding service_type service_in_control service_front
by-type version = refl

by-name : (action : ActionName) (version : ℕ) (given : Answer) → is_result action given ≡ true
    → answer_inside action version given ≡ in_service version (response_to action) (results_text (results_of action) given)
by-name name.Browse version (answer.Page result returned total update) fits = refl
by-name name.Browse version (answer.Number number) fits = cc
by-name name.Browse version (answer.Text text) fits = cc
by-name name.Browse version (answer.Fault code) fits = cc
by-name name.Search version (answer.Page result returned total update) fits = refl
by-name name.Search version (answer.Number number) fits = cc
by-name name.Search version (answer.Text text) fits = cc
by-name name.Search version (answer.Fault code) fits = cc
by-name name.GetSystemUpdateId version (answer.Number number) fits = refl
by-name name.GetSystemUpdateId version (answer.Page result returned total update) fits = cc
by-name name.GetSystemUpdateId version (answer.Text text) fits = cc
by-name name.GetSystemUpdateId version (answer.Fault code) fits = cc
by-name name.GetServiceResetToken version (answer.Text text) fits = refl
by-name name.GetServiceResetToken version (answer.Page result returned total update) fits = cc
by-name name.GetServiceResetToken version (answer.Number number) fits = cc
by-name name.GetServiceResetToken version (answer.Fault code) fits = cc
by-name name.GetSearchCapabilities version (answer.Text text) fits = refl
by-name name.GetSearchCapabilities version (answer.Page result returned total update) fits = cc
by-name name.GetSearchCapabilities version (answer.Number number) fits = cc
by-name name.GetSearchCapabilities version (answer.Fault code) fits = cc
by-name name.GetSortCapabilities version (answer.Text text) fits = refl
by-name name.GetSortCapabilities version (answer.Page result returned total update) fits = cc
by-name name.GetSortCapabilities version (answer.Number number) fits = cc
by-name name.GetSortCapabilities version (answer.Fault code) fits = cc

pub is-described : IsDescribed
is-described = record { actions = refl; same_type = by-type; results = by-name }

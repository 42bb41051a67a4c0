-- What a call promises where it did not refuse.
use Rattle.std.proofs.Common.{◌≡◌, false, Result, Ok, Err, OnOk}
use Rattle.std.specs.Result.{is_err}

pub where_ok : {A E : Type 0} (r : Result A E) (P : Type 0) → false ≡ is_err r → OnOk r P → P
where_ok (Ok a) P is h = h
where_ok (Err e) P is h = cc

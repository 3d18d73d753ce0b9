-- A code for notices, by which proofs tell them apart.
use Rattle.std.specs.Prelude.{◌≡◌, ◌⊎◌, refl, ℕ, Bool, true, false, List, Option}
use Rattle.std.proofs.Common.{inl, inr}
use Rattle.std.specs.Coded.{Coded, code_by, coded×, coded⊎, coded_ℕ, coded_bool, coded_list, coded_option}
use Rattle.setl_value.specs.code.DatumCode.{coded_datum}
use Rattle.setl_value.specs.Datum.{Datum}
use Rattle.setl_watch.specs.Notices.{Notice, Called, Returned, Stored, Printed, Kept, Back, Forgot}

abbrev Cases : Type 0
Cases = ((ℕ × List ℕ) ⊎ List ℕ) ⊎ ((ℕ × (List ℕ × Option Datum)) ⊎ (List ℕ ⊎ (Bool ⊎ Bool)))

abbrev cases : Notice → Cases
cases (Called line name) = inl (inl (line, name))
cases (Returned name) = inl (inr name)
cases (Stored line name v) = inr (inl (line, (name, v)))
cases (Printed bytes) = inr (inr (inl bytes))
cases Kept = inr (inr (inr (inl true)))
cases Back = inr (inr (inr (inl false)))
cases Forgot = inr (inr (inr (inr true)))

abbrev notice : Cases → Notice
notice (inl (inl c)) = Called c.0 c.1
notice (inl (inr name)) = Returned name
notice (inr (inl c)) = Stored c.0 c.1.0 c.1.1
notice (inr (inr (inl bytes))) = Printed bytes
notice (inr (inr (inr (inl true)))) = Kept
notice (inr (inr (inr (inl false)))) = Back
notice (inr (inr (inr (inr b)))) = Forgot

pub notice_cases : (n : Notice) → notice (cases n) ≡ n
notice_cases (Called line name) = refl
notice_cases (Returned name) = refl
notice_cases (Stored line name v) = refl
notice_cases (Printed bytes) = refl
notice_cases Kept = refl
notice_cases Back = refl
notice_cases Forgot = refl

abbrev pub notice_code : Coded Notice
notice_code =
    code_by
    Cases
    (coded⊎ (coded⊎ (coded× coded_ℕ (coded_list coded_ℕ)) (coded_list coded_ℕ))
    (coded⊎ (coded× coded_ℕ (coded× (coded_list coded_ℕ) (coded_option coded_datum))) (coded⊎ (coded_list coded_ℕ) (coded⊎ coded_bool coded_bool))))
    cases
    notice
    notice_cases
